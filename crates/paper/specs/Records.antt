-- The record: WIP, WEL, ESUS and PSUS, and how records are made.
use Rattle.std.specs.Prelude.{ℕ, ◌+◌, ◌*◌, Bool, false}
use Rattle.types.specs.declared.Phase.{Phase}
use Rattle.types.specs.declared.Phase.TheVariants.{Idle}
use Rattle.types.specs.declared.Identity.{Identity}
use Rattle.types.specs.declared.Stored.{Stored}
use Rattle.types.specs.declared.Part.{Part}
use Rattle.types.specs.declared.Record.{Record}
use Rattle.words.specs.Logic.{bit}
use Rattle.paper.specs.Program.{no_data}
use Rattle.paper.specs.Registers.{with_bytes, stored_bits, live_loaded, bank_loaded}
use Rattle.paper.specs.Phases.{halted, work_is, is_program, erase_halted, is_busy}

-- WIP is 1 exactly while busy
abbrev pub wip : Phase → ℕ
wip f = bit (is_busy f)

-- ESUS while an erase is suspended, also while a program runs within it; PSUS while a program is
abbrev pub esus : Phase → ℕ
esus f = bit (erase_halted f)

abbrev pub psus : Phase → ℕ
psus f = bit (work_is is_program (halted f))

-- WEL and WIP, bits 1 and 0 of status, which other fields define
abbrev pub status_low : Phase → Bool → ℕ
status_low f wel = 2 * bit wel + wip f

-- ESUS and PSUS, bits 3 and 2 of function, which other fields define
abbrev pub function_low : Phase → ℕ
function_low f = 8 * esus f + 4 * psus f

-- the registers in a phase and with a latch: WIP, WEL, ESUS and PSUS go by these, all other bits are the stored ones
abbrev pub registers_in : Phase → Bool → Stored → Stored
registers_in f wel s =
    with_bytes ((stored_bits s).status + status_low f wel) ((stored_bits s).function + function_low f) (stored_bits s)

-- the part made for a phase, of registers s and a latch: WEL is the latch, and the registers are s in that phase and with that latch. Size, marks, live byte and bank register stay
abbrev pub made : Part → Stored → Phase → Bool → Part
made p s f wel =
    record { blocks = p.blocks; stored = registers_in f wel s; wel = wel; armed = p.armed; asleep = p.asleep; live = p.live; bank = p.bank }

-- the part made for another phase and another latch, of its own registers: WEL changes, and the bits WIP, WEL, ESUS and PSUS
abbrev pub settled : Part → Phase → Bool → Part
settled p f wel = made p p.stored f wel

-- the part made anew for an idle phase: of n blocks, with the stored bits of s, WEL 0, unarmed, awake, the live byte loaded, the bank register 00h
abbrev pub fresh_part : ℕ → Stored → Part
fresh_part n s =
    record { blocks = n; stored = registers_in Idle false s; wel = false; armed = false; asleep = false; live = live_loaded s; bank = bank_loaded }

-- the record of such a part with an identity: idle, page data zero
abbrev pub fresh : ℕ → Identity → Stored → Record
fresh n id s = record { part = fresh_part n s; phase = Idle; identity = id; page = no_data }

-- the part with another armed mark; all else stays
abbrev pub marked : Part → Bool → Part
marked p armed =
    record { blocks = p.blocks; stored = p.stored; wel = p.wel; armed = armed; asleep = p.asleep; live = p.live; bank = p.bank }

-- the part with another asleep mark; all else stays
abbrev pub resting : Part → Bool → Part
resting p asleep =
    record { blocks = p.blocks; stored = p.stored; wel = p.wel; armed = p.armed; asleep = asleep; live = p.live; bank = p.bank }

-- the part with another live byte; all else stays
abbrev pub with_live : Part → ℕ → Part
with_live p live =
    record { blocks = p.blocks; stored = p.stored; wel = p.wel; armed = p.armed; asleep = p.asleep; live = live; bank = p.bank }

-- the part with another bank register; all else stays
abbrev pub with_bank : Part → ℕ → Part
with_bank p bank =
    record { blocks = p.blocks; stored = p.stored; wel = p.wel; armed = p.armed; asleep = p.asleep; live = p.live; bank = bank }
