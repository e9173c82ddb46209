-- A record is sound when.
use Rattle.std.specs.Prelude.{ℕ, List, Bool, true, not, drop, eqb, ltb, leb}
use Rattle.types.specs.declared.Operation.{Operation}
use Rattle.types.specs.declared.Operation.TheVariants.{Program, Erase, Write}
use Rattle.types.specs.declared.Phase.{Phase}
use Rattle.types.specs.declared.Phase.TheVariants.{Idle, Busy, Suspended, Nested}
use Rattle.types.specs.declared.Stored.{Stored}
use Rattle.types.specs.declared.Part.{Part}
use Rattle.types.specs.declared.Record.{Record}
use Rattle.words.specs.Logic.{◌and◌, ◌or◌, bit}
use Rattle.words.specs.Lists.{all_zero}
use Rattle.paper.specs.Sizes.{is_large, size_ok, page_bytes}
use Rattle.paper.specs.Phases.{is_program, is_erase, is_idle}
use Rattle.paper.specs.Records.{wip, esus, psus}
use Rattle.paper.specs.Registers.{bit_at, bits_at, WEL, WIP, ESUS, PSUS, TBS, held_byte}
use Rattle.paper.specs.Operations.{ticks_in_all, ticks_done, aligned, inside, target_free, can_suspend, outside, kept_by}

-- asleep only if idle
abbrev pub sleep_ok : Phase → Bool → Bool
sleep_ok f asleep = is_idle f or not asleep

-- WEL is 1 while busy, 0 or 1 while an erase is suspended, 0 while a program is
abbrev pub latch_ok : Phase → Bool → Bool
latch_ok Idle wel = true
latch_ok (Busy o) wel = wel
latch_ok (Suspended o) wel = is_erase o or not wel
latch_ok (Nested o e) wel = wel

-- kept data counts 1 to 256, its start in the page below 256; a write holds its byte with the bits zero that it does not store
abbrev pub content_ok : Operation → Bool
content_ok (Program m s b k d) = leb 1 k and leb k page_bytes and ltb s page_bytes
content_ok (Erase u b d) = true
content_ok (Write r v) = eqb (held_byte r v) v

-- the operation's target is aligned, inside the part and unprotected or unlocked under the record's registers; CER only with a BP code of 0; ticks done are fewer than its ticks in all
unfoldable pub operation_ok : Operation → ℕ → Stored → Bool
operation_ok o n s =
    aligned o n
    and inside o n
    and target_free o n s
    and ltb (ticks_done o) (ticks_in_all o n)
    and content_ok o

-- within a suspended SER, BER32 or BER64 PP alone runs, and its page lies outside the suspended unit
abbrev pub nest_ok : Operation → Operation → ℕ → Bool
nest_ok e o n = is_erase e and can_suspend e and is_program o and can_suspend o and outside e n o

-- so the operation that a part is busy with or suspended from, or both; only PP, SER, BER32 or BER64 is suspended
abbrev pub phase_ok : Phase → ℕ → Stored → Bool
phase_ok Idle n s = true
phase_ok (Busy o) n s = operation_ok o n s
phase_ok (Suspended o) n s = can_suspend o and operation_ok o n s
phase_ok (Nested o e) n s = nest_ok e o n and operation_ok e n s and operation_ok o n s

-- stored register bits that other fields define (WIP, WEL, ESUS, PSUS) agree with them; function bit 0 is 0, and so are bits 4..0 of the extended read register's stored byte
unfoldable pub bits_ok : Phase → Bool → Stored → Bool
bits_ok f wel s =
    eqb (WIP s.status) (wip f)
    and eqb (WEL s.status) (bit wel)
    and eqb (ESUS s.function) (esus f)
    and eqb (PSUS s.function) (psus f)
    and eqb (bit_at 0 s.function) 0
    and eqb (bits_at 4 0 s.extended) 0

-- function bit 1, TBS, is 0 but on the large part; bits 6..1 of the bank register are 0, and the whole of it is but on the large part
unfoldable pub large_ok : ℕ → ℕ → ℕ → Bool
large_ok n function bank =
    (is_large n or eqb (TBS function) 0)
    and eqb (bits_at 6 1 bank) 0
    and (is_large n or eqb bank 0)

-- how many bytes of page data a phase keeps; within a suspended erase they belong to the inner program
abbrev pub kept_in : Phase → ℕ
kept_in Idle = 0
kept_in (Busy o) = kept_by o
kept_in (Suspended o) = kept_by o
kept_in (Nested o e) = kept_by o

-- page data holds zeros after the kept bytes of a running or suspended program, and is all zero otherwise
unfoldable pub page_ok : Phase → List ℕ → Bool
page_ok f d = all_zero (drop (kept_in f) d)

-- a part in a phase
unfoldable pub part_sound : Part → Phase → Bool
part_sound p f =
    size_ok p.blocks
    and sleep_ok f p.asleep
    and latch_ok f p.wel
    and phase_ok f p.blocks p.stored
    and bits_ok f p.wel p.stored
    and large_ok p.blocks p.stored.function p.bank

-- a part in a phase with page data
unfoldable pub sound_of : Part → Phase → List ℕ → Bool
sound_of p f g = part_sound p f and page_ok f g

-- the record. Its identity may be any
abbrev pub sound : Record → Bool
sound p = sound_of p.part p.phase p.page
