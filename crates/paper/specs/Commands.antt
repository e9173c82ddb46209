-- What a transaction makes of the record.
use Rattle.types.specs.declared.Command.{Command}
use Rattle.types.specs.declared.Operation.{Operation}
use Rattle.std.specs.Prelude.{ℕ, ◌+◌, List, true, false, cond, get_or, eqb, None, Option, Some}
use Rattle.types.specs.declared.Phase.{Phase}
use Rattle.types.specs.declared.Phase.TheVariants.{Idle}
use Rattle.types.specs.declared.Effect.{Effect}
use Rattle.types.specs.declared.Effect.TheVariants.{Looks, Enables, Disables, Programs, Erases, Writes, Suspends, Resumes, Sleeps, Wakes, Arms, Resets, SetsLive, ClearsErrors, SetsBank, SetsFar}
use Rattle.types.specs.declared.Part.{Part}
use Rattle.types.specs.declared.Record.{Record}
use Rattle.types.specs.declared.Addressing.{Addressing}
use Rattle.types.specs.declared.Columns.{Columns}
use Rattle.types.specs.declared.Data.{Data}
use Rattle.types.specs.declared.Data.TheVariants.{Kept, Sent, Zero}
use Rattle.types.specs.declared.Change.{Change}
use Rattle.types.specs.declared.Change.TheVariants.{Same, Marked, Live, Anew, Runs, Halts, GoesOn, Clears}
use Rattle.paper.specs.Phases.{running_in, working_on, suspended_in, resumed_in}
use Rattle.paper.specs.Records.{settled, fresh_part, marked, resting, with_live, with_bank}
use Rattle.paper.specs.Program.{data_sent, page_data, no_data, program_of}
use Rattle.paper.specs.Erase.{erase_of}
use Rattle.paper.specs.Registers.{write_of, E_ERR, P_ERR, PROT_E, live_set, live_cleared, live_failed, bank_set, bank_turned}
use Rattle.paper.specs.Table.{columns, addressing_on}

-- what becomes of page data g in a call with the input i
abbrev pub page_after : Data → List ℕ → List ℕ → List ℕ
page_after Kept i g = g
page_after (Sent a) i g = page_data (data_sent a i)
page_after Zero i g = no_data

-- what a change makes of a part
abbrev pub part_after : Change → Part → Part
part_after Same p = p
part_after (Marked armed) p = marked p armed
part_after (Live v) p = with_live (marked p false) v
part_after (Anew q) p = q
part_after (Runs q d w) p = q
part_after (Halts q) p = q
part_after (GoesOn q) p = q
part_after (Clears q) p = q

-- what it makes of the phase
abbrev pub phase_after : Change → Phase → Phase
phase_after Same f = f
phase_after (Marked armed) f = f
phase_after (Live v) f = f
phase_after (Anew q) f = f
phase_after (Runs q d w) f = running_in f w
phase_after (Halts q) f = suspended_in f
phase_after (GoesOn q) f = resumed_in f
phase_after (Clears q) f = Idle

-- what becomes of page data by it
abbrev pub data_after : Change → Data
data_after Same = Kept
data_after (Marked armed) = Kept
data_after (Live v) = Kept
data_after (Anew q) = Kept
data_after (Runs q d w) = d
data_after (Halts q) = Kept
data_after (GoesOn q) = Kept
data_after (Clears q) = Zero

-- the record after a change by a call with the input i; no change has another identity
abbrev pub changed : Change → List ℕ → Record → Record
changed c i p =
    record { part = part_after c p.part; phase = phase_after c p.phase; identity = p.identity; page = page_after (data_after c) i p.page }

-- what a command begins on a part of n blocks, with the input i, in which its address is sent as g says
abbrev pub begins : Effect → Addressing → ℕ → List ℕ → Option Operation
begins Looks g n i = None
begins Enables g n i = None
begins Disables g n i = None
begins (Programs m) g n i = Some (program_of m g n i)
begins (Erases u) g n i = Some (erase_of u g n i)
begins (Writes r) g n i = Some (write_of r i)
begins Suspends g n i = None
begins Resumes g n i = None
begins Sleeps g n i = None
begins Wakes g n i = None
begins Arms g n i = None
begins Resets g n i = None
begins SetsLive g n i = None
begins ClearsErrors g n i = None
begins SetsBank g n i = None
begins (SetsFar far) g n i = None

-- so a command with these columns on a part
abbrev pub begun : Columns → Part → List ℕ → Option Operation
begun k p i = begins k.effect (addressing_on k p) p.blocks i

-- every transaction but an executed 66h leaves the part unarmed
abbrev pub unarmed : Part → Part
unarmed p = marked p false

-- the part busy with the operation that a command begins, which has no tick done; WEL stays 1
abbrev pub starts : Option Operation → Part → Phase → Data → Change
starts None p f d = Marked false
starts (Some o) p f d = Runs (unarmed (settled p (working_on f o) true)) d (Some o)

-- what an executed command changes, of a part in a phase, where it begins w, with the input i, in which its address is sent as g says
abbrev pub change_by : Effect → Addressing → Option Operation → Part → Phase → List ℕ → Change
change_by Looks g w p f i = Marked false
change_by Enables g w p f i = Anew (unarmed (settled p f true))
change_by Disables g w p f i = Anew (unarmed (settled p f false))
change_by (Programs m) g w p f i = starts w p f (Sent g)
change_by (Erases u) g w p f i = starts w p f Kept
change_by (Writes r) g w p f i = starts w p f Kept
-- WIP and WEL become 0, PSUS or ESUS 1
change_by Suspends g w p f i = Halts (unarmed (settled p (suspended_in f) false))
-- resume goes on with the next tick and sets WEL to 1
change_by Resumes g w p f i = GoesOn (unarmed (settled p (resumed_in f) true))
change_by Sleeps g w p f i = Anew (unarmed (resting p true))
change_by Wakes g w p f i = Anew (unarmed (resting p false))
change_by Arms g w p f i = Marked true
-- both operations dropped, WEL 0, awake, unarmed, the live byte loaded, the bank register 00h, the identity as it was: what power-up gives for the same size, identity and stored register bits
change_by Resets g w p f i = Clears (fresh_part p.blocks p.stored)
-- 83h and 82h act at once, and leave WEL
change_by SetsLive g w p f i = Live (live_set (get_or i 1 0) p.live)
change_by ClearsErrors g w p f i = Live (live_cleared p.live)
-- and so do the writes of the bank register
change_by SetsBank g w p f i = Anew (unarmed (with_bank p (bank_set (get_or i 1 0))))
change_by (SetsFar far) g w p f i = Anew (unarmed (with_bank p (bank_turned far p.bank)))

-- the error bits that a command sets when it answers 28: an erase E_ERR and PROT_E, a program P_ERR and PROT_E, nothing else any
abbrev pub errors_of : Effect → ℕ
errors_of Looks = 0
errors_of Enables = 0
errors_of Disables = 0
errors_of (Programs m) = P_ERR + PROT_E
errors_of (Erases u) = E_ERR + PROT_E
errors_of (Writes r) = 0
errors_of Suspends = 0
errors_of Resumes = 0
errors_of Sleeps = 0
errors_of Wakes = 0
errors_of Arms = 0
errors_of Resets = 0
errors_of SetsLive = 0
errors_of ClearsErrors = 0
errors_of SetsBank = 0
errors_of (SetsFar far) = 0

-- what a command changes that answers 28: the armed mark is cleared, and the error bits are set that it sets
abbrev pub change_barred : Effect → Part → Change
change_barred e p = Live (live_failed (errors_of e) p.live)

-- what a transaction changes that the part ignored: with 28 as said of the command, with any other number the armed mark alone, which is cleared
abbrev pub change_ignored : Option Command → ℕ → Part → Change
change_ignored (Some k) number p = cond (eqb number 28) (change_barred (columns k).effect p) (Marked false)
change_ignored None number p = Marked false
