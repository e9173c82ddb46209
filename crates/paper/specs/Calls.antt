-- What power-up, a transaction and a tick call answer, and what they leave in each lent byte, refusals too.
use Rattle.types.specs.declared.Command.{Command}
use Rattle.std.specs.Prelude.{ℕ, List, Bool, length, get_or, None, Option, Some}
use Rattle.types.specs.declared.Memory.{Memory}
use Rattle.types.specs.declared.Phase.{Phase}
use Rattle.types.specs.declared.Identity.{Identity}
use Rattle.types.specs.declared.Stored.{Stored}
use Rattle.types.specs.declared.Part.{Part}
use Rattle.types.specs.declared.Record.{Record}
use Rattle.types.specs.declared.Change.TheVariants.{Same}
use Rattle.types.specs.declared.Columns.{Columns}
use Rattle.types.specs.declared.PoweredUp.{PoweredUp}
use Rattle.types.specs.declared.Outcome.{Outcome}
use Rattle.types.specs.declared.Answer.{Answer}
use Rattle.types.specs.declared.Ticked.{Ticked}
use Rattle.words.specs.Logic.{when_zero}
use Rattle.paper.specs.Records.{fresh}
use Rattle.paper.specs.Soundness.{sound}
use Rattle.paper.specs.Table.{decoded, columns, addressing_on}
use Rattle.paper.specs.Reads.{undriven, output_of, first_driven}
use Rattle.paper.specs.Commands.{changed, begun, change_by, change_ignored}
use Rattle.paper.specs.Numbers.{power_up_number, transaction_refusal, tick_number, ignored_number}
use Rattle.paper.specs.Ticks.{record_after, memory_after, working_ticks}

-- the identity and the registers of zeros
abbrev pub no_identity : Identity
no_identity = record { maker = 0; kind = 0; capacity = 0; device = 0 }

abbrev pub no_stored : Stored
no_stored = record { status = 0; function = 0; extended = 0 }

-- the record of a refused power-up: an idle 1-block record, all else zero
abbrev pub zero_record : Record
zero_record = fresh 1 no_identity no_stored

-- power-up gives an idle, awake, unarmed record with WEL 0, page data zero, the live byte loaded with the error bits 0, and the bank register 00h
unfoldable pub powered_up : ℕ → Identity → Stored → PoweredUp
powered_up n id s =
    when_zero (power_up_number n s)
    (record { next = fresh n id s; number = 0 })
    (record { next = zero_record; number = power_up_number n s })

-- A transaction is told by part and phase, by what it changes. Refusals 1 to 5 change nothing and report 0 as first driven place
abbrev pub refused : ℕ → Outcome
refused number = record { change = Same; number = number; first = 0 }

-- answers 20 to 28 are the part ignoring a transaction of n bytes; nothing is driven
abbrev pub ignored : Option Command → ℕ → Part → ℕ → Outcome
ignored d number p n = record { change = change_ignored d number p; number = number; first = n }

-- 0: executed
abbrev pub executed : Columns → Part → Phase → List ℕ → Outcome
executed k p f i =
    record { change = change_by k.effect (addressing_on k p) (begun k p i) p f i; number = 0; first = first_driven k (length i) }

-- the outcome of a first byte that was decoded
abbrev pub outcome_to : Option Command → Part → Phase → Bool → List ℕ → Outcome
outcome_to (Some k) p f wp i =
    when_zero (ignored_number (Some k) p f i wp)
    (executed (columns k) p f i)
    (ignored (Some k) (ignored_number (Some k) p f i wp) p (length i))
outcome_to None p f wp i = ignored None (ignored_number None p f i wp) p (length i)

-- the outcome of a transaction, for a record that is sound or is not, an array of a, rows of r and an output of o bytes. It does not depend on stored bytes
unfoldable pub outcome_of : Part → Phase → Bool → ℕ → ℕ → Bool → List ℕ → ℕ → Outcome
outcome_of p f s a r wp i o =
    when_zero (transaction_refusal p.blocks s a r (length i) o)
    (outcome_to (decoded p.blocks p.bank (get_or i 0 0)) p f wp i)
    (refused (transaction_refusal p.blocks s a r (length i) o))

-- a transaction's answer: its outcome, made of the record
abbrev pub answered : Outcome → List ℕ → Record → Answer
answered u i p = record { next = changed u.change i p; number = u.number; first = u.first }

unfoldable pub transacted : Record → ℕ → ℕ → Bool → List ℕ → ℕ → Answer
transacted p a r wp i o = answered (outcome_of p.part p.phase (sound p) a r wp i o) i p

-- the output bytes of a part that takes or ignores a command: ignored, all FFh
abbrev pub output_to : Option Command → Identity → Part → Phase → List ℕ → List ℕ → Bool → List ℕ → List ℕ
output_to (Some k) id p f xs rs wp i =
    when_zero (ignored_number (Some k) p f i wp) (output_of (columns k) id p xs rs i) (undriven (length i))
output_to None id p f xs rs wp i = undriven (length i)

-- the output buffer after a transaction: refusals write nothing
unfoldable pub output_after : Identity → Part → Phase → Bool → List ℕ → List ℕ → Bool → List ℕ → List ℕ → List ℕ
output_after id p f s xs rs wp i o =
    when_zero (transaction_refusal p.blocks s (length xs) (length rs) (length i) (length o))
    (output_to (decoded p.blocks p.bank (get_or i 0 0)) id p f xs rs wp i)
    o

abbrev pub transacted_output : Record → List ℕ → List ℕ → Bool → List ℕ → List ℕ → List ℕ
transacted_output p xs rs wp i o = output_after p.identity p.part p.phase (sound p) xs rs wp i o

-- a tick call's answer, for an array of a and rows of r bytes; it reports how many ticks did work. Refusals return the given record and report 0 ticks
unfoldable pub ticked : Record → ℕ → ℕ → ℕ → Ticked
ticked p a r ticks =
    when_zero (tick_number p.part.blocks (sound p) a r ticks)
    (record { next = record_after ticks p; number = 0; done = working_ticks ticks p })
    (record { next = p; number = tick_number p.part.blocks (sound p) a r ticks; done = 0 })

-- a memory's bytes after a tick call that answers a number: refusals write nothing
abbrev pub memory_by : ℕ → Memory → ℕ → Record → List ℕ → List ℕ
memory_by number m ticks p xs = when_zero number (memory_after m ticks p xs) xs

unfoldable pub ticked_memory : Memory → Record → ℕ → ℕ → ℕ → List ℕ → List ℕ
ticked_memory m p a r ticks xs = memory_by (tick_number p.part.blocks (sound p) a r ticks) m ticks p xs
