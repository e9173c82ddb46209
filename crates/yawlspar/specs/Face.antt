-- The three calls as C makes them: on the record that bytes hold, with one number as the answer.
use Rattle.std.specs.Prelude.{ℕ, ◌+◌, ◌*◌, List, Bool, false, eqb, leb, length}
use Rattle.types.specs.declared.Identity.{Identity}
use Rattle.types.specs.declared.Stored.{Stored}
use Rattle.types.specs.declared.Record.{Record}
use Rattle.types.specs.declared.Outcome.{Outcome}
use Rattle.types.specs.declared.PoweredUp.{PoweredUp}
use Rattle.words.specs.Logic.{◌and◌, unless, ◌or_else◌, when_zero}
use Rattle.paper.specs.Sizes.{size_ok}
use Rattle.paper.specs.Registers.{with_bytes, with_extended}
use Rattle.paper.specs.Soundness.{sound}
use Rattle.paper.specs.Numbers.{later_refusal}
use Rattle.paper.specs.Commands.{changed}
use Rattle.paper.specs.Calls.{no_stored, powered_up, refused, outcome_of, output_after}
use Rattle.record_bytes.specs.Layout.{record_length, record_bytes}
use Rattle.record_bytes.specs.Read.{Held, on_held}
use Rattle.ticks.specs.InBytes.{held_ticks}

-- the number in the low 8 bits, and above them the first driven place, the ticks that did work, a script's step, or a page
abbrev pub packed : ℕ → ℕ → ℕ
packed number place = number + 256 * place

-- a number that a byte holds
abbrev pub is_byte : ℕ → Bool
is_byte n = leb n 255

-- the numbers that power-up is given
pub record Asked : Type 0 where
  pub blocks : ℕ
  pub maker : ℕ
  pub kind : ℕ
  pub capacity : ℕ
  pub device : ℕ
  pub status : ℕ
  pub function : ℕ
  pub extended : ℕ

abbrev pub asked : ℕ → ℕ → ℕ → ℕ → ℕ → ℕ → ℕ → ℕ → Asked
asked n m t c d status function extended =
    record { blocks = n; maker = m; kind = t; capacity = c; device = d; status = status; function = function; extended = extended }

-- 1 for a bad size; 5 for a buffer of l bytes that is no record's, or a number that no byte holds
unfoldable pub given_number : ℕ → Asked → ℕ
given_number l q =
    unless (size_ok q.blocks) 1
    or_else unless (eqb l record_length
    and is_byte q.maker
    and is_byte q.kind
    and is_byte q.capacity
    and is_byte q.device
    and is_byte q.status
    and is_byte q.function
    and is_byte q.extended) 5

-- the identity and the registers that it is given
abbrev pub identity_of : Asked → Identity
identity_of q =
    record { maker = q.maker; kind = q.kind; capacity = q.capacity; device = q.device }

abbrev pub registers_of : Asked → Stored
registers_of q = with_bytes q.status q.function (with_extended q.extended no_stored)

-- power-up of a part of that size, with that identity and these registers
abbrev pub up_of : Asked → PoweredUp
up_of q = powered_up q.blocks (identity_of q) (registers_of q)

-- the number of the C call: the lower first, then power-up's own
unfoldable pub up_number : ℕ → Asked → ℕ
up_number l q = given_number l q or_else (up_of q).number

abbrev pub power_up_answer : ℕ → Asked → ℕ
power_up_answer l q = packed (up_number l q) 0

-- power-up's record, written where it is not refused
abbrev pub power_up_bytes : Asked → List ℕ → List ℕ
power_up_bytes q bs = when_zero (up_number (length bs) q) (record_bytes (up_of q).next) bs

-- a transaction on a record, with WP# low for 0 and high for 1; another level counts as an unsound record does
abbrev pub outcome_at : Record → ℕ → ℕ → ℕ → List ℕ → ℕ → Outcome
outcome_at p a r wp i o = outcome_of p.part p.phase (sound p and leb wp 1) a r (eqb wp 1) i o

-- on what bytes hold: where they hold no record there is no size for 1 to judge, and it is 2, 3, 4 or 5
abbrev pub held_outcome : Held → ℕ → ℕ → ℕ → List ℕ → ℕ → Outcome
held_outcome h a r wp i o = on_held h (λ p. outcome_at p a r wp i o) (refused (later_refusal false r (length i) o))

-- its number and first driven place
unfoldable pub transact_answer : Held → ℕ → ℕ → ℕ → List ℕ → ℕ → ℕ
transact_answer h a r wp i o = packed (held_outcome h a r wp i o).number (held_outcome h a r wp i o).first

-- the record's bytes after it: the next record's; where none was held, as they were
unfoldable pub transact_bytes : Held → ℕ → ℕ → ℕ → List ℕ → ℕ → List ℕ → List ℕ
transact_bytes h a r wp i o bs = on_held h (λ p. record_bytes (changed (outcome_at p a r wp i o).change i p)) bs

-- its output: a refusal writes nothing
unfoldable pub transact_output : Held → List ℕ → List ℕ → ℕ → List ℕ → List ℕ → List ℕ
transact_output h xs rs wp i o =
    on_held h (λ p. output_after p.identity p.part p.phase (sound p and leb wp 1) xs rs (eqb wp 1) i o) o

-- ticks on what bytes hold: their number, and how many did work
unfoldable pub tick_answer : Held → ℕ → ℕ → ℕ → ℕ
tick_answer h a r n = packed (held_ticks h a r n).number (held_ticks h a r n).done
