-- `cells::operation_in` meets its contract: the number is that of the kind, or none's.
use mathlib.Core.Path.{sym, ◌∙◌}
use Rattle.cells.proofs.ByKind.{kind_read}
use Rattle.cells.proofs.operation_in.Goals as goal

pub returns-in-Program : goal.returns-in-Program
returns-in-Program c = kind_read c.args.cells _ _ c.try_from.ensures (sym c.in-Program.is ∙ c.unwrap_or-kind.ensures)

pub returns-in-Erase : goal.returns-in-Erase
returns-in-Erase c = kind_read c.args.cells _ _ c.try_from.ensures (sym c.in-Erase.is ∙ c.unwrap_or-kind.ensures)

pub returns-in-Write : goal.returns-in-Write
returns-in-Write c = kind_read c.args.cells _ _ c.try_from.ensures (sym c.in-Write.is ∙ c.unwrap_or-kind.ensures)
