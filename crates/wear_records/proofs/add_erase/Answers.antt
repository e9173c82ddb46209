-- One erase more: a full count stays.
use mathlib.Core.Path.{◌∙◌}
use native.Mathlib.Omega.{arith}
use Rattle.wear_records.proofs.Laws.{saturates}
use Rattle.wear_records.proofs.add_erase.Goals as goal

pub returns-clause-erases : goal.returns-clause-erases
returns-clause-erases c = c.saturating_add-sector.ensures ∙ saturates c.args.sector.now.erases (omega arith)
