-- One field of one record changes, and a full count stays.
use mathlib.Core.Path.{◌∙◌}
use native.Mathlib.Omega.{arith}
use lib.ListN.{get_or}
use Rattle.paper.specs.Wear.{unworn}
use Rattle.wear_records.specs.Thin.{program_at}
use Rattle.wear_records.proofs.Laws.{saturates}
use Rattle.wear_records.proofs.add_program.Goals as goal

pub returns : goal.returns
unfolding program_at
returns c = rw (c.saturating_add.ensures ∙ saturates (get_or c.args.wear.now c.args.sector unworn).programs (omega arith))
