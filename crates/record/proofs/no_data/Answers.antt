-- `record::no_data` meets its contract: the array is the definition's list.
use mathlib.Core.Path.{refl}
use Rattle.paper.specs.Program.{no_data}
use Rattle.record.proofs.no_data.Goals as goal

pub returns : goal.returns
unfolding no_data
returns c = refl
