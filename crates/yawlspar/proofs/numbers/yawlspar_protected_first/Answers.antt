-- `yawlspar::numbers::yawlspar_protected_first` meets its contract: it is the first of the blocks that the protection question answers.
use mathlib.Core.Path.{ap}
use Rattle.types.specs.declared.Blocks.{Blocks}
use Rattle.yawlspar.proofs.numbers.yawlspar_protected_first.Goals as goal

pub returns : goal.returns
returns c = ap (λ (b : Blocks). b.first) c.protected_blocks.ensures
