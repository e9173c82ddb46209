-- `yawlspar::numbers::yawlspar_protected_count` meets its contract: it is the count of the blocks that the protection question answers.
use mathlib.Core.Path.{ap}
use Rattle.types.specs.declared.Blocks.{Blocks}
use Rattle.yawlspar.proofs.numbers.yawlspar_protected_count.Goals as goal

pub returns : goal.returns
returns c = ap (λ (b : Blocks). b.count) c.protected_blocks.ensures
