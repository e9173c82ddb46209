-- `pages::page_place` meets its contract: the 8-bit sum wraps at 256.
use Rattle.std.proofs.Common.{arith}
use Rattle.paper.specs.Program.{page_place}
use Rattle.pages.proofs.page_place.Goals as goal

pub returns : goal.returns
unfolding page_place
returns c = omega arith
