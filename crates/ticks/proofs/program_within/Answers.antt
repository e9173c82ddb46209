-- `ticks::program_within` meets its contract: both tests are those of the definition, with the page taken off the length.
use Prim.Native.Nat.{◌+◌, ◌-◌}
use mathlib.Core.Path.{◌≡◌, ap, ◌∙◌}
use mathlib.Core.Bool.{Bool}
use lib.Dec.{leb}
use native.Mathlib.Omega.{arith}
use Rattle.words.specs.Logic.{◌and◌}
use Rattle.words.proofs.Tests.{same_leb}
use Rattle.ticks.proofs.program_within.Goals as goal

pub returns : goal.returns
returns c =
    let a = c.args in
    let e : leb a.base (a.all - 256) ≡ leb (a.base + 256) a.all = same_leb a.base (a.all - 256) (a.base + 256) a.all (λ h. omega (arith, c.requires.1)) (λ h. omega arith) in
    c.both.ensures ∙ ap (λ (t : Bool). leb (a.done + a.count) a.kept and t) e
