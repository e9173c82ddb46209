-- `ticks::work` meets its contract: as many ticks of the operation as find something to do.
use Rattle.ticks.proofs.OneMemory.{same_waited}
use Rattle.ticks.specs.OneMemory.{ran_within}
use Rattle.ticks.specs.Waited.{change_after}
use Rattle.paper.specs.Operations.{ticks_left}
use Rattle.types.specs.declared.Memory.TheVariants.{Array, Rows}
use lib.ListN.{length}
use mathlib.Core.Path.{◌≡◌, ap, ◌∙◌}
use Prim.Native.Nat.{ℕ, min}
use native.Mathlib.Omega.{arith}
use Rattle.ticks.proofs.work.Goals as goal

pub returns : goal.returns
returns c =
    let a = c.args in
    let l = c.min-count in
    let k : l.result ≡ min a.ticks (ticks_left a.op a.part.blocks) = omega (arith, l.ensures, c.saturating_sub-left.ensures, c.ticks_done.ensures, c.ticks_in_all-all.ensures) in
    let u = c.touch.ensures in
    (same_waited _ _ _ _ (c.change_after-change.ensures ∙ ap (λ (j : ℕ). change_after j a.op a.part a.phase) k) k, u.0 ∙ ap (λ (j : ℕ). ran_within Array j a.op a.page.now (length a.array.now) (length a.rows.now) a.array.now) k, u.1 ∙ ap (λ (j : ℕ). ran_within Rows j a.op a.page.now (length a.array.now) (length a.rows.now) a.rows.now) k)
