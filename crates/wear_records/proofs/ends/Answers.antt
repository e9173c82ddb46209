-- `wear_records::ends` meets its contract: the last tick comes after those done, and is among the next ones.
use Prim.Native.Nat.{ℕ, suc, ◌-◌, ◌≤◌, ◌<◌}
use mathlib.Core.Path.{◌≡◌, sym, ◌∙◌}
use mathlib.Core.Bool.{false}
use native.Mathlib.Omega.{arith}
use borrow.Author.Tests.{leb-true, le-leb, le-ltb}
use lib.Dec.{leb}
use Rattle.words.proofs.Tests.{same_tests, fails}
use Rattle.paper.specs.Sizes.{from_on}
use Rattle.paper.proofs.ByPlace.{from_on_lem, on_from}
use Rattle.wear_records.proofs.ends.Goals as goal

to-come : (d t k : ℕ) → d < k → leb (k - d) t ≡ from_on (suc d) t k
to-come d t k h =
    same_tests _ _ (λ e. from_on_lem (suc d) t k h (omega (arith, leb-true (k - d) t e))) (λ e. le-leb (k - d) t (omega (arith, (on_from (suc d) t k e).1)))

over : (d t k : ℕ) → k ≤ d → from_on (suc d) t k ≡ false
over d t k h = fails _ (λ e. omega (arith, (on_from (suc d) t k e).0))

pub returns-then-done-count : goal.returns-then-done-count
returns-then-done-count c = let a = c.args in to-come a.done a.ticks a.count c.if-done-count.true

pub returns-else-done-count : goal.returns-else-done-count
returns-else-done-count c = let a = c.args in le-ltb a.done a.count c.if-done-count.false ∙ sym (over a.done a.ticks a.count c.if-done-count.false)
