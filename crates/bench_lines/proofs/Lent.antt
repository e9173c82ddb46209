-- The memory that bench takes is the 1-block part's.
use Prim.Native.Nat.{ℕ}
use mathlib.Core.Path.{◌≡◌}
use borrow.Author.Tests.{eqb-true}
use Rattle.words.proofs.Tests.{and_r, unless_zero, or_else_zero}
use Rattle.paper.specs.Sizes.{array_bytes, rows_bytes}
use Rattle.paper.specs.Numbers.{size_number, rows_number}
use Rattle.bench_lines.specs.Lent.{lent_number}

pub lent_lengths : (a r : ℕ) → lent_number a r ≡ 0 → (a ≡ array_bytes 1) × (r ≡ rows_bytes)
unfolding size_number rows_number
lent_lengths a r e =
    let x = or_else_zero _ _ e in
    (eqb-true _ _ (and_r _ _ (unless_zero _ 0 x.0)), eqb-true _ _ (unless_zero _ 1 x.1))
