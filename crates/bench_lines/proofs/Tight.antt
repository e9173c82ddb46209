-- Two results that the contract of a function of this crate allows are equal: what it answers, and what it leaves in array, rows and output.
use Prim.Native.Nat.{ℕ}
use mathlib.Core.Path.{◌≡◌, ap, ◌∙◌}
use Rattle.words.proofs.Allowed.{OneResult, OneExit, agree}
use Rattle.printing.proofs.Text.{one_output, one_place}
use Rattle.bench_lines.specs.declared.Benched.{Benched}
use Rattle.bench_lines.proofs.bench.Reads as bench

benched_same : (x y : Benched) → x.number ≡ y.number → x.printed ≡ y.printed → x ≡ y
benched_same x y e f =
    ap (λ (n : ℕ). record { number = n; printed = x.printed }) e ∙ ap (λ (n : ℕ). record { number = y.number; printed = n }) f

pub bench_one : OneResult bench.Learnt
bench_one κ a x y s t p q = benched_same x y (agree p.0 q.0) (one_place p.1.1.1 q.1.1.1)

pub bench_one_array : OneExit bench.Learnt (λ κ s. s.0.now)
bench_one_array κ a x y s t p q = agree p.1.0 q.1.0

pub bench_one_rows : OneExit bench.Learnt (λ κ s. s.1.0.now)
bench_one_rows κ a x y s t p q = agree p.1.1.0 q.1.1.0

pub bench_one_output : OneExit bench.Learnt (λ κ s. s.1.1.1.0.now)
bench_one_output κ a x y s t p q = one_output p.1.1.1 q.1.1.1
