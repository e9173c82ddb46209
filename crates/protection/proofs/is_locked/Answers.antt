-- `protection::is_locked` meets its contract: each of the four rows has its bit, and a byte has no bit for another.
use Prim.Native.Nat.{ℕ, ◌+◌, ◌/◌, ◌^◌, ◌<◌, ◌≤◌}
use mathlib.Core.Path.{◌≡◌}
use native.Mathlib.Nat.{div-eq_of_lt}
use native.Mathlib.Omega.{arith}
use lib.Pow.{pow_mono}
use Rattle.paper.specs.Protection.{locked}
use Rattle.protection.proofs.is_locked.Goals as goal

-- a byte has no bit above its eighth
no_bit : (x k : ℕ) → x < 256 → 4 ≤ k → x / 2 ^ (4 + k) ≡ 0
no_bit x k h l =
    let p : 2 ^ 8 ≤ 2 ^ (4 + k) = pow_mono {i = 8} {j = 4 + k} (omega arith) in
    div-eq_of_lt (omega arith)

pub returns-in-0 : goal.returns-in-0
unfolding locked
returns-in-0 c = rw c.in-0.is

pub returns-in-1 : goal.returns-in-1
unfolding locked
returns-in-1 c = rw c.in-1.is

pub returns-in-2 : goal.returns-in-2
unfolding locked
returns-in-2 c = rw c.in-2.is

pub returns-in-3 : goal.returns-in-3
unfolding locked
returns-in-3 c = rw c.in-3.is

pub returns-in_default : goal.returns-in_default
unfolding locked
returns-in_default c = rw (no_bit c.args.function c.args.row (omega arith) (omega (arith, c.in_default.in_default-own.rest)))
