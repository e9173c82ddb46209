-- What copying a run of a source leaves, behind what is laid already.
use Rattle.std.proofs.Common.{◌≡◌, ℕ, ◌+◌, ◌≤◌, ◌%◌, List, ◌++◌, length, take, drop, arith}
use Rattle.words.specs.Lists.{round}
use Rattle.words.proofs.Lists.{laid, round_more}

-- x has k places laid from the place from on, there is behind them, and r bytes y of the source are copied to it
pub round_copied : (s o x y : List ℕ) (at from there here k r m : ℕ) → from + k ≡ there → k + r ≡ m → there + r ≤ length o → here + r ≤ length s → here ≡ (at + k) % length s
    → x ≡ laid o from k (round s at) → y ≡ take r (drop here s) → take there x ++ (y ++ drop r (drop there x)) ≡ laid o from m (round s at)
round_copied s o x y at from there here k r m e f fits inside turn ex ey =
    rw (ex, ey, ← e, ← f) (round_more o s at from k here r (omega arith) inside turn)
