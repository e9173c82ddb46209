-- Two results that a contract of this crate allows are equal.
use Rattle.words.proofs.Allowed.{OneResult, OneExit, agree}
use Rattle.lines.proofs.bytes_of.Reads as bytes_of
use Rattle.lines.proofs.line_of.Reads as Line-of

pub bytes_of_one : OneExit bytes_of.Learnt (λ κ s. s.1.0.now)
bytes_of_one κ a x y s t p q = agree p q

pub line_of_one : OneResult Line-of.Learnt
line_of_one κ a x y s t p q = agree p q
