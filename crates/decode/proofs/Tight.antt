-- Two results that a contract of this crate allows are equal.
use Rattle.words.proofs.Allowed.{OneResult, agree}
use Rattle.decode.proofs.decode.Reads as decode

pub decode_one : OneResult decode.Learnt
decode_one κ a x y s t p q = agree p q
