-- Two results that a contract of this crate allows are equal.
use Rattle.words.proofs.Allowed.{OneResult, agree}
use Rattle.sizes.proofs.is_large.Reads as is-large
use Rattle.sizes.proofs.size_ok.Reads as Size-ok

pub is_large_one : OneResult is-large.Learnt
is_large_one κ a x y s t p q = agree p q

pub size_ok_one : OneResult Size-ok.Learnt
size_ok_one κ a x y s t p q = agree p q
