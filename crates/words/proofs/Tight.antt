-- Two results that a contract of this crate allows are equal.
use Rattle.words.proofs.Allowed.{OneResult, agree}
use Rattle.words.proofs.both.Reads as both
use Rattle.words.proofs.either.Reads as either
use Rattle.words.proofs.bit_of.Reads as bit-of
use Rattle.words.proofs.number_or.Reads as number-or
use Rattle.words.proofs.lesser.Reads as lesser

pub both_one : OneResult both.Learnt
both_one κ a x y s t p q = agree p q

pub either_one : OneResult either.Learnt
either_one κ a x y s t p q = agree p q

pub bit_of_one : OneResult bit-of.Learnt
bit_of_one κ a x y s t p q = agree p q

pub number_or_one : OneResult number-or.Learnt
number_or_one κ a x y s t p q = agree p q

pub lesser_one : OneResult lesser.Learnt
lesser_one κ a x y s t p q = agree p q
