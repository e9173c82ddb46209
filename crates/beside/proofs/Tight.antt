-- Two results that a contract of this crate allows are equal.
use Rattle.words.proofs.Allowed.{OneResult, agree}
use Rattle.paper.proofs.Refusals.{same_refusal}
use Rattle.beside.proofs.check.Reads as check
use Rattle.beside.proofs.refusal.Reads as refusal

pub check_one : OneResult check.Learnt
check_one κ a x y s t p q = same_refusal p q

pub refusal_one : OneResult refusal.Learnt
refusal_one κ a x y s t p q = agree p q
