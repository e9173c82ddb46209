-- Two results that a contract of this crate allows are equal.
use Rattle.words.proofs.Allowed.{OneResult, agree}
use Rattle.paper.proofs.Refusals.{same_refusal}
use Rattle.protection.proofs.check_question.Reads as check-question
use Rattle.protection.proofs.protected_blocks.Reads as protected-blocks
use Rattle.protection.proofs.is_among.Reads as is_among
use Rattle.protection.proofs.is_locked.Reads as is-locked
use Rattle.protection.proofs.is_barred.Reads as is-barred

pub check_question_one : OneResult check-question.Learnt
check_question_one κ a x y s t p q = same_refusal p q

pub protected_blocks_one : OneResult protected-blocks.Learnt
protected_blocks_one κ a x y s t p q = agree p q

pub is_among_one : OneResult is_among.Learnt
is_among_one κ a x y s t p q = agree p q

pub is_locked_one : OneResult is-locked.Learnt
is_locked_one κ a x y s t p q = agree p q

pub is_barred_one : OneResult is-barred.Learnt
is_barred_one κ a x y s t p q = agree p q
