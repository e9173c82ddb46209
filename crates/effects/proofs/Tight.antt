-- Two results that a contract of this crate allows are equal.
use Rattle.words.proofs.Allowed.{OneResult, agree}
use Rattle.effects.proofs.change_by.Reads as change-by
use Rattle.effects.proofs.change_barred.Reads as change-barred
use Rattle.effects.proofs.apply.Reads as apply

pub change_by_one : OneResult change-by.Learnt
change_by_one κ a x y s t p q = agree p q

pub change_barred_one : OneResult change-barred.Learnt
change_barred_one κ a x y s t p q = agree p q

pub apply_one : OneResult apply.Learnt
apply_one κ a x y s t p q = agree p q
