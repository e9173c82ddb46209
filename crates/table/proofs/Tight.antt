-- Two results that a contract of this crate allows are equal.
use Rattle.words.proofs.Allowed.{OneResult, agree}
use Rattle.table.proofs.columns_of.Reads as columns_of
use Rattle.table.proofs.addressing.Reads as addressing
use Rattle.table.proofs.taken_asleep.Reads as taken_asleep_lem
use Rattle.table.proofs.taken_busy.Reads as taken_busy_lem
use Rattle.table.proofs.taken_suspended.Reads as taken_suspended_lem
use Rattle.table.proofs.length_ok.Reads as length_ok_lem
use Rattle.table.proofs.drives_any.Reads as drives-any
use Rattle.table.proofs.first_driven.Reads as first-driven

pub columns_of_one : OneResult columns_of.Learnt
columns_of_one κ a x y s t p q = agree p q

pub addressing_one : OneResult addressing.Learnt
addressing_one κ a x y s t p q = agree p q

pub taken_asleep_one : OneResult taken_asleep_lem.Learnt
taken_asleep_one κ a x y s t p q = agree p q

pub taken_busy_one : OneResult taken_busy_lem.Learnt
taken_busy_one κ a x y s t p q = agree p q

pub taken_suspended_one : OneResult taken_suspended_lem.Learnt
taken_suspended_one κ a x y s t p q = agree p q

pub length_ok_one : OneResult length_ok_lem.Learnt
length_ok_one κ a x y s t p q = agree p q

pub drives_any_one : OneResult drives-any.Learnt
drives_any_one κ a x y s t p q = agree p q

pub first_driven_one : OneResult first-driven.Learnt
first_driven_one κ a x y s t p q = agree p q
