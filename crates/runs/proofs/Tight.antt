-- Two results that a contract of this crate allows are equal.
use Rattle.words.proofs.Allowed.{OneResult, OneExit, agree}
use Rattle.runs.proofs.fill.Reads as fill
use Rattle.runs.proofs.blank.Reads as blank
use Rattle.runs.proofs.drive.Reads as drive
use Rattle.runs.proofs.zero_from.Reads as zero-from
use Rattle.runs.proofs.first_difference.Reads as first-difference

pub fill_one : OneExit fill.Learnt (λ κ s. s.0.now)
fill_one κ a x y s t p q = agree p q

pub blank_one : OneExit blank.Learnt (λ κ s. s.0.now)
blank_one κ a x y s t p q = agree p q

pub drive_one : OneExit drive.Learnt (λ κ s. s.1.1.0.now)
drive_one κ a x y s t p q = agree p q

pub zero_from_one : OneResult zero-from.Learnt
zero_from_one κ a x y s t p q = agree p q

pub first_difference_one : OneResult first-difference.Learnt
first_difference_one κ a x y s t p q = agree p q
