-- Two results that a contract of this crate allows are equal.
use Rattle.words.proofs.Allowed.{OneResult, OneExit, agree}
use Rattle.wear_records.proofs.nothing.Reads as nothing
use Rattle.wear_records.proofs.tally.Reads as tally
use Rattle.wear_records.proofs.keep.Reads as keep

pub nothing_one : OneResult nothing.Learnt
nothing_one κ a x y s t p q = agree p q

pub tally_one : OneResult tally.Learnt
tally_one κ a x y s t p q = agree p q

pub keep_one : OneExit keep.Learnt (λ κ s. s.0.now)
keep_one κ a x y s t p q = agree p q
