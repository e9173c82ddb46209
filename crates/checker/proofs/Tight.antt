-- Two results that the contract of `check` allows are equal: the verdict, the record's bytes and each other lent byte and entry.
use Rattle.words.proofs.Allowed.{OneResult, OneExit, agree}
use Rattle.checker.proofs.check.Reads as check

pub check_one : OneResult check.Learnt
check_one κ a x y s t p q = agree p.0 q.0

pub check_one_bytes : OneExit check.Learnt (λ κ s. s.0.now)
check_one_bytes κ a x y s t p q = agree p.1.0 q.1.0

pub check_one_array : OneExit check.Learnt (λ κ s. s.1.0.now)
check_one_array κ a x y s t p q = agree p.1.1.0 q.1.1.0

pub check_one_rows : OneExit check.Learnt (λ κ s. s.1.1.0.now)
check_one_rows κ a x y s t p q = agree p.1.1.1.0 q.1.1.1.0

pub check_one_output : OneExit check.Learnt (λ κ s. s.1.1.1.1.1.1.1.0.now)
check_one_output κ a x y s t p q = agree p.1.1.1.1.0 q.1.1.1.1.0

pub check_one_answers : OneExit check.Learnt (λ κ s. s.1.1.1.1.1.1.1.1.0.now)
check_one_answers κ a x y s t p q = agree p.1.1.1.1.1.0 q.1.1.1.1.1.0

pub check_one_done : OneExit check.Learnt (λ κ s. s.1.1.1.1.1.1.1.1.1.0.now)
check_one_done κ a x y s t p q = agree p.1.1.1.1.1.1 q.1.1.1.1.1.1
