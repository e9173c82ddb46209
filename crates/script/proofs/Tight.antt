-- Two results that the contract of `run`, or that of `run_wear`, allows are equal: the answer, the record's bytes, each other lent byte and entry, and the wear records.
use Rattle.words.proofs.Allowed.{OneResult, OneExit, agree}
use Rattle.script.proofs.run.Reads as run
use Rattle.script.proofs.run_wear.Reads as run-wear

pub run_one : OneResult run.Learnt
run_one κ a x y s t p q = agree p.0 q.0

pub run_one_bytes : OneExit run.Learnt (λ κ s. s.0.now)
run_one_bytes κ a x y s t p q = agree p.1.0 q.1.0

pub run_one_array : OneExit run.Learnt (λ κ s. s.1.0.now)
run_one_array κ a x y s t p q = agree p.1.1.0 q.1.1.0

pub run_one_rows : OneExit run.Learnt (λ κ s. s.1.1.0.now)
run_one_rows κ a x y s t p q = agree p.1.1.1.0 q.1.1.1.0

pub run_one_output : OneExit run.Learnt (λ κ s. s.1.1.1.1.1.1.1.0.now)
run_one_output κ a x y s t p q = agree p.1.1.1.1.0 q.1.1.1.1.0

pub run_one_answers : OneExit run.Learnt (λ κ s. s.1.1.1.1.1.1.1.1.0.now)
run_one_answers κ a x y s t p q = agree p.1.1.1.1.1.0 q.1.1.1.1.1.0

pub run_one_done : OneExit run.Learnt (λ κ s. s.1.1.1.1.1.1.1.1.1.0.now)
run_one_done κ a x y s t p q = agree p.1.1.1.1.1.1.0 q.1.1.1.1.1.1.0

pub run_one_map : OneExit run.Learnt (λ κ s. s.1.1.1.1.1.1.1.1.1.1.0.now)
run_one_map κ a x y s t p q = agree p.1.1.1.1.1.1.1 q.1.1.1.1.1.1.1

pub run_wear_one : OneResult run-wear.Learnt
run_wear_one κ a x y s t p q = agree p.0 q.0

pub run_wear_one_bytes : OneExit run-wear.Learnt (λ κ s. s.0.now)
run_wear_one_bytes κ a x y s t p q = agree p.1.0 q.1.0

pub run_wear_one_array : OneExit run-wear.Learnt (λ κ s. s.1.0.now)
run_wear_one_array κ a x y s t p q = agree p.1.1.0 q.1.1.0

pub run_wear_one_rows : OneExit run-wear.Learnt (λ κ s. s.1.1.0.now)
run_wear_one_rows κ a x y s t p q = agree p.1.1.1.0 q.1.1.1.0

pub run_wear_one_output : OneExit run-wear.Learnt (λ κ s. s.1.1.1.1.1.1.1.0.now)
run_wear_one_output κ a x y s t p q = agree p.1.1.1.1.0 q.1.1.1.1.0

pub run_wear_one_answers : OneExit run-wear.Learnt (λ κ s. s.1.1.1.1.1.1.1.1.0.now)
run_wear_one_answers κ a x y s t p q = agree p.1.1.1.1.1.0 q.1.1.1.1.1.0

pub run_wear_one_done : OneExit run-wear.Learnt (λ κ s. s.1.1.1.1.1.1.1.1.1.0.now)
run_wear_one_done κ a x y s t p q = agree p.1.1.1.1.1.1.0 q.1.1.1.1.1.1.0

pub run_wear_one_wear : OneExit run-wear.Learnt (λ κ s. s.1.1.1.1.1.1.1.1.1.1.0.now)
run_wear_one_wear κ a x y s t p q = agree p.1.1.1.1.1.1.1 q.1.1.1.1.1.1.1
