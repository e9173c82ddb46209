-- Two results that a contract of this crate allows are equal: the answer, the record's bytes, the map and each other lent byte and entry.
use Rattle.words.proofs.Allowed.{OneResult, OneExit, agree}
use Rattle.mapped.proofs.tick.Reads as tick
use Rattle.mapped.proofs.script.Reads as script

pub tick_one : OneResult tick.Learnt
tick_one κ a x y s t p q = agree p.0 q.0

pub tick_one_bytes : OneExit tick.Learnt (λ κ s. s.0.now)
tick_one_bytes κ a x y s t p q = agree p.1.0 q.1.0

pub tick_one_array : OneExit tick.Learnt (λ κ s. s.1.0.now)
tick_one_array κ a x y s t p q = agree p.1.1.0 q.1.1.0

pub tick_one_rows : OneExit tick.Learnt (λ κ s. s.1.1.0.now)
tick_one_rows κ a x y s t p q = agree p.1.1.1.0 q.1.1.1.0

pub tick_one_map : OneExit tick.Learnt (λ κ s. s.1.1.1.1.0.now)
tick_one_map κ a x y s t p q = agree p.1.1.1.1 q.1.1.1.1

pub script_one : OneResult script.Learnt
script_one κ a x y s t p q = agree p.0 q.0

pub script_one_bytes : OneExit script.Learnt (λ κ s. s.0.now)
script_one_bytes κ a x y s t p q = agree p.1.0 q.1.0

pub script_one_array : OneExit script.Learnt (λ κ s. s.1.0.now)
script_one_array κ a x y s t p q = agree p.1.1.0 q.1.1.0

pub script_one_rows : OneExit script.Learnt (λ κ s. s.1.1.0.now)
script_one_rows κ a x y s t p q = agree p.1.1.1.0 q.1.1.1.0

pub script_one_output : OneExit script.Learnt (λ κ s. s.1.1.1.1.1.1.1.0.now)
script_one_output κ a x y s t p q = agree p.1.1.1.1.0 q.1.1.1.1.0

pub script_one_answers : OneExit script.Learnt (λ κ s. s.1.1.1.1.1.1.1.1.0.now)
script_one_answers κ a x y s t p q = agree p.1.1.1.1.1.0 q.1.1.1.1.1.0

pub script_one_done : OneExit script.Learnt (λ κ s. s.1.1.1.1.1.1.1.1.1.0.now)
script_one_done κ a x y s t p q = agree p.1.1.1.1.1.1.0 q.1.1.1.1.1.1.0

pub script_one_map : OneExit script.Learnt (λ κ s. s.1.1.1.1.1.1.1.1.1.1.0.now)
script_one_map κ a x y s t p q = agree p.1.1.1.1.1.1.1 q.1.1.1.1.1.1.1
