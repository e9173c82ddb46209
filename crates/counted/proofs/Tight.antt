-- Two results that a contract of this crate allows are equal: the answer, the record's bytes, array and rows.
use Rattle.words.proofs.Allowed.{OneResult, OneExit, agree}
use Rattle.counted.proofs.tick.Reads as tick

pub tick_one : OneResult tick.Learnt
tick_one κ a x y s t p q = agree p.0 q.0

pub tick_one_bytes : OneExit tick.Learnt (λ κ s. s.0.now)
tick_one_bytes κ a x y s t p q = agree p.1.0 q.1.0

pub tick_one_array : OneExit tick.Learnt (λ κ s. s.1.0.now)
tick_one_array κ a x y s t p q = agree p.1.1.0 q.1.1.0

pub tick_one_rows : OneExit tick.Learnt (λ κ s. s.1.1.0.now)
tick_one_rows κ a x y s t p q = agree p.1.1.1 q.1.1.1
