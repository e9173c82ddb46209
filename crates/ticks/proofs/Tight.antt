-- Two results that a contract of this crate allows are equal: the answer, the array and the rows, and a record's bytes.
use Rattle.words.proofs.Allowed.{OneResult, OneExit, agree}
use Rattle.ticks.proofs.tick_part.Reads as tick-part
use Rattle.ticks.proofs.tick.Reads as tick
use Rattle.ticks.proofs.tick_bytes.Reads as tick-bytes

pub tick_part_one : OneResult tick-part.Learnt
tick_part_one κ a x y s t p q = agree p.0 q.0

pub tick_part_one_array : OneExit tick-part.Learnt (λ κ s. s.1.1.1.1.0.now)
tick_part_one_array κ a x y s t p q = agree p.1.0 q.1.0

pub tick_part_one_rows : OneExit tick-part.Learnt (λ κ s. s.1.1.1.1.1.0.now)
tick_part_one_rows κ a x y s t p q = agree p.1.1 q.1.1

pub tick_one : OneResult tick.Learnt
tick_one κ a x y s t p q = agree p.0 q.0

pub tick_one_array : OneExit tick.Learnt (λ κ s. s.1.0.now)
tick_one_array κ a x y s t p q = agree p.1.0 q.1.0

pub tick_one_rows : OneExit tick.Learnt (λ κ s. s.1.1.0.now)
tick_one_rows κ a x y s t p q = agree p.1.1 q.1.1

pub tick_bytes_one : OneResult tick-bytes.Learnt
tick_bytes_one κ a x y s t p q = agree p.0 q.0

pub tick_bytes_one_bytes : OneExit tick-bytes.Learnt (λ κ s. s.0.now)
tick_bytes_one_bytes κ a x y s t p q = agree p.1.0 q.1.0

pub tick_bytes_one_array : OneExit tick-bytes.Learnt (λ κ s. s.1.0.now)
tick_bytes_one_array κ a x y s t p q = agree p.1.1.0 q.1.1.0

pub tick_bytes_one_rows : OneExit tick-bytes.Learnt (λ κ s. s.1.1.0.now)
tick_bytes_one_rows κ a x y s t p q = agree p.1.1.1 q.1.1.1
