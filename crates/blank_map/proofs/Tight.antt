-- Two results that a contract of this crate allows are equal.
use Rattle.words.proofs.Allowed.{OneResult, OneExit, agree}
use Rattle.blank_map.proofs.Taken.{same_blank}
use Rattle.blank_map.proofs.rebuild.Reads as rebuild
use Rattle.blank_map.proofs.next.Reads as next
use Rattle.blank_map.proofs.keep.Reads as keep

pub rebuild_one : OneResult rebuild.Learnt
rebuild_one κ a x y s t p q = agree p.0 q.0

pub rebuild_map_one : OneExit rebuild.Learnt (λ κ s. s.1.1.0.now)
rebuild_map_one κ a x y s t p q = agree p.1 q.1

pub next_one : OneResult next.Learnt
next_one κ a x y s t p q = same_blank x y (agree p q)

pub keep_one : OneExit keep.Learnt (λ κ s. s.1.1.0.now)
keep_one κ a x y s t p q = agree p q
