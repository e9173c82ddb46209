-- Two results that a contract of this crate allows are equal: the answer, the map, the record's bytes and each other lent byte.
use Rattle.words.proofs.Allowed.{OneResult, OneExit, agree}
use Rattle.yawlspar_map.proofs.yawlspar_map_rebuild.Reads as yawlspar-map-rebuild
use Rattle.yawlspar_map.proofs.yawlspar_map_next.Reads as yawlspar-map-next
use Rattle.yawlspar_map.proofs.yawlspar_tick_map.Reads as yawlspar-tick-map

pub rebuild-one : OneResult yawlspar-map-rebuild.Learnt
rebuild-one κ a x y s t p q = agree p.0 q.0

pub rebuild-one-map : OneExit yawlspar-map-rebuild.Learnt (λ κ s. s.1.1.0.now)
rebuild-one-map κ a x y s t p q = agree p.1 q.1

pub next_one : OneResult yawlspar-map-next.Learnt
next_one κ a x y s t p q = agree p q

pub tick-one : OneResult yawlspar-tick-map.Learnt
tick-one κ a x y s t p q = agree p.0 q.0

pub tick-one-bytes : OneExit yawlspar-tick-map.Learnt (λ κ s. s.0.now)
tick-one-bytes κ a x y s t p q = agree p.1.0 q.1.0

pub tick-one-array : OneExit yawlspar-tick-map.Learnt (λ κ s. s.1.0.now)
tick-one-array κ a x y s t p q = agree p.1.1.0 q.1.1.0

pub tick-one-rows : OneExit yawlspar-tick-map.Learnt (λ κ s. s.1.1.0.now)
tick-one-rows κ a x y s t p q = agree p.1.1.1.0 q.1.1.1.0

pub tick-one-map : OneExit yawlspar-tick-map.Learnt (λ κ s. s.1.1.1.1.0.now)
tick-one-map κ a x y s t p q = agree p.1.1.1.1 q.1.1.1.1
