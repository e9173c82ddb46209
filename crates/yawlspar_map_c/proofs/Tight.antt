-- Two results that a contract of this crate allows are equal: the answer, the map, the record's bytes and each other lent byte.
use Rattle.words.proofs.Allowed.{OneResult, OneExit, agree}
use Rattle.yawlspar_map_c.proofs.yawlspar_map_rebuild.Reads as yawlspar-map-rebuild
use Rattle.yawlspar_map_c.proofs.yawlspar_map_next.Reads as yawlspar-map-next
use Rattle.yawlspar_map_c.proofs.yawlspar_tick_map.Reads as yawlspar-tick-map

pub rebuild_one : OneResult yawlspar-map-rebuild.Learnt
rebuild_one κ a x y s t p q = agree p.0 q.0

pub rebuild_one_map : OneExit yawlspar-map-rebuild.Learnt (λ κ s. s.1.1.0.now)
rebuild_one_map κ a x y s t p q = agree p.1 q.1

pub next_one : OneResult yawlspar-map-next.Learnt
next_one κ a x y s t p q = agree p q

pub tick_one : OneResult yawlspar-tick-map.Learnt
tick_one κ a x y s t p q = agree p.0 q.0

pub tick_one_bytes : OneExit yawlspar-tick-map.Learnt (λ κ s. s.0.now)
tick_one_bytes κ a x y s t p q = agree p.1.0 q.1.0

pub tick_one_array : OneExit yawlspar-tick-map.Learnt (λ κ s. s.1.0.now)
tick_one_array κ a x y s t p q = agree p.1.1.0 q.1.1.0

pub tick_one_rows : OneExit yawlspar-tick-map.Learnt (λ κ s. s.1.1.0.now)
tick_one_rows κ a x y s t p q = agree p.1.1.1.0 q.1.1.1.0

pub tick_one_map : OneExit yawlspar-tick-map.Learnt (λ κ s. s.1.1.1.1.0.now)
tick_one_map κ a x y s t p q = agree p.1.1.1.1 q.1.1.1.1
