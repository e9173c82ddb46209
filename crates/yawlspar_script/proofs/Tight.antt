-- Two results that a contract of this crate allows are equal: the answer, the record's bytes, and each other lent byte.
use Rattle.words.proofs.Allowed.{OneResult, OneExit, agree}
use Rattle.yawlspar_script.proofs.yawlspar_script.Reads as yawlspar-script
use Rattle.yawlspar_script.proofs.yawlspar_script_map.Reads as yawlspar-script-map
use Rattle.yawlspar_script.proofs.yawlspar_check.Reads as yawlspar-check

pub script-one : OneResult yawlspar-script.Learnt
script-one κ a x y s t p q = agree p.0 q.0

pub script-one-bytes : OneExit yawlspar-script.Learnt (λ κ s. s.0.now)
script-one-bytes κ a x y s t p q = agree p.1.0 q.1.0

pub script-one-array : OneExit yawlspar-script.Learnt (λ κ s. s.1.0.now)
script-one-array κ a x y s t p q = agree p.1.1.0 q.1.1.0

pub script-one-rows : OneExit yawlspar-script.Learnt (λ κ s. s.1.1.0.now)
script-one-rows κ a x y s t p q = agree p.1.1.1.0 q.1.1.1.0

pub script-one-output : OneExit yawlspar-script.Learnt (λ κ s. s.1.1.1.1.1.1.1.0.now)
script-one-output κ a x y s t p q = agree p.1.1.1.1.0 q.1.1.1.1.0

pub script-one-answers : OneExit yawlspar-script.Learnt (λ κ s. s.1.1.1.1.1.1.1.1.0.now)
script-one-answers κ a x y s t p q = agree p.1.1.1.1.1.0 q.1.1.1.1.1.0

pub script-one-done : OneExit yawlspar-script.Learnt (λ κ s. s.1.1.1.1.1.1.1.1.1.0.now)
script-one-done κ a x y s t p q = agree p.1.1.1.1.1.1 q.1.1.1.1.1.1

pub check-one : OneResult yawlspar-check.Learnt
check-one κ a x y s t p q = agree p.0 q.0

pub check-one-bytes : OneExit yawlspar-check.Learnt (λ κ s. s.0.now)
check-one-bytes κ a x y s t p q = agree p.1.0 q.1.0

pub check-one-array : OneExit yawlspar-check.Learnt (λ κ s. s.1.0.now)
check-one-array κ a x y s t p q = agree p.1.1.0 q.1.1.0

pub check-one-rows : OneExit yawlspar-check.Learnt (λ κ s. s.1.1.0.now)
check-one-rows κ a x y s t p q = agree p.1.1.1.0 q.1.1.1.0

pub check-one-output : OneExit yawlspar-check.Learnt (λ κ s. s.1.1.1.1.1.1.1.0.now)
check-one-output κ a x y s t p q = agree p.1.1.1.1.0 q.1.1.1.1.0

pub check-one-answers : OneExit yawlspar-check.Learnt (λ κ s. s.1.1.1.1.1.1.1.1.0.now)
check-one-answers κ a x y s t p q = agree p.1.1.1.1.1.0 q.1.1.1.1.1.0

pub check-one-done : OneExit yawlspar-check.Learnt (λ κ s. s.1.1.1.1.1.1.1.1.1.0.now)
check-one-done κ a x y s t p q = agree p.1.1.1.1.1.1 q.1.1.1.1.1.1

pub script-map-one : OneResult yawlspar-script-map.Learnt
script-map-one κ a x y s t p q = agree p.0 q.0

pub script-map-one-bytes : OneExit yawlspar-script-map.Learnt (λ κ s. s.0.now)
script-map-one-bytes κ a x y s t p q = agree p.1.0 q.1.0

pub script-map-one-array : OneExit yawlspar-script-map.Learnt (λ κ s. s.1.0.now)
script-map-one-array κ a x y s t p q = agree p.1.1.0 q.1.1.0

pub script-map-one-rows : OneExit yawlspar-script-map.Learnt (λ κ s. s.1.1.0.now)
script-map-one-rows κ a x y s t p q = agree p.1.1.1.0 q.1.1.1.0

pub script-map-one-output : OneExit yawlspar-script-map.Learnt (λ κ s. s.1.1.1.1.1.1.1.0.now)
script-map-one-output κ a x y s t p q = agree p.1.1.1.1.0 q.1.1.1.1.0

pub script-map-one-answers : OneExit yawlspar-script-map.Learnt (λ κ s. s.1.1.1.1.1.1.1.1.0.now)
script-map-one-answers κ a x y s t p q = agree p.1.1.1.1.1.0 q.1.1.1.1.1.0

pub script-map-one-done : OneExit yawlspar-script-map.Learnt (λ κ s. s.1.1.1.1.1.1.1.1.1.0.now)
script-map-one-done κ a x y s t p q = agree p.1.1.1.1.1.1.0 q.1.1.1.1.1.1.0

pub script-map-one-map : OneExit yawlspar-script-map.Learnt (λ κ s. s.1.1.1.1.1.1.1.1.1.1.0.now)
script-map-one-map κ a x y s t p q = agree p.1.1.1.1.1.1.1 q.1.1.1.1.1.1.1
