-- Two results that a contract of this crate allows are equal: the answer, the record's bytes, and each other lent byte.
use Rattle.words.proofs.Allowed.{OneResult, OneExit, agree}
use Rattle.yawlspar_script_c.proofs.yawlspar_script.Reads as yawlspar-script
use Rattle.yawlspar_script_c.proofs.yawlspar_script_map.Reads as yawlspar-script-map
use Rattle.yawlspar_script_c.proofs.yawlspar_check.Reads as yawlspar-check

pub script_one : OneResult yawlspar-script.Learnt
script_one κ a x y s t p q = agree p.0 q.0

pub script_one_bytes : OneExit yawlspar-script.Learnt (λ κ s. s.0.now)
script_one_bytes κ a x y s t p q = agree p.1.0 q.1.0

pub script_one_array : OneExit yawlspar-script.Learnt (λ κ s. s.1.0.now)
script_one_array κ a x y s t p q = agree p.1.1.0 q.1.1.0

pub script_one_rows : OneExit yawlspar-script.Learnt (λ κ s. s.1.1.0.now)
script_one_rows κ a x y s t p q = agree p.1.1.1.0 q.1.1.1.0

pub script_one_output : OneExit yawlspar-script.Learnt (λ κ s. s.1.1.1.1.1.1.1.0.now)
script_one_output κ a x y s t p q = agree p.1.1.1.1.0 q.1.1.1.1.0

pub script_one_answers : OneExit yawlspar-script.Learnt (λ κ s. s.1.1.1.1.1.1.1.1.0.now)
script_one_answers κ a x y s t p q = agree p.1.1.1.1.1.0 q.1.1.1.1.1.0

pub script_one_done : OneExit yawlspar-script.Learnt (λ κ s. s.1.1.1.1.1.1.1.1.1.0.now)
script_one_done κ a x y s t p q = agree p.1.1.1.1.1.1 q.1.1.1.1.1.1

pub check_one : OneResult yawlspar-check.Learnt
check_one κ a x y s t p q = agree p.0 q.0

pub check_one_bytes : OneExit yawlspar-check.Learnt (λ κ s. s.0.now)
check_one_bytes κ a x y s t p q = agree p.1.0 q.1.0

pub check_one_array : OneExit yawlspar-check.Learnt (λ κ s. s.1.0.now)
check_one_array κ a x y s t p q = agree p.1.1.0 q.1.1.0

pub check_one_rows : OneExit yawlspar-check.Learnt (λ κ s. s.1.1.0.now)
check_one_rows κ a x y s t p q = agree p.1.1.1.0 q.1.1.1.0

pub check_one_output : OneExit yawlspar-check.Learnt (λ κ s. s.1.1.1.1.1.1.1.0.now)
check_one_output κ a x y s t p q = agree p.1.1.1.1.0 q.1.1.1.1.0

pub check_one_answers : OneExit yawlspar-check.Learnt (λ κ s. s.1.1.1.1.1.1.1.1.0.now)
check_one_answers κ a x y s t p q = agree p.1.1.1.1.1.0 q.1.1.1.1.1.0

pub check_one_done : OneExit yawlspar-check.Learnt (λ κ s. s.1.1.1.1.1.1.1.1.1.0.now)
check_one_done κ a x y s t p q = agree p.1.1.1.1.1.1 q.1.1.1.1.1.1

pub script_map_one : OneResult yawlspar-script-map.Learnt
script_map_one κ a x y s t p q = agree p.0 q.0

pub script_map_one_bytes : OneExit yawlspar-script-map.Learnt (λ κ s. s.0.now)
script_map_one_bytes κ a x y s t p q = agree p.1.0 q.1.0

pub script_map_one_array : OneExit yawlspar-script-map.Learnt (λ κ s. s.1.0.now)
script_map_one_array κ a x y s t p q = agree p.1.1.0 q.1.1.0

pub script_map_one_rows : OneExit yawlspar-script-map.Learnt (λ κ s. s.1.1.0.now)
script_map_one_rows κ a x y s t p q = agree p.1.1.1.0 q.1.1.1.0

pub script_map_one_output : OneExit yawlspar-script-map.Learnt (λ κ s. s.1.1.1.1.1.1.1.0.now)
script_map_one_output κ a x y s t p q = agree p.1.1.1.1.0 q.1.1.1.1.0

pub script_map_one_answers : OneExit yawlspar-script-map.Learnt (λ κ s. s.1.1.1.1.1.1.1.1.0.now)
script_map_one_answers κ a x y s t p q = agree p.1.1.1.1.1.0 q.1.1.1.1.1.0

pub script_map_one_done : OneExit yawlspar-script-map.Learnt (λ κ s. s.1.1.1.1.1.1.1.1.1.0.now)
script_map_one_done κ a x y s t p q = agree p.1.1.1.1.1.1.0 q.1.1.1.1.1.1.0

pub script_map_one_map : OneExit yawlspar-script-map.Learnt (λ κ s. s.1.1.1.1.1.1.1.1.1.1.0.now)
script_map_one_map κ a x y s t p q = agree p.1.1.1.1.1.1.1 q.1.1.1.1.1.1.1
