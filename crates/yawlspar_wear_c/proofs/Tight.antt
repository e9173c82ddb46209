-- Two results that a contract of this crate allows are equal: the answer, the wear records, the record's bytes and each other lent byte.
use Rattle.words.proofs.Allowed.{OneResult, OneExit, agree}
use Rattle.yawlspar_wear_c.proofs.yawlspar_tick_wear.Reads as yawlspar-tick-wear
use Rattle.yawlspar_wear_c.proofs.yawlspar_script_wear.Reads as yawlspar-script-wear
use Rattle.yawlspar_wear_c.proofs.yawlspar_wear_text.Reads as yawlspar-wear-text

pub tick_one : OneResult yawlspar-tick-wear.Learnt
tick_one κ a x y s t p q = agree p.0 q.0

pub tick_one_bytes : OneExit yawlspar-tick-wear.Learnt (λ κ s. s.0.now)
tick_one_bytes κ a x y s t p q = agree p.1.0 q.1.0

pub tick_one_array : OneExit yawlspar-tick-wear.Learnt (λ κ s. s.1.0.now)
tick_one_array κ a x y s t p q = agree p.1.1.0 q.1.1.0

pub tick_one_rows : OneExit yawlspar-tick-wear.Learnt (λ κ s. s.1.1.0.now)
tick_one_rows κ a x y s t p q = agree p.1.1.1.0 q.1.1.1.0

pub tick_one_wear : OneExit yawlspar-tick-wear.Learnt (λ κ s. s.1.1.1.1.0.now)
tick_one_wear κ a x y s t p q = agree p.1.1.1.1 q.1.1.1.1

pub script_one : OneResult yawlspar-script-wear.Learnt
script_one κ a x y s t p q = agree p.0 q.0

pub script_one_bytes : OneExit yawlspar-script-wear.Learnt (λ κ s. s.0.now)
script_one_bytes κ a x y s t p q = agree p.1.0 q.1.0

pub script_one_array : OneExit yawlspar-script-wear.Learnt (λ κ s. s.1.0.now)
script_one_array κ a x y s t p q = agree p.1.1.0 q.1.1.0

pub script_one_rows : OneExit yawlspar-script-wear.Learnt (λ κ s. s.1.1.0.now)
script_one_rows κ a x y s t p q = agree p.1.1.1.0 q.1.1.1.0

pub script_one_output : OneExit yawlspar-script-wear.Learnt (λ κ s. s.1.1.1.1.1.1.1.0.now)
script_one_output κ a x y s t p q = agree p.1.1.1.1.0 q.1.1.1.1.0

pub script_one_answers : OneExit yawlspar-script-wear.Learnt (λ κ s. s.1.1.1.1.1.1.1.1.0.now)
script_one_answers κ a x y s t p q = agree p.1.1.1.1.1.0 q.1.1.1.1.1.0

pub script_one_done : OneExit yawlspar-script-wear.Learnt (λ κ s. s.1.1.1.1.1.1.1.1.1.0.now)
script_one_done κ a x y s t p q = agree p.1.1.1.1.1.1.0 q.1.1.1.1.1.1.0

pub script_one_wear : OneExit yawlspar-script-wear.Learnt (λ κ s. s.1.1.1.1.1.1.1.1.1.1.0.now)
script_one_wear κ a x y s t p q = agree p.1.1.1.1.1.1.1 q.1.1.1.1.1.1.1

pub text_one : OneResult yawlspar-wear-text.Learnt
text_one κ a x y s t p q = agree p.0 q.0

pub text_one_text : OneExit yawlspar-wear-text.Learnt (λ κ s. s.1.1.0.now)
text_one_text κ a x y s t p q = agree p.1 q.1
