-- Two results that a contract of this crate allows are equal: the answer, and of the calls the record's bytes and each other lent byte.
use Rattle.words.proofs.Allowed.{OneResult, OneExit, agree}
use Rattle.yawlspar_c.proofs.yawlspar_protection_number.Reads as yawlspar-protection-number
use Rattle.yawlspar_c.proofs.yawlspar_protected_first.Reads as yawlspar-protected-first
use Rattle.yawlspar_c.proofs.yawlspar_protected_count.Reads as yawlspar-protected-count
use Rattle.yawlspar_c.proofs.yawlspar_protected.Reads as yawlspar-protected
use Rattle.yawlspar_c.proofs.yawlspar_page_place.Reads as yawlspar-page-place
use Rattle.yawlspar_c.proofs.yawlspar_power_up.Reads as yawlspar-power-up
use Rattle.yawlspar_c.proofs.yawlspar_transact.Reads as yawlspar-transact
use Rattle.yawlspar_c.proofs.yawlspar_tick.Reads as yawlspar-tick
use Rattle.yawlspar_c.proofs.yawlspar_version.Reads as yawlspar-version

pub protection_number_one : OneResult yawlspar-protection-number.Learnt
protection_number_one κ a x y s t p q = agree p q

pub protected_first_one : OneResult yawlspar-protected-first.Learnt
protected_first_one κ a x y s t p q = agree p q

pub protected_count_one : OneResult yawlspar-protected-count.Learnt
protected_count_one κ a x y s t p q = agree p q

pub protected_one : OneResult yawlspar-protected.Learnt
protected_one κ a x y s t p q = agree p q

pub page_place_one : OneResult yawlspar-page-place.Learnt
page_place_one κ a x y s t p q = agree p q

pub power_up_one : OneResult yawlspar-power-up.Learnt
power_up_one κ a x y s t p q = agree p.0 q.0

pub power_up_one_bytes : OneExit yawlspar-power-up.Learnt (λ κ s. s.0.now)
power_up_one_bytes κ a x y s t p q = agree p.1 q.1

pub transact_one : OneResult yawlspar-transact.Learnt
transact_one κ a x y s t p q = agree p.0 q.0

pub transact_one_bytes : OneExit yawlspar-transact.Learnt (λ κ s. s.0.now)
transact_one_bytes κ a x y s t p q = agree p.1.0 q.1.0

pub transact_one_output : OneExit yawlspar-transact.Learnt (λ κ s. s.1.1.1.1.1.0.now)
transact_one_output κ a x y s t p q = agree p.1.1 q.1.1

pub tick_one : OneResult yawlspar-tick.Learnt
tick_one κ a x y s t p q = agree p.0 q.0

pub tick_one_bytes : OneExit yawlspar-tick.Learnt (λ κ s. s.0.now)
tick_one_bytes κ a x y s t p q = agree p.1.0 q.1.0

pub tick_one_array : OneExit yawlspar-tick.Learnt (λ κ s. s.1.0.now)
tick_one_array κ a x y s t p q = agree p.1.1.0 q.1.1.0

pub tick_one_rows : OneExit yawlspar-tick.Learnt (λ κ s. s.1.1.0.now)
tick_one_rows κ a x y s t p q = agree p.1.1.1 q.1.1.1

pub version_one : OneResult yawlspar-version.Learnt
version_one κ a x y s t p q = agree p q
