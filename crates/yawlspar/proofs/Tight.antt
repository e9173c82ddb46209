-- Two results that a contract of this crate allows are equal: the answer, and of the calls the record's bytes and each other lent byte.
use Rattle.words.proofs.Allowed.{OneResult, OneExit, agree}
use Rattle.yawlspar.proofs.numbers.yawlspar_protection_number.Reads as yawlspar-protection-number
use Rattle.yawlspar.proofs.numbers.yawlspar_protected_first.Reads as yawlspar-protected-first
use Rattle.yawlspar.proofs.numbers.yawlspar_protected_count.Reads as yawlspar-protected-count
use Rattle.yawlspar.proofs.numbers.yawlspar_protected.Reads as yawlspar-protected
use Rattle.yawlspar.proofs.numbers.yawlspar_page_place.Reads as yawlspar-page-place
use Rattle.yawlspar.proofs.pack.Reads as pack
use Rattle.yawlspar.proofs.yawlspar_power_up.Reads as yawlspar-power-up
use Rattle.yawlspar.proofs.yawlspar_transact.Reads as yawlspar-transact
use Rattle.yawlspar.proofs.yawlspar_tick.Reads as yawlspar-tick
use Rattle.yawlspar.proofs.yawlspar_version.Reads as yawlspar-version

pub protection-number-one : OneResult yawlspar-protection-number.Learnt
protection-number-one κ a x y s t p q = agree p q

pub protected-first-one : OneResult yawlspar-protected-first.Learnt
protected-first-one κ a x y s t p q = agree p q

pub protected-count-one : OneResult yawlspar-protected-count.Learnt
protected-count-one κ a x y s t p q = agree p q

pub protected-one : OneResult yawlspar-protected.Learnt
protected-one κ a x y s t p q = agree p q

pub page-place-one : OneResult yawlspar-page-place.Learnt
page-place-one κ a x y s t p q = agree p q

pub pack_one : OneResult pack.Learnt
pack_one κ a x y s t p q = agree p q

pub power-up-one : OneResult yawlspar-power-up.Learnt
power-up-one κ a x y s t p q = agree p.0 q.0

pub power-up-one-bytes : OneExit yawlspar-power-up.Learnt (λ κ s. s.0.now)
power-up-one-bytes κ a x y s t p q = agree p.1 q.1

pub transact-one : OneResult yawlspar-transact.Learnt
transact-one κ a x y s t p q = agree p.0 q.0

pub transact-one-bytes : OneExit yawlspar-transact.Learnt (λ κ s. s.0.now)
transact-one-bytes κ a x y s t p q = agree p.1.0 q.1.0

pub transact-one-output : OneExit yawlspar-transact.Learnt (λ κ s. s.1.1.1.1.1.0.now)
transact-one-output κ a x y s t p q = agree p.1.1 q.1.1

pub tick-one : OneResult yawlspar-tick.Learnt
tick-one κ a x y s t p q = agree p.0 q.0

pub tick-one-bytes : OneExit yawlspar-tick.Learnt (λ κ s. s.0.now)
tick-one-bytes κ a x y s t p q = agree p.1.0 q.1.0

pub tick-one-array : OneExit yawlspar-tick.Learnt (λ κ s. s.1.0.now)
tick-one-array κ a x y s t p q = agree p.1.1.0 q.1.1.0

pub tick-one-rows : OneExit yawlspar-tick.Learnt (λ κ s. s.1.1.0.now)
tick-one-rows κ a x y s t p q = agree p.1.1.1 q.1.1.1

pub version-one : OneResult yawlspar-version.Learnt
version-one κ a x y s t p q = agree p q
