-- Two results that a contract of this crate allows are equal.
use Rattle.words.proofs.Allowed.{OneResult, OneExit, agree}
use Rattle.record_bytes.proofs.writing.write_idle.Reads as write-idle
use Rattle.record_bytes.proofs.writing.write_runs.Reads as write-runs
use Rattle.record_bytes.proofs.writing.write_change.Reads as write-change
use Rattle.record_bytes.proofs.reading.identity_in.Reads as identity-in
use Rattle.record_bytes.proofs.reading.read.Reads as read
use Rattle.record_bytes.proofs.reading.part_again.Reads as part-again
use Rattle.record_bytes.proofs.reading.phase_again.Reads as phase-again

pub write_idle_one : OneExit write-idle.Learnt (λ κ s. s.1.1.0.now)
write_idle_one κ a x y s t p q = agree p q

pub write_runs_one : OneExit write-runs.Learnt (λ κ s. s.1.1.1.1.0.now)
write_runs_one κ a x y s t p q = agree p q

pub write_change_one : OneExit write-change.Learnt (λ κ s. s.1.1.0.now)
write_change_one κ a x y s t p q = agree p q

pub identity_in_one : OneResult identity-in.Learnt
identity_in_one κ a x y s t p q = agree p q

pub read_one : OneResult read.Learnt
read_one κ a x y s t p q = agree p q

pub part_again_one : OneResult part-again.Learnt
part_again_one κ a x y s t p q = agree p q

pub phase_again_one : OneResult phase-again.Learnt
phase_again_one κ a x y s t p q = agree p q
