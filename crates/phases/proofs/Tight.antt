-- Two results that a contract of this crate allows are equal.
use Rattle.words.proofs.Allowed.{OneResult, agree}
use Rattle.phases.proofs.running.Reads as running
use Rattle.phases.proofs.halted.Reads as halted
use Rattle.phases.proofs.is_program.Reads as is-program
use Rattle.phases.proofs.is_erase.Reads as is-erase
use Rattle.phases.proofs.erase_halted.Reads as erase-halted
use Rattle.phases.proofs.is_busy.Reads as is-busy
use Rattle.phases.proofs.is_suspended.Reads as is-suspended
use Rattle.phases.proofs.is_idle.Reads as is-idle
use Rattle.phases.proofs.phase_of.Reads as phase-of
use Rattle.phases.proofs.running_in.Reads as running-in
use Rattle.phases.proofs.working_on.Reads as working-on
use Rattle.phases.proofs.rest_of.Reads as rest_of
use Rattle.phases.proofs.suspended_in.Reads as suspended-in
use Rattle.phases.proofs.resumed_in.Reads as resumed-in

pub running_one : OneResult running.Learnt
running_one κ a x y s t p q = agree p q

pub halted_one : OneResult halted.Learnt
halted_one κ a x y s t p q = agree p q

pub is_program_one : OneResult is-program.Learnt
is_program_one κ a x y s t p q = agree p q

pub is_erase_one : OneResult is-erase.Learnt
is_erase_one κ a x y s t p q = agree p q

pub erase_halted_one : OneResult erase-halted.Learnt
erase_halted_one κ a x y s t p q = agree p q

pub is_busy_one : OneResult is-busy.Learnt
is_busy_one κ a x y s t p q = agree p q

pub is_suspended_one : OneResult is-suspended.Learnt
is_suspended_one κ a x y s t p q = agree p q

pub is_idle_one : OneResult is-idle.Learnt
is_idle_one κ a x y s t p q = agree p q

pub phase_of_one : OneResult phase-of.Learnt
phase_of_one κ a x y s t p q = agree p q

pub running_in_one : OneResult running-in.Learnt
running_in_one κ a x y s t p q = agree p q

pub working_on_one : OneResult working-on.Learnt
working_on_one κ a x y s t p q = agree p q

pub rest_of_one : OneResult rest_of.Learnt
rest_of_one κ a x y s t p q = agree p q

pub suspended_in_one : OneResult suspended-in.Learnt
suspended_in_one κ a x y s t p q = agree p q

pub resumed_in_one : OneResult resumed-in.Learnt
resumed_in_one κ a x y s t p q = agree p q
