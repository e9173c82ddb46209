-- Two results that a contract of this crate allows are equal.
use Rattle.words.proofs.Allowed.{OneResult, agree}
use Rattle.operations.proofs.ticks_in_all.Reads as ticks-in-all
use Rattle.operations.proofs.ticks_done.Reads as ticks-done
use Rattle.operations.proofs.kept_by.Reads as kept_by
use Rattle.operations.proofs.can_suspend.Reads as can-suspend
use Rattle.operations.proofs.held_byte.Reads as held-byte
use Rattle.operations.proofs.target_free.Reads as target_free
use Rattle.operations.proofs.outside_of.Reads as Outside-of
use Rattle.operations.proofs.operation_ok.Reads as operation-ok

pub ticks_in_all_one : OneResult ticks-in-all.Learnt
ticks_in_all_one κ a x y s t p q = agree p q

pub ticks_done_one : OneResult ticks-done.Learnt
ticks_done_one κ a x y s t p q = agree p q

pub kept_by_one : OneResult kept_by.Learnt
kept_by_one κ a x y s t p q = agree p q

pub can_suspend_one : OneResult can-suspend.Learnt
can_suspend_one κ a x y s t p q = agree p q

pub held_byte_one : OneResult held-byte.Learnt
held_byte_one κ a x y s t p q = agree p q

pub target_free_one : OneResult target_free.Learnt
target_free_one κ a x y s t p q = agree p q

pub outside_of_one : OneResult Outside-of.Learnt
outside_of_one κ a x y s t p q = agree p q

pub operation_ok_one : OneResult operation-ok.Learnt
operation_ok_one κ a x y s t p q = agree p q
