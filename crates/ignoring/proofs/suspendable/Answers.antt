-- `ignoring::suspendable` meets its contract: each arm is a case of the definition.
use Rattle.words.proofs.Tests.{and_true, and_false}
use mathlib.Core.Path.{sym}
use Rattle.ignoring.proofs.suspendable.Goals as goal

pub returns-in-Idle : goal.returns-in-Idle
returns-in-Idle c = rw c.in-Idle.is (sym (and_true _))

pub returns-in-Busy : goal.returns-in-Busy
returns-in-Busy c = rw (c.in-Busy.is, and_true) c.can_suspend.ensures

pub returns-in-Suspended : goal.returns-in-Suspended
returns-in-Suspended c = rw c.in-Suspended.is (sym (and_false _))

pub returns-in-Nested : goal.returns-in-Nested
returns-in-Nested c = rw c.in-Nested.is (sym (and_false _))
