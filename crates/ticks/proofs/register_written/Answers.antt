-- `ticks::register_written` meets its contract: each arm is a clause of the definition, and an OR of two halves of a byte is one.
use Prim.Native.Nat.{◌/◌, ◌<◌}
use lib.Bits.{bit_or, or_lt}
use native.Mathlib.Omega.{arith}
use Rattle.ticks.proofs.register_written.Goals as goal

pub overflow_mul-function : goal.overflow_mul-function
overflow_mul-function c = let a = c.args in let h : bit_or (a.stored.function / 16) (a.value / 16) < 16 = or_lt 4 (a.stored.function / 16) (a.value / 16) (omega arith) (omega arith) in omega arith

pub overflow_add-function : goal.overflow_add-function
overflow_add-function c = let a = c.args in let h : bit_or (a.stored.function / 16) (a.value / 16) < 16 = or_lt 4 (a.stored.function / 16) (a.value / 16) (omega arith) (omega arith) in omega arith

pub returns-in-Status : goal.returns-in-Status
returns-in-Status c = rw c.in-Status.is

pub returns-in-Function : goal.returns-in-Function
returns-in-Function c = rw c.in-Function.is

pub returns-in-Extended : goal.returns-in-Extended
returns-in-Extended c = rw c.in-Extended.is
