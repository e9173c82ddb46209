-- Two results that a contract of this crate allows are equal.
use Rattle.words.proofs.Allowed.{OneResult, agree}
use Rattle.cells.proofs.cells_of.Reads as Cells-of
use Rattle.cells.proofs.operation_in.Reads as operation-in
use Rattle.cells.proofs.is_own.Reads as is-own

pub cells_of_one : OneResult Cells-of.Learnt
cells_of_one κ a x y s t p q = agree p q

pub operation_in_one : OneResult operation-in.Learnt
operation_in_one κ a x y s t p q = agree p q

pub is_own_one : OneResult is-own.Learnt
is_own_one κ a x y s t p q = agree p q
