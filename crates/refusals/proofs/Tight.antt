-- Two results that a contract of this crate allows are equal.
use Rattle.words.proofs.Allowed.{OneResult, agree}
use Rattle.paper.proofs.Refusals.{same_refusal}
use Rattle.refusals.proofs.number.Reads as number
use Rattle.refusals.proofs.number_of.Reads as number-of
use Rattle.refusals.proofs.ensure.Reads as ensure
use Rattle.refusals.proofs.check_size.Reads as check-size
use Rattle.refusals.proofs.check_rows.Reads as check-rows
use Rattle.refusals.proofs.check_later.Reads as check-later
use Rattle.refusals.proofs.check_transaction.Reads as check-transaction
use Rattle.refusals.proofs.check_ticks.Reads as check-ticks

pub number_one : OneResult number.Learnt
number_one κ a x y s t p q = agree p q

pub number_of_one : OneResult number-of.Learnt
number_of_one κ a x y s t p q = agree p q

pub ensure_one : OneResult ensure.Learnt
ensure_one κ a x y s t p q = same_refusal p q

pub check_size_one : OneResult check-size.Learnt
check_size_one κ a x y s t p q = same_refusal p q

pub check_rows_one : OneResult check-rows.Learnt
check_rows_one κ a x y s t p q = same_refusal p q

pub check_later_one : OneResult check-later.Learnt
check_later_one κ a x y s t p q = same_refusal p q

pub check_transaction_one : OneResult check-transaction.Learnt
check_transaction_one κ a x y s t p q = same_refusal p q

pub check_ticks_one : OneResult check-ticks.Learnt
check_ticks_one κ a x y s t p q = same_refusal p q
