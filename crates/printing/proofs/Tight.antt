-- Two results that a contract of this crate allows are equal: the place after what was printed, and what is left in the output.
use Rattle.words.proofs.Allowed.{OneResult, OneExit}
use Rattle.printing.proofs.Text.{one_output, one_place}
use Rattle.printing.proofs.put_answer.Reads as put-answer
use Rattle.printing.proofs.put_ticks.Reads as put-ticks
use Rattle.printing.proofs.put_other.Reads as put_other
use Rattle.printing.proofs.put_wear.Reads as put-wear
use Rattle.printing.proofs.put_sums.Reads as put-sums

pub put_answer_one : OneResult put-answer.Learnt
put_answer_one κ a x y s t p q = one_place p q

pub put_answer_one_output : OneExit put-answer.Learnt (λ κ s. s.0.now)
put_answer_one_output κ a x y s t p q = one_output p q

pub put_ticks_one : OneResult put-ticks.Learnt
put_ticks_one κ a x y s t p q = one_place p q

pub put_ticks_one_output : OneExit put-ticks.Learnt (λ κ s. s.0.now)
put_ticks_one_output κ a x y s t p q = one_output p q

pub put_other_one : OneResult put_other.Learnt
put_other_one κ a x y s t p q = one_place p q

pub put_other_one_output : OneExit put_other.Learnt (λ κ s. s.0.now)
put_other_one_output κ a x y s t p q = one_output p q

pub put_wear_one : OneResult put-wear.Learnt
put_wear_one κ a x y s t p q = one_place p q

pub put_wear_one_output : OneExit put-wear.Learnt (λ κ s. s.0.now)
put_wear_one_output κ a x y s t p q = one_output p q

pub put_sums_one : OneResult put-sums.Learnt
put_sums_one κ a x y s t p q = one_place p q

pub put_sums_one_output : OneExit put-sums.Learnt (λ κ s. s.0.now)
put_sums_one_output κ a x y s t p q = one_output p q
