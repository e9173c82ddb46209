-- Two results that a contract of this crate allows are equal.
use Rattle.words.proofs.Allowed.{OneResult}
use Rattle.paper.proofs.Refusals.{same_refusal}
use Rattle.ignoring.proofs.check_command.Reads as check-command

pub check_command_one : OneResult check-command.Learnt
check_command_one κ a x y s t p q = same_refusal p q
