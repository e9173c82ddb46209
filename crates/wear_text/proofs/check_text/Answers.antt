-- `wear_text::check_text` meets its contract: it makes the three tests in the paper's order. A size that exists is at most 512 blocks, so no product is too large.
use Rattle.std.proofs.Common.{◌∙◌, arith}
use Rattle.std.proofs.Common.{sym}
use Rattle.std.proofs.lemmas.Grind.{common_steps}
use Rattle.words.proofs.Tests.{unless_zero}
use Rattle.paper.proofs.Sizes.{size_range}
use Rattle.paper.proofs.Refusals.{refuses, passes}
use Rattle.paper.specs.Numbers.{wear_number, output_number, wear_text_number}
use Rattle.wear_text.proofs.check_text.Goals as goal

pub overflow_mul-n : goal.overflow_mul-n
overflow_mul-n c = let s = size_range c.args.blocks (sym c.size_ok.ensures ∙ unless_zero _ 0 (sym c.in_ok-ensure.ensures)) in omega arith

pub overflow_mul-n-2 : goal.overflow_mul-n-2
overflow_mul-n-2 c = let s = size_range c.args.blocks (sym c.size_ok.ensures ∙ unless_zero _ 0 (sym c.in_ok-ensure.ensures)) in omega arith

pub overflow_add-n : goal.overflow_add-n
overflow_add-n c = let s = size_range c.args.blocks (sym c.size_ok.ensures ∙ unless_zero _ 0 (sym c.in_ok-ensure.ensures)) in omega arith

pub returns-in_err-ensure : goal.returns-in_err-ensure
unfolding wear_text_number
returns-in_err-ensure c = grind (arith, common_steps, refuses)

pub returns-in_err-ensure-2 : goal.returns-in_err-ensure-2
unfolding wear_text_number wear_number
returns-in_err-ensure-2 c = grind (arith, common_steps, refuses, passes)

pub returns : goal.returns
unfolding wear_text_number wear_number output_number
returns c = grind (arith, passes)
