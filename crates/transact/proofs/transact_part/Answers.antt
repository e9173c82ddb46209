-- `transact::transact_part` meets its contract: the refusal decides, then the decoding, then the command's number.
use Rattle.std.specs.Prelude.{None, Some}
use Rattle.paper.proofs.Numbers.{transaction_taken}
use Rattle.paper.proofs.Refusals.{refused}
use Rattle.paper.specs.Calls.{outcome_of, output_after}
use Rattle.paper.specs.Table.{decoded}
use borrow.Author.Tests.{eq-eqb}
use lib.ListN.{get_or}
use mathlib.Core.Path.{◌≡◌, sym, ap, ◌∙◌}
use Rattle.transact.proofs.transact_part.Goals as goal

pub returns-in-Err : goal.returns-in-Err
unfolding outcome_of output_after
returns-in-Err c =
    let n = c.in-Err.ensures in
    let z = refused c.in-Err.refusal in
    record { answer = rw (← n, z, c.number.ensures); output = rw (← n, z) }

pub returns-in_default-decoded : goal.returns-in_default-decoded
unfolding outcome_of output_after
returns-in_default-decoded c =
    let a = c.args in
    let i = a.input.now in
    let t = transaction_taken _ _ _ _ _ _ (sym c.in_default.ensures) in
    let d : decoded a.part.blocks a.part.bank (get_or i 0 0) ≡ None = ap (decoded a.part.blocks a.part.bank) (sym c.byte_at.ensures) ∙ sym c.decode-decoded.ensures ∙ c.in_default-decoded.is in
    let z = eq-eqb _ _ (sym c.in_default.ensures) in
    record { answer = rw (z, d) c.ignore.ensures.0; output = rw (z, d, ← t.same) c.ignore.ensures.1 }

pub answer_to-requires : goal.answer_to-requires
answer_to-requires c =
    let t = transaction_taken _ _ _ _ _ _ (sym c.in_default.ensures) in
    (t.known, t.size, t.rows, t.same)

pub returns : goal.returns
unfolding outcome_of output_after
returns c =
    let a = c.args in
    let i = a.input.now in
    let d : decoded a.part.blocks a.part.bank (get_or i 0 0) ≡ Some c.in-Some.command = ap (decoded a.part.blocks a.part.bank) (sym c.byte_at.ensures) ∙ sym c.decode-decoded.ensures ∙ c.in-Some.is in
    let z = eq-eqb _ _ (sym c.in_default.ensures) in
    record { answer = rw (z, d) c.answer_to.ensures.0; output = rw (z, d) c.answer_to.ensures.1 }
