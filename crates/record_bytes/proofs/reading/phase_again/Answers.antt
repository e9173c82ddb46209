-- `record_bytes::reading::phase_again` meets its contract: where both kinds are 0 the part is idle; else the cells say what it does.
use Prim.Native.Nat.{ℕ, ◌<◌}
use mathlib.Core.Path.{◌≡◌, sym, ap, ◌∙◌}
use native.Mathlib.Omega.{arith}
use lib.ListN.{length, get_or}
use borrow.Author.Tests.{eq-eqb, ne_eqb, eqb-true}
use Rattle.words.proofs.Tests.{and_l, and_r}
use Rattle.record_bytes.specs.Layout.{record_length, running_at, halted_at}
use Rattle.record_bytes.specs.Read.{phase_in, phase_again}
use Rattle.record_bytes.proofs.Parts.{idle_phase, doing_phase}
use Rattle.record_bytes.proofs.reading.phase_again.Goals as goal

pub returns-in_default : goal.returns-in_default
unfolding phase_again
returns-in_default c = rw (ne_eqb _ _ c.in_default.ensures.cases)

pub returns-then-not-rests : goal.returns-then-not-rests
unfolding phase_again
returns-then-not-rests c =
    let w = c.in-Some.ensures.cases in
    let ys = c.in-Some.bytes.now in
    let l : length ys ≡ record_length = ap length w.same ∙ w.long in
    let low : (j : ℕ) → get_or ys j 0 < 256 = λ j. rw w.same (omega (arith, c.type_inv.bytes j)) in
    rw (eq-eqb _ _ w.long) (doing_phase ys l low c.doing_in.result c.doing_in.ensures ∙ ap phase_in w.same)

pub returns : goal.returns
unfolding phase_again
returns c =
    let w = c.in-Some.ensures.cases in
    let ys = c.in-Some.bytes.now in
    let l : length ys ≡ record_length = ap length w.same ∙ w.long in
    let low : (j : ℕ) → get_or ys j 0 < 256 = λ j. rw w.same (omega (arith, c.type_inv.bytes j)) in
    let t = sym c.rests.ensures ∙ c.if-not-rests.false in
    let r = eqb-true (get_or ys running_at 0) 0 (and_l _ _ t) in
    let h = eqb-true (get_or ys halted_at 0) 0 (and_r _ _ t) in
    rw (eq-eqb _ _ w.long) (idle_phase ys l low r h ∙ ap phase_in w.same)
