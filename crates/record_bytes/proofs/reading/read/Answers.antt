-- `record_bytes::reading::read` meets its contract: bytes hold a record where the marks are marks and the cells are those of the operations that they are read as; of an idle part, of none.
use Prim.Native.Nat.{ℕ, ◌<◌}
use mathlib.Core.Path.{◌≡◌, sym, ap, ◌∙◌}
use mathlib.Core.List.{List}
use native.Mathlib.Omega.{arith}
use lib.ListN.{length, get_or}
use borrow.Author.Tests.{eqb-true, not-true, not-false}
use Rattle.types.specs.declared.Phase.TheVariants.{Idle}
use Rattle.words.proofs.Tests.{and_l, and_r}
use Rattle.paper.specs.Soundness.{sound_of}
use Rattle.record_bytes.specs.Layout.{record_length, running_at, halted_at}
use Rattle.record_bytes.specs.Read.{record_in, found}
use Rattle.record_bytes.proofs.Parts.{holds_not, unmarked, idle_held, idle_phase, idle_judged, lent_page, held_doing, doing_phase, found_some, found_none}
use Rattle.record_bytes.proofs.reading.read.Goals as goal

pub returns-in_err-bytes : goal.returns-in_err-bytes
returns-in_err-bytes c = c.from_residual.ensures ∙ found_none _ (holds_not _ c.in_err-bytes.ensures.cases)

pub returns-then-not-marks_in : goal.returns-then-not-marks_in
returns-then-not-marks_in c =
    let w = c.in_ok-bytes.ensures.cases in
    let ys = c.in_ok-bytes.bytes.now in
    let l : length ys ≡ record_length = ap length w.same ∙ w.long in
    let low : (j : ℕ) → get_or ys j 0 < 256 = λ j. rw w.same (omega (arith, c.type_inv.bytes j)) in
    found_none ys (unmarked ys l low (sym c.marks_in.ensures ∙ c.if-not-marks_in.true)) ∙ ap (λ (x : List ℕ). found (record_in x)) w.same

pub returns-then-not-both : goal.returns-then-not-both
returns-then-not-both c =
    let w = c.in_ok-bytes.ensures.cases in
    let ys = c.in_ok-bytes.bytes.now in
    let l : length ys ≡ record_length = ap length w.same ∙ w.long in
    let low : (j : ℕ) → get_or ys j 0 < 256 = λ j. rw w.same (omega (arith, c.type_inv.bytes j)) in
    let m = sym c.marks_in.ensures ∙ c.if-not-marks_in.false in
    let t = sym c.rests.ensures ∙ c.if-rests.true in
    let r = eqb-true (get_or ys running_at 0) 0 (and_l _ _ t) in
    let h = eqb-true (get_or ys halted_at 0) 0 (and_r _ _ t) in
    let i = idle_held ys l low m r h c.running_in.result c.halted_in.result c.running_in.ensures c.halted_in.ensures c.is_none-running.result c.is_none-halted.result c.is_none-running.ensures c.is_none-halted.ensures ∙ sym c.both.ensures in
    found_none ys (i ∙ c.if-not-both.true) ∙ ap (λ (x : List ℕ). found (record_in x)) w.same

pub returns-then-rests : goal.returns-then-rests
returns-then-rests c =
    let w = c.in_ok-bytes.ensures.cases in
    let ys = c.in_ok-bytes.bytes.now in
    let l : length ys ≡ record_length = ap length w.same ∙ w.long in
    let low : (j : ℕ) → get_or ys j 0 < 256 = λ j. rw w.same (omega (arith, c.type_inv.bytes j)) in
    let m = sym c.marks_in.ensures ∙ c.if-not-marks_in.false in
    let t = sym c.rests.ensures ∙ c.if-rests.true in
    let r = eqb-true (get_or ys running_at 0) 0 (and_l _ _ t) in
    let h = eqb-true (get_or ys halted_at 0) 0 (and_r _ _ t) in
    let i = idle_held ys l low m r h c.running_in.result c.halted_in.result c.running_in.ensures c.halted_in.ensures c.is_none-running.result c.is_none-halted.result c.is_none-running.ensures c.is_none-halted.ensures ∙ sym c.both.ensures in
    let s = idle_judged _ _ _ _ _ (lent_page ys l low) c.zero_from-empty.ensures c.is_sound_idle-sound.ensures in
    found_some ys _ Idle _ (i ∙ c.if-not-both.false) c.part_in-part.ensures (idle_phase ys l low r h) s ∙ ap (λ (x : List ℕ). found (record_in x)) w.same

pub returns-then-not-doing : goal.returns-then-not-doing
returns-then-not-doing c =
    let w = c.in_ok-bytes.ensures.cases in
    let ys = c.in_ok-bytes.bytes.now in
    let l : length ys ≡ record_length = ap length w.same ∙ w.long in
    let low : (j : ℕ) → get_or ys j 0 < 256 = λ j. rw w.same (omega (arith, c.type_inv.bytes j)) in
    let m = sym c.marks_in.ensures ∙ c.if-not-marks_in.false in
    let d = c.doing_in-doing in
    found_none ys (held_doing ys l low m d.result d.ensures ∙ not-true _ c.if-not-doing.true) ∙ ap (λ (x : List ℕ). found (record_in x)) w.same

pub returns : goal.returns
returns c =
    let w = c.in_ok-bytes.ensures.cases in
    let ys = c.in_ok-bytes.bytes.now in
    let l : length ys ≡ record_length = ap length w.same ∙ w.long in
    let low : (j : ℕ) → get_or ys j 0 < 256 = λ j. rw w.same (omega (arith, c.type_inv.bytes j)) in
    let m = sym c.marks_in.ensures ∙ c.if-not-marks_in.false in
    let d = c.doing_in-doing in
    let e = held_doing ys l low m d.result d.ensures ∙ not-false _ c.if-not-doing.false in
    found_some ys _ _ _ e c.part_in-part-2.ensures (doing_phase ys l low d.result d.ensures) (c.is_sound_of-sound.ensures ∙ ap (sound_of _ _) (lent_page ys l low)) ∙ ap (λ (x : List ℕ). found (record_in x)) w.same
