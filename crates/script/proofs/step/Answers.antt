-- `script::step` meets its contract: a transaction that stops the script ends it, none run where none are asked, and else the ticks are run.
use mathlib.Core.Path.{sym, ◌∙◌}
use Rattle.script.proofs.OneStep.{sent_ready, sent_identity, stopped_made, stopped_marks, stopped_wears, ran_made, ran_marks, ran_wears, ran_ready, ran_identity, ran_done, none_made, none_marks, none_wears}
use native.Mathlib.Omega.{arith}
use Rattle.script.proofs.step.Goals as goal

pub returns-then-stop-ne0 : goal.returns-then-stop-ne0
returns-then-stop-ne0 c = let s = c in
    let a = c.args in
    let p = c.part_again-part in
    let f = c.phase_again-phase in
    let u = c.transact_part-sent in
    let written = c.write_change.ensures in
    record { made = stopped_made a.bytes.now a.array.now a.rows.now c.requires.0 p.result f.result p.ensures f.ensures a.identity c.requires.1 a.wp a.input.now a.ticks a.output.now u.result u.ensures.answer _ _ written u.ensures.output _ c.stopping-stop.ensures c.if-stop-ne0.true; ready = (sent_ready a.bytes.now a.array.now a.rows.now c.requires.0 p.result f.result p.ensures f.ensures a.identity c.requires.1 a.wp a.input.now a.ticks a.output.now u.result u.ensures.answer _ _ written u.ensures.output, sent_identity a.bytes.now a.array.now a.rows.now c.requires.0 p.result f.result p.ensures f.ensures a.identity c.requires.1 a.wp a.input.now a.ticks a.output.now u.result u.ensures.answer _ _ written u.ensures.output, omega arith); marks = stopped_marks a.bytes.now a.array.now a.rows.now c.requires.0 p.result f.result p.ensures f.ensures a.identity c.requires.1 a.wp a.input.now a.ticks a.output.now u.result u.ensures.answer _ _ written u.ensures.output _ c.stopping-stop.ensures c.if-stop-ne0.true; wears = stopped_wears a.bytes.now a.array.now a.rows.now c.requires.0 p.result f.result p.ensures f.ensures a.identity c.requires.1 a.wp a.input.now a.ticks a.output.now u.result u.ensures.answer _ _ written u.ensures.output _ c.stopping-stop.ensures c.if-stop-ne0.true }

pub returns-then-ticks-eq0 : goal.returns-then-ticks-eq0
returns-then-ticks-eq0 c = let s = c in
    let a = c.args in
    let p = c.part_again-part in
    let f = c.phase_again-phase in
    let u = c.transact_part-sent in
    let written = c.write_change.ensures in
    let go = sym c.stopping-stop.ensures ∙ c.if-stop-ne0.false in
    record { made = none_made a.bytes.now a.array.now a.rows.now c.requires.0 p.result f.result p.ensures f.ensures a.identity c.requires.1 a.wp a.input.now a.ticks a.output.now u.result u.ensures.answer _ _ written u.ensures.output go c.if-ticks-eq0.true; ready = (sent_ready a.bytes.now a.array.now a.rows.now c.requires.0 p.result f.result p.ensures f.ensures a.identity c.requires.1 a.wp a.input.now a.ticks a.output.now u.result u.ensures.answer _ _ written u.ensures.output, sent_identity a.bytes.now a.array.now a.rows.now c.requires.0 p.result f.result p.ensures f.ensures a.identity c.requires.1 a.wp a.input.now a.ticks a.output.now u.result u.ensures.answer _ _ written u.ensures.output, omega arith); marks = none_marks a.bytes.now a.array.now a.rows.now c.requires.0 p.result f.result p.ensures f.ensures a.identity c.requires.1 a.wp a.input.now a.ticks a.output.now u.result u.ensures.answer _ _ written u.ensures.output go c.if-ticks-eq0.true; wears = none_wears a.bytes.now a.array.now a.rows.now c.requires.0 p.result f.result p.ensures f.ensures a.identity c.requires.1 a.wp a.input.now a.ticks a.output.now u.result u.ensures.answer _ _ written u.ensures.output go c.if-ticks-eq0.true }

pub wait-waited-requires : goal.wait-waited-requires
wait-waited-requires c = let s = c in
    let a = c.args in
    let p = c.part_again-part in
    let f = c.phase_again-phase in
    let u = c.transact_part-sent in
    let written = c.write_change.ensures in
    sent_ready a.bytes.now a.array.now a.rows.now c.requires.0 p.result f.result p.ensures f.ensures a.identity c.requires.1 a.wp a.input.now a.ticks a.output.now u.result u.ensures.answer _ _ written u.ensures.output

pub returns : goal.returns
returns c = let s = c in
    let a = c.args in
    let p = c.part_again-part in
    let f = c.phase_again-phase in
    let u = c.transact_part-sent in
    let written = c.write_change.ensures in
    let go = sym c.stopping-stop.ensures ∙ c.if-stop-ne0.false in
    let w = c.wait-waited in
    record { made = ran_made a.bytes.now a.array.now a.rows.now c.requires.0 p.result f.result p.ensures f.ensures a.identity c.requires.1 a.wp a.input.now a.ticks a.output.now u.result u.ensures.answer _ _ written u.ensures.output go w.result _ _ _ w.ensures.waits w.ensures.held w.ensures.array w.ensures.rows; ready = (ran_ready a.bytes.now a.array.now a.rows.now c.requires.0 p.result f.result p.ensures f.ensures a.identity c.requires.1 a.wp a.input.now a.ticks a.output.now u.result u.ensures.answer _ _ written u.ensures.output go w.result _ _ _ w.ensures.waits w.ensures.held w.ensures.array w.ensures.rows, ran_identity a.bytes.now a.array.now a.rows.now c.requires.0 p.result f.result p.ensures f.ensures a.identity c.requires.1 a.wp a.input.now a.ticks a.output.now u.result u.ensures.answer _ _ written u.ensures.output go w.result _ _ _ w.ensures.waits w.ensures.held w.ensures.array w.ensures.rows, ran_done a.bytes.now a.array.now a.rows.now c.requires.0 p.result f.result p.ensures f.ensures a.identity c.requires.1 a.wp a.input.now a.ticks a.output.now u.result u.ensures.answer _ _ written u.ensures.output go w.result _ _ _ w.ensures.waits w.ensures.held w.ensures.array w.ensures.rows); marks = ran_marks a.bytes.now a.array.now a.rows.now c.requires.0 p.result f.result p.ensures f.ensures a.identity c.requires.1 a.wp a.input.now a.ticks a.output.now u.result u.ensures.answer _ _ written u.ensures.output go w.result _ _ _ w.ensures.waits w.ensures.held w.ensures.array w.ensures.rows; wears = ran_wears a.bytes.now a.array.now a.rows.now c.requires.0 p.result f.result p.ensures f.ensures a.identity c.requires.1 a.wp a.input.now a.ticks a.output.now u.result u.ensures.answer _ _ written u.ensures.output go w.result _ _ _ w.ensures.waits w.ensures.held w.ensures.array w.ensures.rows }
