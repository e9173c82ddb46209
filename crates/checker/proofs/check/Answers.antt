-- `checker::check` meets its contract: an image of another length, a script that is refused, and one that runs.
use mathlib.Core.Path.{sym, ap, ◌∙◌}
use Rattle.types.specs.declared.Verdict.TheVariants.{Refused}
use Rattle.script.specs.InBytes.{script_of}
use Rattle.checker.proofs.InBytes.{image_verdict, image_left, same_left, refused_verdict, run_ended, run_verdict}
use Rattle.checker.proofs.check.Goals as goal

pub returns-then-image-array : goal.returns-then-image-array
returns-then-image-array c =
    let a = c.args in
    let s = script_of a.wp a.input.now a.lengths.now a.ticks.now in
    let h = c.if-image-array.true in
    let g = image_left a.bytes.now a.wp s a.array.now a.rows.now a.output.now a.answers.now a.done.now a.image.now h in
    record { verdict = ap Refused (c.number.ensures ∙ c.image_refusal-refusal.ensures) ∙ image_verdict a.bytes.now a.wp s a.array.now a.rows.now a.output.now a.answers.now a.done.now a.image.now h; bytes = g.bytes; array = g.array; rows = g.rows; output = g.output; answers = g.answers; done = g.done }

pub returns-then-not-has_run : goal.returns-then-not-has_run
returns-then-not-has_run c =
    let a = c.args in
    let s = script_of a.wp a.input.now a.lengths.now a.ticks.now in
    let e = c.if-image-array.false in
    let w = c.run-ran in
    let f = sym c.has_run.ensures ∙ c.if-not-has_run.true in
    let q = w.ensures in
    let g = same_left a.bytes.now a.wp s a.array.now a.rows.now a.output.now a.answers.now a.done.now a.image.now e _ _ _ _ _ _ (record { bytes = q.bytes; array = q.array; rows = q.rows; output = q.output; answers = q.answers; done = q.done }) in
    record { verdict = refused_verdict a.bytes.now a.wp s a.array.now a.rows.now a.output.now a.answers.now a.done.now a.image.now e w.result w.ensures.answer f; bytes = g.bytes; array = g.array; rows = g.rows; output = g.output; answers = g.answers; done = g.done }

pub verdict_on-requires : goal.verdict_on-requires
verdict_on-requires c =
    let a = c.args in
    let s = script_of a.wp a.input.now a.lengths.now a.ticks.now in
    let e = c.if-image-array.false in
    let w = c.run-ran in
    let t = sym c.has_run.ensures ∙ c.if-not-has_run.false in
    run_ended a.bytes.now a.wp s a.array.now a.rows.now a.output.now a.answers.now a.done.now a.image.now e w.result w.ensures.answer t _ _ _ w.ensures.bytes w.ensures.array w.ensures.answers

pub returns : goal.returns
returns c =
    let a = c.args in
    let s = script_of a.wp a.input.now a.lengths.now a.ticks.now in
    let e = c.if-image-array.false in
    let w = c.run-ran in
    let t = sym c.has_run.ensures ∙ c.if-not-has_run.false in
    let q = w.ensures in
    let g = same_left a.bytes.now a.wp s a.array.now a.rows.now a.output.now a.answers.now a.done.now a.image.now e _ _ _ _ _ _ (record { bytes = q.bytes; array = q.array; rows = q.rows; output = q.output; answers = q.answers; done = q.done }) in
    record { verdict = c.verdict_on.ensures ∙ run_verdict a.bytes.now a.wp s a.array.now a.rows.now a.output.now a.answers.now a.done.now a.image.now e w.result w.ensures.answer t _ _ _ w.ensures.bytes w.ensures.array w.ensures.answers; bytes = g.bytes; array = g.array; rows = g.rows; output = g.output; answers = g.answers; done = g.done }
