-- What is packed is the number, and the ticks that did work; and the records are kept with what they count.
use Rattle.std.proofs.Common.{length, ap, ◌∙◌}
use Rattle.counted.specs.declared.Counted.{Counted}
use Rattle.paper.specs.Wear.{worn}
use Rattle.record_bytes.specs.Read.{record_in}
use Rattle.yawlspar_wear.proofs.Face.{counted_answer}
use Rattle.yawlspar_wear.proofs.yawlspar_tick_wear.Goals as goal

pub returns-clause-answer : goal.returns-clause-answer
returns-clause-answer c =
    let a = c.args in
    c.pack.ensures
    ∙ counted_answer (record_in a.bytes.now) a.array.now a.rows.now a.count (length a.wear.now) c.tick-counted.result c.tick-counted.ensures.answer

pub returns-clause-wear : goal.returns-clause-wear
returns-clause-wear c =
    c.keep.ensures ∙ ap (λ (x : Counted). worn x.tally c.args.wear.now) c.tick-counted.ensures.answer
