-- `bench_lines::send` meets its contract: the call is made with the bytes of the pairs and a buffer of FFh, and its answer is printed.
use Rattle.bench_lines.proofs.Course.{sent_pairs, sent_as_lem}
use Rattle.paper.specs.Bench.{pairs}
use Rattle.types.specs.declared.Answer.{Answer}
use mathlib.Core.Path.{ap}
use native.Mathlib.Omega.{arith}
use lib.ListN.{drop}
use Rattle.bench_lines.proofs.send.Goals as goal

pub returns : goal.returns
returns c =
    let s = c in
    let a = c.args in
    let r = sent_as_lem a.state a.array.now a.rows.now a.wp (pairs (drop 2 a.line.now)) c.bytes_of.new.bytes a.back.now c.blank.new.bytes c.transact-answer.new.output c.transact-answer.result (sent_pairs a.line.now a.sent.now _ c.requires.0 c.bytes_of.ensures) (omega arith) c.blank.ensures c.transact-answer.ensures.answer c.transact-answer.ensures.output in
    record { next = ap (λ (x : Answer). x.next) r.0; output = rw (← r.0, ← r.1) c.put_answer-printed.ensures }
