-- `lines::all_hex` meets its contract. The loop's invariant: what was looked at and what is left passes the test where all does.
use Rattle.std.proofs.Common.{sym, ◌∙◌, add-one, arith}
use Rattle.paper.specs.Bench.{is_hex}
use Rattle.lines.proofs.Characters.{every_all, every_start, every_more, every_end}
use Rattle.lines.proofs.all_hex.Goals as goal

pub loop-x-init : goal.loop-x-init
loop-x-init c = every_start is_hex c.args.text.now

pub loop-x-preserved : goal.loop-x-preserved
loop-x-preserved c =
    let l = c.loop-x in
    rw (c.both-all.ensures, c.is_hex.ensures, add-one) (sym (every_more is_hex c.args.text.now l.all l.x-index c.loop-x-test.true) ∙ l.invariant)

pub returns : goal.returns
returns c =
    let l = c.loop-x in
    let a = c.args.text.now in
    sym (every_end is_hex a l.all l.x-index (omega arith)) ∙ l.invariant ∙ sym (every_all is_hex a)
