-- `bench_lines::run_line` meets its contract, for each thing that a line can say.
use Rattle.paper.specs.Board.{board_of}
use Rattle.bench_lines.proofs.Course.{line_room, sent_board}
use mathlib.Core.Path.{refl, sym, ◌∙◌}
use Rattle.bench_lines.proofs.run_line.Goals as goal

pub overflow_sub-n : goal.overflow_sub-n
overflow_sub-n c =
    let s = c in
    (line_room c.args.most c.args.line.now c.args.sent.now c.args.back.now _ (sym c.line_of-said.ensures ∙ c.in-Transaction.is) c.requires.0 c.requires.1).0

pub slice_bounds-send-end : goal.slice_bounds-send-end
slice_bounds-send-end c =
    let s = c in
    (line_room c.args.most c.args.line.now c.args.sent.now c.args.back.now _ (sym c.line_of-said.ensures ∙ c.in-Transaction.is) c.requires.0 c.requires.1).1

pub slice_bounds-send-end-in-Transaction : goal.slice_bounds-send-end-in-Transaction
slice_bounds-send-end-in-Transaction c =
    let s = c in
    (line_room c.args.most c.args.line.now c.args.sent.now c.args.back.now _ (sym c.line_of-said.ensures ∙ c.in-Transaction.is) c.requires.0 c.requires.1).2

pub send-requires : goal.send-requires
send-requires c =
    let s = c in
    let r = line_room c.args.most c.args.line.now c.args.sent.now c.args.back.now _ (sym c.line_of-said.ensures ∙ c.in-Transaction.is) c.requires.0 c.requires.1 in
    (r.3, r.4)

pub returns-in-Transaction : goal.returns-in-Transaction
returns-in-Transaction c =
    let a = c.args in
    let e = sym c.line_of-said.ensures ∙ c.in-Transaction.is in
    rw e (record { after = sent_board (board_of a.state a.array.now a.rows.now) _ _ _ c.send.ensures.next; output = c.send.ensures.output })

pub returns-in-Ticks : goal.returns-in-Ticks
returns-in-Ticks c =
    let e = sym c.line_of-said.ensures ∙ c.in-Ticks.is in
    rw e c.wait.ensures

pub returns-in-Neither : goal.returns-in-Neither
returns-in-Neither c =
    let e = sym c.line_of-said.ensures ∙ c.in-Neither.is in
    rw e (record { after = refl; output = c.put_other-printed.ensures })
