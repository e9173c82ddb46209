-- `bench_lines::on_part` meets its contract: the part is powered up on memory of FFh, and the lines are run.
use Rattle.types.specs.declared.Stored.{Stored}
use Rattle.paper.specs.Calls.{powered_up}
use Rattle.paper.specs.Bench.{bench_identity}
use Rattle.bench_lines.proofs.Course.{bench_board_lem}
use Rattle.paper.specs.Board.{Board}
use Rattle.paper.specs.Reads.{undriven}
use mathlib.Core.Path.{ap, ◌∙◌}
use Rattle.bench_lines.proofs.on_part.Goals as goal

pub run-ran-requires : goal.run-ran-requires
run-ran-requires c = c.requires.2

pub returns : goal.returns
returns c =
    let s = c in
    let up = c.power_up-powered in
    let n = ap (λ (g : Stored). powered_up c.args.blocks bench_identity g) c.no_stored-stored.ensures in
    let xs = c.blank.ensures ∙ ap undriven c.requires.0 in
    let rs = c.blank-2.ensures ∙ ap undriven c.requires.1 in
    let e = bench_board_lem c.args.blocks up.result _ _ (up.ensures ∙ n) xs rs in
    let g = rw e at c.run-ran.ensures in
    record { array = ap (λ (d : Board). d.array) g.after; rows = ap (λ (d : Board). d.rows) g.after; output = g.output }
