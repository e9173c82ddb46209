-- `bench_lines::bench` meets its contract: on memory of other lengths it does nothing, else it is `on_part` on what is read.
use Rattle.bench_lines.proofs.Course.{bench_read}
use Rattle.bench_lines.proofs.Lent.{lent_lengths}
use Rattle.printing.proofs.Text.{prints_empty}
use Rattle.paper.specs.Bench.{input_limit}
use Prim.Native.Nat.{min}
use lib.ListN.{length}
use mathlib.Core.Path.{◌≡◌, refl, sym, ◌∙◌}
use borrow.Author.Tests.{eq-eqb}
use Rattle.paper.proofs.Refusals.{refused}
use native.Mathlib.Omega.{arith}
use Rattle.bench_lines.proofs.bench.Goals as goal

pub returns-in-Err : goal.returns-in-Err
returns-in-Err c =
    let n = c.in-Err.ensures in
    let z = refused c.in-Err.refusal in
    record { answer = c.number-number.ensures ∙ n; array = rw (← n, z); rows = rw (← n, z); output = rw (← n, z) (prints_empty _ 0 (omega arith)) }

pub on_part-printed-requires : goal.on_part-printed-requires
on_part-printed-requires c =
    let e = lent_lengths _ _ (sym c.in_default.ensures) in
    (e.0, e.1, omega arith)

pub returns : goal.returns
returns c =
    let input = c.args.input.now in
    let z = eq-eqb _ _ (sym c.in_default.ensures) in
    let k : c.min-end.result ≡ min input_limit (length input) = omega (arith, c.min-end.ensures) in
    let g = c.on_part-printed.ensures in
    let l = bench_read _ input _ _ _ _ _ (c.min-end.result) k refl (g.array, (g.rows, g.output)) in
    record { answer = c.in_default.ensures; array = rw z l.0; rows = rw z l.1.0; output = rw z l.1.1 }
