-- A line ends at the first LF, or where there is none, with the text.
use Rattle.std.proofs.Common.{ℕ, ◌+◌, ◌-◌, length, drop, sym, ap, ◌∙◌, arith, length-drop}
use lib.Seq.{take_all}
use lib.ListN.{drop_of_length-le}
use Rattle.paper.specs.Bench.{LF}
use Rattle.bench_lines.proofs.Course.{index_found, index_none}
use Rattle.bench_lines.proofs.first_line.Goals as goal

pub returns-in-Some-clause-line : goal.returns-in-Some-clause-line
returns-in-Some-clause-line c = rw (index_found LF c.args.text.now _ (sym c.line_end.ensures ∙ c.in-Some.is))

pub returns-in-Some-clause-rest : goal.returns-in-Some-clause-rest
returns-in-Some-clause-rest c =
    let text = c.args.text.now in
    let e = index_found LF text _ (sym c.line_end.ensures ∙ c.in-Some.is) in
    take_all (length text - (c.in-Some.end + 1)) (drop (c.in-Some.end + 1) text) (simp length-drop (omega arith)) ∙ ap (λ (k : ℕ). drop (k + 1) text) e

pub returns-in-None-clause-line : goal.returns-in-None-clause-line
returns-in-None-clause-line c =
    let text = c.args.text.now in
    sym (take_all _ text (index_none LF text (sym c.line_end.ensures ∙ c.in-None.is)))

pub returns-in-None-clause-rest : goal.returns-in-None-clause-rest
returns-in-None-clause-rest c =
    let text = c.args.text.now in
    let h = index_none LF text (sym c.line_end.ensures ∙ c.in-None.is) in
    sym (drop_of_length-le text (omega arith))
