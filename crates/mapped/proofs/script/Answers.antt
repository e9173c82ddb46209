-- `mapped::script` meets its contract: a map of another length leaves all as it was, and else the plain script is run and the map is kept.
use Prim.Native.Nat.{ℕ}
use mathlib.Core.Path.{refl, sym, ap, ◌∙◌}
use borrow.Author.Tests.{eqb-false}
use Rattle.paper.proofs.Refusals.{refused}
use Rattle.beside.specs.Beside.{board_bytes}
use Rattle.beside.proofs.Told.{same_bytes}
use Rattle.paper.specs.Map.{MapScripted}
use Rattle.record_bytes.specs.Read.{record_in}
use Rattle.script.specs.InBytes.{script_of, ran_of}
use Rattle.mapped.proofs.InBytes.{refused_script, passed_script}
use Rattle.mapped.proofs.script.Goals as goal

pub returns-in-Err : goal.returns-in-Err
returns-in-Err c =
    let a = c.args in
    let bs = a.bytes.now in
    let xs = a.array.now in
    let rs = a.rows.now in
    let e = c.in-Err in
    let stop = eqb-false _ _ (refused e.refusal) in
    let g = sym (refused_script bs xs rs a.map.now _ e.ensures stop a.wp (script_of a.wp a.input.now a.lengths.now a.ticks.now) a.output.now a.answers.now a.done.now) in
    record { answer = ap (λ (n : ℕ). record { number = n; step = 0 }) c.number.ensures ∙ ap (λ (w : MapScripted). ran_of w.run) g; bytes = same_bytes bs xs rs ∙ ap (λ (w : MapScripted). board_bytes (record_in bs) w.run.board bs) g; array = ap (λ (w : MapScripted). w.run.board.array) g; rows = ap (λ (w : MapScripted). w.run.board.rows) g; output = ap (λ (w : MapScripted). w.run.output) g; answers = ap (λ (w : MapScripted). w.run.answers) g; done = ap (λ (w : MapScripted). w.run.done) g; map = ap (λ (w : MapScripted). w.map) g }

pub returns : goal.returns
returns c =
    let a = c.args in
    let bs = a.bytes.now in
    let w = c.run.ensures in
    let g = sym (passed_script bs a.array.now a.rows.now a.map.now _ c.in_default.ensures refl a.wp (script_of a.wp a.input.now a.lengths.now a.ticks.now) a.output.now a.answers.now a.done.now) in
    record { answer = w.answer ∙ ap (λ (v : MapScripted). ran_of v.run) g; bytes = w.bytes ∙ ap (λ (v : MapScripted). board_bytes (record_in bs) v.run.board bs) g; array = w.array ∙ ap (λ (v : MapScripted). v.run.board.array) g; rows = w.rows ∙ ap (λ (v : MapScripted). v.run.board.rows) g; output = w.output ∙ ap (λ (v : MapScripted). v.run.output) g; answers = w.answers ∙ ap (λ (v : MapScripted). v.run.answers) g; done = w.done ∙ ap (λ (v : MapScripted). v.run.done) g; map = w.map ∙ ap (λ (v : MapScripted). v.map) g }
