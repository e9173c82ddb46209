-- `script::run_wear` meets its contract: another number of records than sectors leaves all as it was, and else the script is run and they are kept.
use mathlib.Core.Path.{◌≡◌, refl, sym, ap, ◌∙◌}
use borrow.Author.Tests.{eqb-false}
use Rattle.paper.specs.Wear.{WearScripted}
use Rattle.paper.specs.Refusals.{number}
use Rattle.paper.proofs.Refusals.{refused}
use Rattle.beside.proofs.Told.{same_bytes}
use Rattle.record_bytes.specs.Read.{record_in}
use Rattle.script.specs.InBytes.{script_of, script_bytes}
use Rattle.script.proofs.InBytes.{gives}
use Rattle.script.proofs.WearInBytes.{refused_wear_script, passed_wear_script}
use Rattle.script.proofs.run_wear.Goals as goal

pub returns-in-Err : goal.returns-in-Err
returns-in-Err c =
    let a = c.args in
    let bs = a.bytes.now in
    let stop : number c.in-Err.unfit ≡ 0 → ⊥ = eqb-false _ _ (refused c.in-Err.unfit) in
    let e = sym (refused_wear_script a.bytes.now a.wp (script_of a.wp a.input.now a.lengths.now a.ticks.now) a.array.now a.rows.now a.output.now a.answers.now a.done.now a.wear.now _ c.in-Err.ensures stop) in
    let g = gives _ _ (ap (λ (w : WearScripted). w.run) e) in
    record { answer = c.refused.ensures ∙ g.answer; bytes = same_bytes bs a.array.now a.rows.now ∙ ap (λ (w : WearScripted). script_bytes (record_in bs) w.run bs) e; array = g.array; rows = g.rows; output = g.output; answers = g.answers; done = g.done; wear = ap (λ (w : WearScripted). w.wear) e }

pub returns : goal.returns
returns c =
    let a = c.args in
    let bs = a.bytes.now in
    let t = c.run_with.ensures in
    let e = sym (passed_wear_script a.bytes.now a.wp (script_of a.wp a.input.now a.lengths.now a.ticks.now) a.array.now a.rows.now a.output.now a.answers.now a.done.now a.wear.now _ c.in_default.ensures refl) in
    let g = gives _ _ (t.run ∙ ap (λ (w : WearScripted). w.run) e) in
    record { answer = g.answer; bytes = t.bytes ∙ ap (λ (w : WearScripted). script_bytes (record_in bs) w.run bs) e; array = g.array; rows = g.rows; output = g.output; answers = g.answers; done = g.done; wear = t.wear ∙ ap (λ (w : WearScripted). w.wear) e }
