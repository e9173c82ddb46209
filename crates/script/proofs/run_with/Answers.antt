-- `script::run_with` meets its contract: a script that is refused, and one whose steps are made.
use mathlib.Core.Path.{◌≡◌, refl, sym, ap, ◌∙◌}
use borrow.Author.Tests.{eqb-false}
use Rattle.paper.proofs.Refusals.{refused}
use Rattle.record_bytes.proofs.Back.{held_identity}
use Rattle.script.specs.declared.Ran.{Ran}
use Rattle.script.specs.Steps.{script_in}
use Rattle.script.specs.InBytes.{refused_by, left_as}
use Rattle.script.proofs.InBytes.{number, refused_given, refused_left, refused_map, refused_wear, is_held, begins_fit, begins_ready, ran_given, ran_left, ran_map, ran_wear}
use Rattle.script.proofs.run_with.Goals as goal

pub returns-in-Err : goal.returns-in-Err
returns-in-Err c =
    let a = c.args in
    let stop : number a.bytes.now a.script.wp (script_in a.script) a.array.now a.rows.now a.output.now a.answers.now a.done.now ≡ 0 → ⊥ = λ z. eqb-false _ _ (refused c.in-Err.refusal) (c.in-Err.ensures ∙ z) in
    record {
      run =
          ap (λ (r : Ran). left_as r a.bytes.now a.array.now a.rows.now a.output.now a.answers.now a.done.now) (c.refused.ensures ∙ ap refused_by c.in-Err.ensures)
          ∙ sym (refused_given a.bytes.now a.script.wp (script_in a.script) a.array.now a.rows.now a.output.now a.answers.now a.done.now stop);
      bytes = refused_left a.bytes.now a.script.wp (script_in a.script) a.array.now a.rows.now a.output.now a.answers.now a.done.now stop;
      map = refused_map a.bytes.now a.script.wp (script_in a.script) a.array.now a.rows.now a.output.now a.answers.now a.done.now stop a.map.now;
      wear = refused_wear a.bytes.now a.script.wp (script_in a.script) a.array.now a.rows.now a.output.now a.answers.now a.done.now stop a.wear.now;
    }

pub steps-end-requires : goal.steps-end-requires
steps-end-requires c =
    let a = c.args in
    let z = sym c.in_default.ensures in
    record {
      fit = begins_fit a.bytes.now a.script.wp (script_in a.script) a.array.now a.rows.now a.output.now a.answers.now a.done.now z;
      ready = (begins_ready a.bytes.now a.script.wp (script_in a.script) a.array.now a.rows.now a.output.now a.answers.now a.done.now z, c.identity_in-identity.ensures ∙ held_identity a.bytes.now (is_held a.bytes.now a.script.wp (script_in a.script) a.array.now a.rows.now a.output.now a.answers.now a.done.now z));
    }

pub returns : goal.returns
returns c =
    let a = c.args in
    let z = sym c.in_default.ensures in
    let t = c.steps-end.ensures in
    let given = ran_given a.bytes.now a.script.wp (script_in a.script) a.array.now a.rows.now a.output.now a.answers.now a.done.now z _ t.made in
    record {
      run = given;
      bytes = ran_left a.bytes.now a.script.wp (script_in a.script) a.array.now a.rows.now a.output.now a.answers.now a.done.now z _ _ given refl t.held;
      map = ran_map a.bytes.now a.script.wp (script_in a.script) a.array.now a.rows.now a.output.now a.answers.now a.done.now z a.map.now _ t.map;
      wear = ran_wear a.bytes.now a.script.wp (script_in a.script) a.array.now a.rows.now a.output.now a.answers.now a.done.now z a.wear.now _ t.wear;
    }
