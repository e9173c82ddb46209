-- `checker::image_refusal` meets its contract: no record held, and one whose size is judged.
use mathlib.Core.Path.{sym, ap, ◌∙◌}
use Rattle.words.specs.Logic.{◌or_else◌}
use Rattle.paper.specs.Numbers.{size_number}
use Rattle.paper.proofs.Refusals.{refuses, passes}
use Rattle.record_bytes.specs.declared.Found.{Found}
use Rattle.record_bytes.specs.Read.{record_in}
use Rattle.record_bytes.proofs.Back.{on_none, on_held_lem}
use Rattle.record_bytes.proofs.Told.{none_held, some_held}
use Rattle.checker.specs.InBytes.{image_refusal}
use Rattle.checker.proofs.image_refusal.Goals as goal

pub returns-in_default : goal.returns-in_default
unfolding image_refusal
returns-in_default c =
    let h = record_in c.args.bytes.now in
    sym (on_none h _ 38 (none_held h _ c.in_default.is c.read.ensures))

pub returns-in-Ok : goal.returns-in-Ok
unfolding image_refusal
returns-in-Ok c =
    let a = c.args in
    let h = record_in a.bytes.now in
    let x = some_held h _ _ c.in-Some.is c.read.ensures in
    sym (passes _ 38 c.in-Ok.ensures)
    ∙ ap (λ (f : Found). size_number f.part.blocks a.array or_else 38) x.1
    ∙ sym (on_held_lem h _ 38 x.0)

pub returns-in-Err : goal.returns-in-Err
unfolding image_refusal
returns-in-Err c =
    let a = c.args in
    let h = record_in a.bytes.now in
    let x = some_held h _ _ c.in-Some.is c.read.ensures in
    sym (refuses c.in-Err.refusal _ 38 c.in-Err.ensures)
    ∙ ap (λ (f : Found). size_number f.part.blocks a.array or_else 38) x.1
    ∙ sym (on_held_lem h _ 38 x.0)
