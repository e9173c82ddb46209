-- `script::check` meets its contract: no record held, and one whose size is judged first.
use Rattle.std.proofs.Common.{◌≡◌, ℕ, Bool, leb, length, sym, ap, ◌∙◌, arith}
use Rattle.std.proofs.lemmas.Grind.{common_steps}
use Rattle.words.specs.Logic.{◌and◌, ◌or_else◌}
use Rattle.paper.specs.Refusals.{number_of}
use Rattle.paper.specs.Numbers.{size_number, later_script_refusal}
use Rattle.paper.proofs.Refusals.{refuses, passes}
use Rattle.record_bytes.specs.Read.{record_in}
use Rattle.record_bytes.proofs.Told.{none_held, some_held}
use Rattle.script.specs.Steps.{script_in}
use Rattle.script.proofs.InBytes.{unread_refusal, read_refusal}
use Rattle.script.proofs.check.Goals as goal

pub returns-in_default : goal.returns-in_default
returns-in_default c =
    let a = c.args in
    let h = record_in a.bytes.now in
    unread_refusal h a.script.wp (script_in a.script) a.array a.rows a.output a.answers a.done (none_held h _ c.in_default.is c.read.ensures) _ c.check_later.ensures

pub returns-in_err-check_size : goal.returns-in_err-check_size
returns-in_err-check_size c =
    let a = c.args in
    let h = record_in a.bytes.now in
    let s = a.script in
    let f = some_held h _ _ c.in-Some.is c.read.ensures in
    let k : number_of c.from_residual.result ≡ (size_number c.in-Some.found.part.blocks a.array or_else later_script_refusal (c.in-Some.found.sound and leb s.wp 1) a.rows s.lengths.now (length s.ticks.now) a.answers a.done (length s.input.now) a.output) = grind (arith, common_steps, refuses) in
    read_refusal h s.wp (script_in s) a.array a.rows a.output a.answers a.done f.0 _ f.1 _ k

pub returns : goal.returns
returns c =
    let a = c.args in
    let h = record_in a.bytes.now in
    let s = a.script in
    let f = some_held h _ _ c.in-Some.is c.read.ensures in
    let later : Bool → ℕ = λ t. later_script_refusal t a.rows s.lengths.now (length s.ticks.now) a.answers a.done (length s.input.now) a.output in
    read_refusal h s.wp (script_in s) a.array a.rows a.output a.answers a.done f.0 _ f.1 _ (c.check_later-2.ensures ∙ ap later c.both-sound.ensures ∙ sym (passes _ _ c.in_ok-check_size.ensures))
