-- `script::turn` meets its contract: the step lies within the buffers, and what it gives is put at its places.
use Prim.Native.Nat.{ℕ, ◌+◌, ◌-◌}
use lib.ListN.{get_or}
use native.Mathlib.Numerals.{add-one}
use mathlib.Core.Path.{ap, ◌∙◌}
use mathlib.Core.List.{List}
use Rattle.paper.specs.History.{Call}
use Rattle.paper.specs.Map.{map_after_calls}
use Rattle.paper.specs.Wear.{wear_after_calls}
use Rattle.script.specs.Steps.{script_in, world}
use Rattle.script.proofs.OneByOne.{end_within, turn_is, calls_are}
use native.Mathlib.Omega.{arith}
use Rattle.script.proofs.turn.Goals as goal

pub overflow_add-end : goal.overflow_add-end
overflow_add-end c = omega (arith, end_within _ _ _ _ _ _ c.requires.fit c.requires.k_in_bounds.0 c.requires.k_in_bounds.1)

pub slice_bounds-step-end : goal.slice_bounds-step-end
slice_bounds-step-end c = omega (arith, end_within _ _ _ _ _ _ c.requires.fit c.requires.k_in_bounds.0 c.requires.k_in_bounds.1)

pub slice_bounds-step-end-2 : goal.slice_bounds-step-end-2
slice_bounds-step-end-2 c = omega (arith, end_within _ _ _ _ _ _ c.requires.fit c.requires.k_in_bounds.0 c.requires.k_in_bounds.1, c.requires.fit.output)

pub returns : goal.returns
returns c = let a = c.args in
    let t = c.step-stepped.ensures in
    let at = c.requires.k_in_bounds.1 in
    let script = script_in a.script in
    let w = world a.state a.bytes.now a.array.now a.rows.now a.output.now a.answers.now a.done.now in
    let n = a.state.at + get_or a.script.lengths.now a.k 0 - a.state.at in
    let calls = calls_are script a.k w a.state.at n at (omega arith) in
    record { stepped = turn_is script a.k w a.state.at n _ _ at (omega arith) t.made c.step_after.ensures; at = rw add-one (ap (λ (x : ℕ). x + get_or a.script.lengths.now a.k 0) at); ready = (t.ready.0, t.ready.1); marks = (λ m. t.marks m ∙ ap (λ (cs : List Call). map_after_calls cs w.board m) calls); wears = (λ ws. t.wears ws ∙ ap (λ (cs : List Call). wear_after_calls cs w.board ws) calls) }
