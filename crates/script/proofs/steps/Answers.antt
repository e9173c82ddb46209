-- `script::steps` meets its contract: after k turns k steps are made, and a script that has stopped makes no more.
use mathlib.Core.Path.{ap, ◌∙◌}
use Rattle.types.specs.declared.Tally.{Tally}
use Rattle.paper.specs.Wear.{worn}
use Rattle.script.proofs.OneByOne.{Kept, stopped_at}
use Rattle.script.proofs.steps.Goals as goal

pub returns-then-state-ne0 : goal.returns-then-state-ne0
returns-then-state-ne0 c =
    let l = c.loop-k in
    let t = c.turn-turned in
    let map = c.keep.ensures ∙ t.ensures.marks _ in
    let wear = c.keep-in-loop-k.ensures ∙ ap (λ (y : Tally). worn y l.wear) c.tally-tally.ensures ∙ t.ensures.wears _ in
    let all = stopped_at l.invariant c.loop-k-test.true t.result.state _ _ _ _ _ _ _ _ t.ensures.stepped map wear c.if-state-ne0.true in
    record { made = ap (λ (v : Kept). v.run) all; held = t.ensures.ready.0.ok; map = ap (λ (v : Kept). v.map) all; wear = ap (λ (v : Kept). v.wear) all }
