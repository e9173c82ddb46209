use Rattle.script.specs.Steps.{script_in, world}
use Rattle.script.proofs.OneByOne.{Along}
use Rattle.script.proofs.steps.Given as goal

abbrev pub invariant-loop-k : goal.invariant-loop-k
invariant-loop-k l =
    Along l.identity (script_in l.fn.script) l.k (record { run = world (record { number = 0; step = 0; at = 0 }) l.fn.bytes l.fn.array l.fn.rows l.fn.output l.fn.answers l.fn.done; map = l.fn.map; wear = l.fn.wear }) l.state l.bytes l.array l.rows l.output l.answers l.done l.map l.wear
