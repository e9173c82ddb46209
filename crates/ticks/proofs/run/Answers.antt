-- `ticks::run` meets its contract: a part on which nothing runs is left as it is.
use Rattle.types.specs.declared.Operation.{Operation}
use Rattle.std.specs.Prelude.{None, Option, Some}
use Rattle.ticks.proofs.OneMemory.{same_waited}
use Rattle.ticks.specs.Waited.{ticks_reached, memory_reached, tick_change}
use Rattle.paper.specs.Phases.{running}
use Rattle.types.specs.declared.Memory.TheVariants.{Array, Rows}
use lib.ListN.{length}
use mathlib.Core.Path.{◌≡◌, sym, ap, ◌∙◌}
use Rattle.ticks.proofs.run.Goals as goal

pub returns-in-None : goal.returns-in-None
returns-in-None c =
    let a = c.args in
    let e : None ≡ running a.phase = sym (sym c.running-running.ensures ∙ c.in-None.is) in
    (same_waited _ _ _ _ (ap (λ (w : Option Operation). tick_change a.ticks w a.part a.phase) e) (ap (λ (w : Option Operation). ticks_reached a.ticks w a.part.blocks) e), ap (λ (w : Option Operation). memory_reached Array a.ticks w a.part.blocks a.page.now (length a.array.now) (length a.rows.now) a.array.now) e, ap (λ (w : Option Operation). memory_reached Rows a.ticks w a.part.blocks a.page.now (length a.array.now) (length a.rows.now) a.rows.now) e)

pub returns-in-Some : goal.returns-in-Some
returns-in-Some c =
    let a = c.args in
    let e : running a.phase ≡ Some c.in-Some.op = sym c.running-running.ensures ∙ c.in-Some.is in
    let w = c.work.ensures in
    (w.0 ∙ rw e, w.1 ∙ rw e, w.2 ∙ rw e)
