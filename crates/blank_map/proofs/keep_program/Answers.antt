-- `blank_map::keep_program` meets its contract: one page of the array, if a tick did work; rows have no bit.
use Prim.Native.Nat.{◌/◌}
use mathlib.Core.Path.{refl, sym, ◌∙◌}
use Rattle.paper.specs.Map.{blank_page}
use Rattle.blank_map.proofs.Marks.{one_put, none_put}
use Rattle.blank_map.proofs.Memories.{array_is}
use Rattle.blank_map.proofs.keep_program.Goals as goal
use Rattle.blank_map.proofs.keep_program.Goals.{else-eq-via-then-eq+else-count-gt0, else-eq-via-else-eq}

pub returns-then-count-gt0 : goal.returns-then-count-gt0
returns-then-count-gt0 c =
    let a = c.args in
    rw (← array_is a.memory c.eq.ensures, c.if-eq.true) (c.look_again.ensures ∙ sym (one_put a.count (a.base / 256) (blank_page a.array.now) a.map.now c.if-count-gt0.true))

pub returns-else-eq : goal.returns-else-eq
returns-else-eq c =
    let a = c.args in
    elim c.else-eq.branch [
      | else-eq-via-then-eq+else-count-gt0 w ↦ rw (← array_is a.memory c.eq.ensures, w.if-eq.true) (sym (none_put a.count (a.base / 256) (blank_page a.array.now) a.map.now w.if-count-gt0.false))
      | else-eq-via-else-eq w ↦ rw (← array_is a.memory c.eq.ensures, w.if-eq.false) refl
    ]
