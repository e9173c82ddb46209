use Rattle.std.proofs.Common.{◌≡◌}
use Rattle.ticks.specs.OneMemory.{bytes_narrowed}
use Rattle.ticks.proofs.narrow_page.Given as goal

abbrev pub invariant-loop-i : goal.invariant-loop-i
invariant-loop-i l = l.page ≡ bytes_narrowed l.i 0 l.start l.done l.kept l.initial.page
