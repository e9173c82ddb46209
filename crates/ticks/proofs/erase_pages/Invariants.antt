use Rattle.std.proofs.Common.{◌≡◌}
use Rattle.ticks.specs.OneMemory.{pages_erased}
use Rattle.ticks.proofs.erase_pages.Given as goal

abbrev pub invariant-loop-i : goal.invariant-loop-i
invariant-loop-i l = l.memory ≡ pages_erased l.i l.from l.initial.memory
