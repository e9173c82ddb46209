-- `soundness::is_sound_idle` meets its contract: the tests that are left where the phase is idle.
use Rattle.soundness.proofs.IdleSound.{idle_sound_as}
use mathlib.Core.Path.{sym}
use Rattle.soundness.proofs.is_sound_idle.Goals as goal

pub returns : goal.returns
returns c =
    let a = c.args in
    rw (c.both-2.ensures, c.both.ensures, c.registers_ok-registers.ensures, c.size_ok-size.ensures) (sym (idle_sound_as a.part a.empty))
