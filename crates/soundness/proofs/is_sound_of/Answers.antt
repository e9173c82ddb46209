-- `soundness::is_sound_of` meets its contract: part and phase are asked all, and then page data.
use Rattle.paper.specs.Soundness.{part_sound, page_ok, sound_of}
use Rattle.soundness.proofs.is_sound_of.Goals as goal

pub returns : goal.returns
unfolding sound_of part_sound page_ok
returns c = rw (c.both-4.ensures, c.zero_from-zero_after.ensures, c.kept_in.ensures, c.both-part_sound.ensures, c.both-3.ensures, c.both-2.ensures, c.both.ensures, c.registers_ok-registers.ensures, c.phase_ok-operation.ensures, c.latch_ok-latch.ensures, c.either-rested.ensures, c.is_idle.ensures, c.size_ok-size.ensures)
