-- Two results that a contract of this crate allows are equal.
use Rattle.words.proofs.Allowed.{OneResult, agree}
use Rattle.soundness.proofs.is_sound_idle.Reads as is-sound-idle
use Rattle.soundness.proofs.is_sound_of.Reads as is-sound-of
use Rattle.soundness.proofs.is_sound.Reads as is_sound

pub is_sound_idle_one : OneResult is-sound-idle.Learnt
is_sound_idle_one κ a x y s t p q = agree p q

pub is_sound_of_one : OneResult is-sound-of.Learnt
is_sound_of_one κ a x y s t p q = agree p q

pub is_sound_one : OneResult is_sound.Learnt
is_sound_one κ a x y s t p q = agree p q
