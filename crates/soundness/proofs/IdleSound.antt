-- An idle part is sound where the tests hold that are not met by being idle.
use mathlib.Core.Path.{◌≡◌, sym}
use mathlib.Core.Bool.{Bool}
use Rattle.types.specs.declared.Phase.TheVariants.{Idle}
use Rattle.types.specs.declared.Part.{Part}
use Rattle.words.specs.Logic.{◌and◌, ◌or◌}
use Rattle.words.proofs.Tests.{and_assoc}
use Rattle.paper.specs.Sizes.{size_ok}
use Rattle.paper.specs.Soundness.{bits_ok, large_ok, part_sound}

pub idle_sound_as : (p : Part) (t : Bool)
    → (part_sound p Idle and t) ≡ (size_ok p.blocks and ((bits_ok Idle p.wel p.stored and large_ok p.blocks p.stored.function p.bank) and t))
unfolding part_sound ◌or◌ ◌and◌
idle_sound_as p t = sym (and_assoc (size_ok p.blocks) (bits_ok Idle p.wel p.stored and large_ok p.blocks p.stored.function p.bank) t)
