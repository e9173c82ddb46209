-- What an idle, awake part answers to a command that begins an operation: with WEL 1 it executes it where its length and its address are right, its target is free, and no pin bars it.
use Rattle.std.specs.Prelude.{Option, Some}
use Prim.Native.Nat.{ℕ}
use mathlib.Core.Path.{◌≡◌}
use mathlib.Core.Bool.{Bool, true, false, not}
use mathlib.Core.List.{List}
use lib.ListN.{length}
use Rattle.types.specs.declared.Operation.{Operation}
use Rattle.types.specs.declared.Phase.TheVariants.{Idle}
use Rattle.types.specs.declared.Addressing.{Addressing}
use Rattle.types.specs.declared.Columns.{Columns}
use Rattle.types.specs.declared.Part.{Part}
use Rattle.words.specs.Logic.{◌and◌, ◌or◌, unless, ◌or_else◌}
use Rattle.words.proofs.Tests.{or_true}
use Rattle.paper.specs.Operations.{target_free}
use Rattle.paper.specs.Table.{length_ok, taken_asleep, taken_busy, taken_suspended}
use Rattle.paper.specs.Numbers.{state_ok, address_ok, write_ok, command_number}

pub at_rest_number : (k : Columns) (g : Addressing) (o : Operation) (p : Part) (i : List ℕ) (wp : Bool) → p.asleep ≡ false → p.wel ≡ true
    → length_ok k.length (length i) ≡ true → state_ok k.wanted p Idle ≡ true → address_ok k.named g i ≡ true → target_free o p.blocks p.stored ≡ true → write_ok o p.stored wp ≡ true
    → command_number k g (Some o) p Idle i wp ≡ 0
unfolding command_number ◌and◌ unless ◌or_else◌
at_rest_number k g o p i wp a w l s d f q =
    rw (s, f, q, a, w, l, d, or_true (taken_asleep k.taken), or_true (taken_busy k.taken), or_true (taken_suspended k.taken false), or_true (not k.wel))

-- with WEL 0 it ignores one that needs WEL, with 26
pub not_enabled_number : (k : Columns) (g : Addressing) (w : Option Operation) (p : Part) (i : List ℕ) (wp : Bool) → p.asleep ≡ false → p.wel ≡ false → k.wel ≡ true
    → length_ok k.length (length i) ≡ true → state_ok k.wanted p Idle ≡ true → command_number k g w p Idle i wp ≡ 26
unfolding command_number ◌or◌ unless ◌or_else◌
not_enabled_number k g w p i wp a off needs l s =
    rw (s, a, off, needs, l, or_true (taken_asleep k.taken), or_true (taken_busy k.taken), or_true (taken_suspended k.taken false))
