-- A call that is refused leaves the record's bytes as they were: the record stays the same, whose bytes they are.
use Prim.Native.Nat.{ℕ}
use mathlib.Core.Path.{◌≡◌, refl, ◌∙◌}
use mathlib.Core.Bool.{Bool, true, false}
use mathlib.Core.List.{List}
use lib.Dec.{leb}
use lib.ListN.{length}
use borrow.Author.Tests.{ne_eqb}
use Rattle.words.specs.Logic.{◌and◌}
use Rattle.paper.specs.Soundness.{sound}
use Rattle.paper.specs.Numbers.{transaction_refusal, tick_number}
use Rattle.paper.specs.Calls.{outcome_of, ticked}
use Rattle.record_bytes.specs.Read.{record_in}
use Rattle.record_bytes.proofs.Back.{held_bytes, on_none, on_held_lem}
use Rattle.ticks.specs.InBytes.{tick_bytes}
use Rattle.yawlspar.specs.Face.{transact_bytes}

module _ (bs : List ℕ) where
  bytes_as : (t : Bool) (a r wp : ℕ) (i : List ℕ) (o : ℕ) → (record_in bs).ok ≡ t → (transaction_refusal (record_in bs).state.part.blocks (sound (record_in bs).state and leb wp 1) a r (length i) o ≡ 0 → ⊥) → transact_bytes (record_in bs) a r wp i o bs ≡ bs
  unfolding transact_bytes outcome_of
  bytes_as true a r wp i o e h = on_held_lem (record_in bs) _ bs e ∙ rw (ne_eqb _ _ h) (held_bytes bs e)
  bytes_as false a r wp i o e h = on_none (record_in bs) _ bs e

  -- a transaction that is refused with 1 to 5
  pub refused_bytes : (a r wp : ℕ) (i : List ℕ) (o : ℕ) → (transaction_refusal (record_in bs).state.part.blocks (sound (record_in bs).state and leb wp 1) a r (length i) o ≡ 0 → ⊥) → transact_bytes (record_in bs) a r wp i o bs ≡ bs
  refused_bytes a r wp i o h = bytes_as (record_in bs).ok a r wp i o refl h

  tick_bytes_as : (t : Bool) (a r n : ℕ) → (record_in bs).ok ≡ t → (tick_number (record_in bs).state.part.blocks (sound (record_in bs).state) a r n ≡ 0 → ⊥) → tick_bytes (record_in bs) a r n bs ≡ bs
  unfolding tick_bytes ticked
  tick_bytes_as true a r n e h = on_held_lem (record_in bs) _ bs e ∙ rw (ne_eqb _ _ h) (held_bytes bs e)
  tick_bytes_as false a r n e h = on_none (record_in bs) _ bs e

  -- ticks that are refused with 1, 2, 5 or 6
  pub refused_tick_bytes : (a r n : ℕ) → (tick_number (record_in bs).state.part.blocks (sound (record_in bs).state) a r n ≡ 0 → ⊥) → tick_bytes (record_in bs) a r n bs ≡ bs
  refused_tick_bytes a r n h = tick_bytes_as (record_in bs).ok a r n refl h
