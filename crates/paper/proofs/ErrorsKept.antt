-- The error bits of the extended read register: a call sets one only by a transaction that answers 28, and one that is set stays, or all three are cleared.
use Rattle.types.specs.declared.Command.{Command}
use Rattle.types.specs.declared.Operation.{Operation}
use Rattle.std.specs.Prelude.{None, Option, Some}
use Prim.Native.Nat.{ℕ, ◌/◌, ◌%◌}
use mathlib.Core.Path.{◌≡◌, refl}
use mathlib.Core.Bool.{Bool, true, false, cond}
use mathlib.Core.List.{List}
use mathlib.Core.Logic.{◌⊎◌, inl, inr}
use native.Mathlib.Omega.{arith}
use lib.ListN.{get_or}
use lib.Dec.{eqb}
use borrow.Author.Tests.{eqb-true}
use Rattle.types.specs.declared.Effect.{Effect}
use Rattle.types.specs.declared.Effect.TheVariants.{Looks, Enables, Disables, Programs, Erases, Writes, Suspends, Resumes, Sleeps, Wakes, Arms, Resets, SetsLive, ClearsErrors, SetsBank, SetsFar}
use Rattle.types.specs.declared.Data.{Data}
use Rattle.types.specs.declared.Data.TheVariants.{Kept, Sent}
use Rattle.types.specs.declared.Addressing.{Addressing}
use Rattle.types.specs.declared.Change.TheVariants.{Marked}
use Rattle.types.specs.declared.Outcome.{Outcome}
use Rattle.types.specs.declared.Part.{Part}
use Rattle.types.specs.declared.Record.{Record}
use Rattle.paper.specs.Registers.{live_set, live_failed}
use Rattle.paper.specs.Soundness.{sound}
use Rattle.paper.specs.Table.{columns, addressing_on}
use Rattle.paper.specs.Commands.{changed, begun, starts, change_by, errors_of, change_barred, change_ignored}
use Rattle.paper.specs.Calls.{transacted, ticked}
use Rattle.paper.proofs.Extended.{cleared_bits, loaded_bits, or_bit}
use Rattle.paper.proofs.Kept.{run_keeps}
use Rattle.paper.proofs.TransactionKept.{any_outcome}
use Rattle.paper.proofs.CallKept.{after_tick_call}

-- what becomes of a live byte in a transaction that answers a number: it is as it was; 83h set bits 7..5; 82h or a reset left no error bit; or, with 28, error bits of a command were set
pub data LiveAfter : ℕ → ℕ → ℕ → Type 0 where
  as_it_was : {live number after : ℕ} → after ≡ live → LiveAfter live number after
  set_to : {live number after : ℕ} (b : ℕ) → after ≡ live_set b live → LiveAfter live number after
  cleared : {live number after : ℕ} → after % 32 ≡ 0 → LiveAfter live number after
  failed : {live number after : ℕ} (e : Effect) → number ≡ 28 → after ≡ live_failed (errors_of e) live → LiveAfter live number after

module _ (p : Record) (i : List ℕ) where
  abbrev live_by : Outcome → Type 0
  live_by u = LiveAfter p.part.live u.number (changed u.change i p).part.live

  starts_live : (w : Option Operation) (d : Data) → LiveAfter p.part.live 0 (changed (starts w p.part p.phase d) i p).part.live
  starts_live None d = as_it_was refl
  starts_live (Some o) d = as_it_was refl

  effect_live : (e : Effect) (a : Addressing) (w : Option Operation) → LiveAfter p.part.live 0 (changed (change_by e a w p.part p.phase i) i p).part.live
  effect_live Looks a w = as_it_was refl
  effect_live Enables a w = as_it_was refl
  effect_live Disables a w = as_it_was refl
  effect_live (Programs m) a w = starts_live w (Sent a)
  effect_live (Erases u) a w = starts_live w Kept
  effect_live (Writes r) a w = starts_live w Kept
  effect_live Suspends a w = as_it_was refl
  effect_live Resumes a w = as_it_was refl
  effect_live Sleeps a w = as_it_was refl
  effect_live Wakes a w = as_it_was refl
  effect_live Arms a w = as_it_was refl
  effect_live Resets a w = cleared (loaded_bits p.part.stored).1
  effect_live SetsLive a w = set_to (get_or i 1 0) refl
  effect_live ClearsErrors a w = cleared (cleared_bits p.part.live).1
  effect_live SetsBank a w = as_it_was refl
  effect_live (SetsFar far) a w = as_it_was refl

  barred_live : (e : Effect) (n : ℕ) (t : Bool) → eqb n 28 ≡ t → LiveAfter p.part.live n (changed (cond t (change_barred e p.part) (Marked false)) i p).part.live
  barred_live e n true h = failed e (eqb-true _ _ h) refl
  barred_live e n false h = as_it_was refl

  ignored_live : (d : Option Command) (n : ℕ) → LiveAfter p.part.live n (changed (change_ignored d n p.part) i p).part.live
  ignored_live (Some k) n = barred_live (columns k).effect n (eqb n 28) refl
  ignored_live None n = as_it_was refl

  -- after every transaction, refused, ignored or executed
  pub transaction_live : (a r : ℕ) (wp : Bool) (o : ℕ) → LiveAfter p.part.live (transacted p a r wp i o).number (transacted p a r wp i o).next.part.live
  unfolding transacted
  transaction_live a r wp o =
      any_outcome live_by p.part p.phase wp i (λ n. as_it_was refl) ignored_live
      (λ k c e. effect_live (columns k).effect (addressing_on (columns k) p.part) (begun (columns k) p.part i)) (sound p) a r o

-- ticks leave it, an 85h's too
pub ticks_live : (n : ℕ) (p : Record) (a r : ℕ) → (ticked p a r n).next.part.live ≡ p.part.live
ticks_live n p = after_tick_call (λ (q : Record). q.part.live ≡ p.part.live) p n refl (run_keeps (λ (q : Part). q.live) (λ q g h wel. refl) n p)

-- E_ERR, P_ERR and PROT_E that are set in one live byte are set in another
pub record Stay (live after : ℕ) : Type 0 where
  pub e_err : live / 8 % 2 ≡ 1 → after / 8 % 2 ≡ 1
  pub p_err : live / 4 % 2 ≡ 1 → after / 4 % 2 ≡ 1
  pub prot_e : live / 2 % 2 ≡ 1 → after / 2 % 2 ≡ 1

-- they add up and stay, or all three are cleared
pub errors_stay : {live number after : ℕ} → LiveAfter live number after → Stay live after ⊎ (after % 32 ≡ 0)
errors_stay (as_it_was e) =
    inl (record { e_err = λ h. omega (arith, e, h); p_err = λ h. omega (arith, e, h); prot_e = λ h. omega (arith, e, h) })
errors_stay (set_to b e) =
    inl (record { e_err = λ h. omega (arith, e, h); p_err = λ h. omega (arith, e, h); prot_e = λ h. omega (arith, e, h) })
errors_stay (cleared e) = inr e
errors_stay {live} (failed c n e) =
    inl (record { e_err = λ h. omega (arith, e, or_bit live (errors_of c) 3, h); p_err = λ h. omega (arith, e, or_bit live (errors_of c) 2, h); prot_e = λ h. omega (arith, e, or_bit live (errors_of c) 1, h) })

-- and with no 28 none is set that was not
pub errors_set : {live number after : ℕ} → LiveAfter live number after → (number ≡ 28 → ⊥) → Stay after live
errors_set (as_it_was e) n =
    record { e_err = λ h. omega (arith, e, h); p_err = λ h. omega (arith, e, h); prot_e = λ h. omega (arith, e, h) }
errors_set (set_to b e) n =
    record { e_err = λ h. omega (arith, e, h); p_err = λ h. omega (arith, e, h); prot_e = λ h. omega (arith, e, h) }
errors_set (cleared e) n =
    record { e_err = λ h. omega (arith, e, h); p_err = λ h. omega (arith, e, h); prot_e = λ h. omega (arith, e, h) }
errors_set (failed c m e) n = absurd (n m)
