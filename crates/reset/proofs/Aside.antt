-- What a list of calls keeps beside soundness and size: the identity, and where each call is ticks or a refused transaction both marks.
use Rattle.std.specs.Prelude.{None, Option, Some}
use Prim.Native.Nat.{ℕ, zero, suc, ◌+◌}
use mathlib.Core.Path.{◌≡◌, refl, subst⁻¹, ◌∙◌}
use mathlib.Core.Bool.{Bool, true, false, cond}
use mathlib.Core.List.{List, [], ◌∷◌}
use lib.ListN.{length}
use lib.Dec.{eqb, ltb}
use borrow.Author.Tests.{not-true}
use Rattle.types.specs.declared.Operation.{Operation}
use Rattle.types.specs.declared.Record.{Record}
use Rattle.words.proofs.Tests.{and_l, and_r}
use Rattle.paper.specs.Sizes.{array_bytes, rows_bytes}
use Rattle.paper.specs.Phases.{running}
use Rattle.paper.specs.Operations.{ticks_in_all, ticks_done, advanced_by}
use Rattle.paper.specs.Soundness.{sound}
use Rattle.paper.specs.Numbers.{transaction_refusal}
use Rattle.paper.specs.Ticks.{finished, advanced, worked, ticked_at, record_after}
use Rattle.paper.specs.Calls.{outcome_of, transacted}
use Rattle.paper.specs.History.{Call, transaction, ticks, record_after_call, record_after_calls, stands_aside}
use Rattle.paper.proofs.CallKept.{after_tick_call}
use Rattle.paper.proofs.TransactionKept.{transaction_identity}
use Rattle.reset.specs.Closing.{all_aside}

-- a part of the same identity and marks
pub record Alike (p q : Record) : Type 0 where
  pub identity : q.identity ≡ p.identity
  pub armed : q.part.armed ≡ p.part.armed
  pub asleep : q.part.asleep ≡ p.part.asleep

alike : (p : Record) → Alike p p
alike p = record { identity = refl; armed = refl; asleep = refl }

alike_on : {p q r : Record} → Alike p q → Alike q r → Alike p r
alike_on a b =
    record { identity = b.identity ∙ a.identity; armed = b.armed ∙ a.armed; asleep = b.asleep ∙ a.asleep }

-- ticks
module _ (p : Record) where
  worked_alike : (o : Operation) (t : Bool) → Alike p (cond t (advanced p (advanced_by 1 o)) (finished p o))
  worked_alike o true = record { identity = refl; armed = refl; asleep = refl }
  worked_alike o false = record { identity = refl; armed = refl; asleep = refl }

  ticked_alike : (w : Option Operation) → Alike p (ticked_at p w)
  unfolding worked
  ticked_alike None = alike p
  ticked_alike (Some o) = worked_alike o (ltb (ticks_done o + 1) (ticks_in_all o p.part.blocks))

run_alike : (n : ℕ) (p : Record) → Alike p (record_after n p)
run_alike zero p = alike p
run_alike (suc n) p = alike_on (run_alike n p) (ticked_alike (record_after n p) (running (record_after n p).phase))

-- a tick call, refused or not
module _ (p : Record) where
  ticks_alike : (n : ℕ) → Alike p (record_after_call (ticks n) p)
  ticks_alike n = after_tick_call (Alike p) p n (alike p) (run_alike n p) (array_bytes p.part.blocks) rows_bytes

  -- a call that stands aside: a refused transaction changes nothing
  refused_next : (wp : Bool) (i : List ℕ) (o : ℕ) → eqb (transaction_refusal p.part.blocks (sound p) (array_bytes p.part.blocks) rows_bytes (length i) o) 0 ≡ false
      → (transacted p (array_bytes p.part.blocks) rows_bytes wp i o).next ≡ p
  unfolding transacted outcome_of
  refused_next wp i o r = rw r

  aside_alike : (c : Call) → stands_aside c p ≡ true → Alike p (record_after_call c p)
  aside_alike (transaction wp i o) h = subst⁻¹ (Alike p) (refused_next wp i o (not-true _ h)) (alike p)
  aside_alike (ticks n) h = ticks_alike n

-- every call keeps the identity
call_identity : (c : Call) (p : Record) → (record_after_call c p).identity ≡ p.identity
call_identity (transaction wp i o) p = transaction_identity p i (array_bytes p.part.blocks) rows_bytes wp o
call_identity (ticks n) p = (ticks_alike p n).identity

-- so do all calls
pub calls_identity : (cs : List Call) (p : Record) → (record_after_calls cs p).identity ≡ p.identity
calls_identity [] p = refl
calls_identity (c ∷ cs) p = calls_identity cs (record_after_call c p) ∙ call_identity c p

-- and calls that all stand aside keep the marks too
pub all_aside_alike : (cs : List Call) (p : Record) → all_aside cs p ≡ true → Alike p (record_after_calls cs p)
all_aside_alike [] p h = alike p
all_aside_alike (c ∷ cs) p h =
    alike_on (aside_alike p c (and_l _ _ h)) (all_aside_alike cs (record_after_call c p) (and_r _ _ h))
