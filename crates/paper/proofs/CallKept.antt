-- What every call keeps, whether it is refused, ignored or executed: a sound record stays sound, and a part keeps its size.
use Prim.Native.Nat.{ℕ, ◌≤◌}
use mathlib.Core.Path.{◌≡◌, refl}
use mathlib.Core.Bool.{Bool, true, false, cond}
use native.Mathlib.Omega.{arith}
use lib.Dec.{eqb}
use borrow.Author.Tests.{eqb-true}
use Rattle.types.specs.declared.Record.{Record}
use Rattle.types.specs.declared.Ticked.{Ticked}
use Rattle.paper.specs.Sizes.{array_bytes, rows_bytes, tick_limit}
use Rattle.paper.specs.Soundness.{sound}
use Rattle.paper.specs.Numbers.{tick_number}
use Rattle.paper.specs.Ticks.{record_after, working_ticks}
use Rattle.paper.specs.Calls.{ticked}
use Rattle.paper.specs.History.{Call, transaction, ticks, record_after_call}
use Rattle.paper.proofs.Numbers.{ticks_taken}
use Rattle.paper.proofs.Kept.{works_at_most, run_sound, run_size}
use Rattle.paper.proofs.TransactionKept.{transaction_sound, transaction_size}

-- what holds of the record before, and of the one after n ticks, holds of the record after a tick call
module _ (P : Record → Type 0) (p : Record) (n : ℕ) (same : P p) (ran : P (record_after n p)) where
  ran_or_not : (number : ℕ) (t : Bool)
      → P (cond {A = Ticked} t (record { next = record_after n p; number = 0; done = working_ticks n p }) (record { next = p; number = number; done = 0 })).next
  ran_or_not number true = ran
  ran_or_not number false = same

  pub after_tick_call : (a r : ℕ) → P (ticked p a r n).next
  unfolding ticked
  after_tick_call a r =
      let number = tick_number p.part.blocks (sound p) a r n in
      ran_or_not number (eqb number 0)

-- the ticks that a tick call reports are at most those asked, and at most the most that may be, whether it is refused or not
done_as : (p : Record) (a r n : ℕ) (t : Bool) → eqb (tick_number p.part.blocks (sound p) a r n) 0 ≡ t
    → let d = (cond {A = Ticked} t (record { next = record_after n p; number = 0; done = working_ticks n p }) (record { next = p; number = tick_number p.part.blocks (sound p) a r n; done = 0 })).done in
    (d ≤ n) × (d ≤ tick_limit p.part.blocks)
done_as p a r n true e =
    (works_at_most n p, omega (arith, works_at_most n p, (ticks_taken _ _ _ _ _ (eqb-true _ _ e)).few))
done_as p a r n false e = (omega arith, omega arith)

pub done_at_most : (p : Record) (a r n : ℕ) → ((ticked p a r n).done ≤ n) × ((ticked p a r n).done ≤ tick_limit p.part.blocks)
unfolding ticked
done_at_most p a r n = done_as p a r n (eqb (tick_number p.part.blocks (sound p) a r n) 0) refl

-- a call on the part's own memory
pub call_sound : (c : Call) (p : Record) → sound p ≡ true → sound (record_after_call c p) ≡ true
call_sound (transaction wp i o) p s = transaction_sound p (array_bytes p.part.blocks) rows_bytes wp i o s
call_sound (ticks n) p s =
    after_tick_call (λ (q : Record). sound q ≡ true) p n s (run_sound n p s) (array_bytes p.part.blocks) rows_bytes

pub call_size : (c : Call) (p : Record) → (record_after_call c p).part.blocks ≡ p.part.blocks
call_size (transaction wp i o) p = transaction_size p i (array_bytes p.part.blocks) rows_bytes wp o
call_size (ticks n) p =
    after_tick_call (λ (q : Record). q.part.blocks ≡ p.part.blocks) p n refl (run_size n p) (array_bytes p.part.blocks) rows_bytes
