-- What a tick call is told to change makes of the record what its ticks make of it, tick by tick.
use Rattle.std.specs.Prelude.{None, Option, Some}
use Prim.Native.Nat.{ℕ, ◌≤◌, min}
use mathlib.Core.Path.{◌≡◌, refl, sym, ap, ◌∙◌}
use mathlib.Core.Bool.{Bool, true, false, cond}
use mathlib.Core.List.{List, []}
use native.Mathlib.Omega.{arith}
use lib.ListN.{length}
use lib.Dec.{eqb}
use borrow.Author.Tests.{eqb-true}
use Rattle.types.specs.declared.Memory.{Memory}
use Rattle.types.specs.declared.Operation.{Operation}
use Rattle.types.specs.declared.Data.TheVariants.{Kept, Zero}
use Rattle.types.specs.declared.Change.{Change}
use Rattle.types.specs.declared.Change.TheVariants.{Same, Runs}
use Rattle.types.specs.declared.Record.{Record}
use Rattle.types.specs.declared.Ticked.{Ticked}
use Rattle.types.specs.declared.Waited.{Waited}
use Rattle.paper.specs.Sizes.{page_bytes, array_bytes, rows_bytes}
use Rattle.paper.specs.Phases.{running}
use Rattle.paper.specs.Operations.{ticks_left, advanced_by}
use Rattle.paper.specs.Soundness.{sound}
use Rattle.paper.specs.Commands.{changed}
use Rattle.paper.specs.Numbers.{tick_number}
use Rattle.paper.specs.Ticks.{finished_part, finished, advanced, record_after, memory_after, working_ticks}
use Rattle.paper.specs.Calls.{ticked, ticked_memory}
use Rattle.paper.proofs.Soundness.{running_in_order}
use Rattle.paper.proofs.Numbers.{TicksTaken, ticks_taken}
use Rattle.paper.proofs.ManyTicks.{ran_all, rest_record, rest_memory, rest_works}
use Rattle.ticks.specs.Waited.{ticks_reached, memory_reached, tick_change, waited_of, waited_memory, ticked_by}
use Rattle.ticks.proofs.OneMemory.{left_within}

-- whichever it is
changed_as : (p : Record) (o : Operation) (k : ℕ) (t : Bool)
    → changed (cond {A = Change} t (Runs (finished_part p.part p.phase o) Zero None) (Runs p.part Kept (Some (advanced_by k o)))) [] p
    ≡ cond t (finished p o) (advanced p (advanced_by k o))
changed_as p o k true = refl
changed_as p o k false = refl

module _ (n : ℕ) (p : Record) (s : sound p ≡ true) where
  changed_at : (w : Option Operation) → running p.phase ≡ w → changed (tick_change n w p.part p.phase) [] p ≡ record_after n p
  changed_at None e = sym (rest_record p e n)
  changed_at (Some o) e =
      let k = min n (ticks_left o p.part.blocks) in
      changed_as p o k (eqb k (ticks_left o p.part.blocks))
      ∙ sym (ran_all p o e n k (running_in_order p o e s).going refl).next

  -- the record after n ticks
  pub changed_ticks : changed (tick_change n (running p.phase) p.part p.phase) [] p ≡ record_after n p
  changed_ticks = changed_at (running p.phase) refl

  -- how many of them do work
  reached_at : (w : Option Operation) → running p.phase ≡ w → ticks_reached n w p.part.blocks ≡ working_ticks n p
  reached_at None e = sym (rest_works p e n)
  reached_at (Some o) e = sym (ran_all p o e n _ (running_in_order p o e s).going refl).done

  pub reached_ticks : ticks_reached n (running p.phase) p.part.blocks ≡ working_ticks n p
  reached_ticks = reached_at (running p.phase) refl

  -- and what they make of a memory that is the part's own
  module _ (m : Memory) (a r : ℕ) (ea : a ≡ array_bytes p.part.blocks) (er : r ≡ rows_bytes) (eg : length p.page ≡ page_bytes) (xs : List ℕ) where
    memory_at : (w : Option Operation) → running p.phase ≡ w → memory_reached m n w p.part.blocks p.page a r xs ≡ memory_after m n p xs
    memory_at None e = sym (rest_memory p e m xs n)
    memory_at (Some o) e =
        let k = min n (ticks_left o p.part.blocks) in
        let i = running_in_order p o e s in
        let few : k ≤ ticks_left o p.part.blocks = omega arith in
        rw (left_within o p.part.blocks p.part.stored k (length p.page) a r i few eg ea er)
        (sym ((ran_all p o e n k i.going refl).memory m xs))

    pub reached_memory : memory_reached m n (running p.phase) p.part.blocks p.page a r xs ≡ memory_after m n p xs
    reached_memory = memory_at (running p.phase) refl

module _ (p : Record) (a r n : ℕ) where
  abbrev number : ℕ
  number = tick_number p.part.blocks (sound p) a r n

  taken : eqb number 0 ≡ true → TicksTaken p.part.blocks (sound p) a r n
  taken e = ticks_taken _ _ _ _ _ (eqb-true _ _ e)

  told_as_lem : (t : Bool) → eqb number 0 ≡ t
      → ticked_by (cond {A = Waited} t (record { change = tick_change n (running p.phase) p.part p.phase; number = 0; done = ticks_reached n (running p.phase) p.part.blocks }) (record { change = Same; number = number; done = 0 })) p
      ≡ cond {A = Ticked} t (record { next = record_after n p; number = 0; done = working_ticks n p }) (record { next = p; number = number; done = 0 })
  told_as_lem true e =
      ap (λ (q : Record). record { next = q; number = 0; done = ticks_reached n (running p.phase) p.part.blocks }) (changed_ticks n p (taken e).is_sound)
      ∙ ap (λ (k : ℕ). record { next = record_after n p; number = 0; done = k }) (reached_ticks n p (taken e).is_sound)
  told_as_lem false e = refl

  -- what a tick call answers, made of the record
  pub ticked_told : ticked_by (waited_of p.part p.phase (sound p) a r n) p ≡ ticked p a r n
  unfolding waited_of ticked
  ticked_told = told_as_lem (eqb number 0) refl

  memory_as : (m : Memory) (xs : List ℕ) → length p.page ≡ page_bytes → (t : Bool) → eqb number 0 ≡ t
      → cond {A = List ℕ} t (memory_reached m n (running p.phase) p.part.blocks p.page a r xs) xs ≡ cond {A = List ℕ} t (memory_after m n p xs) xs
  memory_as m xs l true e = reached_memory n p (taken e).is_sound m a r (taken e).size (taken e).rows l xs
  memory_as m xs l false e = refl

  -- and what it leaves in a memory
  pub memory_told : (m : Memory) (xs : List ℕ) → length p.page ≡ page_bytes → waited_memory m p.part p.phase (sound p) p.page a r n xs ≡ ticked_memory m p a r n xs
  unfolding waited_memory ticked_memory
  memory_told m xs l = memory_as m xs l (eqb number 0) refl
