-- Runs of ticks, over any operation: the record, each memory and the working ticks after so many ticks.
use Rattle.std.specs.Prelude.{None, Option, Some}
use Prim.Native.Nat.{ℕ, zero, suc, ◌+◌, ◌-◌, ◌≤◌, ◌<◌, min}
use mathlib.Core.Path.{◌≡◌, refl, sym, ap, ◌∙◌, subst⁻¹}
use mathlib.Core.Bool.{Bool, true, false, cond}
use mathlib.Core.List.{List}
use native.Mathlib.Omega.{arith}
use native.Mathlib.Nat.{add-zero, add-suc}
use native.Mathlib.Numerals.{add-one}
use lib.Dec.{eqb, ltb}
use borrow.Author.Tests.{ltb-true, ltb-false, lt-ltb, le-ltb, eq-eqb, ne_eqb}
use Rattle.types.specs.declared.Memory.{Memory}
use Rattle.types.specs.declared.EraseUnit.{EraseUnit}
use Rattle.types.specs.declared.Operation.{Operation}
use Rattle.types.specs.declared.Operation.TheVariants.{Program, Erase, Write}
use Rattle.types.specs.declared.Phase.{Phase}
use Rattle.types.specs.declared.Stored.{Stored}
use Rattle.types.specs.declared.Record.{Record}
use Rattle.words.specs.Logic.{bit}
use Rattle.paper.specs.Sizes.{same_memory}
use Rattle.paper.specs.Program.{no_data}
use Rattle.paper.specs.Erase.{memory_of}
use Rattle.paper.specs.Registers.{stored_after}
use Rattle.paper.specs.Phases.{running, work_is, any_operation, working_on, rest_of}
use Rattle.paper.specs.Records.{made}
use Rattle.paper.specs.Operations.{ticks_in_all, ticks_done, ticks_left, advanced_by, Touch, none, next_touch, touched}
use Rattle.paper.specs.Ticks.{finished, advanced, worked, ticked_at, tick_once, touch_at, touch_of, works, record_after, memory_after, working_ticks, ran}
use Rattle.paper.proofs.Phases.{other_runs, other_again, other_same}
use Rattle.paper.proofs.Soundness.{record_of}

-- 1 where there is work
abbrev work_bit : Option Operation → ℕ
work_bit w = bit (work_is any_operation w)

-- an operation with ticks more done
pub by_none : (o : Operation) → advanced_by 0 o ≡ o
by_none (Program m s b k d) = ap (Program m s b k) (add-zero d)
by_none (Erase u b d) = ap (Erase u b) (add-zero d)
by_none (Write r v) = refl

by_more : (t : ℕ) (o : Operation) → advanced_by 1 (advanced_by t o) ≡ advanced_by (suc t) o
by_more t (Program m s b k d) = let e : d + t + 1 ≡ d + suc t = omega arith in ap (Program m s b k) e
by_more t (Erase u b d) = let e : d + t + 1 ≡ d + suc t = omega arith in ap (Erase u b) e
by_more t (Write r v) = refl

by_all : (t : ℕ) (o : Operation) (n : ℕ) → ticks_in_all (advanced_by t o) n ≡ ticks_in_all o n
by_all t (Program m s b k d) n = refl
by_all t (Erase u b d) n = refl
by_all t (Write r v) n = refl

by_done : (t : ℕ) (o : Operation) (n : ℕ) → ticks_done o + t < ticks_in_all o n → ticks_done (advanced_by t o) ≡ ticks_done o + t
by_done t (Program m s b k d) n h = refl
by_done t (Erase u b d) n h = refl
by_done t (Write r v) n h = omega arith

by_stored : (t : ℕ) (o : Operation) (g : Stored) → stored_after (advanced_by t o) g ≡ stored_after o g
by_stored t (Program m s b k d) g = refl
by_stored t (Erase u b d) g = refl
by_stored t (Write r v) g = refl

-- a tick of a part that works on an operation is not the last, or the last
module _ (p : Record) (o : Operation) (e : running p.phase ≡ Some o) where
  tick_more : ticks_done o + 1 < ticks_in_all o p.part.blocks → tick_once p ≡ advanced p (advanced_by 1 o)
  unfolding worked
  tick_more h = ap (ticked_at p) e ∙ rw (lt-ltb _ _ h)

  tick_last : ticks_in_all o p.part.blocks ≤ ticks_done o + 1 → tick_once p ≡ finished p o
  unfolding worked
  tick_last h = ap (ticked_at p) e ∙ rw (le-ltb _ _ h)

-- a part that works on an operation
module _ (p : Record) (o : Operation) (e : running p.phase ≡ Some o) where
  -- the same with its operation at another point
  runs_at : (x : Operation) → running (advanced p x).phase ≡ Some x
  runs_at x = other_runs p.phase (Some x)

  advanced_again : (x y : Operation) → advanced (advanced p x) y ≡ advanced p y
  advanced_again x y = ap (λ (f : Phase). record_of p.identity p.part f p.page) (other_again p.phase (Some x) (Some y))

  advanced_none : advanced p (advanced_by 0 o) ≡ p
  advanced_none =
      ap (λ (f : Phase). record_of p.identity p.part f p.page) (ap (working_on p.phase) (by_none o) ∙ other_same p.phase (Some o) e)

  finished_from : (t : ℕ) → finished (advanced p (advanced_by t o)) (advanced_by t o) ≡ finished p o
  finished_from t =
      ap (λ (f : Phase). record_of p.identity (made p.part (stored_after (advanced_by t o) p.part.stored) f false) f no_data) (other_again p.phase (Some (advanced_by t o)) None)
      ∙ ap (λ (g : Stored). record_of p.identity (made p.part g (rest_of p.phase) false) (rest_of p.phase) no_data) (by_stored t o p.part.stored)

  -- its record after k ticks that are not the last: so many ticks more are done
  pub run_record : (k : ℕ) → ticks_done o + k < ticks_in_all o p.part.blocks → record_after k p ≡ advanced p (advanced_by k o)
  run_record zero h = sym advanced_none
  run_record (suc k) h =
      let d : ticks_done (advanced_by k o) ≡ ticks_done o + k = by_done k o p.part.blocks (omega arith) in
      ap tick_once (run_record k (omega arith))
      ∙ tick_more (advanced p (advanced_by k o)) (advanced_by k o) (runs_at (advanced_by k o)) (omega (arith, by_all k o p.part.blocks))
      ∙ advanced_again (advanced_by k o) (advanced_by 1 (advanced_by k o))
      ∙ ap (advanced p) (by_more k o)

  -- and after the last
  pub run_last : (k : ℕ) → ticks_done o + suc k ≡ ticks_in_all o p.part.blocks → record_after (suc k) p ≡ finished p o
  run_last k h =
      let d : ticks_done (advanced_by k o) ≡ ticks_done o + k = by_done k o p.part.blocks (omega arith) in
      ap tick_once (run_record k (omega arith))
      ∙ tick_last (advanced p (advanced_by k o)) (advanced_by k o) (runs_at (advanced_by k o)) (omega (arith, by_all k o p.part.blocks))
      ∙ finished_from k

  -- ticks past the last change nothing
  pub run_past : (k j : ℕ) → ticks_done o + suc k ≡ ticks_in_all o p.part.blocks → record_after (suc k + j) p ≡ finished p o
  run_past k zero h = rw add-zero (run_last k h)
  run_past k (suc j) h = rw add-suc (ap tick_once (run_past k j h) ∙ ap (ticked_at (finished p o)) (other_runs p.phase None))

  -- what runs then, and what runs past the end
  pub run_runs : (k : ℕ) → ticks_done o + k < ticks_in_all o p.part.blocks → running (record_after k p).phase ≡ Some (advanced_by k o)
  run_runs k h = ap (λ (q : Record). running q.phase) (run_record k h) ∙ runs_at (advanced_by k o)

  pub past_runs : running (finished p o).phase ≡ None
  past_runs = other_runs p.phase None

  -- what k ticks reach
  pub run_touch : (k : ℕ) → ticks_done o + k < ticks_in_all o p.part.blocks → touch_of (record_after k p) ≡ next_touch (advanced_by k o) p.page
  run_touch k h = ap touch_of (run_record k h) ∙ ap (λ (w : Option Operation). touch_at w p.page) (runs_at (advanced_by k o))

  pub past_touch : touch_of (finished p o) ≡ none
  past_touch = ap (λ (w : Option Operation). touch_at w no_data) (other_runs p.phase None)

  pub run_memory : (m : Memory) (xs : List ℕ) (k : ℕ) → ticks_done o + k ≤ ticks_in_all o p.part.blocks → memory_after m k p xs ≡ ran m k o p.page xs
  run_memory m xs zero h = refl
  run_memory m xs (suc k) h = rw (run_touch k (omega arith), run_memory m xs k (omega arith))

  pub run_memory_past : (m : Memory) (xs : List ℕ) (k j : ℕ) → ticks_done o + suc k ≡ ticks_in_all o p.part.blocks → memory_after m (suc k + j) p xs ≡ ran m (suc k) o p.page xs
  run_memory_past m xs k zero h = rw add-zero (run_memory m xs (suc k) (omega arith))
  run_memory_past m xs k (suc j) h =
      rw add-suc
      (ap (λ (t : Touch). touched m t (memory_after m (suc k + j) p xs)) (ap touch_of (run_past k j h) ∙ past_touch)
      ∙ run_memory_past m xs k j h)

  -- each of them does work, those past the last none
  pub run_works : (k : ℕ) → ticks_done o + k ≤ ticks_in_all o p.part.blocks → working_ticks k p ≡ k
  run_works zero h = refl
  run_works (suc k) h =
      let w : works (record_after k p) ≡ 1 = ap works (run_record k (omega arith)) ∙ ap work_bit (runs_at (advanced_by k o)) in
      rw (w, run_works k (omega arith), add-one)

  pub run_works_past : (k j : ℕ) → ticks_done o + suc k ≡ ticks_in_all o p.part.blocks → working_ticks (suc k + j) p ≡ suc k
  run_works_past k zero h = rw add-zero (run_works (suc k) (omega arith))
  run_works_past k (suc j) h =
      let w : works (record_after (suc k + j) p) ≡ 0 = ap works (run_past k j h) ∙ ap work_bit (other_runs p.phase None) in
      rw (add-suc) (rw (w, run_works_past k j h) (add-zero (suc k)))

  -- n ticks, of which k find something left to do
  pub record Ran (n k : ℕ) : Type 0 where
    pub next : record_after n p ≡ cond (eqb k (ticks_left o p.part.blocks)) (finished p o) (advanced p (advanced_by k o))
    pub memory : (m : Memory) (xs : List ℕ) → memory_after m n p xs ≡ ran m k o p.page xs
    pub done : working_ticks n p ≡ k

  ran_short : (n : ℕ) → ticks_done o + n < ticks_in_all o p.part.blocks → Ran n n
  ran_short n h =
      let l : n ≡ ticks_left o p.part.blocks → ⊥ = λ q. omega arith in
      record { next = rw (ne_eqb _ _ l) (run_record n h); memory = λ m xs. run_memory m xs n (omega arith); done = run_works n (omega arith) }

  ran_whole : (k j : ℕ) → ticks_done o + suc k ≡ ticks_in_all o p.part.blocks → Ran (suc k + j) (suc k)
  ran_whole k j h =
      let l : suc k ≡ ticks_left o p.part.blocks = omega arith in
      record { next = rw (eq-eqb _ _ l) (run_past k j h); memory = λ m xs. run_memory_past m xs k j h; done = run_works_past k j h }

  ran_by : (n k : ℕ) (t : Bool) → ltb n (ticks_left o p.part.blocks) ≡ t → ticks_done o < ticks_in_all o p.part.blocks → k ≡ min n (ticks_left o p.part.blocks) → Ran n k
  ran_by n k true q g e =
      let h : n < ticks_left o p.part.blocks = ltb-true _ _ q in
      let w : k ≡ n = omega arith in
      rw w (ran_short n (omega arith))
  ran_by n k false q g e =
      let h : ticks_left o p.part.blocks ≤ n = ltb-false _ _ q in
      let l : k ≡ suc (k - 1) = omega arith in
      let w : n ≡ suc (k - 1) + (n - k) = omega arith in
      subst⁻¹ (λ (x : ℕ). Ran x k) w (subst⁻¹ (λ (x : ℕ). Ran (suc (k - 1) + (n - k)) x) l (ran_whole (k - 1) (n - k) (omega arith)))

  pub ran_all : (n k : ℕ) → ticks_done o < ticks_in_all o p.part.blocks → k ≡ min n (ticks_left o p.part.blocks) → Ran n k
  ran_all n k g e = ran_by n k _ refl g e

-- a part on which nothing runs: ticks change nothing and do no work
module _ (p : Record) (e : running p.phase ≡ None) where
  pub rest_record : (n : ℕ) → record_after n p ≡ p
  rest_record zero = refl
  rest_record (suc n) = ap tick_once (rest_record n) ∙ ap (ticked_at p) e

  pub rest_memory : (m : Memory) (xs : List ℕ) (n : ℕ) → memory_after m n p xs ≡ xs
  rest_memory m xs zero = refl
  rest_memory m xs (suc n) =
      let t : touch_of (record_after n p) ≡ none = ap touch_of (rest_record n) ∙ ap (λ (w : Option Operation). touch_at w p.page) e in
      ap (λ (w : Touch). touched m w (memory_after m n p xs)) t ∙ rest_memory m xs n

  pub rest_works : (n : ℕ) → working_ticks n p ≡ 0
  rest_works zero = refl
  rest_works (suc n) =
      let w : works (record_after n p) ≡ 0 = ap works (rest_record n) ∙ ap work_bit e in
      rw (w, rest_works n)

-- a ticks and then b more
pub ticks_more : (a b : ℕ) (p : Record) → record_after (a + b) p ≡ record_after b (record_after a p)
ticks_more a zero p = rw add-zero refl
ticks_more a (suc b) p = rw add-suc (ap tick_once (ticks_more a b p))

-- ticks of an erase leave the other memory
pub erase_other : (k : ℕ) (u : EraseUnit) (b d : ℕ) (g xs : List ℕ) (m : Memory) → same_memory m (memory_of u) ≡ false → ran m k (Erase u b d) g xs ≡ xs
erase_other zero u b d g xs m e = refl
erase_other (suc k) u b d g xs m e = rw e (erase_other k u b d g xs m e)
