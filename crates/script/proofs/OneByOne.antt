-- Steps one after the other: where each lies in the buffers, what it makes of the script's values, of a map and of wear records, and that a script which has stopped stays so.
use Prim.Native.Nat.{ℕ, zero, suc, ◌+◌, ◌≤◌, ◌<◌}
use mathlib.Core.Path.{◌≡◌, refl, sym, ap, ◌∙◌}
use mathlib.Core.Bool.{Bool, true, false}
use mathlib.Core.List.{List}
use native.Mathlib.Omega.{arith}
use native.Mathlib.Numerals.{add-one}
use borrow.Author.Tests.{eq-eqb, ne_eqb, leb-true, leb-false}
use lib.Dec.{leb}
use lib.ListN.{length, get_or, set}
use Rattle.types.specs.declared.Identity.{Identity}
use Rattle.types.specs.declared.Wear.{Wear}
use Rattle.words.specs.Logic.{when_zero}
use Rattle.words.specs.Lists.{sum_to, between, put_between}
use Rattle.words.proofs.Sums.{sum_within}
use Rattle.paper.specs.History.{Call}
use Rattle.paper.specs.Board.{board_of}
use Rattle.paper.specs.Script.{Script, Scripted, step_calls, Made, made, calls_at, stepped, after_steps}
use Rattle.paper.specs.Map.{map_after_calls, map_steps}
use Rattle.paper.specs.Wear.{wear_after_calls, wear_steps}
use Rattle.record_bytes.specs.Read.{record_in}
use Rattle.script.specs.declared.State.{State}
use Rattle.script.specs.Steps.{world, turned, Ready, Fit}

-- a step ends within the buffers
pub end_within : (s : Script) (o n d k at : ℕ) → Fit s o n d → k < length s.lengths → at ≡ sum_to s.lengths k → at + get_or s.lengths k 0 ≤ length s.input
end_within s o n d k at f h e = omega (arith, sum_within s.lengths (length s.lengths) k h, f.sum, e)

module _ (s : Script) (k : ℕ) (w : Scripted) where
  -- n bytes from the place at on, and with what a step made of them
  abbrev made_from : ℕ → ℕ → Made
  made_from at n = made s.wp (between at n s.input) (get_or s.ticks k 0) w.board (between at n w.output)

  abbrev put : ℕ → ℕ → Made → ℕ → Scripted
  put at n m j =
      record { board = m.board; output = put_between at n w.output m.output; answers = set w.answers k m.answer; done = set w.done k m.done; number = m.number; step = j }

  pub turn_is : (at n : ℕ) (m : Made) (j : ℕ) → at ≡ sum_to s.lengths k → n ≡ get_or s.lengths k 0 → m ≡ made_from at n → j ≡ when_zero m.number (k + 1) k → put at n m j ≡ turned s k w
  unfolding stepped
  turn_is at n m j ea en em ej =
      ap (put at n m) ej
      ∙ ap (λ (x : Made). put at n x (when_zero x.number (k + 1) k)) em
      ∙ ap (λ (b : ℕ). put b n (made_from b n) (when_zero (made_from b n).number (k + 1) k)) ea
      ∙ ap (λ (l : ℕ). put (sum_to s.lengths k) l (made_from (sum_to s.lengths k) l) (when_zero (made_from (sum_to s.lengths k) l).number (k + 1) k)) en

  -- the calls are those of the step
  abbrev calls_from : ℕ → ℕ → List Call
  calls_from at n =
      step_calls s.wp (between at n s.input) w.board (length (between at n w.output)) (get_or s.ticks k 0)

  pub calls_are : (at n : ℕ) → at ≡ sum_to s.lengths k → n ≡ get_or s.lengths k 0 → calls_from at n ≡ calls_at s k w
  calls_are at n ea en = ap (λ (b : ℕ). calls_from b n) ea ∙ ap (calls_from (sum_to s.lengths k)) en

-- a script's values, with a map and wear records
pub record Kept : Type 0 where
  pub run : Scripted
  pub map : List ℕ
  pub wear : List Wear

module _ (s : Script) (w₀ : Kept) where
  -- the first k steps, and one step more
  abbrev after : ℕ → Kept
  after k =
      record { run = after_steps s k w₀.run; map = map_steps s k w₀.run w₀.map; wear = wear_steps s k w₀.run w₀.wear }

  abbrev once : ℕ → Kept → Kept
  once k v =
      record { run = turned s k v.run; map = map_after_calls (calls_at s k v.run) v.run.board v.map; wear = wear_after_calls (calls_at s k v.run) v.run.board v.wear }

  abbrev onward : ℕ → Kept → Kept
  onward k v =
      record { run = when_zero v.run.number (once k v).run v.run; map = when_zero v.run.number (once k v).map v.map; wear = when_zero v.run.number (once k v).wear v.wear }

  pub step_on : (k : ℕ) (w v : Kept) → w ≡ after k → w.run.number ≡ 0 → v ≡ once k w → v ≡ after (k + 1)
  step_on k w v e go ev =
      let on : once k w ≡ onward k w = rw (eq-eqb w.run.number 0 go) refl in
      rw add-one (ev ∙ on ∙ ap (onward k) e)

  -- nothing after the stop is written
  stays_by : (k n : ℕ) → k ≤ suc n → (k ≤ n → after n ≡ after k) → ((after k).run.number ≡ 0 → ⊥) → (t : Bool) → leb k n ≡ t → after (suc n) ≡ after k
  stays_by k n h before stop true e =
      let same = before (leb-true k n e) in
      let off : onward n (after k) ≡ after k = rw (ne_eqb (after k).run.number 0 stop) refl in
      ap (onward n) same ∙ off
  stays_by k n h before stop false e =
      let same : suc n ≡ k = omega (arith, h, leb-false k n e) in
      ap after same

  pub stays : (k n : ℕ) → k ≤ n → ((after k).run.number ≡ 0 → ⊥) → after n ≡ after k
  stays k zero h stop = let same : 0 ≡ k = omega arith in ap after same
  stays k (suc n) h stop = stays_by k n h (λ (l : k ≤ n). stays k n l stop) stop (leb k n) refl

-- what the loop carries after k steps
pub record Along (id : Identity) (s : Script) (k : ℕ) (w₀ : Kept) (q : State) (bs xs rs o n d m : List ℕ) (ws : List Wear) : Type 0 where
  pub told : record { run = world q bs xs rs o n d; map = m; wear = ws } ≡ after s w₀ k
  pub within : k ≤ length s.lengths
  pub going : q.number ≡ 0
  pub at : q.at ≡ sum_to s.lengths k
  pub ready : Ready bs (length xs) (length rs)
  pub identity : id ≡ (record_in bs).state.identity
  pub array : length xs ≡ length w₀.run.board.array
  pub rows : length rs ≡ length w₀.run.board.rows
  pub output : length o ≡ length w₀.run.output
  pub answers : length n ≡ length w₀.run.answers
  pub done : length d ≡ length w₀.run.done
  pub map : length m ≡ length w₀.map
  pub wear : length ws ≡ length w₀.wear

module _ {id : Identity} {s : Script} {k : ℕ} {w₀ : Kept} {q : State} {bs xs rs o n d m : List ℕ} {ws : List Wear} (l : Along id s k w₀ q bs xs rs o n d m ws) where
  -- after one more
  module _ (h : k < length s.lengths) (q' : State) (bs' xs' rs' o' n' d' m' : List ℕ) (ws' : List Wear) (e : world q' bs' xs' rs' o' n' d' ≡ turned s k (world q bs xs rs o n d))
      (em : m' ≡ map_after_calls (calls_at s k (world q bs xs rs o n d)) (board_of (record_in bs).state xs rs) m)
      (ew : ws' ≡ wear_after_calls (calls_at s k (world q bs xs rs o n d)) (board_of (record_in bs).state xs rs) ws) where
    abbrev next : Kept
    next = record { run = world q' bs' xs' rs' o' n' d'; map = m'; wear = ws' }

    told_on : next ≡ after s w₀ (k + 1)
    told_on =
        let w : Kept = record { run = world q bs xs rs o n d; map = m; wear = ws } in
        step_on s w₀ k w next l.told l.going (ap (λ (v : Scripted). record { run = v; map = m'; wear = ws' }) e ∙ ap (λ (y : List ℕ). record { run = turned s k w.run; map = y; wear = ws' }) em ∙ ap (λ (y : List Wear). record { run = turned s k w.run; map = (once s w₀ k w).map; wear = y }) ew)

    -- which stops the script
    pub stopped_at : (q'.number ≡ 0 → ⊥) → next ≡ after s w₀ (length s.lengths)
    stopped_at stop =
        let off : (after s w₀ (k + 1)).run.number ≡ 0 → ⊥ = λ z. stop (ap (λ (v : Kept). v.run.number) told_on ∙ z) in
        told_on ∙ sym (stays s w₀ (k + 1) (length s.lengths) (omega arith) off)
