-- What ticks reached: their touches are those of the working ticks, and these lie in the pages that they reached; place by place, and of a tick call.
use Rattle.std.specs.Prelude.{None, Option, Some}
use Prim.Native.Nat.{ℕ, zero, suc, ◌+◌, ◌-◌, ◌*◌, ◌/◌, ◌%◌, ◌≤◌, ◌<◌, min}
use mathlib.Core.Path.{◌≡◌, refl, sym, ap, ◌∙◌}
use mathlib.Core.Bool.{Bool, true, false, cond}
use mathlib.Core.List.{List, [], ◌∷◌, ◌++◌, append-nil, append_assoc}
use native.Mathlib.Omega.{arith}
use native.Mathlib.Nat.{add-zero, add-suc}
use native.Mathlib.Numerals.{add-one}
use lib.Dec.{eqb, ltb, leb}
use lib.ListN.{replicate, replicate-append-replicate}
use borrow.Author.Tests.{eqb-true, eqb-false, leb-true, ltb-true, ltb-false}
use Rattle.types.specs.declared.Memory.{Memory}
use Rattle.types.specs.declared.Memory.TheVariants.{Array}
use Rattle.types.specs.declared.EraseUnit.{EraseUnit}
use Rattle.types.specs.declared.EraseUnit.TheVariants.{Sector, Block32, Block64, Chip, Row}
use Rattle.types.specs.declared.Operation.{Operation}
use Rattle.types.specs.declared.Operation.TheVariants.{Program, Erase, Write}
use Rattle.types.specs.declared.Stored.{Stored}
use Rattle.types.specs.declared.Record.{Record}
use Rattle.types.specs.declared.Ticked.{Ticked}
use Rattle.words.specs.Logic.{◌and◌, ◌or◌}
use Rattle.words.proofs.Tests.{or_true, or_false, or_assoc, same_tests, fails}
use Rattle.paper.specs.Sizes.{same_memory, from_on, page_bytes, array_bytes, memory_bytes, rows_bytes, tick_limit}
use Rattle.paper.specs.Program.{page_place}
use Rattle.paper.specs.Erase.{memory_of, unit_bytes, unit_base}
use Rattle.paper.specs.Phases.{running}
use Rattle.paper.specs.Operations.{ticks_in_all, ticks_done, ticks_left, advanced_by, Touch, none, next_touch}
use Rattle.paper.specs.Soundness.{sound}
use Rattle.paper.specs.Ticks.{record_after, touch_at, touch_of, working_ticks}
use Rattle.paper.specs.Calls.{ticked}
use Rattle.paper.specs.Reached.{reached, next_touches, work_touches, touches_of, in_page, touch_page, first_page, pages_by, work_first, work_pages, reaches_page}
use Rattle.paper.specs.History.{ticks, tick_touches, reached_by, call_touches, byte_after_all}
use Rattle.paper.specs.ByPlace.{byte_ran}
use Rattle.paper.proofs.Soundness.{InOrder, running_in_order}
use Rattle.paper.proofs.ManyTicks.{run_touch, run_past, past_touch, ran_all, rest_record, rest_works}
use Rattle.paper.proofs.Answers.{ticks_run, ticks_refused}
use Rattle.paper.proofs.ByPlace.{from_on_lem, on_from, ran_bytes, ended_bytes}

-- so many ticks that reach nothing, and one more
none_more : (k : ℕ) → replicate k none ++ (none ∷ []) ≡ replicate (suc k) none
none_more k = replicate-append-replicate k 1 none ∙ ap (λ (j : ℕ). replicate j none) (add-one k)

none_after : (ts : List Touch) (k : ℕ) → (ts ++ replicate k none) ++ (none ∷ []) ≡ ts ++ replicate (suc k) none
none_after ts k = append_assoc ts (replicate k none) (none ∷ []) ∙ ap (λ (us : List Touch). ts ++ us) (none_more k)

-- a part that works on an operation
module _ (p : Record) (o : Operation) (e : running p.phase ≡ Some o) where
  -- k ticks that are not more than those left
  run_touches : (k : ℕ) → ticks_done o + k ≤ ticks_in_all o p.part.blocks → tick_touches k p ≡ next_touches o k p.page
  run_touches zero h = refl
  run_touches (suc k) h =
      ap (λ (ts : List Touch). ts ++ (touch_of (record_after k p) ∷ [])) (run_touches k (omega arith))
      ∙ ap (λ (t : Touch). next_touches o k p.page ++ (t ∷ [])) (run_touch p o e k (omega arith))

  -- and ticks past the last
  past_touches : (k j : ℕ) → ticks_done o + suc k ≡ ticks_in_all o p.part.blocks → tick_touches (suc k + j) p ≡ next_touches o (suc k) p.page ++ replicate j none
  past_touches k zero h = rw (add-zero) (run_touches (suc k) (omega arith)) ∙ sym (append-nil (next_touches o (suc k) p.page))
  past_touches k (suc j) h =
      rw add-suc
      (ap (λ (t : Touch). tick_touches (suc k + j) p ++ (t ∷ [])) (ap touch_of (run_past p o e k j h) ∙ past_touch p o e)
      ∙ ap (λ (ts : List Touch). ts ++ (none ∷ [])) (past_touches k j h)
      ∙ none_after (next_touches o (suc k) p.page) j)

  module _ (s : sound p ≡ true) where
    abbrev left : ℕ
    left = ticks_left o p.part.blocks

    in-order-now : InOrder o p.part.blocks p.part.stored
    in-order-now = running_in_order p o e s

    -- as many ticks do work as are left, at most as are asked
    pub working_is : (n : ℕ) → working_ticks n p ≡ min n left
    working_is n = (ran_all p o e n (min n left) in-order-now.going refl).done

    pub working_fits : (n : ℕ) → ticks_done o + working_ticks n p ≤ ticks_in_all o p.part.blocks
    working_fits n = omega (arith, working_is n, in-order-now.going)

    touches_as : (n k : ℕ) (t : Bool) → ltb n left ≡ t → k ≡ min n left → tick_touches n p ≡ next_touches o k p.page ++ replicate (n - k) none
    touches_as n k true q h =
        let l : n < left = ltb-true _ _ q in
        let w : n ≡ k = omega arith in
        let z : n - k ≡ 0 = omega arith in
        rw z (ap (λ (j : ℕ). tick_touches j p) w ∙ run_touches k (omega arith) ∙ sym (append-nil (next_touches o k p.page)))
    touches_as n k false q h =
        let l : left ≤ n = ltb-false _ _ q in
        let w : n ≡ suc (k - 1) + (n - k) = omega (arith, in-order-now.going) in
        let z : suc (k - 1) ≡ k = omega (arith, in-order-now.going) in
        ap (λ (j : ℕ). tick_touches j p) w
        ∙ past_touches (k - 1) (n - k) (omega (arith, in-order-now.going))
        ∙ ap (λ (j : ℕ). next_touches o j p.page ++ replicate (n - k) none) z

    working_touches : (n : ℕ) → tick_touches n p ≡ next_touches o (working_ticks n p) p.page ++ replicate (n - working_ticks n p) none
    working_touches n = touches_as n (working_ticks n p) (ltb n left) refl (working_is n)

    -- a byte of a memory after n ticks, by the working ones
    bytes_as : (m : Memory) (at x n k : ℕ) (t : Bool) → ltb n left ≡ t → k ≡ min n left → byte_after_all m at (tick_touches n p) x ≡ byte_ran k o p.page m at x
    bytes_as m at x n k true q h =
        let l : n < left = ltb-true _ _ q in
        let w : n ≡ k = omega arith in
        ap (λ (j : ℕ). byte_after_all m at (tick_touches j p) x) w ∙ ran_bytes p o e in-order-now m at x k (omega arith)
    bytes_as m at x n k false q h =
        let l : left ≤ n = ltb-false _ _ q in
        let w : left ≡ k = omega arith in
        ended_bytes p o e in-order-now m at x n l ∙ ap (λ (j : ℕ). byte_ran j o p.page m at x) w

    pub working_bytes : (m : Memory) (at x n : ℕ) → byte_after_all m at (tick_touches n p) x ≡ byte_ran (working_ticks n p) o p.page m at x
    working_bytes m at x n = bytes_as m at x n (working_ticks n p) (ltb n left) refl (working_is n)

-- a part on which nothing runs
rest_touches : (p : Record) → running p.phase ≡ None → (n : ℕ) → tick_touches n p ≡ replicate n none
rest_touches p e zero = refl
rest_touches p e (suc n) =
    ap (λ (q : Record). tick_touches n p ++ (touch_of q ∷ [])) (rest_record p e n)
    ∙ ap (λ (w : Option Operation). tick_touches n p ++ (touch_at w p.page ∷ [])) e
    ∙ ap (λ (ts : List Touch). ts ++ (none ∷ [])) (rest_touches p e n)
    ∙ none_more n

module _ (p : Record) (s : sound p ≡ true) (n : ℕ) where
  touches_at : (w : Option Operation) → running p.phase ≡ w → tick_touches n p ≡ work_touches w (working_ticks n p) p.page ++ replicate (n - working_ticks n p) none
  touches_at None e =
      let z : n - working_ticks n p ≡ n = omega (arith, rest_works p e n) in
      rest_touches p e n ∙ ap (λ (j : ℕ). replicate j none) (sym z)
  touches_at (Some o) e = working_touches p o e s n

  -- what n ticks reach: the touches of the working ones, and nothing after them
  pub reached_touches : tick_touches n p ≡ touches_of (record { work = running p.phase; count = working_ticks n p }) p.page ++ replicate (n - working_ticks n p) none
  reached_touches = touches_at (running p.phase) refl

-- a place lies in a page of the array
pub page_append : (ts us : List Touch) (q : ℕ) → touch_page (ts ++ us) q ≡ (touch_page ts q or touch_page us q)
unfolding ◌or◌
page_append [] us q = refl
page_append (t ∷ ts) us q = ap (λ (b : Bool). in_page q t or b) (page_append ts us q) ∙ sym (or_assoc (in_page q t) (touch_page ts q) (touch_page us q))

page_none : (k q : ℕ) → touch_page (replicate k none) q ≡ false
unfolding ◌or◌
page_none zero q = refl
page_none (suc k) q = page_none k q

-- a page, and the base of a unit, begin where a page begins
unit_based : (u : EraseUnit) (n b : ℕ) → eqb (unit_base u n b) b ≡ true → b + unit_bytes u n ≤ memory_bytes (memory_of u) n → b / page_bytes * page_bytes ≡ b
unit_based Sector n b e h = let z : b / 4096 * 4096 ≡ b = eqb-true _ _ e in omega arith
unit_based Block32 n b e h = let z : b / 32768 * 32768 ≡ b = eqb-true _ _ e in omega arith
unit_based Block64 n b e h = let z : b / 65536 * 65536 ≡ b = eqb-true _ _ e in omega arith
unit_based Chip n b e h = omega arith
unit_based Row n b e h = let z : b / 256 * 256 ≡ b = eqb-true _ _ e in omega arith

pub program_based : (w : Memory) (c b k d n : ℕ) (g : Stored) → InOrder (Program w c b k d) n g → b / page_bytes * page_bytes ≡ b
program_based w c b k d n g i = eqb-true _ _ i.begins

pub erase_based : (u : EraseUnit) (b d n : ℕ) (g : Stored) → InOrder (Erase u b d) n g → b / page_bytes * page_bytes ≡ b
erase_based u b d n g i = unit_based u n b i.begins (leb-true _ _ i.within)

-- k pages and the next
next_page : (f k q : ℕ) (t : Bool) → eqb (f + k) q ≡ t → (from_on f k q or t) ≡ from_on f (suc k) q
next_page f k q true e =
    let h : f + k ≡ q = eqb-true _ _ e in
    or_true _ ∙ sym (from_on_lem f (suc k) q (omega arith) (omega arith))
next_page f k q false e =
    let h : f + k ≡ q → ⊥ = eqb-false _ _ e in
    or_false _
    ∙ same_tests (from_on f k q) (from_on f (suc k) q)
    (λ y. let u = on_from f k q y in from_on_lem f (suc k) q u.0 (omega (arith, u)))
    (λ y. let u = on_from f (suc k) q y in from_on_lem f k q u.0 (omega (arith, u, h)))

-- the one page of a program, once more
same_page : (f k q : ℕ) (t : Bool) → eqb f q ≡ t → (from_on f (min k 1) q or t) ≡ from_on f (min (suc k) 1) q
same_page f k q true e =
    let h : f ≡ q = eqb-true _ _ e in
    or_true _ ∙ sym (from_on_lem f (min (suc k) 1) q (omega arith) (omega arith))
same_page f k q false e =
    let h : f ≡ q → ⊥ = eqb-false _ _ e in
    or_false _
    ∙ fails (from_on f (min k 1) q) (λ y. h (omega (arith, on_from f (min k 1) q y)))
    ∙ sym (fails (from_on f (min (suc k) 1) q) (λ y. h (omega (arith, on_from f (min (suc k) 1) q y))))

no_page : (f q : ℕ) → from_on f 0 q ≡ false
no_page f q = fails (from_on f 0 q) (λ y. omega (arith, on_from f 0 q y))

-- no tick reaches no page
none_as : (t : Bool) (f q : ℕ) → from_on f (cond t 0 0) q ≡ false
none_as true f q = no_page f q
none_as false f q = no_page f q

none_first : (o : Operation) (q : ℕ) → from_on (first_page o) (pages_by o 0) q ≡ false
none_first (Program w c b l d) q = none_as (same_memory Array w) (b / page_bytes) q
none_first (Erase u b d) q = none_as (same_memory Array (memory_of u)) (b / page_bytes + d) q
none_first (Write r v) q = no_page 0 q

pub none_reached : (w : Option Operation) (q : ℕ) → reaches_page (record { work = w; count = 0 }) q ≡ false
none_reached None q = no_page 0 q
none_reached (Some o) q = none_first o q

-- the next tick's touch, after k ticks of an operation that is in order
program_page : (t : Bool) (c b d k q : ℕ) → b / page_bytes * page_bytes ≡ b
    → (from_on (b / page_bytes) (cond t (min k 1) 0) q or (t and eqb ((b + page_place c d) / page_bytes) q)) ≡ from_on (b / page_bytes) (cond t (min (suc k) 1) 0) q
unfolding ◌and◌ page_place
program_page true c b d k q e =
    let z : (b + (c + d) % page_bytes) / page_bytes ≡ b / page_bytes = omega arith in
    same_page (b / page_bytes) k q _ (ap (λ (x : ℕ). eqb x q) (sym z))
program_page false c b d k q e = or_false _

erase_page : (t : Bool) (b d k q : ℕ)
    → (from_on (b / page_bytes + d) (cond t k 0) q or (t and eqb ((b + (d + k) * page_bytes) / page_bytes) q)) ≡ from_on (b / page_bytes + d) (cond t (suc k) 0) q
unfolding ◌and◌
erase_page true b d k q =
    let z : (b + (d + k) * page_bytes) / page_bytes ≡ b / page_bytes + d + k = omega arith in
    next_page (b / page_bytes + d) k q _ (ap (λ (x : ℕ). eqb x q) (sym z))
erase_page false b d k q = or_false _

module _ (n : ℕ) (s : Stored) (g : List ℕ) (q : ℕ) where
  page_next : (o : Operation) → InOrder o n s → (k : ℕ)
      → (from_on (first_page o) (pages_by o k) q or in_page q (next_touch (advanced_by k o) g)) ≡ from_on (first_page o) (pages_by o (suc k)) q
  page_next (Program w c b l d) i k = program_page (same_memory Array w) c b (d + k) k q (program_based w c b l d n s i)
  page_next (Erase u b d) i k = erase_page (same_memory Array (memory_of u)) b d k q
  page_next (Write r v) i k = or_false _

  -- the pages that its touches lie in are those that it reaches
  pages_next : (o : Operation) → InOrder o n s → (k : ℕ) → touch_page (next_touches o k g) q ≡ from_on (first_page o) (pages_by o k) q
  unfolding ◌or◌
  pages_next o i zero = sym (none_first o q)
  pages_next o i (suc k) =
      page_append (next_touches o k g) (next_touch (advanced_by k o) g ∷ []) q
      ∙ ap (λ (t : Bool). touch_page (next_touches o k g) q or t) (or_false (in_page q (next_touch (advanced_by k o) g)))
      ∙ ap (λ (t : Bool). t or in_page q (next_touch (advanced_by k o) g)) (pages_next o i k)
      ∙ page_next o i k

module _ (p : Record) (s : sound p ≡ true) (q : ℕ) where
  pages_at : (w : Option Operation) → running p.phase ≡ w → (k : ℕ) → touch_page (work_touches w k p.page) q ≡ from_on (work_first w) (work_pages w k) q
  pages_at None e k = sym (no_page 0 q)
  pages_at (Some o) e k = pages_next p.part.blocks p.part.stored p.page q o (running_in_order p o e s) k

  -- page by page: n ticks of a sound part
  pub touched_pages : (n : ℕ) → touch_page (tick_touches n p) q ≡ reaches_page (record { work = running p.phase; count = working_ticks n p }) q
  touched_pages n =
      let k = working_ticks n p in
      ap (λ (ts : List Touch). touch_page ts q) (reached_touches p s n)
      ∙ page_append (work_touches (running p.phase) k p.page) (replicate (n - k) none) q
      ∙ ap (λ (t : Bool). touch_page (work_touches (running p.phase) k p.page) q or t) (page_none (n - k) q)
      ∙ or_false _
      ∙ pages_at (running p.phase) refl k

  call_as : (n : ℕ) (t : Bool) → leb n (tick_limit p.part.blocks) ≡ t
      → touch_page (call_touches (ticks n) p) q ≡ reaches_page (reached p (ticked p (array_bytes p.part.blocks) rows_bytes n)) q
  call_as n true e =
      let z = ticks_run p s n (leb-true _ _ e) in
      ap (λ (t : Ticked). touch_page (reached_by t.number n p) q) z
      ∙ touched_pages n
      ∙ ap (λ (t : Ticked). reaches_page (reached p t) q) (sym z)
  call_as n false e =
      let z = ticks_refused p s n e in
      ap (λ (t : Ticked). touch_page (reached_by t.number n p) q) z
      ∙ sym (none_reached (running p.phase) q)
      ∙ ap (λ (t : Ticked). reaches_page (reached p t) q) (sym z)

  -- and a tick call, on the part's own memory
  pub call_pages : (n : ℕ) → touch_page (call_touches (ticks n) p) q ≡ reaches_page (reached p (ticked p (array_bytes p.part.blocks) rows_bytes n)) q
  call_pages n = call_as n (leb n (tick_limit p.part.blocks)) refl
