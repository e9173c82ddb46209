-- Wear in all: what calls count lies in the sectors of the part, so what the history counts of all sectors, added up, is what it counts in all.
use Rattle.std.specs.Prelude.{None, Option, Some}
use Prim.Native.Nat.{ℕ, zero, suc, ◌+◌, ◌-◌, ◌*◌, ◌/◌, ◌%◌, ◌≤◌, ◌<◌}
use mathlib.Core.Path.{◌≡◌, refl, sym, ap, ◌∙◌}
use mathlib.Core.Bool.{Bool, true, false, cond}
use mathlib.Core.List.{List, [], ◌∷◌}
use native.Mathlib.Omega.{arith}
use native.Mathlib.Nat.{zero-add, add_comm}
use native.Mathlib.Numerals.{add-one}
use lib.Dec.{eqb, ltb, leb}
use lib.ListN.{replicate}
use borrow.Author.Tests.{eqb-true, eqb-false, ne_eqb, leb-true, lt-ltb, ltb-true}
use Rattle.types.specs.declared.Memory.{Memory}
use Rattle.types.specs.declared.Memory.TheVariants.{Array, Rows}
use Rattle.types.specs.declared.EraseUnit.{EraseUnit}
use Rattle.types.specs.declared.EraseUnit.TheVariants.{Sector, Block32, Block64, Chip, Row}
use Rattle.types.specs.declared.Operation.{Operation}
use Rattle.types.specs.declared.Operation.TheVariants.{Program, Erase, Write}
use Rattle.types.specs.declared.Stored.{Stored}
use Rattle.types.specs.declared.Record.{Record}
use Rattle.words.specs.Logic.{◌and◌, bit}
use Rattle.words.specs.Lists.{every}
use Rattle.words.proofs.Tests.{and_in, and_l, and_r}
use Rattle.words.proofs.Lists.{every_both}
use Rattle.paper.specs.Sizes.{same_memory, sector_bytes, sector_pages, array_bytes, array_sectors, memory_bytes, rows_bytes}
use Rattle.paper.specs.Erase.{memory_of, unit_pages}
use Rattle.paper.specs.Phases.{running}
use Rattle.paper.specs.Operations.{ticks_in_all, ticks_done, advanced_by}
use Rattle.paper.specs.Soundness.{sound}
use Rattle.paper.specs.Ticks.{working_ticks}
use Rattle.paper.specs.Calls.{ticked}
use Rattle.paper.specs.History.{Call, transaction, ticks, record_after_call}
use Rattle.paper.specs.Wear.{Count, no_count, erase, program, next_count, tick_counts, call_counts, history_counts, erases_of, programs_of, all_erases, all_programs}
use Rattle.wear_text.specs.TextLaws.{sum_of}
use Rattle.paper.proofs.Soundness.{InOrder, running_in_order}
use Rattle.paper.proofs.CallKept.{call_sound, call_size}
use Rattle.paper.proofs.Reached.{working_fits}
use Rattle.paper.proofs.Wear.{next_counts, work_counts, counts_at}

-- a count is of one of n sectors, if it is of any
abbrev pub in_sectors : ℕ → Count → Bool
in_sectors n no_count = true
in_sectors n (erase s) = ltb s n
in_sectors n (program s) = ltb s n

-- the next tick of an operation that is in order and not at its end
erase_inside : (u : EraseUnit) (n b d : ℕ) (t : Bool) → leb (b + unit_pages u n * 256) (memory_bytes (memory_of u) n) ≡ true → d < unit_pages u n
    → in_sectors (array_sectors n) (cond (same_memory Array (memory_of u) and t) (erase (b / sector_bytes + d / sector_pages)) no_count) ≡ true
unfolding ◌and◌
erase_inside u n b d false h l = either (same_memory Array (memory_of u))
  where
    either : (m : Bool) → in_sectors (array_sectors n) (cond (m and false) (erase (b / sector_bytes + d / sector_pages)) no_count) ≡ true
    either true = refl
    either false = refl
erase_inside Sector n b d true h l =
    let g = leb-true (b + unit_pages Sector n * 256) (array_bytes n) h in
    lt-ltb (b / sector_bytes + d / sector_pages) (array_sectors n) (omega (arith, g, l))
erase_inside Block32 n b d true h l =
    let g = leb-true (b + unit_pages Block32 n * 256) (array_bytes n) h in
    lt-ltb (b / sector_bytes + d / sector_pages) (array_sectors n) (omega (arith, g, l))
erase_inside Block64 n b d true h l =
    let g = leb-true (b + unit_pages Block64 n * 256) (array_bytes n) h in
    lt-ltb (b / sector_bytes + d / sector_pages) (array_sectors n) (omega (arith, g, l))
erase_inside Chip n b d true h l =
    let g = leb-true (b + unit_pages Chip n * 256) (array_bytes n) h in
    lt-ltb (b / sector_bytes + d / sector_pages) (array_sectors n) (omega (arith, g, l))
erase_inside Row n b d true h l = refl

program_inside : (m : Memory) (n b : ℕ) (t : Bool) → leb (b + 256) (memory_bytes m n) ≡ true
    → in_sectors (array_sectors n) (cond (same_memory Array m and t) (program (b / sector_bytes)) no_count) ≡ true
unfolding ◌and◌
program_inside Array n b true h =
    let g = leb-true (b + 256) (array_bytes n) h in
    lt-ltb (b / sector_bytes) (array_sectors n) (omega (arith, g))
program_inside Array n b false h = refl
program_inside Rows n b t h = refl

next_inside : (o : Operation) (n : ℕ) (g : Stored) (k : ℕ) → InOrder o n g → ticks_done o + k < ticks_in_all o n → in_sectors (array_sectors n) (next_count (advanced_by k o)) ≡ true
next_inside (Program m s b c d) n g k h l = program_inside m n b (eqb (suc (d + k)) c) h.within
next_inside (Erase u b d) n g k h l = erase_inside u n b (d + k) (eqb (suc (d + k) % sector_pages) 0) h.within l
next_inside (Write r v) n g k h l = refl

ticks_inside : (o : Operation) (n : ℕ) (g : Stored) (k : ℕ) → InOrder o n g → ticks_done o + k ≤ ticks_in_all o n → every (in_sectors (array_sectors n)) (next_counts o k) ≡ true
ticks_inside o n g zero h l = refl
ticks_inside o n g (suc k) h l =
    every_both (in_sectors (array_sectors n)) (next_counts o k) (next_count (advanced_by k o) ∷ []) (ticks_inside o n g k h (omega (arith, l))) (and_in (next_inside o n g k h (omega (arith, l))) refl)

none_inside : (n k : ℕ) → every (in_sectors n) (replicate k no_count) ≡ true
none_inside n zero = refl
none_inside n (suc k) = and_in refl (none_inside n k)

-- calls on a sound part
module _ (p : Record) (s : sound p ≡ true) where
  abbrev sectors : ℕ
  sectors = array_sectors p.part.blocks

  work_inside : (w : Option Operation) → running p.phase ≡ w → (n : ℕ) → every (in_sectors sectors) (work_counts w (working_ticks n p)) ≡ true
  work_inside None e n = refl
  work_inside (Some o) e n =
      ticks_inside o p.part.blocks p.part.stored (working_ticks n p) (running_in_order p o e s) (working_fits p o e s n)

  counts_inside : (n : ℕ) → every (in_sectors sectors) (tick_counts n p) ≡ true
  counts_inside n =
      ap (every (in_sectors sectors)) (counts_at p s n (running p.phase) refl)
      ∙ every_both (in_sectors sectors) (work_counts (running p.phase) (working_ticks n p)) (replicate (n - working_ticks n p) no_count) (work_inside (running p.phase) refl n) (none_inside sectors (n - working_ticks n p))

  call_inside : (c : Call) → every (in_sectors sectors) (call_counts c p) ≡ true
  call_inside (transaction wp i o) = refl
  call_inside (ticks n) = either (eqb (ticked p (array_bytes p.part.blocks) rows_bytes n).number 0)
    where
      either : (t : Bool) → every (in_sectors sectors) (cond t (tick_counts n p) []) ≡ true
      either true = counts_inside n
      either false = refl

pub history_inside : (cs : List Call) (p : Record) → sound p ≡ true → every (in_sectors (array_sectors p.part.blocks)) (history_counts cs p) ≡ true
history_inside [] p s = refl
history_inside (c ∷ cs) p s =
    every_both (in_sectors (array_sectors p.part.blocks)) (call_counts c p) (history_counts cs (record_after_call c p)) (call_inside p s c)
    (ap (λ (n : ℕ). every (in_sectors (array_sectors n)) (history_counts cs (record_after_call c p))) (sym (call_size c p)) ∙ history_inside cs (record_after_call c p) (call_sound c p s))

-- sums of so many numbers
pub sum_same : (n : ℕ) (f g : ℕ → ℕ) → ((q : ℕ) → q < n → f q ≡ g q) → sum_of f n ≡ sum_of g n
sum_same zero f g same = refl
sum_same (suc n) f g same =
    let e = sum_same n f g (λ q l. same q (omega (arith, l))) in
    let h = same n (omega arith) in
    omega (arith, e, h)

sum_none : (n : ℕ) → sum_of (λ (q : ℕ). 0) n ≡ 0
sum_none zero = refl
sum_none (suc n) = let e = sum_none n in omega (arith, e)

sum_both : (n : ℕ) (f g : ℕ → ℕ) → sum_of (λ (q : ℕ). f q + g q) n ≡ sum_of f n + sum_of g n
sum_both zero f g = refl
sum_both (suc n) f g = let e = sum_both n f g in omega (arith, e)

-- one sector of them
sum_past : (n s : ℕ) → n ≤ s → sum_of (λ (q : ℕ). bit (eqb s q)) n ≡ 0
sum_past zero s h = refl
sum_past (suc n) s h =
    let e = sum_past n s (omega (arith, h)) in
    let g = ap bit (ne_eqb s n (λ (z : s ≡ n). omega (arith, z, h))) in
    omega (arith, e, g)

-- the last of n + 1, or one before it
one_as : (n s : ℕ) (t : Bool) → eqb s n ≡ t → (s < n → sum_of (λ (q : ℕ). bit (eqb s q)) n ≡ 1) → s < suc n → sum_of (λ (q : ℕ). bit (eqb s q)) n + bit (eqb s n) ≡ 1
one_as n s true e before h =
    let z = eqb-true s n e in
    let past = sum_past n s (omega (arith, z)) in
    let g = ap bit e in
    omega (arith, past, g)
one_as n s false e before h =
    let z = eqb-false s n e in
    let one = before (omega (arith, h, z)) in
    let g = ap bit e in
    omega (arith, one, g)

sum_one : (n s : ℕ) → s < n → sum_of (λ (q : ℕ). bit (eqb s q)) n ≡ 1
sum_one zero s h = absurd (omega (arith, h))
sum_one (suc n) s h = one_as n s (eqb s n) refl (sum_one n s) h

-- of all sectors, what is counted of each, added up, is what is counted in all
module _ (n : ℕ) where
  sum_more : (f g : ℕ → ℕ) (a b : ℕ) → sum_of f n ≡ a → sum_of g n ≡ b → sum_of (λ (q : ℕ). f q + g q) n ≡ a + b
  sum_more f g a b e h = let s = sum_both n f g in omega (arith, s, e, h)

  pub sum_erases : (cs : List Count) → every (in_sectors n) cs ≡ true → sum_of (λ (q : ℕ). erases_of q cs) n ≡ all_erases cs
  sum_erases [] h = sum_none n
  sum_erases (no_count ∷ cs) h =
      sum_more (λ (q : ℕ). 0) (λ (q : ℕ). erases_of q cs) 0 (all_erases cs) (sum_none n) (sum_erases cs (and_r _ _ h)) ∙ zero-add (all_erases cs)
  sum_erases (erase s ∷ cs) h =
      sum_more (λ (q : ℕ). bit (eqb s q)) (λ (q : ℕ). erases_of q cs) 1 (all_erases cs) (sum_one n s (ltb-true s n (and_l _ _ h))) (sum_erases cs (and_r _ _ h))
      ∙ add_comm 1 (all_erases cs) ∙ add-one (all_erases cs)
  sum_erases (program s ∷ cs) h =
      sum_more (λ (q : ℕ). 0) (λ (q : ℕ). erases_of q cs) 0 (all_erases cs) (sum_none n) (sum_erases cs (and_r _ _ h)) ∙ zero-add (all_erases cs)

  pub sum_programs : (cs : List Count) → every (in_sectors n) cs ≡ true → sum_of (λ (q : ℕ). programs_of q cs) n ≡ all_programs cs
  sum_programs [] h = sum_none n
  sum_programs (no_count ∷ cs) h =
      sum_more (λ (q : ℕ). 0) (λ (q : ℕ). programs_of q cs) 0 (all_programs cs) (sum_none n) (sum_programs cs (and_r _ _ h)) ∙ zero-add (all_programs cs)
  sum_programs (erase s ∷ cs) h =
      sum_more (λ (q : ℕ). 0) (λ (q : ℕ). programs_of q cs) 0 (all_programs cs) (sum_none n) (sum_programs cs (and_r _ _ h)) ∙ zero-add (all_programs cs)
  sum_programs (program s ∷ cs) h =
      sum_more (λ (q : ℕ). bit (eqb s q)) (λ (q : ℕ). programs_of q cs) 1 (all_programs cs) (sum_one n s (ltb-true s n (and_l _ _ h))) (sum_programs cs (and_r _ _ h))
      ∙ add_comm 1 (all_programs cs) ∙ add-one (all_programs cs)
