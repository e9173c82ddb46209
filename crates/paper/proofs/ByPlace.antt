-- What ticks of an operation leave, place by place, is what they reach one after the other: an erase's ticks set one page after the other, and a program's narrow each place at most once.
use Rattle.std.specs.Prelude.{Some}
use Prim.Native.Nat.{ℕ, zero, suc, ◌+◌, ◌-◌, ◌*◌, ◌%◌, ◌≤◌, ◌<◌}
use mathlib.Core.Path.{◌≡◌, refl, sym, ap, ◌∙◌}
use mathlib.Core.Bool.{Bool, true, false, cond, false≢true}
use mathlib.Core.List.{List, [], ◌∷◌}
use native.Mathlib.Omega.{arith}
use native.Mathlib.Nat.{add-zero, add-suc}
use lib.ListN.{get_or}
use lib.Dec.{eqb, ltb}
use borrow.Author.Tests.{eqb-true, eqb-false, leb-true, ltb-true, ltb-false, le-leb, lt-ltb}
use Rattle.types.specs.declared.Memory.{Memory}
use Rattle.types.specs.declared.EraseUnit.{EraseUnit}
use Rattle.types.specs.declared.Operation.{Operation}
use Rattle.types.specs.declared.Operation.TheVariants.{Program, Erase, Write}
use Rattle.types.specs.declared.Stored.{Stored}
use Rattle.types.specs.declared.Record.{Record}
use Rattle.words.specs.Logic.{◌and◌}
use Rattle.words.proofs.Tests.{and_l, and_r, and_in, same_tests, fails}
use Rattle.paper.specs.Sizes.{same_memory, from_on, page_bytes}
use Rattle.paper.specs.Program.{page_place, narrowed_byte}
use Rattle.paper.specs.Erase.{memory_of, erased_byte}
use Rattle.paper.specs.Phases.{running}
use Rattle.paper.specs.Operations.{ticks_in_all, ticks_done, ticks_left, advanced_by, Touch, narrow, blank, next_touch}
use Rattle.paper.specs.Ticks.{record_after, touch_of}
use Rattle.paper.specs.History.{tick_touches, byte_after, byte_after_all}
use Rattle.paper.specs.ByPlace.{byte_for, byte_ran, byte_ended}
use Rattle.paper.proofs.Soundness.{InOrder}
use Rattle.paper.proofs.ManyTicks.{run_touch, run_past, past_touch}
use Rattle.paper.proofs.Histories.{bytes_append}

-- a place is one of k from b on, as a test and in numbers
pub from_on_lem : (b k at : ℕ) → b ≤ at → at < b + k → from_on b k at ≡ true
from_on_lem b k at l h = and_in (le-leb _ _ l) (lt-ltb _ _ h)

pub on_from : (b k at : ℕ) → from_on b k at ≡ true → (b ≤ at) × (at < b + k)
on_from b k at h = (leb-true _ _ (and_l _ _ h), ltb-true _ _ (and_r _ _ h))

-- of k places and size more behind them, one that is none of those behind is one of the k
lies_before_as : (a k size at : ℕ) (t : Bool) → ltb at (a + k) ≡ t → a ≤ at → at < a + k + size → from_on (a + k) size at ≡ false → from_on a k at ≡ true
lies_before_as a k size at true e l h f = from_on_lem a k at l (ltb-true _ _ e)
lies_before_as a k size at false e l h f = absurd (false≢true (sym f ∙ from_on_lem (a + k) size at (ltb-false _ _ e) h))

lies_before : (a k size at : ℕ) → a ≤ at → at < a + k + size → from_on (a + k) size at ≡ false → from_on a k at ≡ true
lies_before a k size at = lies_before_as a k size at (ltb at (a + k)) refl

-- a place is narrowed next, or not: it was not before where it is, and stays as it was where it is not
next_narrowed : (s e f a b : Bool) (x y v : ℕ) → (e ≡ true → (f ≡ true) × (a ≡ false) × (b ≡ true) × (narrowed_byte x v ≡ y)) → (e ≡ false → f ≡ true → a ≡ b)
    → let z = cond (s and f and a) y x in cond (s and e) (narrowed_byte z v) z ≡ cond (s and f and b) y x
unfolding ◌and◌
next_narrowed false e f a b x y v h g = refl
next_narrowed true true f a b x y v h g = let q = h refl in rw (q.0, q.1, q.2) q.3
next_narrowed true false false a b x y v h g = refl
next_narrowed true false true a b x y v h g = ap (λ (t : Bool). cond t y x) (g refl refl)

next_erased : (s a b c : Bool) (x : ℕ) → (a ≡ true → c ≡ true) → (b ≡ true → c ≡ true) → (c ≡ true → a ≡ false → b ≡ true)
    → cond (s and a) erased_byte (cond (s and b) erased_byte x) ≡ cond (s and c) erased_byte x
unfolding ◌and◌
next_erased false a b c x f g h = refl
next_erased true true b c x f g h = rw (f refl) refl
next_erased true false true c x f g h = rw (g refl) refl
next_erased true false false true x f g h = absurd (false≢true (h refl refl))
next_erased true false false false x f g h = refl

-- j places set to FFh, and then the k behind them: j + k are
pub erased_on : (s : Bool) (a j k at x : ℕ) → cond (s and from_on (a + j) k at) erased_byte (cond (s and from_on a j at) erased_byte x) ≡ cond (s and from_on a (j + k) at) erased_byte x
erased_on s a j k at x =
    next_erased s (from_on (a + j) k at) (from_on a j at) (from_on a (j + k) at) x
    (λ e. let q = on_from (a + j) k at e in from_on_lem a (j + k) at (omega (arith, q)) (omega (arith, q)))
    (λ e. let q = on_from a j at e in from_on_lem a (j + k) at q.0 (omega (arith, q)))
    (λ e f. let q = on_from a (j + k) at e in lies_before a j k at q.0 (omega (arith, q)) f)

-- the next tick at a place of a memory, after k ticks
module _ (m : Memory) (at : ℕ) where
  program_next : (w : Memory) (s b c d k : ℕ) (g : List ℕ) (x : ℕ) → s < page_bytes → d + k < page_bytes
      → byte_after m at (narrow w (b + page_place s (d + k)) (get_or g (d + k) 0)) (byte_ran k (Program w s b c d) g m at x) ≡ byte_ran (suc k) (Program w s b c d) g m at x
  unfolding page_place
  program_next w s b c d k g x l h =
      let t = byte_for s (at - b) in
      next_narrowed (same_memory m w) (eqb at (b + page_place s (d + k))) (from_on b page_bytes at) (from_on d k t) (from_on d (suc k) t) x (narrowed_byte x (get_or g t 0)) (get_or g (d + k) 0)
      (λ e.
      let q : at ≡ b + (s + (d + k)) % page_bytes = eqb-true _ _ e in
      let z : t ≡ d + k = omega arith in
      (from_on_lem b page_bytes at (omega arith) (omega arith), fails _ (λ r. omega (arith, on_from d k t r, z)), from_on_lem d (suc k) t (omega arith) (omega arith), ap (λ (j : ℕ). narrowed_byte x (get_or g j 0)) (sym z)))
      (λ e f.
      let q : at ≡ b + (s + (d + k)) % page_bytes → ⊥ = eqb-false _ _ e in
      let r = on_from b page_bytes at f in
      let z : t ≡ d + k → ⊥ = λ y. q (omega (arith, r, y)) in
      same_tests (from_on d k t) (from_on d (suc k) t)
      (λ y. let u = on_from d k t y in from_on_lem d (suc k) t u.0 (omega (arith, u)))
      (λ y. let u = on_from d (suc k) t y in from_on_lem d k t u.0 (omega (arith, u, z))))

  erase_next : (u : EraseUnit) (b d k : ℕ) (g : List ℕ) (x : ℕ)
      → byte_after m at (blank (memory_of u) (b + (d + k) * page_bytes)) (byte_ran k (Erase u b d) g m at x) ≡ byte_ran (suc k) (Erase u b d) g m at x
  erase_next u b d k g x =
      let a = b + d * page_bytes in
      let s = same_memory m (memory_of u) in
      let c : b + (d + k) * page_bytes ≡ a + k * page_bytes = omega arith in
      let z : k * page_bytes + page_bytes ≡ suc k * page_bytes = omega arith in
      ap (λ (y : ℕ). cond (s and from_on y page_bytes at) erased_byte (cond (s and from_on a (k * page_bytes) at) erased_byte x)) c
      ∙ erased_on s a (k * page_bytes) page_bytes at x
      ∙ ap (λ (y : ℕ). cond (s and from_on a y at) erased_byte x) z

  -- of an operation that is in order
  ran_next : (o : Operation) (n : ℕ) (r : Stored) (k : ℕ) (g : List ℕ) (x : ℕ) → InOrder o n r → ticks_done o + k < ticks_in_all o n
      → byte_after m at (next_touch (advanced_by k o) g) (byte_ran k o g m at x) ≡ byte_ran (suc k) o g m at x
  ran_next (Program w s b c d) n r k g x i h =
      let few : c ≤ page_bytes = leb-true _ _ (and_l _ _ (and_r _ _ i.content)) in
      let l : s < page_bytes = ltb-true _ _ (and_r _ _ (and_r _ _ i.content)) in
      program_next w s b c d k g x l (omega arith)
  ran_next (Erase u b d) n r k g x i h = erase_next u b d k g x
  ran_next (Write q v) n r k g x i h = refl

  ran_none : (o : Operation) (g : List ℕ) (x : ℕ) → byte_ran 0 o g m at x ≡ x
  ran_none (Program w s b c d) g x =
      let t = byte_for s (at - b) in
      let q : (same_memory m w and from_on b page_bytes at and from_on d 0 t) ≡ false = fails _ (λ q. omega (arith, on_from d 0 t (and_r _ _ (and_r _ _ q)))) in
      ap (λ (z : Bool). cond z (narrowed_byte x (get_or g t 0)) x) q
  ran_none (Erase u b d) g x =
      let q : (same_memory m (memory_of u) and from_on (b + d * page_bytes) (0 * page_bytes) at) ≡ false = fails _ (λ q. omega (arith, on_from (b + d * page_bytes) (0 * page_bytes) at (and_r _ _ q))) in
      ap (λ (z : Bool). cond z erased_byte x) q
  ran_none (Write q v) g x = refl

-- a part that works on an operation
module _ (p : Record) (o : Operation) (e : running p.phase ≡ Some o) (i : InOrder o p.part.blocks p.part.stored) (m : Memory) (at x : ℕ) where
  -- k ticks that are not more than those left
  pub ran_bytes : (k : ℕ) → ticks_done o + k ≤ ticks_in_all o p.part.blocks → byte_after_all m at (tick_touches k p) x ≡ byte_ran k o p.page m at x
  ran_bytes zero h = sym (ran_none m at o p.page x)
  ran_bytes (suc k) h =
      bytes_append m at (tick_touches k p) (touch_of (record_after k p) ∷ []) x
      ∙ ap (λ (t : Touch). byte_after m at t (byte_after_all m at (tick_touches k p) x)) (run_touch p o e k (omega arith))
      ∙ ap (byte_after m at (next_touch (advanced_by k o) p.page)) (ran_bytes k (omega arith))
      ∙ ran_next m at o p.part.blocks p.part.stored k p.page x i (omega arith)

  -- ticks past the last reach nothing
  past_bytes : (k j : ℕ) → ticks_done o + suc k ≡ ticks_in_all o p.part.blocks → byte_after_all m at (tick_touches (suc k + j) p) x ≡ byte_after_all m at (tick_touches (suc k) p) x
  past_bytes k zero h = rw add-zero refl
  past_bytes k (suc j) h =
      rw add-suc
      (bytes_append m at (tick_touches (suc k + j) p) (touch_of (record_after (suc k + j) p) ∷ []) x
      ∙ ap (λ (t : Touch). byte_after m at t (byte_after_all m at (tick_touches (suc k + j) p) x)) (ap touch_of (run_past p o e k j h) ∙ past_touch p o e)
      ∙ past_bytes k j h)

  -- at least those left
  pub ended_bytes : (n : ℕ) → ticks_left o p.part.blocks ≤ n → byte_after_all m at (tick_touches n p) x ≡ byte_ended o p.part.blocks p.page m at x
  ended_bytes n l =
      let k = ticks_left o p.part.blocks - 1 in
      let z : n ≡ suc k + (n - suc k) = omega (arith, i.going) in
      let y : suc k ≡ ticks_left o p.part.blocks = omega (arith, i.going) in
      ap (λ (j : ℕ). byte_after_all m at (tick_touches j p) x) z
      ∙ past_bytes k (n - suc k) (omega (arith, i.going))
      ∙ ran_bytes (suc k) (omega (arith, i.going))
      ∙ ap (λ (j : ℕ). byte_ran j o p.page m at x) y
