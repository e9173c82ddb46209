-- Programs and erases together, at one place: two programs in either order, one twice, an erase after a program of its unit, and two programs merged.
use Prim.Native.Nat.{ℕ, ◌+◌, ◌-◌, ◌*◌, ◌/◌, ◌%◌, ◌≤◌, ◌<◌}
use mathlib.Core.Path.{◌≡◌, refl, sym, ap, ◌∙◌, subst⁻¹}
use mathlib.Core.Bool.{Bool, true, false, cond, false≢true}
use mathlib.Core.List.{List, ◌++◌}
use native.Mathlib.Omega.{arith}
use native.Mathlib.Nat.{add-zero, zero-add, mul_assoc}
use lib.ListN.{length, get_or, length-append, get_or-append}
use lib.Seq.{get_or-append-add}
use lib.Dec.{ltb}
use borrow.Author.Tests.{ltb-true, ltb-false, lt-ltb, le-ltb}
use Rattle.types.specs.declared.Memory.{Memory}
use Rattle.types.specs.declared.EraseUnit.{EraseUnit}
use Rattle.words.specs.Logic.{◌and◌}
use Rattle.words.proofs.Tests.{and_l, and_r, and_in, same_tests}
use Rattle.words.proofs.Bits.{and_swap, and_again}
use Rattle.paper.specs.Sizes.{page_bytes, same_memory, from_on}
use Rattle.paper.specs.Program.{page_base, page_place, kept_count, passed_count, narrowed_byte}
use Rattle.paper.specs.Erase.{memory_of, unit_pages, unit_bytes, unit_base, erased_byte}
use Rattle.paper.specs.ByPlace.{byte_for}
use Rattle.paper.proofs.Sizes.{same_is}
use Rattle.paper.proofs.ByPlace.{from_on_lem, on_from}
use Rattle.laws.specs.Writes.{in_page_of, byte_to, writes_at, byte_programmed, in_unit_of, byte_erased}

-- two bytes AND one, in either order; and the same one twice
narrowed_swap : (s t : Bool) (x y z : ℕ)
    → let a = cond t (narrowed_byte x z) x in let b = cond s (narrowed_byte x y) x in
    cond s (narrowed_byte a y) a ≡ cond t (narrowed_byte b z) b
narrowed_swap true true x y z = and_swap x z y
narrowed_swap true false x y z = refl
narrowed_swap false true x y z = refl
narrowed_swap false false x y z = refl

narrowed_twice : (s : Bool) (x y : ℕ) → let a = cond s (narrowed_byte x y) x in cond s (narrowed_byte a y) a ≡ a
narrowed_twice true x y = and_again x y
narrowed_twice false x y = refl

module _ (m : Memory) (at x : ℕ) where
  pub programs_swap : (w v : Memory) (a b : ℕ) (d e : List ℕ) → byte_programmed w a d m at (byte_programmed v b e m at x) ≡ byte_programmed v b e m at (byte_programmed w a d m at x)
  programs_swap w v a b d e =
      narrowed_swap (writes_at w a d m at) (writes_at v b e m at) x (get_or d (passed_count d + byte_to a d at) 0) (get_or e (passed_count e + byte_to b e at) 0)

  pub program_twice : (w : Memory) (a : ℕ) (d : List ℕ) → byte_programmed w a d m at (byte_programmed w a d m at x) ≡ byte_programmed w a d m at x
  program_twice w a d = narrowed_twice (writes_at w a d m at) x (get_or d (passed_count d + byte_to a d at) 0)

-- an erase after a program of a page of its unit
forgotten : (t s : Bool) (x y : ℕ) → (s ≡ true → t ≡ true) → cond t erased_byte (cond s y x) ≡ cond t erased_byte x
forgotten true s x y h = refl
forgotten false true x y h = absurd (false≢true (h refl))
forgotten false false x y h = refl

-- a unit of k pages begins where a page does, and so holds the page of each of its places
page_in : (q k b at : ℕ) → q * page_bytes ≤ b → b < q * page_bytes + k * page_bytes → page_base b ≤ at → at < page_base b + page_bytes → (q * page_bytes ≤ at) × (at < q * page_bytes + k * page_bytes)
page_in q k b at l h f g = (omega arith, omega arith)

module _ (u : EraseUnit) (n a b at : ℕ) where
  page_in_unit : from_on (unit_base u n a) (unit_bytes u n) b ≡ true → from_on (page_base b) page_bytes at ≡ true → from_on (unit_base u n a) (unit_bytes u n) at ≡ true
  page_in_unit h f =
      let k = unit_pages u n in
      let q = a / unit_bytes u n * k in
      let e : unit_base u n a ≡ q * page_bytes = sym (mul_assoc (a / unit_bytes u n) k page_bytes) in
      let x = on_from (unit_base u n a) (unit_bytes u n) b h in
      let y = on_from (page_base b) page_bytes at f in
      let z = page_in q k b at (omega (arith, x, e)) (omega (arith, x, e)) y.0 y.1 in
      from_on_lem (unit_base u n a) (unit_bytes u n) at (omega (arith, z, e)) (omega (arith, z, e))

  pub erase_forgets_place : (m w : Memory) (d : List ℕ) (x : ℕ) → in_unit_of u n a w b ≡ true → byte_erased u n a m at (byte_programmed w b d m at x) ≡ byte_erased u n a m at x
  erase_forgets_place m w d x h =
      forgotten (in_unit_of u n a m at) (writes_at w b d m at) x (narrowed_byte x (get_or d (passed_count d + byte_to b d at) 0))
      (λ t.
      let i : in_page_of w b m at ≡ true = and_l _ _ t in
      and_in (subst⁻¹ (λ (z : Memory). same_memory z (memory_of u) ≡ true) (same_is m w (and_l _ _ i)) (and_l _ _ h)) (page_in_unit (and_r _ _ h) (and_r _ _ i)))

-- a program of at most 256 bytes, all of which count
pub short_program : (w : Memory) (a : ℕ) (d : List ℕ) (m : Memory) (at x : ℕ) → length d ≤ page_bytes
    → let k = byte_for (page_place a 0) (at - page_base a) in
    byte_programmed w a d m at x ≡ cond (in_page_of w a m at and ltb k (length d)) (narrowed_byte x (get_or d k 0)) x
short_program w a d m at x l =
    let z : passed_count d ≡ 0 = omega arith in
    let c : kept_count d ≡ length d = omega arith in
    rw (z, c, zero-add) refl

-- a byte of the first of two programs, of the second, or of neither; and of one of the data of both
merged_as : (s t r q : Bool) (x y z v : ℕ) → (s ≡ true → t ≡ true → (r ≡ false) × (q ≡ true) × (v ≡ y)) → (s ≡ true → t ≡ false → r ≡ q) → (s ≡ true → t ≡ false → r ≡ true → v ≡ z)
    → let o = cond (s and t) (narrowed_byte x y) x in cond (s and r) (narrowed_byte o z) o ≡ cond (s and q) (narrowed_byte x v) x
unfolding ◌and◌
merged_as false t r q x y z v g h k = refl
merged_as true true r q x y z v g h k = let e = g refl refl in rw (e.0, e.1) (ap (narrowed_byte x) (sym e.2))
merged_as true false true q x y z v g h k = rw (← h refl refl) (ap (narrowed_byte x) (sym (k refl refl refl)))
merged_as true false false q x y z v g h k = rw (← h refl refl) refl

-- which byte of p bytes from the place s on, and of those that go on behind them, falls at the place j of the page
before_later : (s p q j : ℕ) → s < page_bytes → j < page_bytes → p + q ≤ page_bytes → byte_for s j < p → q ≤ byte_for ((s + p) % page_bytes) j
before_later s p q j h l g r = omega arith

later_on : (s p j : ℕ) → s < page_bytes → j < page_bytes → p ≤ byte_for s j → byte_for s j ≡ p + byte_for ((s + p) % page_bytes) j
later_on s p j h l r = omega arith

-- the place where they go on
place_on : (a p : ℕ) → (page_base a + (a + p) % page_bytes) % page_bytes ≡ (a + p) % page_bytes
place_on a p = omega arith

place_sum : (a p : ℕ) → (a % page_bytes + p) % page_bytes ≡ (a + p) % page_bytes
place_sum a p = omega arith

-- two programs of one page, the second of which goes on where the first ended, and one program of the data of both
module _ (w : Memory) (a c : ℕ) (d e : List ℕ) (on : c ≡ page_base a + page_place a (length d)) (fits : length d + length e ≤ page_bytes) (m : Memory) (at x : ℕ) where
  abbrev j : ℕ
  j = at - page_base a

  abbrev k : ℕ
  k = byte_for (page_place a 0) j

  abbrev l : ℕ
  l = byte_for (page_place c 0) j

  abbrev kept : List ℕ → ℕ → ℕ → ℕ
  kept ds i y = cond (in_page_of w a m at and ltb i (length ds)) (narrowed_byte y (get_or ds i 0)) y

  one_page : page_base c ≡ page_base a
  unfolding page_place
  one_page = omega (arith, on)

  second_program : (y : ℕ) → byte_programmed w c e m at y ≡ kept e l y
  second_program y =
      short_program w c e m at y (omega arith)
      ∙ ap (λ (b : ℕ). cond ((same_memory m w and from_on b page_bytes at) and ltb (byte_for (page_place c 0) (at - b)) (length e)) (narrowed_byte y (get_or e (byte_for (page_place c 0) (at - b)) 0)) y) one_page

  in-page : page_place a 0 < page_bytes
  unfolding page_place
  in-page = omega arith

  place_later : page_place c 0 ≡ (page_place a 0 + length d) % page_bytes
  unfolding page_place
  place_later =
      rw (add-zero c, add-zero a) (ap (λ (b : ℕ). b % page_bytes) on ∙ place_on a (length d) ∙ sym (place_sum a (length d)))

  l_is : l ≡ byte_for ((page_place a 0 + length d) % page_bytes) j
  l_is = ap (λ (b : ℕ). byte_for b j) place_later

  -- a byte of the data of both is one of the first, or one of the second
  of_first : j < page_bytes → ltb k (length d) ≡ true → (ltb l (length e) ≡ false) × (ltb k (length (d ++ e)) ≡ true) × (get_or (d ++ e) k 0 ≡ get_or d k 0)
  of_first g h =
      let r : k < length d = ltb-true _ _ h in
      let z : length e ≤ byte_for ((page_place a 0 + length d) % page_bytes) j = before_later (page_place a 0) (length d) (length e) j in-page g fits r in
      let y : k < length (d ++ e) = simp length-append (omega arith) in
      (le-ltb l (length e) (subst⁻¹ (λ (b : ℕ). length e ≤ b) l_is z), lt-ltb k (length (d ++ e)) y, get_or-append d e 0 k r)

  not_first : j < page_bytes → ltb k (length d) ≡ false → k ≡ length d + l
  not_first g h = later_on (page_place a 0) (length d) j in-page g (ltb-false k (length d) h) ∙ ap (λ (b : ℕ). length d + b) (sym l_is)

  of_second : j < page_bytes → ltb k (length d) ≡ false → ltb l (length e) ≡ ltb k (length (d ++ e))
  of_second g h =
      let z : k ≡ length d + l = not_first g h in
      let y : length (d ++ e) ≡ length d + length e = length-append d e in
      same_tests (ltb l (length e)) (ltb k (length (d ++ e)))
      (λ t. let r : l < length e = ltb-true _ _ t in lt-ltb k (length (d ++ e)) (omega (arith, y, z, r)))
      (λ t. let r : k < length (d ++ e) = ltb-true _ _ t in lt-ltb l (length e) (omega (arith, y, z, r)))

  pub merge_leaves : byte_programmed w c e m at (byte_programmed w a d m at x) ≡ byte_programmed w a (d ++ e) m at x
  merge_leaves =
      let inside : in_page_of w a m at ≡ true → j < page_bytes = λ f. omega (arith, on_from (page_base a) page_bytes at (and_r _ _ f)) in
      second_program (byte_programmed w a d m at x)
      ∙ ap (kept e l) (short_program w a d m at x (omega arith))
      ∙ merged_as (in_page_of w a m at) (ltb k (length d)) (ltb l (length e)) (ltb k (length (d ++ e))) x (get_or d k 0) (get_or e l 0) (get_or (d ++ e) k 0)
      (λ f t. of_first (inside f) t)
      (λ f t. of_second (inside f) t)
      (λ f t r. ap (λ (b : ℕ). get_or (d ++ e) b 0) (not_first (inside f) t) ∙ get_or-append-add d e l 0)
      ∙ sym (short_program w a (d ++ e) m at x (simp length-append fits))
