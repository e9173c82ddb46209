-- The laws of the text of wear records. A line takes at most 32 bytes, and the first ten at most 29, which leaves the last two lines the room that they may want beyond 64.
use Rattle.std.proofs.Common.{◌≡◌, ℕ, zero, suc, ◌+◌, ◌-◌, ◌*◌, ◌^◌, ◌<◌, ◌≤◌, min, Bool, true, false, cond, ltb, ◌⊎◌, List, [], ◌∷◌, ◌++◌, length, get_or, drop, refl, ap, ◌∙◌, inl, inr, ⊎_elim, mod-eq_of_lt, arith, length-append, ltb-false, ltb-true, eqb-true}
use lib.Seq.{sets, sets-eq}
use Rattle.types.specs.declared.Wear.{Wear}
use Rattle.words.proofs.Tests.{or_else_zero, unless_zero}
use Rattle.paper.specs.Bench.{space, digit}
use Rattle.paper.specs.Sizes.{size_ok, array_sectors, wear_text_bytes}
use Rattle.paper.specs.Numbers.{wear_number, output_number, wear_text_number}
use Rattle.paper.specs.Wear.{unworn, full_count}
use Rattle.paper.specs.WearText.{full_word, wide_decimal, is_full, wear_line, wear_lines, larger, largest_of, total_of, sums_text, wear_text, Written, wear_written}
use Rattle.paper.proofs.Sizes.{size_range}
use Rattle.wear_text.specs.TextLaws.{AreCounts, Numerals, OneOf, Largest, sum_of, SumsTold, Fits, WrittenWhole, TextLaws}
use Rattle.paper.proofs.WearText.{wide_digits, wide_value, wide_first, wide_few_1, wide_few_4, wide_few_10, wide_few_14}

-- Numerals
first_zero : (n : ℕ) → n < 10 ^ 15 → get_or (wide_decimal n) 0 0 ≡ digit 0 → n ≡ 0
first_zero zero h e = refl
first_zero (suc n) h e = absurd (omega (arith, wide_first (suc n) (omega arith) h, e))

numerals : Numerals
numerals n h =
    record { digits = wide_digits n; value = wide_value n h; first = first_zero n h; few_1 = wide_few_1 n; few_4 = wide_few_4 n; few_10 = wide_few_10 n; few_14 = wide_few_14 n }

-- Sums of one of the counts
larger_as : (t : Bool) (a b : ℕ) → ltb a b ≡ t → (a ≤ cond t b a) × (b ≤ cond t b a)
larger_as true a b e = let h = ltb-true a b e in (omega arith, omega arith)
larger_as false a b e = let h = ltb-false a b e in (omega arith, omega arith)

larger_above : (a b : ℕ) → (a ≤ larger a b) × (b ≤ larger a b)
unfolding larger
larger_above a b = larger_as (ltb a b) a b refl

either_of : (t : Bool) (a b : ℕ) → (cond t b a ≡ a) ⊎ (cond t b a ≡ b)
either_of true a b = inr refl
either_of false a b = inl refl

larger_one : (a b : ℕ) → (larger a b ≡ a) ⊎ (larger a b ≡ b)
unfolding larger
larger_one a b = either_of (ltb a b) a b

module _ (count : Wear → ℕ) (ws : List Wear) where
  abbrev numbers : ℕ → ℕ
  numbers q = count (get_or ws q unworn)

  above_more : (t : Bool) (k q : ℕ) → ltb q k ≡ t → q < suc k → (q < k → numbers q ≤ largest_of count ws k) → numbers q ≤ largest_of count ws (suc k)
  above_more true k q e h before =
      let a = before (ltb-true q k e) in
      let b = (larger_above (largest_of count ws k) (numbers k)).0 in
      omega arith
  above_more false k q e h before =
      let l : q ≡ k = omega (arith, ltb-false q k e) in
      rw l (larger_above (largest_of count ws k) (numbers k)).1

  largest_above : (k q : ℕ) → q < k → numbers q ≤ largest_of count ws k
  largest_above zero q h = absurd (omega arith)
  largest_above (suc k) q h = above_more (ltb q k) k q refl h (largest_above k q)

  one_more : (k m : ℕ) → (m ≡ 0) ⊎ OneOf numbers k m → (m ≡ 0) ⊎ OneOf numbers (suc k) m
  one_more k m (inl e) = inl e
  one_more k m (inr o) = inr (record { place = o.place; within = omega (arith, o.within); same = o.same })

  largest_one : (k : ℕ) → (largest_of count ws k ≡ 0) ⊎ OneOf numbers k (largest_of count ws k)
  largest_one zero = inl refl
  largest_one (suc k) =
      ⊎_elim (λ e. rw e (one_more k (largest_of count ws k) (largest_one k)))
      (λ e. inr (record { place = k; within = omega arith; same = e }))
      (larger_one (largest_of count ws k) (numbers k))

  pub largest_is : (k : ℕ) → Largest numbers k (largest_of count ws k)
  largest_is k = record { above = largest_above k; one = largest_one k }

  module _ (are : (q : ℕ) → numbers q ≤ full_count) where
    largest_count : (k : ℕ) → largest_of count ws k ≤ full_count
    largest_count k = ⊎_elim (λ e. omega (arith, e)) (λ o. rw o.same (are o.place)) (largest_one k)

    sum_most : (k : ℕ) → sum_of numbers k ≤ k * full_count
    sum_most zero = omega arith
    sum_most (suc k) =
        let a = sum_most k in
        let b = are k in
        omega arith

    pub total_is_sum : (k : ℕ) → k ≤ 8192 → total_of count ws k ≡ sum_of numbers k
    total_is_sum zero h = refl
    total_is_sum (suc k) h =
        let a = sum_most k in
        let b = are k in
        let l : sum_of numbers k + numbers k < 2 ^ 64 = omega arith in
        rw (total_is_sum k (omega arith)) (mod-eq_of_lt l)

    total_few : (k : ℕ) → k ≤ 8192 → total_of count ws k < 10 ^ 14
    total_few k h =
        let a = sum_most k in
        rw (total_is_sum k h) (omega arith)

sums : SumsTold
sums n ws size e are =
    let r = size_range n size in
    let k : length ws ≤ 8192 = omega arith in
    record {
      largest_erases = largest_is (λ w. w.erases) ws (length ws);
      largest_programs = largest_is (λ w. w.programs) ws (length ws);
      total_erases = total_is_sum (λ w. w.erases) ws (λ q. (are q).0) (length ws) k;
      total_programs = total_is_sum (λ w. w.programs) ws (λ q. (are q).1) (length ws) k;
    }

-- How long the lines are
full_few : (t : Bool) → length (cond t (space ∷ full_word) []) ≤ 5
full_few true = omega arith
full_few false = omega arith

line_few : (q d : ℕ) (w : Wear) → w.erases ≤ full_count → w.programs ≤ full_count → length (wide_decimal q) ≤ d → length (wear_line q w) ≤ d + 28
unfolding wear_line
line_few q d w e p h =
    let a = wide_few_10 w.erases (omega arith) in
    let b = wide_few_10 w.programs (omega arith) in
    let c = full_few (is_full w) in
    simp length-append (omega arith)

sums_few : (le lp te tp : ℕ) → le ≤ full_count → lp ≤ full_count → te < 10 ^ 14 → tp < 10 ^ 14 → length (sums_text le lp te tp) ≤ 66
unfolding sums_text
sums_few le lp te tp a b c d =
    let e = wide_few_10 le (omega arith) in
    let f = wide_few_10 lp (omega arith) in
    let g = wide_few_14 te c in
    let h = wide_few_14 tp d in
    simp length-append (omega arith)

module _ (ws : List Wear) (are : AreCounts ws) where
  -- the first ten lines
  lines_first : (k : ℕ) → k ≤ 10 → length (wear_lines ws k) ≤ 29 * k
  lines_first zero h = omega arith
  lines_first (suc k) h =
      let a = lines_first k (omega arith) in
      let b = line_few k 1 (get_or ws k unworn) (are k).0 (are k).1 (wide_few_1 k (omega arith)) in
      rw (length-append (wear_lines ws k) (wear_line k (get_or ws k unworn))) (omega arith)

  -- and those after them
  lines_few : (j : ℕ) → 10 + j ≤ 10000 → length (wear_lines ws (10 + j)) ≤ 290 + 32 * j
  lines_few zero h = let a = lines_first 10 (omega arith) in omega arith
  lines_few (suc j) h =
      let e : 10 + suc j ≡ suc (10 + j) = omega arith in
      let a = lines_few j (omega arith) in
      let b = line_few (10 + j) 4 (get_or ws (10 + j) unworn) (are (10 + j)).0 (are (10 + j)).1 (wide_few_4 (10 + j) (omega arith)) in
      rw (e, length-append (wear_lines ws (10 + j)) (wear_line (10 + j) (get_or ws (10 + j) unworn))) (omega arith)

  text_few : (k : ℕ) → length ws ≡ 10 + k → 10 + k ≤ 8192 → length (wear_text ws) ≤ 32 * (10 + k) + 64
  unfolding wear_text
  text_few k e h =
      let l : length ws ≤ 8192 = omega arith in
      let a = lines_few k (omega arith) in
      let a' : length (wear_lines ws (length ws)) ≤ 290 + 32 * k = rw e a in
      let b = sums_few (largest_of (λ w. w.erases) ws (length ws)) (largest_of (λ w. w.programs) ws (length ws)) (total_of (λ w. w.erases) ws (length ws)) (total_of (λ w. w.programs) ws (length ws)) (largest_count (λ w. w.erases) ws (λ q. (are q).0) (length ws)) (largest_count (λ w. w.programs) ws (λ q. (are q).1) (length ws)) (total_few (λ w. w.erases) ws (λ q. (are q).0) (length ws) l) (total_few (λ w. w.programs) ws (λ q. (are q).1) (length ws) l) in
      simp length-append (omega arith)

fits : Fits
fits n ws size e are =
    let r = size_range n size in
    let a : length ws ≡ 10 + (n * 16 - 10) = omega arith in
    let b = text_few ws are (n * 16 - 10) a (omega arith) in
    omega arith

-- What a call that is not refused is lent
module _ (n w o : ℕ) (z : wear_text_number n w o ≡ 0) where
  abbrev Taken : Type 0
  Taken = (size_ok n ≡ true) × (w ≡ array_sectors n) × (o ≡ wear_text_bytes n)

  pub taken : Taken
  unfolding wear_text_number wear_number output_number
  taken =
      let a = or_else_zero _ _ z in
      let b = or_else_zero _ _ a.1 in
      (unless_zero _ _ a.0, eqb-true _ _ (unless_zero _ _ b.0), eqb-true _ _ (unless_zero _ _ b.1))

written_as : (n : ℕ) (ws : List Wear) (t : List ℕ) → wear_text_number n (length ws) (length t) ≡ 0
    → wear_written n ws t ≡ record { number = 0; bytes = min (length t) (length (wear_text ws)); text = sets t 0 (wear_text ws) }
unfolding wear_written
written_as n ws t z = rw z

whole : WrittenWhole
whole n ws t z are =
    let k = taken n (length ws) (length t) z in
    let f = fits n ws k.0 k.1 are in
    let l : 0 + length (wear_text ws) ≤ length t = omega (arith, k.2) in
    let d : 0 + length (wear_text ws) ≡ length (wear_text ws) = omega arith in
    let m : min (length t) (length (wear_text ws)) ≡ length (wear_text ws) = omega arith in
    let e = written_as n ws t z in
    record {
      number = ap (λ (w : Written). w.number) e;
      bytes = ap (λ (w : Written). w.bytes) e ∙ m;
      text = ap (λ (w : Written). w.text) e ∙ sets-eq (wear_text ws) t 0 l ∙ ap (λ (j : ℕ). wear_text ws ++ drop j t) d;
    }

pub text_laws : TextLaws
text_laws = record { numerals = numerals; sums = sums; fits = fits; whole = whole }
