-- The search for the first bit that is 1: bits of bytes that are 0 are passed over.
use Prim.Native.Nat.{ℕ, zero, suc, ◌+◌, ◌-◌, ◌*◌, ◌/◌, ◌%◌, ◌^◌, ◌<◌, ◌≤◌}
use mathlib.Core.Path.{◌≡◌, refl, sym, ap, subst, ◌∙◌}
use mathlib.Core.Bool.{Bool, true, false, cond}
use mathlib.Core.List.{List, [], ◌∷◌}
use native.Mathlib.Nat.{zero-div}
use native.Mathlib.Omega.{arith}
use borrow.Author.Tests.{eqb-true, eq-eqb, ne_eqb, leb-true, leb-false, le-leb, lt-leb}
use lib.Count.{count_trailing_zeros, under, trailing_le}
use lib.Pow.{shr_lt, shr-shr}
use lib.Dec.{eqb, leb}
use lib.ListN.{length, take, drop, get_or}
use lib.Seq.{get_or-take, get_or-drop}
use Rattle.words.specs.Logic.{◌and◌}
use Rattle.words.specs.Lists.{all_zero, first_of}
use Rattle.words.specs.Bits.{bit_in}
use Rattle.words.proofs.Tests.{and_l, and_r, and_in, and_false}
use Rattle.words.proofs.BitLists.{half_bits}
use Rattle.words.proofs.Search.{first_none, first_before, first_next}
use Rattle.blank_map.specs.Marked.{zero_group, rest_at, clear_from}

zero_at : (xs : List ℕ) (i : ℕ) → all_zero xs ≡ true → get_or xs i 0 ≡ 0
zero_at [] i h = refl
zero_at (x ∷ xs) zero h = eqb-true _ _ (and_l _ _ h)
zero_at (x ∷ xs) (suc i) h = zero_at xs i (and_r _ _ h)

-- digits below the lowest that is 1 are 0; a number of d digits that is not 0 has it among them
low_as : (d n i r : ℕ) → n % 2 ≡ r → i < under r (count_trailing_zeros d (n / 2)) → ((k : ℕ) → k < count_trailing_zeros d (n / 2) → n / 2 / 2 ^ k % 2 ≡ 0) → n / 2 ^ i % 2 ≡ 0
low_as d n zero zero e l h = omega arith
low_as d n (suc i) zero e l h = ap (λ (x : ℕ). x % 2) (half_bits n i) ∙ h i (omega arith)
low_as d n i (suc r) e l h = absurd (omega arith)

low_digit : (d n i : ℕ) → i < count_trailing_zeros d n → n / 2 ^ i % 2 ≡ 0
unfolding count_trailing_zeros
low_digit zero n i l = absurd (omega arith)
low_digit (suc d) n i l = low_as d n i (n % 2) refl l (λ k h. low_digit d (n / 2) k h)

fewer_as : (d e n r : ℕ) → n % 2 ≡ r → (r ≡ 0 → count_trailing_zeros e (n / 2) ≡ count_trailing_zeros d (n / 2)) → under r (count_trailing_zeros e (n / 2)) ≡ under r (count_trailing_zeros d (n / 2))
fewer_as d e n zero q h = ap suc (h refl)
fewer_as d e n (suc r) q h = refl

fewer_digits : (d e n : ℕ) → d ≤ e → n < 2 ^ d → (n ≡ 0 → ⊥) → count_trailing_zeros e n ≡ count_trailing_zeros d n
unfolding count_trailing_zeros
fewer_digits zero e n l h z = absurd (z (omega arith))
fewer_digits (suc d) zero n l h z = absurd (omega arith)
fewer_digits (suc d) (suc e) n l h z =
    let p : 2 ^ suc d ≡ 2 * 2 ^ d = omega arith in
    fewer_as d e n (n % 2) refl (λ q. fewer_digits d e (n / 2) (omega arith) (omega (arith, p)) (λ w. z (omega arith)))

odd_as : (d n r : ℕ) → n % 2 ≡ r → under r (count_trailing_zeros d (n / 2)) ≡ 0 → n % 2 ≡ 1
odd_as d n zero e h = absurd (omega arith)
odd_as d n (suc r) e h = omega arith

odd_first : (d n : ℕ) → 0 < d → count_trailing_zeros d n ≡ 0 → n % 2 ≡ 1
unfolding count_trailing_zeros
odd_first zero n l h = absurd (omega arith)
odd_first (suc d) n l h = odd_as d n (n % 2) refl h

module _ (m : List ℕ) where
  group_zero : (j i : ℕ) → zero_group m j ≡ true → i < 8 → get_or m (j + i) 0 ≡ 0
  group_zero j i z l =
      sym (get_or-take 8 (drop j m) i 0 l ∙ get_or-drop j m i 0) ∙ zero_at (take 8 (drop j m)) i (and_r _ _ z)

  -- eight bytes that are not all there are no group
  pub no_group : (j : ℕ) → length m < j + 8 → zero_group m j ≡ false
  unfolding ◌and◌
  no_group j l = rw (lt-leb _ _ l) refl

  -- a group that is lent
  pub group_lent : (j k : ℕ) → k ≡ 8 → j + 8 ≤ length m → all_zero (take k (drop j m)) ≡ zero_group m j
  unfolding ◌and◌
  group_lent j k e l = rw (e, le-leb _ _ l) refl

  -- a bit of a byte that is 0, and one of the byte of bit q by what is left of it
  no_bit : (k : ℕ) → get_or m (k / 8) 0 ≡ 0 → bit_in m k ≡ false
  unfolding bit_in
  no_bit k e = rw (e, zero-div) refl

  rest_bit : (q i : ℕ) → q % 8 + i < 8 → bit_in m (q + i) ≡ eqb (rest_at m q / 2 ^ i % 2) 1
  unfolding bit_in
  rest_bit q i l =
      let whole : (q + i) / 8 ≡ q / 8 = omega arith in
      let place : (q + i) % 8 ≡ q % 8 + i = omega arith in
      rw (whole, place) (ap (λ (x : ℕ). eqb (x % 2) 1) (sym (shr-shr (get_or m (q / 8) 0) (q % 8) i)))

  -- what is seen from bit q on, by what the tests say
  module _ (q : ℕ) where
    abbrev next : ℕ
    next = count_trailing_zeros (8 - q % 8) (rest_at m q)

    abbrev seen_by : Bool → Bool → Bool → ℕ
    seen_by w b z = cond w (cond b (cond z 64 8) (8 - q % 8)) next

    pub seen_by_lem : (w b z : Bool) → eqb (rest_at m q) 0 ≡ w → eqb (q % 8) 0 ≡ b → zero_group m (q / 8) ≡ z → clear_from m q ≡ seen_by w b z
    unfolding clear_from
    seen_by_lem w b z e f g = rw (e, f, g) refl

    -- a count of zeros in the byte
    pub next_seen : get_or m (q / 8) 0 < 256 → (rest_at m q ≡ 0 → ⊥) → count_trailing_zeros 8 (rest_at m q) ≡ clear_from m q
    next_seen h off =
        let e : 8 ≡ 8 - q % 8 + q % 8 = omega arith in
        let few : rest_at m q < 2 ^ (8 - q % 8) = shr_lt (8 - q % 8) (q % 8) (subst (λ (k : ℕ). get_or m (q / 8) 0 < 2 ^ k) e h) in
        fewer_digits (8 - q % 8) 8 (rest_at m q) (omega arith) few off ∙ sym (seen_by_lem false (eqb (q % 8) 0) (zero_group m (q / 8)) (ne_eqb (rest_at m q) 0 off) refl refl)

    le_as : (w b z : Bool) → eqb (q % 8) 0 ≡ b → zero_group m (q / 8) ≡ z → q < length m * 8 → q + seen_by w b z ≤ length m * 8
    le_as true true true f g l =
        let r : q / 8 + 8 ≤ length m = leb-true _ _ (and_l _ _ g) in
        omega (arith, eqb-true (q % 8) 0 f)
    le_as true true false f g l = omega (arith, eqb-true (q % 8) 0 f)
    le_as true false z f g l = omega arith
    le_as false b z f g l = omega (arith, trailing_le (8 - q % 8) (rest_at m q))

    pub clear_le : q < length m * 8 → q + clear_from m q ≤ length m * 8
    unfolding clear_from
    clear_le l = le_as (eqb (rest_at m q) 0) (eqb (q % 8) 0) (zero_group m (q / 8)) refl refl l

    bits_as : (w b z : Bool) → eqb (rest_at m q) 0 ≡ w → eqb (q % 8) 0 ≡ b → zero_group m (q / 8) ≡ z → (i : ℕ) → i < seen_by w b z → bit_in m (q + i) ≡ false
    bits_as true true true e f g i l =
        let s : (q + i) / 8 ≡ q / 8 + i / 8 = omega (arith, eqb-true (q % 8) 0 f) in
        no_bit (q + i) (rw s (group_zero (q / 8) (i / 8) g (omega arith)))
    bits_as true true false e f g i l = rest_bit q i (omega (arith, eqb-true (q % 8) 0 f)) ∙ rw (eqb-true (rest_at m q) 0 e, zero-div) refl
    bits_as true false z e f g i l = rest_bit q i (omega arith) ∙ rw (eqb-true (rest_at m q) 0 e, zero-div) refl
    bits_as false b z e f g i l =
        rest_bit q i (omega (arith, trailing_le (8 - q % 8) (rest_at m q))) ∙ rw (low_digit (8 - q % 8) (rest_at m q) i l) refl

    clear_bits : (i : ℕ) → i < clear_from m q → bit_in m (q + i) ≡ false
    unfolding clear_from
    clear_bits i l = bits_as (eqb (rest_at m q) 0) (eqb (q % 8) 0) (zero_group m (q / 8)) refl refl refl i l

    none_as : (w b z : Bool) → seen_by w b z ≡ 0 → next ≡ 0
    none_as true true true e = absurd (omega arith)
    none_as true true false e = absurd (omega arith)
    none_as true false z e = absurd (omega arith)
    none_as false b z e = e

    -- nothing is seen of a bit that is 1
    set_here : clear_from m q ≡ 0 → bit_in m q ≡ true
    unfolding clear_from bit_in
    set_here e =
        let odd : rest_at m q % 2 ≡ 1 = odd_first (8 - q % 8) (rest_at m q) (omega arith) (none_as (eqb (rest_at m q) 0) (eqb (q % 8) 0) (zero_group m (q / 8)) e) in
        eq-eqb _ _ odd

  -- a search from a bit on
  module _ (from : ℕ) where
    abbrev wanted : ℕ → Bool
    wanted i = leb from i and bit_in m i

    pub search_starts : first_of from wanted ≡ from
    unfolding ◌and◌
    search_starts = first_none wanted from (λ i l. rw (lt-leb from i l) refl)

    -- nothing is found so far
    module _ (q : ℕ) (none : first_of q wanted ≡ q) where
      passed_as : (j : ℕ) (t : Bool) → leb (suc j) q ≡ t → j < q + clear_from m q → wanted j ≡ false
      passed_as j true e l = first_before wanted q j (rw none (leb-true _ _ e))
      passed_as j false e l =
          let g : q < suc j = leb-false _ _ e in
          let s : j ≡ q + (j - q) = omega arith in
          ap (λ (b : Bool). leb from j and b) (ap (bit_in m) s ∙ clear_bits q (j - q) (omega arith)) ∙ and_false (leb from j)

      pub search_passes : first_of (q + clear_from m q) wanted ≡ q + clear_from m q
      search_passes = first_none wanted (q + clear_from m q) (λ j l. passed_as j (leb (suc j) q) refl l)

      pub search_finds : (n : ℕ) → q < n → from ≤ q → clear_from m q ≡ 0 → first_of n wanted ≡ q
      search_finds n l f e = first_next wanted q none n l (and_in (le-leb from q f) (set_here q e))
