-- Bits that are put: what a bit weighs in its byte, bits past the end, whole bytes, and a run of bits in its three parts.
use Prim.Native.Nat.{ℕ, zero, suc, ◌+◌, ◌-◌, ◌*◌, ◌/◌, ◌%◌, ◌^◌, ◌<◌, ◌≤◌, min}
use mathlib.Core.Path.{◌≡◌, refl, sym, ap, ◌∙◌}
use mathlib.Core.Bool.{Bool, true, false, cond}
use mathlib.Core.List.{List, [], ◌∷◌, ◌++◌}
use native.Mathlib.Nat.{add-zero, mod-eq_of_lt}
use native.Mathlib.Omega.{arith}
use borrow.Author.Tests.{eqb-true, eqb-false, eq-eqb, ne_eqb, leb-true, le-leb, ltb-true, lt-ltb}
use lib.Dec.{eqb, ltb, leb}
use lib.ListN.{length, get_or, set, take, drop, replicate, length-take, length-drop}
use lib.Pow.{pow-lt}
use lib.Seq.{drop-drop}
use Rattle.words.specs.Logic.{◌and◌, bit}
use Rattle.words.specs.Lists.{AreBytes}
use Rattle.words.specs.Bits.{bit_in, bits_from, byte_of, put_bit, put_bits}
use Rattle.words.proofs.Tests.{same_tests, and_l, and_r, and_in}
use Rattle.words.proofs.BitLists.{bits_same, byte_lt, byte_back, bit_of_byte, same_bits, put_out, puts_length, puts_bytes, puts_bit, puts_on}
use Rattle.paper.specs.Sizes.{from_on}
use Rattle.paper.proofs.Pages.{stretch, stretch_length, stretch_at}
use Rattle.blank_map.specs.Marked.{with_bit}

-- the weight of a bit that is 1
bit_as : (b : Bool) → cond b 1 0 ≡ bit b
bit_as true = refl
bit_as false = refl

two_more : (i : ℕ) → 2 ^ suc i ≡ 2 * 2 ^ i
two_more i = omega arith

twice : (b : Bool) (i : ℕ) → cond b (2 ^ suc i) 0 ≡ 2 * cond b (2 ^ i) 0
twice true i = two_more i
twice false i = refl

-- a test with another answer for one number
module _ (test : ℕ → Bool) (v : Bool) (p : ℕ) where
  abbrev changed : ℕ → Bool
  changed q = cond (eqb q p) v (test q)

  here : (q : ℕ) → q ≡ p → changed q ≡ v
  here q e = rw (eq-eqb q p e) refl

  elsewhere : (q : ℕ) → (q ≡ p → ⊥) → changed q ≡ test q
  elsewhere q e = rw (ne_eqb q p e) refl

  weigh : (n i k : ℕ) → p ≡ k + i → i < n → bits_from n changed k + cond (test p) (2 ^ i) 0 ≡ bits_from n test k + cond v (2 ^ i) 0
  weigh zero i k e l = absurd (omega arith)
  weigh (suc n) zero k e l =
      let first : changed k ≡ v = here k (omega arith) in
      let more : bits_from n changed (suc k) ≡ bits_from n test (suc k) = bits_same n changed test (suc k) (λ i m. elsewhere (suc k + i) (λ z. absurd (omega arith))) in
      let at : p ≡ k = omega arith in
      let was : cond (test p) 1 0 ≡ bit (test k) = bit_as (test p) ∙ ap (λ (q : ℕ). bit (test q)) at in
      omega (arith, ap bit first, more, was, bit_as v)
  weigh (suc n) (suc i) k e l =
      let first : changed k ≡ test k = elsewhere k (λ z. absurd (omega arith)) in
      omega (arith, ap bit first, weigh n i (suc k) (omega arith) (omega arith), twice (test p) i, twice v i)

module _ (bs : List ℕ) (j p : ℕ) (v : Bool) (byte : get_or bs j 0 < 256) (l : p < 8) where
  weighed : byte_of (λ (q : ℕ). cond (eqb q (j * 8 + p)) v (bit_in bs q)) j + cond (bit_in bs (j * 8 + p)) (2 ^ p) 0 ≡ byte_of (bit_in bs) j + cond v (2 ^ p) 0
  unfolding byte_of
  weighed = weigh (bit_in bs) v (j * 8 + p) 8 p (j * 8) refl l

  put_weight : byte_of (λ (q : ℕ). cond (eqb q (j * 8 + p)) v (bit_in bs q)) j + cond (bit_in bs (j * 8 + p)) (2 ^ p) 0 ≡ get_or bs j 0 + cond v (2 ^ p) 0
  put_weight = weighed ∙ ap (λ (x : ℕ). x + cond v (2 ^ p) 0) (byte_back bs j byte)

  bit_here : bit_in bs (j * 8 + p) ≡ eqb (get_or bs j 0 / 2 ^ p % 2) 1
  unfolding bit_in
  bit_here =
      let whole : (j * 8 + p) / 8 ≡ j = omega arith in
      let rest : (j * 8 + p) % 8 ≡ p = omega arith in
      rw (whole, rest) refl

  with_is : with_bit (get_or bs j 0) p v ≡ byte_of (λ (q : ℕ). cond (eqb q (j * 8 + p)) v (bit_in bs q)) j
  with_is = omega (arith, put_weight, ap (λ (b : Bool). cond b (2 ^ p) 0) bit_here)

  -- a byte with another bit is that bit put
  pub with_put : set bs j (with_bit (get_or bs j 0) p v) ≡ put_bit bs (j * 8 + p) v
  unfolding put_bit
  with_put =
      let whole : (j * 8 + p) / 8 ≡ j = omega arith in
      rw whole (ap (set bs j) with_is)

-- a byte's bit, one way and the other
module _ (x p : ℕ) (byte : x < 256) (l : p < 8) where
  pub weight_is : 1 * 2 ^ p % 256 ≡ 2 ^ p
  weight_is =
      let s : 1 * 2 ^ p ≡ 2 ^ p = omega arith in
      rw s (mod-eq_of_lt (pow-lt l))

  not_set : x / 2 ^ p % 2 ≡ 0 → eqb (x / 2 ^ p % 2) 1 ≡ false
  not_set e = rw e refl

  is_set : x / 2 ^ p % 2 ≡ 1 → eqb (x / 2 ^ p % 2) 1 ≡ true
  is_set e = rw e refl

  pub room : x / 2 ^ p % 2 ≡ 0 → x + 2 ^ p < 256
  room e =
      let t : cond (bit_in (x ∷ []) (0 * 8 + p)) (2 ^ p) 0 ≡ 0 = ap (λ (b : Bool). cond b (2 ^ p) 0) (bit_here (x ∷ []) 0 p true byte l ∙ not_set e) in
      omega (arith, t, put_weight (x ∷ []) 0 p true byte l, byte_lt (λ (q : ℕ). cond (eqb q (0 * 8 + p)) true (bit_in (x ∷ []) q)) 0)

  pub holds : x / 2 ^ p % 2 ≡ 1 → 2 ^ p ≤ x
  holds e =
      let t : cond (bit_in (x ∷ []) (0 * 8 + p)) (2 ^ p) 0 ≡ 2 ^ p = ap (λ (b : Bool). cond b (2 ^ p) 0) (bit_here (x ∷ []) 0 p false byte l ∙ is_set e) in
      omega (arith, put_weight (x ∷ []) 0 p false byte l, t)

  pub bit_set : (v : Bool) → x / 2 ^ p % 2 < bit v → x + 1 * 2 ^ p % 256 ≡ with_bit x p v
  bit_set true h = rw (weight_is, not_set (omega arith)) (omega arith)
  bit_set false h = absurd (omega arith)

  pub bit_cleared : (v : Bool) → bit v < x / 2 ^ p % 2 → x - 1 * 2 ^ p % 256 ≡ with_bit x p v
  bit_cleared true h = absurd (omega arith)
  bit_cleared false h = rw (weight_is, is_set (omega arith)) (omega arith)

  pub bit_kept : (v : Bool) → bit v ≤ x / 2 ^ p % 2 → x / 2 ^ p % 2 ≤ bit v → x ≡ with_bit x p v
  bit_kept true g h = rw (is_set (omega arith)) (omega arith)
  bit_kept false g h = rw (not_set (omega arith)) (omega arith)

-- bits past the end are none
pub puts_out : (n k : ℕ) (test : ℕ → Bool) (bs : List ℕ) → length bs * 8 ≤ k → put_bits n k test bs ≡ bs
puts_out zero k test bs h = refl
puts_out (suc n) k test bs h =
    put_out (put_bits n k test bs) (k + n) (test (k + n)) (omega (arith, puts_length k test bs n)) ∙ puts_out n k test bs h

-- bytes that are set to FFh, as far as the list goes, are all of their bits put
module _ (bs : List ℕ) (j c n : ℕ) (bytes : AreBytes bs) (starts : j ≤ length bs) (clipped : n ≡ min c (length bs - j)) where
  stretched : (a : ℕ) → get_or (stretch bs j n) a 0 ≡ cond (from_on j n a) 255 (get_or bs a 0)
  stretched a = stretch_at bs j n a (omega arith)

  bytes_as : (a : ℕ) (t : Bool) → from_on j n a ≡ t → get_or (stretch bs j n) a 0 < 256
  bytes_as a true e = rw (stretched a, e) (omega arith)
  bytes_as a false e = rw (stretched a, e) (bytes a)

  bit_as_was : (q : ℕ) → get_or (stretch bs j n) (q / 8) 0 ≡ get_or bs (q / 8) 0 → bit_in (stretch bs j n) q ≡ bit_in bs q
  unfolding bit_in
  bit_as_was q e = rw e refl

  full : (q : ℕ) → 255 ≡ byte_of (λ (k : ℕ). true) (q / 8)
  unfolding byte_of
  full q = refl

  same_run : (q : ℕ) → q < length bs * 8 → from_on j n (q / 8) ≡ (leb (j * 8) q and ltb q (j * 8 + c * 8))
  same_run q l =
      same_tests _ _
      (λ e.
      let a : j ≤ q / 8 = leb-true _ _ (and_l _ _ e) in
      let b : q / 8 < j + n = ltb-true _ _ (and_r _ _ e) in
      and_in (le-leb (j * 8) q (omega arith)) (lt-ltb q (j * 8 + c * 8) (omega arith)))
      (λ e.
      let a : j * 8 ≤ q = leb-true _ _ (and_l _ _ e) in
      let b : q < j * 8 + c * 8 = ltb-true _ _ (and_r _ _ e) in
      and_in (le-leb j (q / 8) (omega arith)) (lt-ltb (q / 8) (j + n) (omega arith)))

  bits_as : (q : ℕ) (t : Bool) → from_on j n (q / 8) ≡ t → bit_in (stretch bs j n) q ≡ cond t true (bit_in bs q)
  bits_as q true e = bit_of_byte (stretch bs j n) (λ (k : ℕ). true) q (stretched (q / 8) ∙ ap (λ (b : Bool). cond b 255 (get_or bs (q / 8) 0)) e ∙ full q)
  bits_as q false e = bit_as_was q (stretched (q / 8) ∙ ap (λ (b : Bool). cond b 255 (get_or bs (q / 8) 0)) e)

  stretch_puts : stretch bs j n ≡ put_bits (c * 8) (j * 8) (λ (q : ℕ). true) bs
  stretch_puts =
      let long : length (stretch bs j n) ≡ length bs = stretch_length bs j n (omega arith) in
      same_bits (stretch bs j n) (put_bits (c * 8) (j * 8) (λ (q : ℕ). true) bs)
      (long ∙ sym (puts_length (j * 8) (λ (q : ℕ). true) bs (c * 8)))
      (λ a. bytes_as a (from_on j n a) refl)
      (puts_bytes (j * 8) (λ (q : ℕ). true) bs (c * 8) bytes)
      (λ q l.
      let m : q < length bs * 8 = omega (arith, long) in
      bits_as q _ (same_run q m) ∙ sym (puts_bit (j * 8) (λ (q : ℕ). true) bs (c * 8) q m))

  -- lent on, they came back so
  pub bytes_put : (k : ℕ) → k ≡ n → (ys : List ℕ) → ys ≡ replicate (length (take k (drop j bs))) 255 → take j bs ++ (ys ++ drop k (drop j bs)) ≡ put_bits (c * 8) (j * 8) (λ (q : ℕ). true) bs
  bytes_put k e ys f =
      let m : length (take n (drop j bs)) ≡ n = simp (length-take, length-drop) (omega arith) in
      rw (f, e, m, drop-drop) stretch_puts

-- a run of c bits from place p of byte j on: h up to the next byte, f, then whole bytes, then the rest of the r others
module _ (test : ℕ → Bool) (bs : List ℕ) (j p c h r f : ℕ) (l : p < 8) (head : h ≡ min ((8 - p) % 8) c) (rest : r ≡ c - h) (first : f ≡ j + (p + 7) / 8) where
  abbrev in_parts : List ℕ
  in_parts = put_bits (r % 8) ((f + r / 8) * 8 + 0) test (put_bits (r / 8 * 8) (f * 8) test (put_bits h (j * 8 + p) test bs))

  parts_as : (t : Bool) → eqb r 0 ≡ t → in_parts ≡ put_bits c (j * 8 + p) test bs
  parts_as true e =
      let z : r ≡ 0 = eqb-true _ _ e in
      let s : c ≡ h = omega arith in
      rw (z, s) refl
  parts_as false e =
      let some : r ≡ 0 → ⊥ = eqb-false _ _ e in
      let border : f * 8 ≡ j * 8 + p + h = omega arith in
      let last : (f + r / 8) * 8 + 0 ≡ j * 8 + p + h + r / 8 * 8 = omega arith in
      let all : c ≡ h + (r / 8 * 8 + r % 8) = omega arith in
      rw (border, last)
      (sym (puts_on test (r / 8 * 8) (r % 8) (j * 8 + p + h) (put_bits h (j * 8 + p) test bs))
      ∙ sym (puts_on test h (r / 8 * 8 + r % 8) (j * 8 + p) bs)
      ∙ ap (λ (n : ℕ). put_bits n (j * 8 + p) test bs) (sym all))

  pub in-parts : in_parts ≡ put_bits c (j * 8 + p) test bs
  in-parts = parts_as (eqb r 0) refl

  -- where the rest lies past the end
  pub in-two-parts : length bs ≤ f + r / 8 → put_bits (r / 8 * 8) (f * 8) test (put_bits h (j * 8 + p) test bs) ≡ put_bits c (j * 8 + p) test bs
  in-two-parts past =
      sym (puts_out (r % 8) ((f + r / 8) * 8 + 0) test _ (omega (arith, puts_length (f * 8) test (put_bits h (j * 8 + p) test bs) (r / 8 * 8), puts_length (j * 8 + p) test bs h))) ∙ in-parts

-- at most one bit
module _ (n k : ℕ) (test : ℕ → Bool) (bs : List ℕ) where
  pub one_put : 0 < n → put_bits (min n 1) k test bs ≡ put_bit bs k (test k)
  one_put l =
      let e : min n 1 ≡ 1 = omega arith in
      rw (e, add-zero) refl

  pub none_put : n ≤ 0 → put_bits (min n 1) k test bs ≡ bs
  none_put l =
      let e : min n 1 ≡ 0 = omega arith in
      rw e refl
