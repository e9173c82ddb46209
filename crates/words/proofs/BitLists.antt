-- Bytes as bits: which bit is where, that bytes with the same bits are the same, and what bits that are put leave.
use Prim.Native.Nat.{ℕ, zero, suc, ◌+◌, ◌*◌, ◌/◌, ◌%◌, ◌^◌, ◌≤◌, ◌<◌}
use mathlib.Core.Path.{◌≡◌, refl, sym, ap, ◌∙◌}
use mathlib.Core.Bool.{Bool, true, false, cond, false≢true}
use mathlib.Core.List.{List, [], ◌∷◌, ◌++◌}
use native.Mathlib.Omega.{arith}
use native.Mathlib.Nat.{add-zero, add-suc}
use lib.Dec.{eqb, ltb, leb}
use lib.ListN.{length, get_or, set, length-set, get_or-append, get_or-eq_default}
use lib.Pow.{shr-shr}
use lib.Seq.{set_out, get_or-set_same, get_or-set_other, get_or-append-add, ext_get_or}
use borrow.Author.Tests.{eqb-true, eqb-false, ne_eqb, le-leb, lt-ltb, leb-true, ltb-true, ltb-false}
use Rattle.words.specs.Logic.{◌and◌, bit}
use Rattle.words.specs.Lists.{up_to, AreBytes}
use Rattle.words.specs.Bits.{bit_in, bits_from, byte_of, put_bit, put_bits}
use Rattle.words.proofs.Tests.{and_l, and_r, and_in, bit_le}
use Rattle.words.proofs.Lists.{length_up_to}

-- n bits in a number
pub bits_lt : (n : ℕ) (test : ℕ → Bool) (k : ℕ) → bits_from n test k < 2 ^ n
bits_lt zero test k = omega arith
bits_lt (suc n) test k = let p : 2 ^ suc n ≡ 2 * 2 ^ n = omega arith in omega (arith, p, bits_lt n test (suc k), bit_le (test k))

-- half of a number has its bits from bit 1 on
pub half_bits : (x i : ℕ) → x / 2 ^ suc i ≡ x / 2 / 2 ^ i
half_bits x i = let e : suc i ≡ 1 + i = omega arith in ap (λ (j : ℕ). x / 2 ^ j) e ∙ sym (shr-shr x 1 i)

bits_at : (n i : ℕ) (test : ℕ → Bool) (k : ℕ) → i < n → bits_from n test k / 2 ^ i % 2 ≡ bit (test (k + i))
bits_at zero i test k h = absurd (omega arith)
bits_at (suc n) zero test k h = rw add-zero (omega (arith, bit_le (test k)))
bits_at (suc n) (suc i) test k h =
    let half : bits_from (suc n) test k / 2 ≡ bits_from n test (suc k) = omega (arith, bit_le (test k)) in
    let e : suc k + i ≡ k + suc i = omega arith in
    ap (λ (x : ℕ). x % 2) (half_bits (bits_from (suc n) test k) i ∙ ap (λ (x : ℕ). x / 2 ^ i) half)
    ∙ bits_at n i test (suc k) (omega arith)
    ∙ ap (λ (j : ℕ). bit (test j)) e

pub bits_same : (n : ℕ) (f g : ℕ → Bool) (k : ℕ) → ((i : ℕ) → i < n → f (k + i) ≡ g (k + i)) → bits_from n f k ≡ bits_from n g k
bits_same zero f g k h = refl
bits_same (suc n) f g k h =
    let first : f k ≡ g k = rw add-zero at (h 0 (omega arith)) in
    let more = bits_same n f g (suc k) (λ i l. let e : k + suc i ≡ suc k + i = omega arith in rw e at (h (suc i) (omega arith))) in
    rw (first, more) refl

-- a number of n bits is that of its bits
bits_back : (n x : ℕ) (f : ℕ → Bool) (k : ℕ) → x < 2 ^ n → ((i : ℕ) → i < n → bit (f (k + i)) ≡ x / 2 ^ i % 2) → bits_from n f k ≡ x
bits_back zero x f k h b = omega arith
bits_back (suc n) x f k h b =
    let p : 2 ^ suc n ≡ 2 * 2 ^ n = omega arith in
    let first : bit (f k) ≡ x % 2 = omega (arith, rw add-zero at (b 0 (omega arith))) in
    let more = bits_back n (x / 2) f (suc k) (omega (arith, p)) (λ i l. let e : suc k + i ≡ k + suc i = omega arith in ap (λ (j : ℕ). bit (f j)) e ∙ b (suc i) (omega arith) ∙ ap (λ (y : ℕ). y % 2) (half_bits x i)) in
    omega (arith, first, more)

-- a byte of bits
pub byte_lt : (test : ℕ → Bool) (j : ℕ) → byte_of test j < 256
unfolding byte_of
byte_lt test j = bits_lt 8 test (j * 8)

pub byte_same : (f g : ℕ → Bool) (j : ℕ) → ((i : ℕ) → i < 8 → f (j * 8 + i) ≡ g (j * 8 + i)) → byte_of f j ≡ byte_of g j
unfolding byte_of
byte_same f g j h = bits_same 8 f g (j * 8) h

one_bit : (b : Bool) → eqb (bit b) 1 ≡ b
one_bit true = refl
one_bit false = refl

bit_of_test : (x : ℕ) → x < 2 → bit (eqb x 1) ≡ x
bit_of_test zero h = refl
bit_of_test (suc zero) h = refl
bit_of_test (suc (suc x)) h = absurd (omega arith)

-- bit k of bytes of which one is a byte of bits
pub bit_of_byte : (bs : List ℕ) (test : ℕ → Bool) (k : ℕ) → get_or bs (k / 8) 0 ≡ byte_of test (k / 8) → bit_in bs k ≡ test k
unfolding bit_in byte_of
bit_of_byte bs test k e =
    let place : k / 8 * 8 + k % 8 ≡ k = omega arith in
    ap (λ (x : ℕ). eqb (x / 2 ^ (k % 8) % 2) 1) e
    ∙ ap (λ (x : ℕ). eqb x 1) (bits_at 8 (k % 8) test (k / 8 * 8) (omega arith))
    ∙ one_bit (test (k / 8 * 8 + k % 8))
    ∙ ap test place

-- a byte is that of its bits
pub byte_back : (bs : List ℕ) (j : ℕ) → get_or bs j 0 < 256 → byte_of (bit_in bs) j ≡ get_or bs j 0
unfolding bit_in byte_of
byte_back bs j h =
    bits_back 8 (get_or bs j 0) (λ k. eqb (get_or bs (k / 8) 0 / 2 ^ (k % 8) % 2) 1) (j * 8) h
    (λ i l.
    let whole : (j * 8 + i) / 8 ≡ j = omega arith in
    let rest : (j * 8 + i) % 8 ≡ i = omega arith in
    rw (whole, rest) (bit_of_test (get_or bs j 0 / 2 ^ i % 2) (omega arith)))

-- bytes with the same bits are the same
pub same_bits : (bs cs : List ℕ) → length bs ≡ length cs → AreBytes bs → AreBytes cs → ((k : ℕ) → k < length bs * 8 → bit_in bs k ≡ bit_in cs k) → bs ≡ cs
same_bits bs cs l b c h =
    ext_get_or 0 bs cs l
    (λ j i. sym (byte_back bs j (b j)) ∙ byte_same (bit_in bs) (bit_in cs) j (λ n m. h (j * 8 + n) (omega arith)) ∙ byte_back cs j (c j))

-- bytes of bits, all of them
at_up_to : (n : ℕ) (f : ℕ → ℕ) (j : ℕ) (t : Bool) → ltb j n ≡ t → j < suc n → (j < n → get_or (up_to n f) j 0 ≡ f j) → get_or (up_to (suc n) f) j 0 ≡ f j
at_up_to n f j true e h before =
    let l = ltb-true j n e in
    get_or-append (up_to n f) (f n ∷ []) 0 j (rw (length_up_to n f) l) ∙ before l
at_up_to n f j false e h before =
    let same : j ≡ length (up_to n f) + 0 = omega (arith, ltb-false j n e, length_up_to n f) in
    let last : n ≡ j = omega (arith, ltb-false j n e) in
    ap (λ (i : ℕ). get_or (up_to n f ++ (f n ∷ [])) i 0) same ∙ get_or-append-add (up_to n f) (f n ∷ []) 0 0 ∙ ap f last

pub up_to_at : (n : ℕ) (f : ℕ → ℕ) (j : ℕ) → j < n → get_or (up_to n f) j 0 ≡ f j
up_to_at zero f j h = absurd (omega arith)
up_to_at (suc n) f j h = at_up_to n f j (ltb j n) refl h (λ l. up_to_at n f j l)

pub up_to_bit : (n : ℕ) (test : ℕ → Bool) (k : ℕ) → k < n * 8 → bit_in (up_to n (byte_of test)) k ≡ test k
up_to_bit n test k h = bit_of_byte (up_to n (byte_of test)) test k (up_to_at n (byte_of test) (k / 8) (omega arith))

bytes_as : (n : ℕ) (test : ℕ → Bool) (a : ℕ) (t : Bool) → ltb a n ≡ t → get_or (up_to n (byte_of test)) a 0 < 256
bytes_as n test a true e = rw (up_to_at n (byte_of test) a (ltb-true a n e)) (byte_lt test a)
bytes_as n test a false e =
    let past : length (up_to n (byte_of test)) ≤ a = omega (arith, ltb-false a n e, length_up_to n (byte_of test)) in
    rw (get_or-eq_default (up_to n (byte_of test)) 0 past) (omega arith)

pub up_to_bytes : (n : ℕ) (test : ℕ → Bool) → AreBytes (up_to n (byte_of test))
up_to_bytes n test a = bytes_as n test a (ltb a n) refl

-- bytes that agree in one byte agree in its bits
bit_same : (bs cs : List ℕ) (k : ℕ) → get_or bs (k / 8) 0 ≡ get_or cs (k / 8) 0 → bit_in bs k ≡ bit_in cs k
unfolding bit_in
bit_same bs cs k e = ap (λ (x : ℕ). eqb (x / 2 ^ (k % 8) % 2) 1) e

-- one bit put
module _ (bs : List ℕ) (k : ℕ) (v : Bool) where
  abbrev other : ℕ → Bool
  other i = cond (eqb i k) v (bit_in bs i)

  pub put_length : length (put_bit bs k v) ≡ length bs
  unfolding put_bit
  put_length = length-set bs (k / 8) _

  pub put_out : length bs * 8 ≤ k → put_bit bs k v ≡ bs
  unfolding put_bit
  put_out h = set_out bs (k / 8) _ (omega arith)

  put_at : k < length bs * 8 → (q : ℕ) (t : Bool) → eqb (q / 8) (k / 8) ≡ t → bit_in (put_bit bs k v) q ≡ other q
  unfolding put_bit
  put_at h q true e =
      let same = eqb-true _ _ e in
      bit_of_byte (set bs (k / 8) (byte_of other (k / 8))) other q
      (ap (λ (j : ℕ). get_or (set bs (k / 8) (byte_of other (k / 8))) j 0) same
      ∙ get_or-set_same bs (k / 8) (byte_of other (k / 8)) 0 (omega arith)
      ∙ ap (byte_of other) (sym same))
  put_at h q false e =
      let apart = eqb-false _ _ e in
      let not-it : eqb q k ≡ false = ne_eqb q k (λ z. apart (ap (λ (j : ℕ). j / 8) z)) in
      bit_same _ bs q (get_or-set_other bs (k / 8) (q / 8) (byte_of other (k / 8)) 0 apart) ∙ rw not-it refl

  pub put_bit_lem : k < length bs * 8 → (q : ℕ) → bit_in (put_bit bs k v) q ≡ other q
  put_bit_lem h q = put_at h q (eqb (q / 8) (k / 8)) refl

  put_byte : (a : ℕ) → get_or bs a 0 < 256 → (t u : Bool) → eqb a (k / 8) ≡ t → ltb (k / 8) (length bs) ≡ u → get_or (put_bit bs k v) a 0 < 256
  unfolding put_bit
  put_byte a h true true e l =
      let same = eqb-true a (k / 8) e in
      rw (same, get_or-set_same bs (k / 8) (byte_of other (k / 8)) 0 (ltb-true _ _ l)) (byte_lt other (k / 8))
  put_byte a h true false e l = rw (set_out bs (k / 8) (byte_of other (k / 8)) (ltb-false _ _ l)) h
  put_byte a h false u e l = rw (get_or-set_other bs (k / 8) a (byte_of other (k / 8)) 0 (eqb-false _ _ e)) h

  pub put_bytes : AreBytes bs → AreBytes (put_bit bs k v)
  put_bytes h a = put_byte a (h a) (eqb a (k / 8)) (ltb (k / 8) (length bs)) refl refl

-- one of n numbers from k on
abbrev among : ℕ → ℕ → ℕ → Bool
among k n q = leb k q and ltb q (k + n)

-- or the next
module _ (k n q : ℕ) where
  is_next : eqb q (k + n) ≡ true → among k (suc n) q ≡ true
  is_next e =
      let same = eqb-true q (k + n) e in
      and_in (le-leb k q (omega arith)) (lt-ltb q (k + suc n) (omega arith))

  was_among : among k n q ≡ true → among k (suc n) q ≡ true
  was_among e =
      let l = ltb-true q (k + n) (and_r (leb k q) (ltb q (k + n)) e) in
      and_in (and_l (leb k q) (ltb q (k + n)) e) (lt-ltb q (k + suc n) (omega arith))

  not_next_as : (t : Bool) → ltb q (k + n) ≡ t → eqb q (k + n) ≡ false → among k (suc n) q ≡ true → among k n q ≡ true
  not_next_as true e f g = and_in (and_l (leb k q) (ltb q (k + suc n)) g) e
  not_next_as false e f g =
      let l = ltb-true q (k + suc n) (and_r (leb k q) (ltb q (k + suc n)) g) in
      let low = ltb-false q (k + n) e in
      absurd (eqb-false q (k + n) f (omega arith))

  next_as : (a b c : Bool) → eqb q (k + n) ≡ a → among k n q ≡ b → among k (suc n) q ≡ c → (x y : Bool) → cond a x (cond b x y) ≡ cond c x y
  next_as true b true e f g x y = refl
  next_as false true true e f g x y = refl
  next_as false false false e f g x y = refl
  next_as true b false e f g x y = absurd (false≢true (sym g ∙ is_next e))
  next_as false true false e f g x y = absurd (false≢true (sym g ∙ was_among f))
  next_as false false true e f g x y = absurd (false≢true (sym f ∙ not_next_as (ltb q (k + n)) refl e g))

-- bits put
module _ (k : ℕ) (test : ℕ → Bool) (bs : List ℕ) where
  pub puts_length : (n : ℕ) → length (put_bits n k test bs) ≡ length bs
  puts_length zero = refl
  puts_length (suc n) = put_length (put_bits n k test bs) (k + n) (test (k + n)) ∙ puts_length n

  pub puts_bytes : (n : ℕ) → AreBytes bs → AreBytes (put_bits n k test bs)
  puts_bytes zero h = h
  puts_bytes (suc n) h = put_bytes (put_bits n k test bs) (k + n) (test (k + n)) (puts_bytes n h)

  -- the last of them, within the bytes or past their end
  last_as : (n q : ℕ) → q < length bs * 8 → (t : Bool) → ltb (k + n) (length bs * 8) ≡ t
      → bit_in (put_bits (suc n) k test bs) q ≡ cond (eqb q (k + n)) (test q) (bit_in (put_bits n k test bs) q)
  last_as n q h true e =
      let l = ltb-true (k + n) (length bs * 8) e in
      put_bit_lem (put_bits n k test bs) (k + n) (test (k + n)) (omega (arith, puts_length n)) q
      ∙ here (eqb q (k + n)) refl
    where
      here : (t : Bool) → eqb q (k + n) ≡ t → cond t (test (k + n)) (bit_in (put_bits n k test bs) q) ≡ cond t (test q) (bit_in (put_bits n k test bs) q)
      here true z = ap test (sym (eqb-true q (k + n) z))
      here false z = refl
  last_as n q h false e =
      let l = ltb-false (k + n) (length bs * 8) e in
      let apart : eqb q (k + n) ≡ false = ne_eqb q (k + n) (λ z. absurd (omega arith)) in
      ap (λ (cs : List ℕ). bit_in cs q) (put_out (put_bits n k test bs) (k + n) (test (k + n)) (omega (arith, puts_length n)))
      ∙ rw apart refl

  -- they are as the test says, and all others as they were
  pub puts_bit : (n q : ℕ) → q < length bs * 8 → bit_in (put_bits n k test bs) q ≡ cond (leb k q and ltb q (k + n)) (test q) (bit_in bs q)
  puts_bit zero q h = none_as (leb k q and ltb q (k + 0)) refl
    where
      none_as : (t : Bool) → (leb k q and ltb q (k + 0)) ≡ t → bit_in bs q ≡ cond t (test q) (bit_in bs q)
      none_as true e =
          let a = leb-true k q (and_l (leb k q) (ltb q (k + 0)) e) in
          let b = ltb-true q (k + 0) (and_r (leb k q) (ltb q (k + 0)) e) in
          absurd (omega arith)
      none_as false e = refl
  puts_bit (suc n) q h =
      last_as n q h (ltb (k + n) (length bs * 8)) refl
      ∙ ap (cond (eqb q (k + n)) (test q)) (puts_bit n q h)
      ∙ next_as k n q (eqb q (k + n)) (among k n q) (among k (suc n) q) refl refl refl (test q) (bit_in bs q)

-- by tests that agree
pub puts_same : (f g : ℕ → Bool) (n k : ℕ) (bs : List ℕ) → ((i : ℕ) → i < n → f (k + i) ≡ g (k + i)) → put_bits n k f bs ≡ put_bits n k g bs
puts_same f g zero k bs h = refl
puts_same f g (suc n) k bs h = rw (puts_same f g n k bs (λ i l. h i (omega arith)), h n (omega arith)) refl

-- and in two parts
pub puts_on : (test : ℕ → Bool) (n m k : ℕ) (bs : List ℕ) → put_bits (n + m) k test bs ≡ put_bits m (k + n) test (put_bits n k test bs)
puts_on test n zero k bs = rw add-zero refl
puts_on test n (suc m) k bs =
    let e : k + (n + m) ≡ k + n + m = omega arith in
    rw (add-suc, puts_on test n m k bs, e) refl

-- none put, whatever a test says
pub puts_none : (t : Bool) (k : ℕ) (test : ℕ → Bool) (bs : List ℕ) → put_bits (cond t 0 0) k test bs ≡ bs
puts_none true k test bs = refl
puts_none false k test bs = refl
