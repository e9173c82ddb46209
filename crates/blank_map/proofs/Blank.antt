-- Whether a page is blank: what an AND over bytes says, a chunk after the other; and the bytes of a map that is made of it.
use Prim.Native.Nat.{ℕ, suc, ◌+◌, ◌-◌, ◌*◌, ◌/◌, ◌<◌, ◌≤◌}
use mathlib.Core.Path.{◌≡◌, refl, sym, ap, ◌∙◌}
use mathlib.Core.Bool.{Bool, true, false, false≢true}
use mathlib.Core.List.{List, ◌∷◌, [], ◌++◌, append_assoc}
use native.Mathlib.Omega.{arith}
use borrow.Author.Tests.{eqb-true, eq-eqb, leb-true, leb-false}
use lib.Bits.{bit_and, and_self, and_le_l, and_le_r}
use lib.Dec.{eqb, leb}
use lib.Pow.{pow_mono}
use lib.ListN.{length, take, drop, get_or, set, length-take, length-drop, get_or-eq_default}
use lib.Seq.{get_or-take, get_or-drop, drop-cons, set_at}
use Rattle.words.specs.Logic.{◌and◌, bit}
use Rattle.words.specs.Lists.{all_below, up_to, AreBytes}
use Rattle.words.specs.Bits.{bits_from}
use Rattle.words.proofs.Tests.{same_tests, and_l, and_r, and_in, fails}
use Rattle.words.proofs.Lists.{length_up_to}
use Rattle.words.proofs.BitLists.{bits_lt}
use Rattle.words.proofs.Search.{all_at, all_in}
use Rattle.paper.specs.Map.{blank_page}

-- an AND of bytes is FFh where all are
and_full : (a b : ℕ) → a < 256 → b < 256 → eqb (bit_and a b) 255 ≡ (eqb a 255 and eqb b 255)
and_full a b l m =
    same_tests _ _
    (λ e. let f : bit_and a b ≡ 255 = eqb-true _ _ e in and_in (eq-eqb a 255 (omega (arith, and_le_l a b))) (eq-eqb b 255 (omega (arith, and_le_r a b))))
    (λ e. rw (eqb-true a 255 (and_l _ _ e), eqb-true b 255 (and_r _ _ e)) (eq-eqb _ _ (and_self 255)))

-- one byte more is looked at
pub blank_more : (xs : List ℕ) (all i : ℕ) → AreBytes xs → all < 256 → eqb all 255 ≡ all_below i (λ (j : ℕ). eqb (get_or xs j 0) 255) → eqb (bit_and all (get_or xs i 0)) 255 ≡ all_below (suc i) (λ (j : ℕ). eqb (get_or xs j 0) 255)
unfolding all_below
blank_more xs all i b l e = rw (and_full all (get_or xs i 0) l (b i), e)

-- the tests of a page's bytes
abbrev full_at : List ℕ → ℕ → ℕ → Bool
full_at xs q i = eqb (get_or xs (q * 256 + i) 0) 255

module _ (xs : List ℕ) (q : ℕ) where
  -- a page beyond the array is not blank
  pub page_out : length xs / 256 ≤ q → blank_page xs q ≡ false
  unfolding blank_page
  page_out h =
      fails (all_below 256 (full_at xs q)) (λ t.
      let e : get_or xs (q * 256 + 255) 0 ≡ 0 = get_or-eq_default xs 0 (omega arith) in
      false≢true (sym (ap (λ (x : ℕ). eqb x 255) e) ∙ all_at (full_at xs q) 256 255 t (omega arith)))

  -- chunk k of a page that is lent, whose bytes before it are FFh
  module _ (k at m : ℕ) (e : at ≡ q * 256 + k * 64) (n : m ≡ 64) (fits : at + 64 ≤ length xs) where
    abbrev chunk_full : Bool
    chunk_full = all_below (length (take m (drop at xs))) (λ (i : ℕ). eqb (get_or (take m (drop at xs)) i 0) 255)

    chunk_length : length (take m (drop at xs)) ≡ 64
    chunk_length = rw n (simp (length-take, length-drop) (omega arith))

    at_chunk : (i : ℕ) → i < 64 → get_or (take m (drop at xs)) i 0 ≡ get_or xs (q * 256 + (k * 64 + i)) 0
    at_chunk i l =
        let s : q * 256 + (k * 64 + i) ≡ at + i = omega arith in
        rw (n, s) (get_or-take 64 (drop at xs) i 0 l ∙ get_or-drop at xs i 0)

    full_as : (j : ℕ) (t : Bool) → leb (suc j) (k * 64) ≡ t → all_below (k * 64) (full_at xs q) ≡ true → chunk_full ≡ true → j < suc k * 64 → full_at xs q j ≡ true
    full_as j true s h f l = all_at (full_at xs q) (k * 64) j h (leb-true _ _ s)
    full_as j false s h f l =
        let b : k * 64 < suc j = leb-false _ _ s in
        let g : k * 64 + (j - k * 64) ≡ j = omega arith in
        let o : get_or (take m (drop at xs)) (j - k * 64) 0 ≡ get_or xs (q * 256 + j) 0 = at_chunk (j - k * 64) (omega arith) ∙ ap (λ (i : ℕ). get_or xs (q * 256 + i) 0) g in
        ap (λ (x : ℕ). eqb x 255) (sym o) ∙ all_at (λ (i : ℕ). eqb (get_or (take m (drop at xs)) i 0) 255) (length (take m (drop at xs))) (j - k * 64) f (rw chunk_length (omega arith))

    -- it is FFh too
    pub chunk_full_lem : all_below (k * 64) (full_at xs q) ≡ true → chunk_full ≡ true → all_below (suc k * 64) (full_at xs q) ≡ true
    chunk_full_lem h f = all_in (full_at xs q) (suc k * 64) (λ j l. full_as j (leb (suc j) (k * 64)) refl h f l)

    -- or the page is not blank
    pub chunk_not : k < 4 → chunk_full ≡ false → blank_page xs q ≡ false
    unfolding blank_page
    chunk_not l f =
        fails (all_below 256 (full_at xs q)) (λ t.
        false≢true (sym f ∙ all_in _ (length (take m (drop at xs))) (λ i s.
        let b : i < 64 = rw (← chunk_length) s in
        ap (λ (x : ℕ). eqb x 255) (at_chunk i b) ∙ all_at (full_at xs q) 256 (k * 64 + i) t (omega arith))))

-- a number of at most seven bits
pub few_bits : (n : ℕ) (test : ℕ → Bool) (k : ℕ) → n ≤ 7 → bits_from n test k < 128
few_bits n test k l = omega (arith, bits_lt n test k, pow_mono l)

-- one bit more, below those that a number has
pub bits_below : (test : ℕ → Bool) (j k : ℕ) → 0 < k → k ≤ 8 → bits_from (8 - k) test (j + k) * 2 + bit (test (j + (k - 1))) ≡ bits_from (8 - (k - 1)) test (j + (k - 1))
bits_below test j k l m =
    let s : 8 - (k - 1) ≡ suc (8 - k) = omega arith in
    let t : j + k ≡ suc (j + (k - 1)) = omega arith in
    rw (s, t) (omega arith)

-- one byte more of a list that is made
pub made_more : (o : List ℕ) (f : ℕ → ℕ) (j : ℕ) → j < length o → set (up_to j f ++ drop j o) j (f j) ≡ up_to (suc j) f ++ drop (suc j) o
made_more o f j l =
    rw (drop-cons o j 0 l) (set_at (up_to j f) (get_or o j 0) (drop (suc j) o) (f j) j (length_up_to j f) ∙ sym (append_assoc (up_to j f) (f j ∷ []) (drop (suc j) o)))
