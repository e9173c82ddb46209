-- Where two runs of bytes differ, a chunk after the other.
use Rattle.std.proofs.Common.{◌≡◌, ◌≢◌, ℕ, suc, ◌+◌, ◌-◌, ◌<◌, ◌≤◌, Bool, true, false, not, List, ◌++◌, length, take, drop, get_or, refl, sym, ap, ◌∙◌, arith, min, length-append, length-take, length-drop, eqb-true, eq-eqb, leb-true, leb-false}
use Rattle.std.proofs.Math.Seq.{get_or-take, get_or-drop, drop-append_seam, drop-drop}
use Rattle.std.proofs.Math.ListN.{get_or-append}
use Rattle.std.proofs.lemmas.List.{ext_get_or}
use borrow.Author.Tests.{not-false}
use lib.Dec.{leb}
use Rattle.words.specs.Lists.{first_of, differ_at}
use Rattle.words.proofs.Search.{first_none, first_at, first_before, first_passes, first_same}

module _ (test : ℕ → Bool) where
  -- none of the first i passes
  module _ (i : ℕ) (none : first_of i test ≡ i) where
    none_before_as : (m j : ℕ) (t : Bool) → leb (suc j) i ≡ t → ((k : ℕ) → k < m → test (i + k) ≡ false) → j < i + m → test j ≡ false
    none_before_as m j true e h l = first_before test i j (rw none (leb-true _ _ e))
    none_before_as m j false e h l =
        let g : i < suc j = leb-false _ _ e in
        let same : j ≡ i + (j - i) = omega arith in
        rw same (h (j - i) (omega arith))

    none_before : (m : ℕ) → ((k : ℕ) → k < m → test (i + k) ≡ false) → (j : ℕ) → j < i + m → test j ≡ false
    none_before m h j l = none_before_as m j (leb (suc j) i) refl h l

    -- nor of the k after them
    none_more : (k : ℕ) → first_of k (λ (j : ℕ). test (i + j)) ≡ k → first_of (i + k) test ≡ i + k
    none_more k e = first_none test (i + k) (none_before k (λ j l. first_before (λ (m : ℕ). test (i + m)) k j (rw e l)))

    -- one of the k after them does
    found_after : (n k : ℕ) → first_of k (λ (j : ℕ). test (i + j)) < k → i + k ≤ n → first_of n test ≡ i + first_of k (λ (j : ℕ). test (i + j))
    found_after n k l h =
        first_at test n (i + first_of k (λ (j : ℕ). test (i + j))) (omega arith) (first_passes (λ (j : ℕ). test (i + j)) k l) (none_before _ (first_before _ k))

-- a chunk x of a run, cut off the front of what is left of its first n bytes behind the place at
module _ (a : List ℕ) (n at : ℕ) (x u : List ℕ) (fits : n ≤ length a) (inside : at ≤ n) (cut : drop at (take n a) ≡ x ++ u) where
  left_length : length (drop at (take n a)) ≡ n - at
  left_length = simp (length-drop, length-take) (omega arith)

  chunk_room : at + length x ≤ n
  chunk_room =
      let l : length x + length u ≡ n - at = sym (length-append x u) ∙ sym (ap length cut) ∙ left_length in
      omega (arith, l)

  chunk_left : u ≡ drop (at + length x) (take n a)
  chunk_left = sym (drop-append_seam x u) ∙ ap (drop (length x)) (sym cut) ∙ rw drop-drop

  chunk_item : (j : ℕ) → j < length x → get_or x j 0 ≡ get_or a (at + j) 0
  chunk_item j l =
      sym (get_or-append x u 0 j l) ∙ ap (λ (r : List ℕ). get_or r j 0) (sym cut) ∙ get_or-drop at (take n a) j 0 ∙ get_or-take n a (at + j) 0 (omega (arith, chunk_room))

-- chunks x and y of two runs a and b, cut so at the same place; u and v are left behind them
pub record Chunks (a b : List ℕ) (n at : ℕ) (x y u v : List ℕ) : Type 0 where
  pub same : length y ≡ length x
  pub room : at + length x ≤ n
  pub left_a : u ≡ drop (at + length x) (take n a)
  pub left_b : v ≡ drop (at + length x) (take n b)
  -- where they are equal, nothing differs in them either
  pub equal : x ≡ y → first_of (at + length x) (differ_at a b) ≡ at + length x
  -- where they are not, the first place in them is the first of all
  pub unequal : x ≢ y → at + first_of (length x) (differ_at x y) ≡ first_of n (differ_at a b)

module _ (a b x y : List ℕ) (at : ℕ) (item_a : (j : ℕ) → j < length x → get_or x j 0 ≡ get_or a (at + j) 0) (item_b : (j : ℕ) → j < length y → get_or y j 0 ≡ get_or b (at + j) 0)
    (same : length y ≡ length x) (none : first_of at (differ_at a b) ≡ at) where
  within_is : first_of (length x) (differ_at x y) ≡ first_of (length x) (λ (j : ℕ). differ_at a b (at + j))
  within_is = first_same _ _ (length x) (λ j l. rw (item_a j l, item_b j (omega arith)))

  chunk_equal : x ≡ y → first_of (at + length x) (differ_at a b) ≡ at + length x
  chunk_equal e =
      none_more (differ_at a b) at none (length x) (sym within_is ∙ first_none (differ_at x y) (length x) (λ j l. ap not (eq-eqb _ _ (ap (λ (r : List ℕ). get_or r j 0) e))))

  some_place : (t : Bool) → leb (suc (first_of (length x) (differ_at x y))) (length x) ≡ t → x ≢ y → first_of (length x) (differ_at x y) < length x
  some_place true e ne = leb-true _ _ e
  some_place false e ne =
      let g : length x < suc (first_of (length x) (differ_at x y)) = leb-false _ _ e in
      absurd (ne (ext_get_or 0 x y (sym same) (λ j l. eqb-true _ _ (not-false _ (first_before (differ_at x y) (length x) j (omega (arith, g, l)))))))

  chunk_unequal : (n : ℕ) → at + length x ≤ n → x ≢ y → at + first_of (length x) (differ_at x y) ≡ first_of n (differ_at a b)
  chunk_unequal n h ne =
      rw within_is (sym (found_after (differ_at a b) at none n (length x) (rw (← within_is) (some_place _ refl ne)) h))

-- what two iterators of chunks of k bytes have left, and what they give of it
pub chunks : (a b : List ℕ) (n at k : ℕ) (p q x y u v : List ℕ) (s t : ℕ) → n ≡ min (length a) (length b) → at ≤ n → first_of at (differ_at a b) ≡ at
    → p ≡ drop at (take n a) → q ≡ drop at (take n b) → s ≡ k → t ≡ k
    → p ≡ x ++ u → q ≡ y ++ v → length x ≡ min s (length p) → length y ≡ min t (length q) → Chunks a b n at x y u v
chunks a b n at k p q x y u v s t shorter inside none ep eq es et px qy lx ly =
    let fa : n ≤ length a = omega arith in
    let fb : n ≤ length b = omega (arith, shorter) in
    let ca = sym ep ∙ px in
    let cb = sym eq ∙ qy in
    let lp : length p ≡ n - at = ap length ep ∙ left_length a n at x u fa inside ca in
    let lq : length q ≡ n - at = ap length eq ∙ left_length b n at y v fb inside cb in
    let same : length y ≡ length x = rw (lx, ly, lp, lq, es, et) in
    let room = chunk_room a n at x u fa inside ca in
    let ia = chunk_item a n at x u fa inside ca in
    let ib = chunk_item b n at y v fb inside cb in
    record {
      same = same;
      room = room;
      left_a = chunk_left a n at x u fa inside ca;
      left_b = rw (← same) (chunk_left b n at y v fb inside cb);
      equal = chunk_equal a b x y at ia ib same none;
      unequal = chunk_unequal a b x y at ia ib same none n room;
    }

-- where no chunk is left, all n are behind
pub none_left : (a p : List ℕ) (n at : ℕ) → n ≤ length a → at ≤ n → p ≡ drop at (take n a) → length p ≡ 0 → at ≡ n
none_left a p n at fits inside e z =
    let l : length p ≡ n - at = ap length e ∙ simp (length-drop, length-take) (omega arith) in
    omega (arith, l, z)
