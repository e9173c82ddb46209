-- What is read into the rest of a buffer is added to what was filled.
use Rattle.std.proofs.Common.{◌≡◌, ℕ, ◌+◌, ◌≤◌, List, ◌++◌, sym, ap, subst, ◌∙◌, length, take, le_refl, drop_at, length-take-le}
use Rattle.std.proofs.lemmas.Slice.{take-put_mid_below}
use Rattle.std.specs.Io.KnownBytes.{Consumes, Keeps}
use Rattle.std.specs.declared.option.Option.{Option}
use Rattle.std.proofs.KnownBytes.{Consumes-trans, Consumes-kept}
use borrow.Rule.Slice.PartMut.{put_mid, post_of}
use lib.Seq.{take-add, take-append-le}

-- a read into the rest of a buffer adds what it read to what was filled
filled_on : (at k n : ℕ) (xs ys : List ℕ) → at ≤ length xs → n ≤ length ys → take at xs ++ take n ys ≡ take (at + n) (put_mid at k xs ys)
filled_on at k n xs ys within fits =
    let front : take at (put_mid at k xs ys) ≡ take at xs = take-put_mid_below _ _ _ _ _ (le_refl _) within in
    let after = post_of at k xs in
    let part = ap (take n) (drop_at (take at xs) (ys ++ after) at (length-take-le at xs within)) ∙ take-append-le n ys after fits in
    ap (λ l. l ++ take n ys) (sym front) ∙ ap (λ l. take at (put_mid at k xs ys) ++ l) (sym part) ∙ sym (take-add at n (put_mid at k xs ys))

-- what is filled is what was taken, as more is read
pub taken_more : (a b d : Option (List ℕ)) (at k n m : ℕ) (xs ys : List ℕ) → m ≡ at + n → at ≤ length xs → n ≤ length ys
    → Consumes a b (take at xs) → Consumes b d (take n ys) → Consumes a d (take m (put_mid at k xs ys))
taken_more a b d at k n m xs ys e within fits before read =
    rw e (subst (Consumes a d) (filled_on at k n xs ys within fits) (Consumes-trans a b d _ _ before read))

-- a read that failed leaves what was filled
pub taken_kept : (a b d : Option (List ℕ)) (at k m : ℕ) (xs ys : List ℕ) → m ≡ at → at ≤ length xs
    → Consumes a b (take at xs) → Keeps b d → Consumes a d (take m (put_mid at k xs ys))
taken_kept a b d at k m xs ys e within before kept =
    let front : take at (put_mid at k xs ys) ≡ take at xs = take-put_mid_below _ _ _ _ _ (le_refl _) within in
    rw e (subst (Consumes a d) (sym front) (Consumes-kept a b d _ before kept))
