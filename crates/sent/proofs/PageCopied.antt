-- The kept bytes of an input, copied over page data of zeros, are its page data.
use Prim.Native.Nat.{ℕ, ◌+◌, ◌-◌, ◌≤◌, ◌<◌}
use mathlib.Core.Path.{◌≡◌, refl}
use mathlib.Core.Bool.{Bool, true, false}
use mathlib.Core.List.{List, ◌++◌}
use native.Mathlib.Omega.{arith}
use lib.Dec.{leb}
use Rattle.std.proofs.lemmas.List.{drop-replicate}
use lib.ListN.{length, take, drop, length-drop, drop_of_length-le}
use lib.Seq.{take_all, drop-drop}
use borrow.Author.Tests.{leb-true, leb-false}
use Rattle.paper.specs.Sizes.{page_bytes}
use Rattle.paper.specs.Program.{kept_count, passed_count, page_data, no_data}

-- The data is what follows the first f bytes.
module _ (f : ℕ) (i : List ℕ) where
  abbrev kept : ℕ
  kept = kept_count (drop f i)

  abbrev passed : ℕ
  passed = passed_count (drop f i)

  last_kept_as : (t : Bool) → leb f (length i) ≡ t → drop (length i - kept) i ≡ drop passed (drop f i)
  last_kept_as true e =
      let h : f ≤ length i = leb-true _ _ e in
      let s : f + passed ≡ length i - kept = simp length-drop (omega arith) in
      rw (drop-drop, s)
  last_kept_as false e =
      let h : length i < f = leb-false _ _ e in
      let l : length i ≤ length i - kept = simp length-drop (omega arith) in
      let m : length i ≤ f + passed = omega arith in
      rw (drop-drop, drop_of_length-le i l, drop_of_length-le i m)

  -- the last bytes are copied, as many as are kept
  pub page_copied : (count : ℕ) → count ≡ kept
      → take (length i - (length i - count)) (drop (length i - count) i) ++ drop count no_data ≡ page_data (drop f i)
  unfolding page_data no_data
  page_copied count r =
      let l : length (drop (length i - count) i) ≡ length i - (length i - count) = length-drop (length i - count) i in
      rw (take_all (length i - (length i - count)) (drop (length i - count) i) (omega (arith, l)), r, drop-replicate {X = ℕ} kept page_bytes 0, last_kept_as _ refl)
