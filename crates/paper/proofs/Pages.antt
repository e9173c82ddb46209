-- Pages: what a touch leaves where it fits and where it does not, bytes that are set to FFh, and how large units are.
use Prim.Native.Nat.{ℕ, ◌+◌, ◌-◌, ◌*◌, ◌%◌, ◌≤◌, ◌<◌}
use mathlib.Core.Path.{◌≡◌, refl, ap, ◌∙◌}
use mathlib.Core.Bool.{Bool, true, false, cond}
use mathlib.Core.List.{List, ◌++◌}
use native.Mathlib.Omega.{arith}
use borrow.Author.Tests.{leb-true, leb-false, ltb-true, ltb-false, le-leb, lt-leb}
use lib.Dec.{leb, ltb}
use lib.ListN.{length, take, drop, replicate, get_or, length-drop, length-take, length-append, length-replicate, length-set, get_or-replicate, get_or-append}
use lib.Seq.{drop-drop, get_or-append-add, get_or-take, get_or-drop, length-take-le}
use Rattle.types.specs.declared.EraseUnit.{EraseUnit}
use Rattle.types.specs.declared.EraseUnit.TheVariants.{Sector, Block32, Block64, Chip, Row}
use Rattle.words.specs.Logic.{◌and◌}
use Rattle.paper.specs.Sizes.{page_bytes, from_on}
use Rattle.paper.specs.Program.{page_place, narrowed}
use Rattle.paper.specs.Erase.{unit_pages, erased_byte, page_erased}

-- a page that does not fit leaves the bytes as they are
pub erased_out : (xs : List ℕ) (b : ℕ) → length xs < b + page_bytes → page_erased xs b ≡ xs
unfolding page_erased
erased_out xs b h = rw (lt-leb _ _ h)

-- a page that was lent on and came back as 256 bytes of FFh
pub erased_back : (xs : List ℕ) (b : ℕ) → b + page_bytes ≤ length xs → (n : ℕ) → n ≡ page_bytes → (ys : List ℕ) → ys ≡ replicate (length (take n (drop b xs))) erased_byte
    → take b xs ++ (ys ++ drop n (drop b xs)) ≡ page_erased xs b
unfolding page_erased
erased_back xs b h n e ys q =
    let l : length (take page_bytes (drop b xs)) ≡ page_bytes = simp (length-take, length-drop) (omega arith) in
    rw (le-leb _ _ h, q, e, l, drop-drop)

erased_length_as : (xs : List ℕ) (b : ℕ) (t : Bool) → leb (b + page_bytes) (length xs) ≡ t → length (page_erased xs b) ≡ length xs
unfolding page_erased
erased_length_as xs b true e =
    let h : b + page_bytes ≤ length xs = leb-true _ _ e in
    rw e (simp (length-append, length-take, length-drop) (omega arith))
erased_length_as xs b false e = rw e

-- a touch keeps a memory's length
pub erased_length : (xs : List ℕ) (b : ℕ) → length (page_erased xs b) ≡ length xs
erased_length xs b = erased_length_as xs b _ refl

pub narrowed_length : (xs : List ℕ) (a d : ℕ) → length (narrowed xs a d) ≡ length xs
unfolding narrowed
narrowed_length xs a d = length-set xs a _

-- a unit of a part of fewer than 65,536 blocks has at most so many pages
pub unit_pages_le : (u : EraseUnit) (n : ℕ) → n < 65536 → unit_pages u n ≤ 65536 * 256
unit_pages_le Sector n h = omega arith
unit_pages_le Block32 n h = omega arith
unit_pages_le Block64 n h = omega arith
unit_pages_le Chip n h = omega arith
unit_pages_le Row n h = omega arith

-- the place in a page of what is counted from any place of the memory
pub place_of : (a k : ℕ) → page_place (a % page_bytes) k ≡ page_place a k
unfolding page_place
place_of a k = omega arith

-- k bytes from the place a on set to FFh
abbrev pub stretch : List ℕ → ℕ → ℕ → List ℕ
stretch xs a k = take a xs ++ (replicate k erased_byte ++ drop (a + k) xs)

pub stretch_length : (xs : List ℕ) (a k : ℕ) → a + k ≤ length xs → length (stretch xs a k) ≡ length xs
stretch_length xs a k h = simp (length-append, length-take, length-replicate, length-drop) (omega arith)

-- a place then
module _ (xs : List ℕ) (a k at : ℕ) (h : a + k ≤ length xs) where
  before_stretch : at < a → get_or (stretch xs a k) at 0 ≡ get_or xs at 0
  before_stretch l =
      get_or-append (take a xs) (replicate k erased_byte ++ drop (a + k) xs) 0 at (rw (length-take-le a xs (omega arith)) l)
      ∙ get_or-take a xs at 0 l

  -- j places after the place where it begins
  behind : (j : ℕ) → at ≡ a + j → get_or (stretch xs a k) at 0 ≡ get_or (replicate k erased_byte ++ drop (a + k) xs) j 0
  behind j e =
      let n : length (take a xs) ≡ a = length-take-le a xs (omega arith) in
      let f : at ≡ length (take a xs) + j = rw n e in
      ap (λ (i : ℕ). get_or (stretch xs a k) i 0) f ∙ get_or-append-add (take a xs) (replicate k erased_byte ++ drop (a + k) xs) j 0

  in-stretch : a ≤ at → at < a + k → get_or (stretch xs a k) at 0 ≡ erased_byte
  in-stretch l u =
      behind (at - a) (omega arith)
      ∙ get_or-append (replicate k erased_byte) (drop (a + k) xs) 0 (at - a) (rw (length-replicate k erased_byte) (omega arith))
      ∙ get_or-replicate k (at - a) erased_byte 0 (omega arith)

  after_stretch : a + k ≤ at → get_or (stretch xs a k) at 0 ≡ get_or xs at 0
  after_stretch l =
      let n : at - a ≡ length (replicate k erased_byte) + (at - a - k) = rw (length-replicate k erased_byte) (omega arith) in
      let e : a + k + (at - a - k) ≡ at = omega arith in
      behind (at - a) (omega arith)
      ∙ ap (λ (j : ℕ). get_or (replicate k erased_byte ++ drop (a + k) xs) j 0) n
      ∙ get_or-append-add (replicate k erased_byte) (drop (a + k) xs) (at - a - k) 0
      ∙ get_or-drop (a + k) xs (at - a - k) 0
      ∙ ap (λ (j : ℕ). get_or xs j 0) e

  stretch_as : (t u : Bool) → leb a at ≡ t → ltb at (a + k) ≡ u → get_or (stretch xs a k) at 0 ≡ cond (t and u) erased_byte (get_or xs at 0)
  unfolding ◌and◌
  stretch_as false u e f = before_stretch (leb-false _ _ e)
  stretch_as true true e f = in-stretch (leb-true _ _ e) (ltb-true _ _ f)
  stretch_as true false e f = after_stretch (ltb-false _ _ f)

  pub stretch_at : get_or (stretch xs a k) at 0 ≡ cond (from_on a k at) erased_byte (get_or xs at 0)
  stretch_at = stretch_as (leb a at) (ltb at (a + k)) refl refl
