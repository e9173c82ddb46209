-- A query of a map of blank pages: the page that it tells is blank in the map, and none from the asked one up to it is; or none is.
use Prim.Native.Nat.{ℕ, ◌≤◌, ◌<◌}
use mathlib.Core.Path.{◌≡◌, refl, sym, ap, ◌∙◌, subst}
use mathlib.Core.Bool.{Bool, true, false, cond, false≢true}
use mathlib.Core.List.{List}
use native.Mathlib.Omega.{arith}
use lib.Dec.{eqb, ltb, leb}
use lib.ListN.{length}
use borrow.Author.Tests.{leb-true, le-leb, ltb-true, ltb-false}
use Rattle.words.specs.Logic.{◌and◌}
use Rattle.words.specs.Bits.{bit_in}
use Rattle.words.proofs.Tests.{and_l, and_r, and_in, fails}
use Rattle.words.proofs.Search.{first_before, first_passes}
use Rattle.paper.specs.Sizes.{array_pages}
use Rattle.paper.specs.Numbers.{query_number}
use Rattle.paper.specs.Map.{Blank, Page, NoPage, Refused, next_blank, queried}

abbrev is_page : Blank → Bool
is_page (Page r) = true
is_page NoPage = false
is_page (Refused x) = false

abbrev is_none : Blank → Bool
is_none (Page r) = false
is_none NoPage = true
is_none (Refused x) = false

abbrev page_or : ℕ → Blank → ℕ
page_or d (Page r) = r
page_or d NoPage = d
page_or d (Refused x) = d

-- a query of page q
module _ (n : ℕ) (m : List ℕ) (q : ℕ) where
  abbrev passes : ℕ → Bool
  passes j = leb q j and bit_in m j

  -- page r is the first at or after page q that the map has as blank
  pub record First (r : ℕ) : Type 0 where
    pub in-part : r < array_pages n
    pub from : q ≤ r
    pub blank : bit_in m r ≡ true
    pub none_before : (j : ℕ) → q ≤ j → j < r → bit_in m j ≡ false

  none_up_to : (j : ℕ) → q ≤ j → j < next_blank n m q → bit_in m j ≡ false
  none_up_to j l h =
      fails (bit_in m j) (λ e. false≢true (sym (first_before passes (array_pages n) j h) ∙ and_in (le-leb q j l) e))

  next_first : next_blank n m q < array_pages n → First (next_blank n m q)
  next_first l =
      let h = first_passes passes (array_pages n) l in
      record { in-part = l; from = leb-true _ _ (and_l _ _ h); blank = and_r _ _ h; none_before = none_up_to }

  page_as : (x r : ℕ) (t u : Bool) → ltb (next_blank n m q) (array_pages n) ≡ u → cond t (cond u (Page (next_blank n m q)) NoPage) (Refused x) ≡ Page r → First r
  page_as x r true true e f = subst First (ap (page_or r) f) (next_first (ltb-true _ _ e))
  page_as x r true false e f = absurd (false≢true (ap is_page f))
  page_as x r false u e f = absurd (false≢true (ap is_page f))

  pub query_page : (r : ℕ) → queried n m q ≡ Page r → First r
  unfolding queried
  query_page r f = page_as (query_number n (length m) q) r (eqb (query_number n (length m) q) 0) (ltb (next_blank n m q) (array_pages n)) refl f

  none_as : (x : ℕ) (t u : Bool) → ltb (next_blank n m q) (array_pages n) ≡ u → cond t (cond u (Page (next_blank n m q)) NoPage) (Refused x) ≡ NoPage → array_pages n ≤ next_blank n m q
  none_as x true true e f = absurd (false≢true (ap is_none f))
  none_as x true false e f = ltb-false _ _ e
  none_as x false u e f = absurd (false≢true (ap is_none f))

  pub query_none : queried n m q ≡ NoPage → (j : ℕ) → q ≤ j → j < array_pages n → bit_in m j ≡ false
  unfolding queried
  query_none f j l h =
      let past = none_as (query_number n (length m) q) (eqb (query_number n (length m) q) 0) (ltb (next_blank n m q) (array_pages n)) refl f in
      none_up_to j l (omega arith)
