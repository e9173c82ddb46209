-- The numbers of a rebuild and of a query: what refuses them, what it means that nothing does, and what they answer then.
use Prim.Native.Nat.{ℕ, ◌*◌, ◌^◌, ◌<◌, ◌≤◌}
use mathlib.Core.Path.{◌≡◌, refl, sym, ap, ◌∙◌}
use mathlib.Core.Bool.{Bool, true, false}
use mathlib.Core.List.{List}
use native.Mathlib.Omega.{arith}
use borrow.Author.Tests.{eqb-true, ne_eqb, ltb-true, lt-ltb, le-ltb}
use lib.Dec.{eqb, ltb, leb}
use lib.ListN.{length}
use Rattle.words.specs.Logic.{◌and◌, unless, ◌or_else◌}
use Rattle.words.specs.Lists.{up_to, first_of}
use Rattle.words.specs.Bits.{bit_in, byte_of}
use Rattle.words.proofs.Tests.{and_l, or_else_zero, unless_zero}
use Rattle.paper.specs.Sizes.{size_ok, array_bytes, array_pages, map_bytes}
use Rattle.paper.specs.Numbers.{size_number, map_number, page_number, rebuild_number, query_number}
use Rattle.std.specs.Prelude.{Option, Some, None, Result, Ok, Err}
use Rattle.types.specs.declared.Refusal.{Refusal}
use Rattle.std.specs.Result.{is_ok}
use Rattle.paper.specs.Refusals.{number, number_of}
use Rattle.paper.proofs.Refusals.{some_number, same_refusal}
use Rattle.paper.specs.Map.{blank_of, Page, NoPage, Refused, blank_page, map_of, rebuilt, next_blank, queried}
use Rattle.paper.proofs.Sizes.{size_range}

-- what tests say by their number: 0 where they refuse nothing
pub ok_number : (r : Result (Unit {0}) Refusal) → is_ok r ≡ true → number_of r ≡ 0
ok_number (Ok u) e = refl
ok_number (Err x) e = cc

pub err_number : (r : Result (Unit {0}) Refusal) → is_ok r ≡ false → number_of r ≡ 0 → ⊥
err_number (Ok u) e z = cc
err_number (Err x) e z = some_number x z

-- the tests one after the other: the size's first
module _ (n : ℕ) where
  pub known_small : (t : Bool) → t ≡ size_ok n → 0 ≡ unless t 1 → n ≤ 512
  known_small t e f = (size_range n (sym e ∙ unless_zero t 0 (sym f))).1

  rebuild_by : (a m : ℕ) (t u : Bool) → size_ok n ≡ t → eqb a (array_bytes n) ≡ u → (unless t 1 or_else (unless u 1 or_else unless (eqb m (map_bytes n)) 36)) ≡ rebuild_number n a m
  unfolding rebuild_number size_number map_number unless ◌and◌ ◌or_else◌
  rebuild_by a m true true e f = rw (e, f) refl
  rebuild_by a m true false e f = rw (e, f) refl
  rebuild_by a m false u e f = rw e refl

  pub rebuild_as : (a m : ℕ) → (unless (size_ok n) 1 or_else (unless (eqb a (array_bytes n)) 1 or_else unless (eqb m (map_bytes n)) 36)) ≡ rebuild_number n a m
  rebuild_as a m = rebuild_by a m (size_ok n) (eqb a (array_bytes n)) refl refl

  pub query_as : (m q : ℕ) → (unless (size_ok n) 1 or_else (unless (eqb m (map_bytes n)) 36 or_else unless (ltb q (array_pages n)) 37)) ≡ query_number n m q
  unfolding query_number map_number page_number
  query_as m q = refl

-- what holds where nothing refuses a rebuild
module _ (n a m : ℕ) (taken : rebuild_number n a m ≡ 0) where
  rebuild_parts : (unless (size_ok n and eqb a (array_bytes n)) 1 ≡ 0) × (unless (eqb m (map_bytes n)) 36 ≡ 0)
  unfolding rebuild_number size_number map_number
  rebuild_parts = or_else_zero _ _ taken

  rebuild_long : m ≡ map_bytes n
  rebuild_long = eqb-true _ _ (unless_zero _ 35 rebuild_parts.1)

  pub rebuild_small : m * 8 < 2 ^ 63
  rebuild_small = omega (arith, rebuild_long, size_range n (and_l _ _ (unless_zero _ 0 rebuild_parts.0)))

-- and a query
module _ (n m q : ℕ) (taken : query_number n m q ≡ 0) where
  query_parts : (unless (size_ok n) 1 ≡ 0) × ((unless (eqb m (map_bytes n)) 36 or_else unless (ltb q (array_pages n)) 37) ≡ 0)
  unfolding query_number map_number page_number
  query_parts = or_else_zero _ _ taken

  query_more : (unless (eqb m (map_bytes n)) 36 ≡ 0) × (unless (ltb q (array_pages n)) 37 ≡ 0)
  query_more = or_else_zero _ _ query_parts.1

  query_long : m ≡ map_bytes n
  query_long = eqb-true _ _ (unless_zero _ 35 query_more.0)

  pub query_small : m * 8 < 2 ^ 63
  query_small = omega (arith, query_long, size_range n (unless_zero _ 0 query_parts.0))

  pub query_inside : q < m * 8
  query_inside =
      let l : q < array_pages n = ltb-true _ _ (unless_zero _ 36 query_more.1) in
      omega (arith, query_long)

-- the map after a rebuild
module _ (n : ℕ) (xs m : List ℕ) where
  pub rebuilt_made : rebuild_number n (length xs) (length m) ≡ 0 → up_to (length m) (byte_of (blank_page xs)) ≡ rebuilt n xs m
  unfolding rebuilt map_of
  rebuilt_made e = rw e (ap (λ (k : ℕ). up_to k (byte_of (blank_page xs))) (rebuild_long n (length xs) (length m) e))

  pub rebuilt_refused : (rebuild_number n (length xs) (length m) ≡ 0 → ⊥) → m ≡ rebuilt n xs m
  unfolding rebuilt
  rebuilt_refused h = rw (ne_eqb _ 0 h) refl

-- what a query says
module _ (n : ℕ) (m : List ℕ) (q : ℕ) where
  pub queried_refused : (k : ℕ) → k ≡ query_number n (length m) q → (k ≡ 0 → ⊥) → Refused k ≡ queried n m q
  unfolding queried
  queried_refused k e h = rw (← e, ne_eqb k 0 h) refl

  module _ (taken : query_number n (length m) q ≡ 0) where
    pages_are : length m * 8 ≡ array_pages n
    pages_are = omega (arith, query_long n (length m) q taken)

    found_is : first_of (length m * 8) (λ (i : ℕ). leb q i and bit_in m i) ≡ next_blank n m q
    found_is = ap (λ (k : ℕ). first_of k (λ (i : ℕ). leb q i and bit_in m i)) pages_are

    pub queried_page : (r : ℕ) → r ≡ first_of (length m * 8) (λ (i : ℕ). leb q i and bit_in m i) → r < length m * 8 → Page r ≡ queried n m q
    unfolding queried
    queried_page r e l =
        let f : next_blank n m q ≡ r = sym (e ∙ found_is) in
        rw (taken, f, lt-ltb r (array_pages n) (rw (← pages_are) l)) refl

    pub queried_none : (r : ℕ) → r ≡ first_of (length m * 8) (λ (i : ℕ). leb q i and bit_in m i) → length m * 8 ≤ r → NoPage ≡ queried n m q
    unfolding queried
    queried_none r e l =
        let f : next_blank n m q ≡ r = sym (e ∙ found_is) in
        rw (taken, f, le-ltb r (array_pages n) (rw (← pages_are) l)) refl

-- a result that says the answer of a query is the only one that does
pub same_blank : (x y : Result (Option ℕ) Refusal) → blank_of x ≡ blank_of y → x ≡ y
same_blank (Ok None) (Ok None) e = refl
same_blank (Ok None) (Ok (Some r)) e = cc
same_blank (Ok None) (Err b) e = cc
same_blank (Ok (Some q)) (Ok None) e = cc
same_blank (Ok (Some q)) (Ok (Some r)) e = cc
same_blank (Ok (Some q)) (Err b) e = cc
same_blank (Err a) (Ok None) e = cc
same_blank (Err a) (Ok (Some r)) e = cc
same_blank (Err a) (Err b) e =
    let n : number a ≡ number b = cc in
    let f : Err a ≡ Err b = same_refusal {x = Err a} {y = Err b} n refl in
    cc
