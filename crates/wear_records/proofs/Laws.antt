-- What the thin functions make of wear records, place by place: a tally of the records that are there, counted one field at a time, makes what the whole tally makes.
use Prim.Native.Nat.{ℕ, zero, suc, ◌+◌, ◌-◌, ◌<◌, ◌≤◌, min}
use mathlib.Core.Path.{◌≡◌, refl, sym, ap, ◌∙◌, subst}
use mathlib.Core.Bool.{Bool, true, false, cond}
use mathlib.Core.List.{List, [], ◌∷◌, ◌++◌}
use native.Mathlib.Omega.{arith}
use native.Mathlib.Nat.{zero-add}
use borrow.Author.Tests.{ltb-true, lt-ltb, eqb-true, eqb-false}
use lib.Dec.{eqb, ltb}
use Rattle.std.proofs.lemmas.Bool.Decides.{nat_tests}
use Rattle.std.proofs.lemmas.List.{set-append_left, set-append_right, get_or_append_left, get_or-append_right}
use lib.ListN.{length, get_or, set, length-set}
use lib.Seq.{ext_get_or, get_or-set_same, get_or-set_other}
use Rattle.types.specs.declared.Wear.{Wear}
use Rattle.types.specs.declared.Tally.{Tally}
use Rattle.words.specs.Logic.{◌and◌}
use Rattle.words.proofs.Tests.{and_l, and_r, and_in, same_tests, fails}
use Rattle.words.proofs.Lists.{length_each, get_d_each}
use Rattle.paper.specs.Sizes.{from_on}
use Rattle.paper.specs.Wear.{unworn, one_more, worn_by, worn}
use Rattle.paper.proofs.ByPlace.{from_on_lem, on_from}
use Rattle.wear_records.specs.Thin.{erase_at, program_at, program_where, erased_from, clipped}

-- one more by the largest count
pub saturates : (n : ℕ) → n ≤ 4294967295 → min (n + 1) 4294967295 ≡ one_more n
unfolding one_more
saturates n h = grind (arith, nat_tests)

-- a record with one field more is the one that the definition has in its place
same_wear : (w : Wear) (a b : ℕ) → w.erases ≡ a → w.programs ≡ b → w ≡ record { erases = a; programs = b }
same_wear w a b e f = ap (λ (x : ℕ). record { erases = x; programs = w.programs }) e ∙ ap (λ (y : ℕ). record { erases = a; programs = y }) f

-- put into a list of records, it is an erase there, also in the middle of all of them
at_erase : (xs : List Wear) (i : ℕ) (d w : Wear) → i < length xs → w.erases ≡ one_more (get_or xs i d).erases → w.programs ≡ (get_or xs i d).programs → set xs i w ≡ erase_at i xs
unfolding erase_at
at_erase [] i d w h e f = absurd (omega arith)
at_erase (x ∷ xs) zero d w h e f = ap (λ (v : Wear). v ∷ xs) (same_wear w _ _ e f)
at_erase (x ∷ xs) (suc i) d w h e f = ap (λ (vs : List Wear). x ∷ vs) (at_erase xs i d w (omega arith) e f)

mid_at : (ws xs ys : List Wear) (i : ℕ) → i < length xs → ws ++ (erase_at i xs ++ ys) ≡ erase_at (length ws + i) (ws ++ (xs ++ ys))
unfolding erase_at
mid_at ws xs ys i h =
    let past : i ≡ length ws + i - length ws = omega arith in
    rw (set-append_right ws (xs ++ ys) (length ws) (length ws + i) _ refl (omega arith), get_or-append_right ws (xs ++ ys) (length ws) (length ws + i) unworn refl (omega arith), ← past, get_or_append_left xs ys unworn i h, set-append_left xs ys i _ h)

pub mid_erase : (ws xs ys : List Wear) (i : ℕ) (d w : Wear) → i < length xs → w.erases ≡ one_more (get_or xs i d).erases → w.programs ≡ (get_or xs i d).programs → ws ++ (set xs i w ++ ys) ≡ erase_at (length ws + i) (ws ++ (xs ++ ys))
mid_erase ws xs ys i d w h e f = ap (λ (vs : List Wear). ws ++ (vs ++ ys)) (at_erase xs i d w h e f) ∙ mid_at ws xs ys i h

-- lengths stay
erase_length : (i : ℕ) (ws : List Wear) → length (erase_at i ws) ≡ length ws
unfolding erase_at
erase_length i ws = simp length-set

pub erased_length : (first n : ℕ) (ws : List Wear) → length (erased_from first n ws) ≡ length ws
erased_length first zero ws = refl
erased_length first (suc n) ws = erase_length (first + n) (erased_from first n ws) ∙ erased_length first n ws

where_length : (t : Bool) (i : ℕ) (ws : List Wear) → length (program_where t i ws) ≡ length ws
unfolding program_at
where_length true i ws = simp length-set
where_length false i ws = refl

-- a record with one erase more, or one program more, where a test says so
abbrev erase_more : Bool → Wear → Wear
erase_more b w = record { erases = cond b (one_more w.erases) w.erases; programs = w.programs }

abbrev program_more : Bool → Wear → Wear
program_more b w = record { erases = w.erases; programs = cond b (one_more w.programs) w.programs }

-- one field of one record changes
erase_same : (i : ℕ) (ws : List Wear) → i < length ws → get_or (erase_at i ws) i unworn ≡ erase_more true (get_or ws i unworn)
unfolding erase_at
erase_same i ws h = get_or-set_same ws i _ unworn h

erase_other : (i q : ℕ) (ws : List Wear) → (q ≡ i → ⊥) → get_or (erase_at i ws) q unworn ≡ get_or ws q unworn
unfolding erase_at
erase_other i q ws h = get_or-set_other ws i q _ unworn h

program_same : (i : ℕ) (ws : List Wear) → i < length ws → get_or (program_at i ws) i unworn ≡ program_more true (get_or ws i unworn)
unfolding program_at
program_same i ws h = get_or-set_same ws i _ unworn h

program_other : (i q : ℕ) (ws : List Wear) → (q ≡ i → ⊥) → get_or (program_at i ws) q unworn ≡ get_or ws q unworn
unfolding program_at
program_other i q ws h = get_or-set_other ws i q _ unworn h

-- so many sectors from the first on, and no other, have one erase more
abbrev Erased : ℕ → ℕ → List Wear → List Wear → ℕ → Type 0
Erased first n ws zs q = get_or zs q unworn ≡ erase_more (from_on first n q) (get_or ws q unworn)

module _ (first n : ℕ) (ws zs : List Wear) (fits : first + n < length zs) (was : (q : ℕ) → Erased first n ws zs q) where
  last : Erased first (suc n) ws (erase_at (first + n) zs) (first + n)
  last =
      let not_yet : from_on first n (first + n) ≡ false = fails _ (λ e. omega (arith, (on_from first n (first + n) e).1)) in
      let now : from_on first (suc n) (first + n) ≡ true = from_on_lem first (suc n) (first + n) (omega arith) (omega arith) in
      erase_same (first + n) zs fits ∙ ap (erase_more true) (rw not_yet at (was (first + n))) ∙ rw now

  others : (q : ℕ) → (q ≡ first + n → ⊥) → Erased first (suc n) ws (erase_at (first + n) zs) q
  others q other =
      let same : from_on first n q ≡ from_on first (suc n) q =
      same_tests _ _
      (λ t. let p = on_from first n q t in from_on_lem first (suc n) q p.0 (omega (arith, p.1)))
      (λ t. let p = on_from first (suc n) q t in from_on_lem first n q p.0 (omega (arith, p.1, other))) in
      erase_other (first + n) q zs other ∙ was q ∙ ap (λ (b : Bool). erase_more b (get_or ws q unworn)) same

  one_further : (q : ℕ) (b : Bool) → eqb q (first + n) ≡ b → Erased first (suc n) ws (erase_at (first + n) zs) q
  one_further q true e = subst (Erased first (suc n) ws (erase_at (first + n) zs)) (sym (eqb-true q (first + n) e)) last
  one_further q false e = others q (eqb-false q (first + n) e)

erased_at : (first n : ℕ) (ws : List Wear) → first + n ≤ length ws → (q : ℕ) → Erased first n ws (erased_from first n ws) q
erased_at first zero ws h q =
    let none : from_on first 0 q ≡ false = fails _ (λ e. let p = on_from first 0 q e in omega (arith, p.0, p.1)) in
    ap (λ (b : Bool). erase_more b (get_or ws q unworn)) (sym none)
erased_at first (suc n) ws h q =
    one_further first n ws (erased_from first n ws) (omega (arith, erased_length first n ws)) (erased_at first n ws (omega arith)) q (eqb q (first + n)) refl

-- the sector, where the test says so, and no other, has one program more
program_at_lem : (t : Bool) (i : ℕ) (ws : List Wear) (q : ℕ) → (t ≡ true → i < length ws) → get_or (program_where t i ws) q unworn ≡ program_more (t and eqb i q) (get_or ws q unworn)
unfolding ◌and◌
program_at_lem false i ws q h = refl
program_at_lem true i ws q h = by_place (eqb i q) refl
  where
    by_place : (b : Bool) → eqb i q ≡ b → get_or (program_at i ws) q unworn ≡ program_more (eqb i q) (get_or ws q unworn)
    by_place true e = rw e (subst (λ (p : ℕ). get_or (program_at i ws) p unworn ≡ program_more true (get_or ws p unworn)) (eqb-true i q e) (program_same i ws (h refl)))
    by_place false e = rw e (program_other i q ws (λ (s : q ≡ i). eqb-false i q e (sym s)))

-- a tally of the records that are there lies within them
module _ (t : Tally) (n : ℕ) where
  pub clipped_erases : (clipped t n).first + (clipped t n).erases ≤ n
  unfolding clipped
  clipped_erases = omega arith

  pub clipped_at : (clipped t n).programmed ≡ true → (clipped t n).at < n
  unfolding clipped
  clipped_at e = ltb-true t.at n (and_r t.programmed (ltb t.at n) e)

  -- and counts of each of them what the whole tally counts
  same_erases : (q : ℕ) → q < n → from_on (clipped t n).first (clipped t n).erases q ≡ from_on t.first t.erases q
  unfolding clipped
  same_erases q h =
      same_tests _ _
      (λ e. let p = on_from _ _ q e in from_on_lem t.first t.erases q (omega (arith, p.0)) (omega (arith, p.0, p.1)))
      (λ e. let p = on_from _ _ q e in from_on_lem (min t.first n) (min t.erases (n - min t.first n)) q (omega (arith, p.0)) (omega (arith, p.0, p.1)))

  same_program : (q : ℕ) → q < n → ((clipped t n).programmed and eqb (clipped t n).at q) ≡ (t.programmed and eqb t.at q)
  unfolding clipped
  same_program q h =
      same_tests _ _
      (λ e. and_in (and_l _ _ (and_l _ _ e)) (and_r _ _ e))
      (λ e. let here = eqb-true t.at q (and_r _ _ e) in and_in (and_in (and_l _ _ e) (lt-ltb t.at n (omega arith))) (and_r _ _ e))

-- counted one field at a time, it makes what the whole tally makes
module _ (t : Tally) (ws : List Wear) where
  abbrev c : Tally
  c = clipped t (length ws)

  abbrev erased : List Wear
  erased = erased_from c.first c.erases ws

  long : length (program_where c.programmed c.at erased) ≡ length ws
  long = where_length c.programmed c.at erased ∙ erased_length c.first c.erases ws

  by_place : (q : ℕ) → q < length ws → get_or (program_where c.programmed c.at erased) q unworn ≡ worn_by t q (get_or ws q unworn)
  by_place q h =
      program_at_lem c.programmed c.at erased q (λ e. omega (arith, clipped_at t (length ws) e, erased_length c.first c.erases ws))
      ∙ ap (program_more (c.programmed and eqb c.at q)) (erased_at c.first c.erases ws (clipped_erases t (length ws)) q)
      ∙ ap (λ (b : Bool). program_more b (erase_more (from_on c.first c.erases q) (get_or ws q unworn))) (same_program t (length ws) q h)
      ∙ ap (λ (b : Bool). program_more (t.programmed and eqb t.at q) (erase_more b (get_or ws q unworn))) (same_erases t (length ws) q h)

  pub clipped_worn : program_where c.programmed c.at erased ≡ worn t ws
  unfolding worn
  clipped_worn =
      ext_get_or unworn _ _ (long ∙ sym (length_each 0 (worn_by t) ws))
      (λ q h. let h' : q < length ws = omega (arith, long) in by_place q h' ∙ sym (rw zero-add at (get_d_each 0 (worn_by t) ws q unworn h')))
