-- What a map's calls answer to C is not too large to be packed: a page or the number of pages, and the ticks that did work.
use Prim.Native.Nat.{ℕ, ◌*◌, ◌%◌, ◌^◌, ◌≤◌}
use mathlib.Core.Path.{◌≡◌, refl, sym, ap, ◌∙◌}
use mathlib.Core.Bool.{Bool, true, false, false≢true}
use mathlib.Core.List.{List}
use native.Mathlib.Omega.{arith}
use lib.Dec.{eqb}
use lib.ListN.{length}
use borrow.Author.Tests.{eqb-true}
use Rattle.words.proofs.Tests.{or_else_zero, unless_zero}
use Rattle.paper.specs.Sizes.{size_ok}
use Rattle.paper.specs.Numbers.{query_number}
use Rattle.paper.specs.Board.{board_of}
use Rattle.paper.specs.Map.{Blank, Page, NoPage, Refused, queried, map_tick_number_of, map_ticked}
use Rattle.paper.proofs.Sizes.{size_range, limit_range}
use Rattle.paper.proofs.CallKept.{done_at_most}
use Rattle.paper.proofs.BlankQuery.{query_page}
use Rattle.record_bytes.specs.Read.{Held}
use Rattle.record_bytes.proofs.Back.{on_none, on_held_lem}
use Rattle.mapped.specs.InBytes.{held_map_ticked}
use Rattle.mapped.specs.declared.Kept.{Kept}
use Rattle.mapped.specs.InBytes.{kept_of}
use Rattle.yawlspar.specs.Face.{packed}
use Rattle.yawlspar.proofs.Face.{packs}
use Rattle.yawlspar_map.specs.Face.{blank_answer, map_tick_answer}

abbrev is_refused : Blank → Bool
is_refused (Page r) = false
is_refused NoPage = false
is_refused (Refused x) = true

module _ (n : ℕ) (m : List ℕ) (q : ℕ) where
  -- a query that is not refused is of a size
  known_as : (t : Bool) → eqb (query_number n (length m) q) 0 ≡ t → is_refused (queried n m q) ≡ false → n ≤ 512
  unfolding queried query_number
  known_as true e f = (size_range n (unless_zero (size_ok n) 0 (or_else_zero _ _ (eqb-true _ 0 e)).0)).1
  known_as false e f = absurd (false≢true (sym (rw e at f)))

  known : is_refused (queried n m q) ≡ false → n ≤ 512
  known = known_as (eqb (query_number n (length m) q) 0) refl

  module _ (b : Blank) (eb : b ≡ queried n m q) where
    pub page_answer : (r : ℕ) → b ≡ Page r → packed 0 (r % 2 ^ 56) ≡ blank_answer n (queried n m q)
    page_answer r e =
        let told : queried n m q ≡ Page r = sym eb ∙ e in
        packs 0 r (omega (arith, (query_page n m q r told).in-part, known (ap is_refused told))) ∙ ap (blank_answer n) (sym told)

    pub few_pages : b ≡ NoPage → n ≤ 512
    few_pages e = known (ap is_refused (sym eb ∙ e))

    pub none_answer : b ≡ NoPage → packed 0 (n * 256 % 2 ^ 56) ≡ blank_answer n (queried n m q)
    none_answer e = packs 0 (n * 256) (omega (arith, few_pages e)) ∙ ap (blank_answer n) (sym e ∙ eb)

    pub refused_answer : (k : ℕ) → b ≡ Refused k → k ≡ blank_answer n (queried n m q)
    refused_answer k e = let none : k ≡ packed k 0 = omega arith in none ∙ ap (blank_answer n) (sym e ∙ eb)

-- ticks: no more did work than a call may ask
module _ (h : Held) (xs rs : List ℕ) (n : ℕ) (m : List ℕ) where
  done_as : (t : Bool) → eqb (map_tick_number_of (board_of h.state xs rs) n m) 0 ≡ t → (map_ticked (board_of h.state xs rs) n m).done ≤ 131072
  unfolding map_ticked
  done_as true e =
      rw e (omega (arith, (done_at_most h.state (length xs) (length rs) n).1, (limit_range h.state.part.blocks).1))
  done_as false e = rw e (omega arith)

  few_as : (t : Bool) → h.ok ≡ t → (held_map_ticked h xs rs n m).done ≤ 131072
  unfolding held_map_ticked
  few_as true e =
      rw (on_held_lem h (λ p. map_ticked (board_of p xs rs) n m) _ e) (done_as (eqb (map_tick_number_of (board_of h.state xs rs) n m) 0) refl)
  few_as false e = rw (on_none h (λ p. map_ticked (board_of p xs rs) n m) _ e) (omega arith)

  pub kept_answer : (k : Kept) → k ≡ kept_of (held_map_ticked h xs rs n m) → packed k.number (k.done % 2 ^ 56) ≡ map_tick_answer (held_map_ticked h xs rs n m)
  kept_answer k ek =
      ap (λ (x : Kept). packed x.number (x.done % 2 ^ 56)) ek
      ∙ packs (held_map_ticked h xs rs n m).number (held_map_ticked h xs rs n m).done (few_as h.ok refl)
