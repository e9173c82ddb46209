-- The laws of a map of blank pages, together.
use Prim.Native.Nat.{ℕ, ◌<◌}
use mathlib.Core.Path.{◌≡◌, refl, sym, ap, subst⁻¹, ◌∙◌}
use mathlib.Core.Bool.{Bool, true, false, cond}
use mathlib.Core.List.{List}
use native.Mathlib.Omega.{arith}
use lib.ListN.{length}
use borrow.Author.Tests.{eqb-true, eq-eqb, ne_eqb}
use Rattle.words.specs.Bits.{bit_in}
use Rattle.words.proofs.Tests.{and_r, unless_zero, or_else_zero}
use Rattle.words.proofs.BitLists.{same_bits}
use Rattle.paper.specs.Sizes.{array_bytes, array_pages}
use Rattle.paper.specs.Numbers.{size_number, rebuild_number}
use Rattle.paper.specs.Reached.{touch_page}
use Rattle.paper.specs.Operations.{Touch}
use Rattle.paper.specs.History.{Call}
use Rattle.paper.specs.Board.{Board, Own, after_calls}
use Rattle.paper.specs.Map.{blank_page, Right, map_of, rebuilt, map_after_calls, map_tick_calls, map_script_calls}
use Rattle.paper.proofs.BlankPages.{page_blank, blank_bytes}
use Rattle.paper.proofs.BlankQuery.{query_page, query_none}
use Rattle.paper.proofs.Reached.{reached_touches, touched_pages, call_pages}
use Rattle.paper.proofs.Map as map
use Rattle.map_laws.specs.MapLaws.{LowFirst, BlankExactly, Rebuild, StandsFor, TicksRight, ScriptRight, Framed, Frame, Fixed, Query, QueryRight, MapLaws}
use Rattle.map_laws.proofs.Stands.{ticks_stand, scripts_stand}

low_first : LowFirst
unfolding bit_in
low_first m q = (λ e. eqb-true _ _ e, λ e. eq-eqb _ _ e)

blank_exactly : BlankExactly
blank_exactly xs q = (blank_bytes xs q, page_blank xs q)

-- not refused, the array has the length of its size
rebuild_length : (n : ℕ) (xs m : List ℕ) → rebuild_number n (length xs) (length m) ≡ 0 → length xs ≡ array_bytes n
unfolding rebuild_number size_number
rebuild_length n xs m e = eqb-true _ _ (and_r _ _ (unless_zero _ 0 (or_else_zero _ _ e).0))

rebuild : Rebuild
unfolding rebuilt
rebuild n xs m = (
  λ e. rw e (map.map_right n xs (rebuild_length n xs m e)),
  λ h. ap (λ (t : Bool). cond t (map_of n xs) m) (ne_eqb _ _ h),
)

-- a call that stands for others leaves a right map right
stands_right : {b c : Board} {m k : List ℕ} (cs : List Call) → StandsFor cs b c m k → Own b → Right m b.array → Right k c.array
stands_right {b} {c} {m} {k} cs s own r =
    subst⁻¹ (λ (y : List ℕ). Right y c.array) s.map (subst⁻¹ (λ (d : Board). Right (map_after_calls cs b m) d.array) s.part (map.calls_right cs b m own r))

ticks_right : TicksRight
ticks_right n b m own r = stands_right (map_tick_calls b.state n (length m)) (ticks_stand n b m own) own r

script_right : ScriptRight
script_right ok s b o n d m own r =
    stands_right (map_script_calls ok s b.state (length o) (length n) (length d) (length m)) (scripts_stand ok s b o n d m own) own r

frame : Frame
frame cs b m own e bytes =
    record {
      size = map.calls_length cs b m;
      bytes = map.calls_bytes cs b m bytes;
      touched = λ q l t. map.calls_frame cs b m own q l (omega arith) ∙ ap (λ (u : Bool). cond u (blank_page (after_calls cs b).array q) (bit_in m q)) t;
      untouched = λ q l t. map.calls_frame cs b m own q l (omega arith) ∙ ap (λ (u : Bool). cond u (blank_page (after_calls cs b).array q) (bit_in m q)) t;
    }

fixed_bit : (n : ℕ) (ts : List Touch) (xs m k l : List ℕ) → Framed n ts xs m k → Framed n ts xs m l → (q : ℕ) → q < array_pages n → (t : Bool) → touch_page ts q ≡ t → bit_in k q ≡ bit_in l q
fixed_bit n ts xs m k l f g q h true e = f.touched q h e ∙ sym (g.touched q h e)
fixed_bit n ts xs m k l f g q h false e = f.untouched q h e ∙ sym (g.untouched q h e)

fixed : Fixed
fixed n ts xs m k l e f g =
    same_bits k l (f.size ∙ sym g.size) f.bytes g.bytes
    (λ q h. fixed_bit n ts xs m k l f g q (omega (arith, f.size)) (touch_page ts q) refl)

query : Query
query n m q = (
  λ r e. let h = query_page n m q r e in record { in-part = h.in-part; from = h.from; passes = h.blank; none_before = h.none_before },
  query_none n m q,
)

-- the bits of a right map are those of the array
right_bit : (n : ℕ) (m xs : List ℕ) → Right m xs → length xs ≡ array_bytes n → (j : ℕ) → j < array_pages n → blank_page xs j ≡ bit_in m j
right_bit n m xs r e j l = sym (r.bits j (omega (arith, r.size)))

query_right : QueryRight
query_right n m xs q right e = (
  λ r f.
      let h = query_page n m q r f in
      record { in-part = h.in-part; from = h.from; passes = right_bit n m xs right e r h.in-part ∙ h.blank; none_before = λ j l k. right_bit n m xs right e j (omega (arith, h.in-part)) ∙ h.none_before j l k },
  λ f j l k. right_bit n m xs right e j k ∙ query_none n m q f j l k,
)

pub laws : MapLaws
laws =
    record {
      low_first = low_first;
      blank_exactly = blank_exactly;
      only = map.right_only;
      rebuild = rebuild;
      ticks_stand = ticks_stand;
      scripts_stand = scripts_stand;
      transaction_right = λ wp i o b m r. r;
      ticks_right = ticks_right;
      script_right = script_right;
      calls_right = map.calls_right;
      frame = frame;
      fixed = fixed;
      query = query;
      query_right = query_right;
      touches = λ n p s. reached_touches p s n;
      tick_pages = λ n p q s. touched_pages p s q n;
      call_pages = λ n p q s. call_pages p s q n;
    }
