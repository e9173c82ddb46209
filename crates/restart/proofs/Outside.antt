-- What touches leave that all lie in one unit: the rest of the memory as it was, and where they only set to FFh, what is FFh.
use Prim.Native.Nat.{ℕ, ◌+◌, ◌-◌}
use mathlib.Core.Path.{◌≡◌, refl, sym, ap, ◌∙◌, subst}
use mathlib.Core.Bool.{Bool, true, false, cond, false≢true}
use mathlib.Core.List.{List, [], ◌∷◌}
use native.Mathlib.Omega.{arith}
use lib.Dec.{eqb}
use borrow.Author.Tests.{eqb-true}
use Rattle.types.specs.declared.Memory.{Memory}
use Rattle.types.specs.declared.EraseUnit.{EraseUnit}
use Rattle.words.specs.Logic.{◌and◌}
use Rattle.words.specs.Lists.{every}
use Rattle.words.proofs.Tests.{and_l, and_r, and_in, fails}
use Rattle.paper.specs.Sizes.{same_memory, from_on, page_bytes}
use Rattle.paper.specs.Program.{narrowed_byte}
use Rattle.paper.specs.Erase.{memory_of, unit_bytes, unit_base, erased_byte}
use Rattle.paper.specs.Operations.{Touch, none, blank, narrow}
use Rattle.paper.specs.History.{byte_after, byte_after_all}
use Rattle.paper.proofs.Sizes.{same_is}
use Rattle.paper.proofs.ByPlace.{from_on_lem, on_from}
use Rattle.laws.specs.Writes.{in_unit_of}
use Rattle.restart.specs.Cuts.{within, blanks}

-- a place outside of the unit
module _ (u : EraseUnit) (n a : ℕ) (m : Memory) (at : ℕ) (out : in_unit_of u n a m at ≡ false) where
  -- is not in a page of it, and is none of its places
  page_misses : (w : Memory) (b : ℕ) → in_unit_of u n a w b ≡ true → in_unit_of u n a w (b + (page_bytes - 1)) ≡ true → (same_memory m w and from_on b page_bytes at) ≡ true → ⊥
  page_misses w b first last t =
      let c = unit_base u n a in
      let k = unit_bytes u n in
      let p = on_from c k b (and_r _ _ first) in
      let q = on_from c k (b + (page_bytes - 1)) (and_r _ _ last) in
      let r = on_from b page_bytes at (and_r _ _ t) in
      let same = subst (λ (z : Memory). same_memory z (memory_of u) ≡ true) (sym (same_is m w (and_l _ _ t))) (and_l _ _ first) in
      false≢true (sym out ∙ and_in same (from_on_lem c k at (omega (arith, p, r)) (omega (arith, q, r))))

  place_misses : (w : Memory) (b : ℕ) → in_unit_of u n a w b ≡ true → (same_memory m w and eqb at b) ≡ true → ⊥
  place_misses w b in-it t =
      let e : at ≡ b = eqb-true _ _ (and_r _ _ t) in
      let i = subst (λ (z : Memory). in_unit_of u n a z b ≡ true) (sym (same_is m w (and_l _ _ t))) in-it in
      false≢true (sym out ∙ ap (in_unit_of u n a m) e ∙ i)

  misses : (t : Touch) (x : ℕ) → within u n a t ≡ true → byte_after m at t x ≡ x
  misses none x h = refl
  misses (blank w b) x h =
      ap (λ (t : Bool). cond t erased_byte x) (fails _ (page_misses w b (and_l _ _ h) (and_r _ _ h)))
  misses (narrow w b d) x h = ap (λ (t : Bool). cond t (narrowed_byte x d) x) (fails _ (place_misses w b h))

  -- stays as it was
  pub outside_stays : (ts : List Touch) (x : ℕ) → every (within u n a) ts ≡ true → byte_after_all m at ts x ≡ x
  outside_stays [] x h = refl
  outside_stays (t ∷ ts) x h = ap (byte_after_all m at ts) (misses t x (and_l _ _ h)) ∙ outside_stays ts x (and_r _ _ h)

-- an FFh stays one
blank_again : (m : Memory) (at : ℕ) (t : Touch) → blanks t ≡ true → byte_after m at t erased_byte ≡ erased_byte
blank_again m at none h = refl
blank_again m at (blank w b) h = either_way (same_memory m w and from_on b page_bytes at)
  where
    either_way : (t : Bool) → cond t erased_byte erased_byte ≡ erased_byte
    either_way true = refl
    either_way false = refl
blank_again m at (narrow w b d) h = absurd (false≢true h)

pub blank_stays : (m : Memory) (at : ℕ) (ts : List Touch) → every blanks ts ≡ true → byte_after_all m at ts erased_byte ≡ erased_byte
blank_stays m at [] h = refl
blank_stays m at (t ∷ ts) h =
    ap (byte_after_all m at ts) (blank_again m at t (and_l _ _ h)) ∙ blank_stays m at ts (and_r _ _ h)
