-- Which parts are unprotected: those with a code of 0, and of the other parts than the large one those with a code of 15.
use Prim.Native.Nat.{ℕ, ◌+◌, ◌-◌, ◌*◌, ◌%◌, ◌^◌, ◌≤◌, ◌<◌, min}
use mathlib.Core.Path.{◌≡◌, refl, sym, ap, ◌∙◌}
use mathlib.Core.Bool.{Bool, true, false, cond}
use mathlib.Core.Logic.{◌⊎◌, inl, inr}
use native.Mathlib.Omega.{arith}
use lib.Dec.{eqb, leb}
use lib.Pow.{pow_mono}
use borrow.Author.Tests.{eqb-true, eqb-false, eq-eqb, ne_eqb, lt-leb}
use Rattle.types.specs.declared.Blocks.{Blocks}
use Rattle.types.specs.declared.Record.{Record}
use Rattle.words.specs.Logic.{◌or◌}
use Rattle.paper.specs.Sizes.{is_large}
use Rattle.paper.specs.Registers.{TBS}
use Rattle.paper.specs.Protection.{code_of, whole_code, blocks_asked, rule_blocks, large_asked, large_blocks, protected_blocks}
use Rattle.paper.specs.Soundness.{sound}
use Rattle.paper.proofs.Sizes.{size_range}
use Rattle.paper.proofs.Protected.{table_is_rule, large_asks, none_counted, fifteen_counted}
use Rattle.paper.proofs.Soundness.{sound_parts, without_large}
use Rattle.acceptance.specs.Accepts.{UnprotectedCodes}

-- any other code asks for some blocks, by the rule of the smaller parts too
asks_as : (c : ℕ) (t : Bool) → 1 ≤ cond t (2 ^ (c - 1)) (2 ^ (14 - c))
asks_as c true = pow_mono {i = 0} {j = c - 1} (omega arith)
asks_as c false = pow_mono {i = 0} {j = 14 - c} (omega arith)

rule_asks : (c : ℕ) → (c ≡ 0 → ⊥) → c < 15 → 1 ≤ blocks_asked c
unfolding blocks_asked ◌or◌
rule_asks c h l = rw (ne_eqb c 0 h, lt-leb 15 c l) (asks_as c (leb c 7))

module _ (p : Record) (s : sound p ≡ true) where
  abbrev code : ℕ
  code = code_of p.part.stored.status

  abbrev blocks : ℕ
  blocks = p.part.blocks

  abbrev top : ℕ
  top = TBS p.part.stored.function

  abbrev counted : ℕ
  counted = (protected_blocks (whole_code p.part.stored) blocks).count

  -- other parts than the large one have no top or bottom bit
  no_top : is_large blocks ≡ false → top ≡ 0
  no_top e = (without_large p s e).0

  few_codes : (t : Bool) → is_large blocks ≡ t → code + 16 * top ≤ cond t 31 15
  few_codes true e = omega arith
  few_codes false e = omega (arith, no_top e)

  counted_as : (t : Bool) → is_large blocks ≡ t → counted ≡ (cond t (large_blocks ((code + 16 * top) % 16) (leb 16 (code + 16 * top)) blocks) (rule_blocks (code + 16 * top) blocks)).count
  counted_as t e =
      ap (λ (b : Blocks). b.count) (table_is_rule (whole_code p.part.stored) blocks (sound_parts p s).size (few_codes (is_large blocks) refl))
      ∙ ap (λ (u : Bool). (cond u (large_blocks ((code + 16 * top) % 16) (leb 16 (code + 16 * top)) blocks) (rule_blocks (code + 16 * top) blocks)).count) e

  abbrev Free : Type 0
  Free = (code ≡ 0) ⊎ ((code ≡ 15) × (is_large blocks ≡ false))

  large_free : is_large blocks ≡ true → counted ≡ 0 → (t : Bool) → eqb code 0 ≡ t → Free
  unfolding large_blocks
  large_free l e true z = inl (eqb-true _ _ z)
  large_free l e false z =
      let some : 1 ≤ large_asked code = large_asks code (eqb-false _ _ z) in
      let n = size_range blocks (sound_parts p s).size in
      let same : (code + 16 * top) % 16 ≡ code = omega arith in
      let c : min blocks (large_asked ((code + 16 * top) % 16)) ≡ 0 = sym (counted_as true l) ∙ e in
      let d : min blocks (large_asked code) ≡ 0 = rw (← same) c in
      absurd (omega (arith, n.0))

  rule_free : is_large blocks ≡ false → counted ≡ 0 → (t u : Bool) → eqb code 0 ≡ t → eqb code 15 ≡ u → Free
  unfolding rule_blocks
  rule_free l e true u z f = inl (eqb-true _ _ z)
  rule_free l e false true z f = inr (eqb-true _ _ f, l)
  rule_free l e false false z f =
      let other : code ≡ 15 → ⊥ = eqb-false _ _ f in
      let few : code < 15 = omega arith in
      let some : 1 ≤ blocks_asked code = rule_asks code (eqb-false _ _ z) few in
      let n = size_range blocks (sound_parts p s).size in
      let same : code + 16 * top ≡ code = omega (arith, no_top l) in
      let c : min blocks (blocks_asked (code + 16 * top)) ≡ 0 = sym (counted_as false l) ∙ e in
      let d : min blocks (blocks_asked code) ≡ 0 = rw (← same) c in
      absurd (omega (arith, n.0))

  free_as : (t : Bool) → is_large blocks ≡ t → counted ≡ 0 → Free
  free_as true l e = large_free l e (eqb code 0) refl
  free_as false l e = rule_free l e (eqb code 0) (eqb code 15) refl refl

  freed : Free → counted ≡ 0
  freed (inl e) = none_counted blocks p.part.stored e
  freed (inr (e, l)) =
      let z : whole_code p.part.stored ≡ 15 = omega (arith, e, no_top l) in
      ap (λ (c : ℕ). (protected_blocks c blocks).count) z ∙ fifteen_counted blocks l

pub unprotected_codes : UnprotectedCodes
unprotected_codes p s = (λ e. free_as p s (is_large p.part.blocks) refl (eqb-true _ _ e), λ f. eq-eqb _ 0 (freed p s f))
