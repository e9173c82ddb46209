-- The output of an executed command, by what it drives.
use Prim.Native.Nat.{ℕ, ◌-◌, ◌<◌}
use mathlib.Core.Path.{◌≡◌, refl, ap, subst, ◌∙◌}
use mathlib.Core.Bool.{Bool, true, cond}
use mathlib.Core.List.{List}
use mathlib.Core.Logic.{⊎_elim}
use native.Mathlib.Omega.{arith}
use native.Mathlib.Nat.{eq-zero-or-pos}
use lib.Dec.{leb}
use lib.ListN.{length, length-take, length-drop}
use Rattle.types.specs.declared.Source.{Source}
use Rattle.types.specs.declared.Source.TheVariants.{Void, RowBytes}
use Rattle.types.specs.declared.Addressing.{Addressing}
use Rattle.types.specs.declared.Columns.{Columns}
use Rattle.types.specs.declared.Identity.{Identity}
use Rattle.types.specs.declared.Part.{Part}
use Rattle.words.specs.Logic.{◌and◌}
use Rattle.words.specs.Lists.{up_to, round}
use Rattle.words.proofs.Lists.{up_to_const}
use Rattle.paper.specs.Address.{row_base}
use Rattle.paper.specs.Table.{addressing_on, drives}
use Rattle.paper.specs.Reads.{undriven_byte, undriven, source_bytes, source_start, output_of}
use Rattle.transact.specs.Shown.{shown, HasBytes}

module _ (k : Columns) (id : Identity) (p : Part) (xs rs i : List ℕ) where
  -- how the address is sent
  abbrev form : Addressing
  form = addressing_on k p

  -- the output with what is driven apart
  output_for : Source → Bool → List ℕ
  output_for w t =
      up_to (length i) (λ (j : ℕ). cond (t and leb k.from j) (round (source_bytes w form id p xs rs i) (source_start w form p.blocks i) (j - k.from)) undriven_byte)

  module _ (w : Source) (e : k.source ≡ w) where
    pub driven_output : drives w ≡ true → output_of k id p xs rs i ≡ shown (source_bytes w form id p xs rs i) (source_start w form p.blocks i) k.from (length i)
    unfolding output_of output_for ◌and◌
    driven_output d = ap (λ (x : Source). output_for x (drives x)) e ∙ ap (output_for w) d

    pub some_bytes : drives w ≡ true → HasBytes k id p xs rs i → 0 < length (source_bytes w form id p xs rs i)
    some_bytes d h =
        let n = subst (λ (x : Source). drives x ≡ true → length (source_bytes x form id p xs rs i) ≡ 0 → ⊥) e h d in
        ⊎_elim (λ z. absurd (n z)) (λ l. l) (eq-zero-or-pos (length (source_bytes w form id p xs rs i)))

  pub blank_output : k.source ≡ Void → output_of k id p xs rs i ≡ undriven (length i)
  unfolding output_of output_for ◌and◌
  blank_output e = ap (λ (x : Source). output_for x (drives x)) e ∙ up_to_const (length i) undriven_byte

  pub row_inside : k.source ≡ RowBytes → HasBytes k id p xs rs i → row_base form i < length rs
  row_inside e h = omega (arith, simp (length-take, length-drop) at (some_bytes RowBytes e refl h))
