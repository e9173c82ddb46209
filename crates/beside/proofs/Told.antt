-- 1, or the number of what is lent beside the memory, as they are told apart: it fits, no record is held, or a record whose size is judged.
use Prim.Native.Nat.{ℕ}
use mathlib.Core.Path.{◌≡◌, refl, sym, ap, ◌∙◌}
use mathlib.Core.Bool.{Bool, true, false}
use mathlib.Core.List.{List}
use lib.Dec.{eqb}
use borrow.Author.Tests.{eqb-true}
use Rattle.words.specs.Logic.{unless, ◌or_else◌}
use Rattle.words.proofs.Tests.{or_else_zero}
use Rattle.paper.specs.Numbers.{size_number}
use Rattle.paper.specs.Board.{board_of}
use Rattle.record_bytes.specs.declared.Found.{Found}
use Rattle.record_bytes.specs.Layout.{record_bytes}
use Rattle.record_bytes.specs.Read.{Held, record_in, found_of}
use Rattle.record_bytes.proofs.Back.{held_bytes, on_none, on_held_lem}
use Rattle.beside.specs.Beside.{beside_refusal, board_bytes}

module _ (h : Held) (fits : Bool) (a number : ℕ) where
  abbrev early : ℕ
  early = size_number h.state.part.blocks a or_else number

  pub it_fits : fits ≡ true → 0 ≡ beside_refusal h fits a number
  unfolding beside_refusal
  it_fits f = rw f refl

  pub unheld : fits ≡ false → h.ok ≡ false → 0 ≡ beside_refusal h fits a number
  unfolding beside_refusal
  unheld f e = rw f (sym (on_none h (λ p. size_number p.part.blocks a or_else number) 0 e))

  held_so : fits ≡ false → h.ok ≡ true → beside_refusal h fits a number ≡ early
  unfolding beside_refusal
  held_so f e = rw f (on_held_lem h (λ p. size_number p.part.blocks a or_else number) 0 e)

  -- refused: a record is held, and what is lent doesn't fit
  module _ (k : ℕ) (ek : k ≡ beside_refusal h fits a number) where
    told_as_lem : (t u : Bool) → fits ≡ t → h.ok ≡ u → (k ≡ 0 → ⊥) → (fits ≡ false) × (h.ok ≡ true) × (k ≡ early)
    told_as_lem true u f o stop = absurd (stop (ek ∙ sym (it_fits f)))
    told_as_lem false true f o stop = (f, o, ek ∙ held_so f o)
    told_as_lem false false f o stop = absurd (stop (ek ∙ sym (unheld f o)))

    pub refused_told : (k ≡ 0 → ⊥) → (fits ≡ false) × (h.ok ≡ true) × (k ≡ early)
    refused_told = told_as_lem fits h.ok refl refl

    -- not refused: it fits, if a record is held
    fits_as : (t : Bool) → fits ≡ t → k ≡ 0 → (number ≡ 0 → ⊥) → h.ok ≡ true → fits ≡ true
    fits_as true f z some o = f
    fits_as false f z some o =
        absurd (some (or_else_zero (size_number h.state.part.blocks a) number (sym (ek ∙ held_so f o) ∙ z)).1)

    pub passed_fits : k ≡ 0 → (number ≡ 0 → ⊥) → h.ok ≡ true → fits ≡ true
    passed_fits = fits_as fits refl

-- a record that was found in the bytes
pub found_so : (bs : List ℕ) (fits : Bool) (a number : ℕ) → fits ≡ false → (x : Found) → x ≡ found_of (record_in bs).state → (record_in bs).ok ≡ true → (k : ℕ) → k ≡ (size_number x.part.blocks a or_else number) → k ≡ beside_refusal (record_in bs) fits a number
found_so bs fits a number f x ex e k ek =
    ek ∙ ap (λ (g : Found). size_number g.part.blocks a or_else number) ex ∙ sym (held_so (record_in bs) fits a number f e)

-- 1 or what comes after it, as a test joins them
joined_as : (s number : ℕ) (t : Bool) → eqb s 0 ≡ t → (unless (eqb s 0) s or_else number) ≡ (s or_else number)
unfolding unless ◌or_else◌
joined_as s number true e =
    let z : s ≡ 0 = eqb-true s 0 e in
    rw (e, z) refl
joined_as s number false e = rw e refl

pub joined : (n k s number : ℕ) → s ≡ n → k ≡ (unless (eqb s 0) s or_else number) → k ≡ (n or_else number)
joined n k s number es ek = ek ∙ joined_as s number (eqb s 0) refl ∙ ap (λ (m : ℕ). m or_else number) es

-- the bytes of a part that is as it was
pub same_bytes : (bs xs rs : List ℕ) → bs ≡ board_bytes (record_in bs) (board_of (record_in bs).state xs rs) bs
same_bytes bs xs rs = bytes_as (record_in bs).ok refl
  where
    bytes_as : (t : Bool) → (record_in bs).ok ≡ t → bs ≡ board_bytes (record_in bs) (board_of (record_in bs).state xs rs) bs
    bytes_as true e = sym (on_held_lem (record_in bs) (λ p. record_bytes (record_in bs).state) bs e ∙ held_bytes bs e)
    bytes_as false e = sym (on_none (record_in bs) (λ p. record_bytes (record_in bs).state) bs e)
