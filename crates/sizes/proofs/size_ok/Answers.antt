-- `sizes::size_ok` meets its contract: at each of the five numbers the definition computes, and any other is none of them.
use Prim.Native.Nat.{ℕ}
use mathlib.Core.Path.{◌≡◌, refl, sym, ap, ◌∙◌}
use mathlib.Core.Bool.{true}
use mathlib.Core.Logic.{⊎_elim, inl, inr}
use borrow.Author.Tests.{ne_eqb}
use Rattle.words.specs.Logic.{◌or◌}
use Rattle.paper.specs.Sizes.{size_ok}
use Rattle.sizes.proofs.size_ok.Goals as goal

-- a number that is one of the five
listed : (n m : ℕ) → size_ok m ≡ true → n ≡ m → true ≡ size_ok n
listed n m e q = sym (ap size_ok q ∙ e)

pub returns-in-1 : goal.returns-in-1
unfolding size_ok ◌or◌
returns-in-1 c =
    ⊎_elim (listed _ 1 refl)
    (⊎_elim (listed _ 4 refl) (⊎_elim (listed _ 8 refl) (⊎_elim (listed _ 16 refl) (listed _ 512 refl))))
    c.in-1.is

pub returns-in_default : goal.returns-in_default
unfolding size_ok ◌or◌
returns-in_default c =
    let r = c.in_default.in_default-own.rest.1 in
    rw (ne_eqb _ 1 (λ e. r (inl e)), ne_eqb _ 4 (λ e. r (inr (inl e))), ne_eqb _ 8 (λ e. r (inr (inr (inl e)))), ne_eqb _ 16 (λ e. r (inr (inr (inr (inl e))))), ne_eqb _ 512 (λ e. r (inr (inr (inr (inr e))))))
