-- What a contract allows. A contract is a relation of a call's lifetimes and arguments, its result, and what its parameters are at exit;
-- a crate's proofs have it under the function's name, as `Reads.Learnt`, made from what the source ensures.
use mathlib.Core.Path.{◌≡◌, sym, ◌∙◌}

module _ {K : Type 0} {A X S : K → Type 0} (Allowed : (κ : K) → A κ → X κ → S κ → Type 0) where
  -- each call has one result
  abbrev pub OneResult : Type 0
  OneResult = (κ : K) (a : A κ) (x y : X κ) (s t : S κ) → Allowed κ a x s → Allowed κ a y t → x ≡ y

  -- each call leaves one value of what was lent to it
  abbrev pub OneExit : {B : Type 0} → ((κ : K) → S κ → B) → Type 0
  OneExit lent = (κ : K) (a : A κ) (x y : X κ) (s t : S κ) → Allowed κ a x s → Allowed κ a y t → lent κ s ≡ lent κ t

  -- what follows of every call
  abbrev pub Follows : ((κ : K) → A κ → X κ → S κ → Type 0) → Type 0
  Follows what = (κ : K) (a : A κ) (x : X κ) (s : S κ) → Allowed κ a x s → what κ a x s

-- two things that are what one definition says
pub agree : {A : Type 0} {d x y : A} → x ≡ d → y ≡ d → x ≡ y
agree p q = p ∙ sym q
