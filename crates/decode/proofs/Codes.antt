-- What a code is at an arm's key, and at none of them.
use Rattle.std.specs.Prelude.{None}
use Prim.Native.Nat.{ℕ}
use mathlib.Core.Path.{◌≡◌, refl, sym, subst, ◌∙◌}
use mathlib.Core.List.{List, [], ◌∷◌}
use mathlib.Core.Bool.{Bool, true, false, ◌||◌, ◌&&◌}
use mathlib.Core.Logic.{⊎_elim}
use lib.Dec.{T}
use mir.Facts.{or_yes, and_yes}
use mir.Val.{has_key}
use types.Run.{OneOf, hit}
use borrow.Author.Tests.{ne_eqb}
use Rattle.paper.specs.Sizes.{is_large}
use Rattle.paper.specs.Registers.{extadd}
use Rattle.paper.specs.Table.{Entry, codes, large_codes, far_codes, look_up, decoded}
use Rattle.paper.proofs.Table.{answer, answered}

-- at an arm's key, by the tests for EXTADD and for the large part
pub decoded_at : (n bank c k : ℕ) → c ≡ k → decoded n bank c ≡ answer (extadd bank) (is_large n) k
decoded_at n bank c k e = answered n bank c ∙ rw e

-- at none of the keys of some arms, the last arm's first
abbrev pub NoneOf : List (List ℕ) → ℕ → Type 0
NoneOf [] c = Unit
NoneOf (ks ∷ arms) c = NoneOf arms c × (OneOf ks c → ⊥)

abbrev some_has : List (List ℕ) → ℕ → Bool
some_has [] c = false
some_has (ks ∷ arms) c = has_key ks c || some_has arms c

abbrev all_had : List (List ℕ) → List Entry → Bool
all_had arms [] = true
all_had arms (e ∷ es) = some_has arms e.code && all_had arms es

not_had : (arms : List (List ℕ)) (c : ℕ) → NoneOf arms c → T (some_has arms c) → ⊥
not_had [] c h t = t
not_had (ks ∷ arms) c h t =
    ⊎_elim (λ k. h.1 (hit ks c k)) (λ k. not_had arms c h.0 k) (or_yes (has_key ks c) (some_has arms c) t)

none_had : (arms : List (List ℕ)) (es : List Entry) (c : ℕ) → NoneOf arms c → T (all_had arms es) → look_up es c ≡ None
none_had arms [] c h t = refl
none_had arms (e ∷ es) c h t =
    let s = and_yes (some_has arms e.code) (all_had arms es) t in
    rw (ne_eqb c e.code (λ q. not_had arms e.code (subst (NoneOf arms) q h) s.0), none_had arms es c h s.1)

-- so it is in no list of which each code is a key of some arm
pub at_none : (arms : List (List ℕ)) (n bank c : ℕ) → NoneOf arms c
    → T (all_had arms far_codes) → T (all_had arms codes) → T (all_had arms large_codes) → None ≡ decoded n bank c
at_none arms n bank c h f k l =
    sym (answered n bank c ∙ rw (none_had arms far_codes c h f, none_had arms codes c h k, none_had arms large_codes c h l))
