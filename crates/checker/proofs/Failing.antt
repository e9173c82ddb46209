-- The first failing step of a run that ended, by the answers of the steps before its last: all were made, or one stopped it.
use Prim.Native.Nat.{ℕ, ◌<◌, ◌≤◌}
use mathlib.Core.Path.{◌≡◌, refl, sym, ap, ◌∙◌}
use mathlib.Core.Bool.{Bool, true, false, not, cond}
use mathlib.Core.List.{List}
use native.Mathlib.Omega.{arith}
use borrow.Author.Tests.{eqb-true, eqb-false, eq-eqb, ne_eqb, ltb-true, ltb-false}
use lib.Dec.{eqb, ltb}
use lib.ListN.{length, take, length-take}
use lib.Seq.{get_or-take}
use Rattle.std.specs.Prelude.{Some, None, position, unwrap_or}
use Rattle.std.proofs.lemmas.List.Sums.{position_or_len_is}
use Rattle.words.specs.Logic.{◌and◌, ◌or◌}
use Rattle.words.specs.Lists.{first_of}
use Rattle.words.proofs.Tests.{and_false, or_false, or_true}
use Rattle.words.proofs.Search.{first_le, first_at, first_before, first_passes, first_same}
use Rattle.paper.specs.Script.{Scripted}
use Rattle.paper.specs.Check.{step_fails, failing_step}
use Rattle.checker.specs.InBytes.{non_zero, first_failing}

-- the first answer that is not 0, or the list's length, as a search over the list finds it
place_or : (k n : ℕ) → k ≤ n → (t : Bool) → ltb k n ≡ t → unwrap_or (cond t (Some k) None) n ≡ k
place_or k n l true e = refl
place_or k n l false e = omega (arith, l, ltb-false k n e)

pub search_is : (n : List ℕ) → unwrap_or (position (λ x. not (eqb x 0)) n) (length n) ≡ first_failing n
search_is n =
    let test = non_zero n in
    let e = position_or_len_is (λ x. not (eqb x 0)) n (first_failing n) 0 (first_le test (length n)) (first_before test (length n)) (first_passes test (length n)) in
    place_or _ _ (omega (arith, e, first_le test (length n))) _ refl ∙ e

-- of the first k answers
pub first_of_some : (n : List ℕ) (k : ℕ) → k ≤ length n → first_failing (take k n) ≡ first_of k (non_zero n)
first_of_some n k h =
    let e : length (take k n) ≡ k = simp length-take (omega arith) in
    rw e (first_same _ _ k (λ j l. rw (get_or-take k n j 0 l) refl))

module _ (w : Scripted) (n : ℕ) where
  abbrev answered : ℕ → Bool
  answered = non_zero w.answers

  -- a run that nothing stopped, and a step other than the one that stopped it
  fails_unstopped : (j : ℕ) → w.number ≡ 0 → step_fails w j ≡ answered j
  unfolding ◌and◌
  fails_unstopped j z = rw z (or_false (answered j))

  fails_elsewhere : (j : ℕ) → (j ≡ w.step → ⊥) → step_fails w j ≡ answered j
  fails_elsewhere j h =
      ap (λ (t : Bool). answered j or (not (eqb w.number 0) and t)) (ne_eqb j w.step h)
      ∙ ap (λ (t : Bool). answered j or t) (and_false (not (eqb w.number 0)))
      ∙ or_false (answered j)

  -- the one that did
  fails_there : (w.number ≡ 0 → ⊥) → step_fails w w.step ≡ true
  unfolding ◌and◌
  fails_there h = rw (ne_eqb w.number 0 h, eq-eqb w.step w.step refl) (or_true (answered w.step))

  failing_whole : w.number ≡ 0 → w.step ≡ n → first_of w.step answered ≡ failing_step n w
  failing_whole z e =
      ap (λ (k : ℕ). first_of k answered) e ∙ first_same _ _ n (λ j l. sym (fails_unstopped j z))

  failing_stopped : (t : Bool) → ltb (first_of w.step answered) w.step ≡ t → (w.number ≡ 0 → ⊥) → w.step < n → first_of w.step answered ≡ failing_step n w
  failing_stopped true e h l =
      let m : first_of w.step answered < w.step = ltb-true _ _ e in
      sym (first_at (step_fails w) n (first_of w.step answered) (omega arith) (fails_elsewhere _ (λ q. omega arith) ∙ first_passes answered w.step m) (λ j i. fails_elsewhere j (λ q. omega arith) ∙ first_before answered w.step j i))
  failing_stopped false e h l =
      let m : first_of w.step answered ≡ w.step = omega (arith, ltb-false (first_of w.step answered) w.step e, first_le answered w.step) in
      m
      ∙ sym (first_at (step_fails w) n w.step l (fails_there h) (λ j i. fails_elsewhere j (λ q. omega arith) ∙ first_before answered w.step j (omega arith)))

  failing_as : (t : Bool) → eqb w.number 0 ≡ t → (w.number ≡ 0 → w.step ≡ n) → ((w.number ≡ 0 → ⊥) → w.step < n) → first_of w.step answered ≡ failing_step n w
  failing_as true e f g = let z = eqb-true _ _ e in failing_whole z (f z)
  failing_as false e f g = let z = eqb-false _ _ e in failing_stopped (ltb (first_of w.step answered) w.step) refl z (g z)

  pub failing_is : (w.number ≡ 0 → w.step ≡ n) → ((w.number ≡ 0 → ⊥) → w.step < n) → first_of w.step answered ≡ failing_step n w
  failing_is = failing_as (eqb w.number 0) refl
