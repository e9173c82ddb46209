-- What is said of a run that ended, by what the code finds of it: its first failing step, whether the part is idle, and the first differing address.
use Prim.Native.Nat.{ℕ, ◌<◌, ◌≤◌, min}
use mathlib.Core.Path.{◌≡◌, refl, ap, ◌∙◌}
use mathlib.Core.Bool.{Bool, true, false}
use mathlib.Core.List.{List}
use native.Mathlib.Omega.{arith}
use borrow.Author.Tests.{eqb-true, eqb-false, lt-ltb, le-ltb}
use lib.Dec.{eqb}
use lib.ListN.{length, take}
use Rattle.types.specs.declared.Verdict.{Verdict}
use Rattle.types.specs.declared.Verdict.TheVariants.{Yes, Step, Address}
use Rattle.words.specs.Lists.{first_of, differ_at}
use Rattle.paper.specs.Phases.{is_idle}
use Rattle.paper.specs.Script.{Scripted}
use Rattle.paper.specs.Check.{failing_step, ends_idle, differing_address, verdict_on}
use Rattle.record_bytes.specs.Read.{phase_again}
use Rattle.record_bytes.proofs.Again.{again_phase}
use Rattle.script.specs.declared.Ran.{Ran}
use Rattle.checker.specs.InBytes.{first_failing, left_of, Ended}
use Rattle.checker.proofs.Failing.{first_of_some, failing_is}

-- a run left the bytes bs, the array xs and the answers n; the image is as long as the array
module _ (r : Ran) (bs xs n image : List ℕ) (ended : Ended r bs (length n)) (same : length image ≡ length xs) where
  abbrev left : Scripted
  left = left_of r bs xs n

  abbrev said : Verdict
  said = verdict_on (length n) image left

  made_as : (t : Bool) → eqb r.number 0 ≡ t → r.step ≤ length n
  made_as true e = let s : r.step ≡ length n = ended.whole (eqb-true _ _ e) in omega arith
  made_as false e = let s : r.step < length n = ended.stopped (eqb-false _ _ e) in omega arith

  pub made_le : r.step ≤ length n
  made_le = made_as (eqb r.number 0) refl

  -- the first failing step
  module _ (k m : ℕ) (e : m ≡ r.step) (ek : k ≡ first_failing (take m n)) where
    step_is : k ≡ failing_step (length n) left
    step_is =
        ek
        ∙ ap (λ (j : ℕ). first_failing (take j n)) e
        ∙ first_of_some n r.step made_le
        ∙ failing_is left (length n) ended.whole ended.stopped

    pub said_step : k < length n → Step k ≡ said
    unfolding verdict_on
    said_step l = rw (← step_is, lt-ltb k (length n) l) refl

    -- none
    module _ (l : length n ≤ k) (idle : Bool) (ei : idle ≡ is_idle (phase_again bs)) where
      idle_is : idle ≡ ends_idle left
      idle_is = ei ∙ ap is_idle (again_phase bs ended.ok)

      pub said_busy : idle ≡ false → Step (length n) ≡ said
      unfolding verdict_on
      said_busy f = rw (← step_is, le-ltb k (length n) l, ← idle_is, f) refl

      -- and idle: the first differing address
      module _ (t : idle ≡ true) (a : ℕ) (ea : a ≡ first_of (min (length xs) (length image)) (differ_at xs image)) where
        address_is : a ≡ differing_address xs image
        address_is =
            let m : min (length xs) (length image) ≡ length image = omega arith in
            ea ∙ ap (λ (j : ℕ). first_of j (differ_at xs image)) m

        pub said_address : a < length image → Address a ≡ said
        unfolding verdict_on
        said_address h = rw (← step_is, le-ltb k (length n) l, ← idle_is, t, ← address_is, lt-ltb a (length image) h) refl

        -- none
        pub said_yes : length image ≤ a → Yes ≡ said
        unfolding verdict_on
        said_yes h = rw (← step_is, le-ltb k (length n) l, ← idle_is, t, ← address_is, le-ltb a (length image) h) refl
