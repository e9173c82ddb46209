-- A script whose steps may all be sent makes their calls, one step after the other, and nothing stops it.
use Prim.Native.Nat.{ℕ, zero, suc, ◌≤◌, ◌<◌}
use mathlib.Core.Path.{◌≡◌, refl, sym, ap, ◌∙◌}
use mathlib.Core.Bool.{Bool, true}
use mathlib.Core.List.{List, [], ◌∷◌, ◌++◌}
use native.Mathlib.Omega.{arith}
use lib.ListN.{length, get_or}
use lib.Dec.{eqb}
use borrow.Author.Tests.{eqb-true}
use Rattle.words.specs.Logic.{◌and◌, ◌or_else◌}
use Rattle.words.specs.Lists.{every, sum_to}
use Rattle.words.proofs.Tests.{and_l, and_r, and_in}
use Rattle.words.proofs.Lists.{every_last}
use Rattle.words.proofs.Sums.{sum_within}
use Rattle.paper.specs.Numbers.{length_number, ticks_number}
use Rattle.paper.specs.History.{Call, transaction, ticks}
use Rattle.paper.specs.Script.{Script, step_at, step_length, stop_before, calls_before}
use Rattle.history.proofs.ScriptSteps.{between_length}
use Rattle.acceptance.specs.Flasher.{Sending, sending_at, sendings_to, sendings_of}

-- the calls of a step, and of all
abbrev pub calls_of : Bool → Sending → List Call
calls_of wp e = transaction wp e.sent (length e.sent) ∷ ticks e.ticks ∷ []

abbrev pub all_calls : Bool → List Sending → List Call
all_calls wp [] = []
all_calls wp (e ∷ es) = calls_of wp e ++ all_calls wp es

-- neither 3 nor 6 stops a step
abbrev pub may_be_sent : ℕ → Sending → Bool
may_be_sent n e = eqb (length_number (length e.sent)) 0 and eqb (ticks_number n e.ticks) 0

calls_append : (wp : Bool) (es fs : List Sending) → all_calls wp (es ++ fs) ≡ all_calls wp es ++ all_calls wp fs
calls_append wp [] fs = refl
calls_append wp (e ∷ es) fs = ap (λ (cs : List Call). calls_of wp e ++ cs) (calls_append wp es fs)

every_first : (test : Sending → Bool) (es fs : List Sending) → every test (es ++ fs) ≡ true → every test es ≡ true
every_first test [] fs h = refl
every_first test (e ∷ es) fs h = and_in (and_l _ _ h) (every_first test es fs (and_r _ _ h))

-- a script whose lengths add up to its input
module _ (s : Script) (n : ℕ) (sum : sum_to s.lengths (length s.lengths) ≡ length s.input) where
  abbrev steps : ℕ
  steps = length s.lengths

  own_length : (k : ℕ) → k < steps → length (sending_at s k).sent ≡ step_length s k
  own_length k l = between_length (step_at s k) (step_length s k) s.input (omega (arith, sum, sum_within s.lengths steps k l))

  record Sent (k : ℕ) : Type 0 where
    unstopped : stop_before s n k ≡ 0
    calls : calls_before s n k ≡ all_calls s.wp (sendings_to s k)

  sent_next : (k : ℕ) → k < steps → Sent k → may_be_sent n (sending_at s k) ≡ true → Sent (suc k)
  unfolding ◌or_else◌
  sent_next k l before h =
      let el : length_number (step_length s k) ≡ 0 = sym (ap length_number (own_length k l)) ∙ eqb-true _ _ (and_l _ _ h) in
      let et : ticks_number n (get_or s.ticks k 0) ≡ 0 = eqb-true _ _ (and_r _ _ h) in
      record {
        unstopped = rw (before.unstopped, el, et) refl;
        calls = rw (before.unstopped, el, before.calls)
            (ap (λ (j : ℕ). all_calls s.wp (sendings_to s k) ++ (transaction s.wp (sending_at s k).sent j ∷ ticks (sending_at s k).ticks ∷ [])) (sym (own_length k l))
            ∙ sym (calls_append s.wp (sendings_to s k) (sending_at s k ∷ [])));
      }

  all_sent : (k : ℕ) → k ≤ steps → every (may_be_sent n) (sendings_to s k) ≡ true → Sent k
  all_sent zero l h = record { unstopped = refl; calls = refl }
  all_sent (suc k) l h =
      sent_next k l (all_sent k (omega arith) (every_first (may_be_sent n) (sendings_to s k) (sending_at s k ∷ []) h)) (and_l _ _ (every_last (may_be_sent n) (sendings_to s k) (sending_at s k ∷ []) h))

  module _ (h : every (may_be_sent n) (sendings_of s) ≡ true) where
    pub unstopped : stop_before s n steps ≡ 0
    unstopped = (all_sent steps (omega arith) h).unstopped

    pub calls_sent : calls_before s n steps ≡ all_calls s.wp (sendings_of s)
    calls_sent = (all_sent steps (omega arith) h).calls
