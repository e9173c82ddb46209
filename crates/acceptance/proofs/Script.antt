-- Scripts of steps: the steps can be read off them again, and what is sent for jobs makes a script of them.
use Prim.Native.Nat.{ℕ, zero, suc, ◌^◌, ◌<◌}
use mathlib.Core.Path.{◌≡◌, refl, sym, ap, ◌∙◌}
use mathlib.Core.Bool.{Bool, true}
use mathlib.Core.List.{List, [], ◌∷◌, ◌++◌}
use native.Mathlib.Omega.{arith}
use borrow.Author.Tests.{le-leb}
use lib.ListN.{length, get_or, take, drop, length-append}
use lib.Seq.{drop-drop, take-append_seam, drop-append_seam}
use Rattle.types.specs.declared.Record.{Record}
use Rattle.words.specs.Lists.{sum_to, between, AreBytes}
use Rattle.words.proofs.Tests.{and_in}
use Rattle.words.proofs.Sums.{sum_cons}
use Rattle.paper.specs.Sizes.{tick_limit}
use Rattle.paper.specs.Script.{Script}
use Rattle.acceptance.specs.Flasher.{Sending, Job, sending_at, sendings_to, sendings_of, in_twos, jobs_in}
use Rattle.acceptance.specs.Construction.{sent_for, ticks_for, sendings_for, input_of, lengths_of, ticks_of, script_for}
use Rattle.acceptance.proofs.Plan.{Each}
use Rattle.acceptance.proofs.Sent.{bytes_both, bytes_one, Sent}

-- a script with one step more in front
module _ (wp : Bool) (l t : ℕ) (ls ts i : List ℕ) where
  abbrev whole : Script
  whole = record { wp = wp; input = i; lengths = l ∷ ls; ticks = t ∷ ts }

  abbrev later : Script
  later = record { wp = wp; input = drop l i; lengths = ls; ticks = ts }

  sending_later : (k : ℕ) → sending_at whole (suc k) ≡ sending_at later k
  sending_later k =
      ap (λ (at : ℕ). record { sent = between at (get_or ls k 0) i; ticks = get_or ts k 0 }) (sum_cons l ls k)
      ∙ ap (λ (xs : List ℕ). record { sent = take (get_or ls k 0) xs; ticks = get_or ts k 0 }) (sym (drop-drop (sum_to ls k) l i))

  sendings_later : (k : ℕ) → sendings_to whole (suc k) ≡ sending_at whole 0 ∷ sendings_to later k
  sendings_later zero = refl
  sendings_later (suc k) = rw (sendings_later k, sending_later k) refl

-- the steps of a script of steps
pub read_back : (wp : Bool) (es : List Sending) → sendings_of (script_for wp es) ≡ es
read_back wp [] = refl
read_back wp (e ∷ es) =
    sendings_later wp (length e.sent) e.ticks (lengths_of es) (ticks_of es) (e.sent ++ input_of es) (length (lengths_of es))
    ∙ rw (take-append_seam, drop-append_seam, read_back wp es)

-- its lists are as long as each other
pub same_length : (es : List Sending) → length (ticks_of es) ≡ length (lengths_of es)
same_length [] = refl
same_length (e ∷ es) = ap suc (same_length es)

-- its lengths add up to its input
pub lengths_sum : (es : List Sending) → sum_to (lengths_of es) (length (lengths_of es)) ≡ length (input_of es)
lengths_sum [] = refl
lengths_sum (e ∷ es) =
    sum_cons (length e.sent) (lengths_of es) (length (lengths_of es)) ∙ rw (lengths_sum es) (sym (length-append e.sent (input_of es)))

-- the steps for jobs, for each of which a right step is sent
module _ (p : Record) where
  abbrev pub IsSent : Job → Type 0
  IsSent j = Sent p j (record { sent = sent_for p.part.blocks j; ticks = ticks_for j })

  abbrev steps : List Job → List Sending
  steps js = sendings_for p.part.blocks js

  -- they come in twos, and are for the jobs
  pub steps_right : (js : List Job) → Each IsSent js → in_twos p (steps js) ≡ true
  steps_right [] h = refl
  steps_right (j ∷ js) h =
      and_in (and_in refl (and_in refl (le-leb 0 (tick_limit p.part.blocks) (omega arith))))
      (and_in h.0.right (steps_right js h.1))

  pub steps_jobs : (js : List Job) → Each IsSent js → jobs_in p (steps js) ≡ js
  steps_jobs [] h = refl
  steps_jobs (j ∷ js) h = rw (h.0.job, steps_jobs js h.1)

  -- they send bytes; their lengths and tick counts are 16-bit numbers
  pub steps_bytes : (js : List Job) → Each IsSent js → AreBytes (input_of (steps js))
  steps_bytes [] h k = omega arith
  steps_bytes (j ∷ js) h k =
      bytes_both (0x06 ∷ []) (sent_for p.part.blocks j ++ input_of (steps js)) (bytes_one 0x06 (omega arith))
      (bytes_both (sent_for p.part.blocks j) (input_of (steps js)) h.0.bytes (steps_bytes js h.1)) k

  pub steps_lengths : (js : List Job) → Each IsSent js → (k : ℕ) → get_or (lengths_of (steps js)) k 0 < 2 ^ 16
  steps_lengths [] h k = omega arith
  steps_lengths (j ∷ js) h zero = omega arith
  steps_lengths (j ∷ js) h (suc zero) = h.0.few
  steps_lengths (j ∷ js) h (suc (suc k)) = steps_lengths js h.1 k

  pub steps_ticks : (js : List Job) → Each IsSent js → (k : ℕ) → get_or (ticks_of (steps js)) k 0 < 2 ^ 16
  steps_ticks [] h k = omega arith
  steps_ticks (j ∷ js) h zero = omega arith
  steps_ticks (j ∷ js) h (suc zero) = h.0.ticks_few
  steps_ticks (j ∷ js) h (suc (suc k)) = steps_ticks js h.1 k
