-- The script of a right flasher is accepted; and all laws of acceptance, proved.
use Prim.Native.Nat.{ℕ, zero, suc, ◌+◌, ◌*◌, ◌<◌}
use mathlib.Core.Path.{◌≡◌, refl, sym, ap, ◌∙◌}
use mathlib.Core.Bool.{true}
use mathlib.Core.List.{List, [], ◌∷◌}
use native.Mathlib.Omega.{arith}
use lib.ListN.{length, get_or, take}
use lib.Seq.{ext_get_or, get_or-take}
use borrow.Author.Tests.{eqb-true}
use Rattle.words.specs.Logic.{when_zero}
use Rattle.words.specs.Lists.{every, AreBytes}
use Rattle.words.proofs.Tests.{and_l, and_r}
use Rattle.paper.specs.History.{Call}
use Rattle.paper.specs.Board.{Board, after_calls}
use Rattle.paper.specs.Script.{Script, Scripted, after_steps, unstepped, calls_before}
use Rattle.paper.specs.Check.{check_refusal_of, Checked}
use Rattle.history.specs.ScriptLaws.{answers_in, steps_made, course_from}
use Rattle.laws.specs.Writes.{Rested}
use Rattle.acceptance.specs.Flasher.{unprotected, sendings_of, in_twos, jobs_in, sector_bytes, right_jobs, flashes}
use Rattle.acceptance.specs.Accepts.{RunsRight, Accepts, Acceptance}
use Rattle.acceptance.proofs.Bytes.{wanted_left}
use Rattle.acceptance.proofs.Steps.{may_be_sent, all_calls, unstopped, calls_sent}
use Rattle.acceptance.proofs.Writes.{all_aligned, all_may}
use Rattle.acceptance.proofs.Accepted.{is_zero, AllDone, twos_done}
use Rattle.acceptance.proofs.YesExactly.{right_yes, Taken, check_told, yes_exactly}
use Rattle.acceptance.proofs.Unprotected.{unprotected_codes}
use Rattle.acceptance.proofs.Made.{makes}

zero_at : (ks : List ℕ) (j : ℕ) → every is_zero ks ≡ true → get_or ks j 0 ≡ 0
zero_at [] j h = refl
zero_at (k ∷ ks) zero h = eqb-true _ _ (and_l _ _ h)
zero_at (k ∷ ks) (suc j) h = zero_at ks j (and_r _ _ h)

module _ (s : Script) (b : Board) (o n d image : List ℕ) (r : Rested b) (open_part : unprotected b.state ≡ true) (bytes : AreBytes image) (e : check_refusal_of true s b o n d image ≡ 0) (right : flashes b.state b.array image s ≡ true) where
  abbrev steps : ℕ
  steps = length s.lengths

  abbrev run : Scripted
  run = after_steps s steps (unstepped 0 b o n d)

  abbrev taken : Taken s b o n d image
  taken = check_told s b o n d image r.is_sound e

  in-twos : in_twos b.state (sendings_of s) ≡ true
  unfolding flashes
  in-twos = and_l _ _ right

  right_jobs_lem : right_jobs b.array image (jobs_in b.state (sendings_of s)) ≡ true
  unfolding flashes
  right_jobs_lem = and_r _ _ right

  -- its calls, and what they leave
  may : every (may_be_sent b.state.part.blocks) (sendings_of s) ≡ true
  may = all_may b.state open_part (sendings_of s) in-twos

  calls_are : calls_before s b.state.part.blocks steps ≡ all_calls s.wp (sendings_of s)
  calls_are = calls_sent s b.state.part.blocks taken.lists.input may

  done : AllDone b.state s.wp (sendings_of s) b (after_calls (all_calls s.wp (sendings_of s)) b)
  done = twos_done b.state open_part s.wp (sendings_of s) in-twos b r refl

  board_is : run.board ≡ after_calls (all_calls s.wp (sendings_of s)) b
  board_is = taken.told.board ∙ ap (λ (cs : List Call). after_calls cs b) calls_are

  number_is : run.number ≡ 0
  number_is = taken.told.number_is ∙ unstopped s b.state.part.blocks taken.lists.input may

  made_all : steps_made run ≡ steps
  made_all = ap (λ (k : ℕ). when_zero k run.step (run.step + 1)) number_is ∙ (taken.told.whole number_is).0

  answer_zero : (k : ℕ) → k < steps → get_or run.answers k 0 ≡ 0
  answer_zero k l =
      sym (get_or-take steps run.answers k 0 l)
      ∙ ap (λ (m : ℕ). get_or (take m run.answers) k 0) (sym made_all)
      ∙ ap (λ (ks : List ℕ). get_or ks k 0) taken.told.answers
      ∙ ap (λ (cs : List Call). get_or (answers_in (course_from b cs)) k 0) calls_are
      ∙ zero_at (answers_in (course_from b (all_calls s.wp (sendings_of s)))) k done.zeros

  -- the image is whole sectors
  sectors : length image ≡ b.state.part.blocks * 16 * sector_bytes
  sectors = taken.same_length ∙ taken.lists.size ∙ omega arith

  left_is : (after_calls (all_calls s.wp (sendings_of s)) b).array ≡ image
  left_is =
      let z = done.array_length ∙ sym taken.same_length in
      ext_get_or 0 (after_calls (all_calls s.wp (sendings_of s)) b).array image z
      (λ a l.
      let m : a < length image = omega (arith, z, l) in
      done.bytes a (omega (arith, taken.same_length, m))
      ∙ wanted_left image a b.array (bytes a) (jobs_in b.state (sendings_of s)) (b.state.part.blocks * 16) sectors m (all_aligned b.state open_part (sendings_of s) in-twos) right_jobs_lem)

  runs_right : RunsRight steps image run
  runs_right =
      record {
        unstopped = number_is;
        answers = answer_zero;
        idle = ap (λ (c : Board). c.state.phase) board_is ∙ done.rested.idle;
        array = ap (λ (c : Board). c.array) board_is ∙ left_is;
      }

pub accepts : Accepts
accepts s b o n d image r open_part bytes e right =
    ap (λ (c : Checked). c.verdict) (taken s b o n d image r open_part bytes e right).is
    ∙ right_yes (length s.lengths) image (after_steps s (length s.lengths) (unstepped 0 b o n d)) (runs_right s b o n d image r open_part bytes e right)

pub acceptance : Acceptance
acceptance = record { yes_exactly = yes_exactly; unprotected_codes = unprotected_codes; accepts = accepts; makes = makes }
