-- Request 13: there is a right script for every array and image. The flasher's script is one.
use Prim.Native.Nat.{ℕ}
use mathlib.Core.Path.{◌≡◌, refl, sym, ap, ◌∙◌}
use mathlib.Core.Bool.{Bool, true}
use mathlib.Core.List.{List}
use borrow.Author.Tests.{eq-eqb}
use lib.ListN.{length}
use Rattle.types.specs.declared.Record.{Record}
use Rattle.words.specs.Logic.{◌and◌, unless, ◌or_else◌}
use Rattle.words.proofs.Tests.{and_in}
use Rattle.words.specs.Lists.{AreBytes}
use Rattle.paper.specs.Sizes.{size_ok, array_bytes}
use Rattle.paper.specs.Soundness.{sound}
use Rattle.paper.specs.Numbers.{size_number, rows_number, lists_number, output_number, sound_number, later_script_refusal, script_refusal}
use Rattle.paper.specs.Board.{Board}
use Rattle.paper.specs.Script.{Script}
use Rattle.paper.specs.Check.{check_refusal_of}
use Rattle.paper.proofs.Numbers.{ScriptTaken, same_check}
use Rattle.paper.proofs.Soundness.{sound_parts}
use Rattle.laws.specs.Writes.{Rested}
use Rattle.acceptance.specs.Flasher.{Sending, Job, in_twos, jobs_in, right_jobs, flashes}
use Rattle.acceptance.specs.Construction.{jobs_for, sendings_for, script_for, flasher_for}
use Rattle.acceptance.specs.Accepts.{IsMade, Makes}
use Rattle.acceptance.proofs.Plan.{Each, each_so, Sendable, all_sendable, jobs_right}
use Rattle.acceptance.proofs.Sent.{job_sent}
use Rattle.acceptance.proofs.Script.{read_back, same_length, lengths_sum, IsSent, steps_right, steps_jobs, steps_bytes, steps_lengths, steps_ticks}

-- a script whose lists and buffers fit each other and the part is not refused
fits_taken : (b a r : ℕ) (ls : List ℕ) (t n d i o : ℕ) → size_ok b ≡ true → ScriptTaken b true a r ls t n d i o → script_refusal b true a r ls t n d i o ≡ 0
unfolding script_refusal later_script_refusal size_number rows_number lists_number output_number sound_number ◌and◌ unless ◌or_else◌
fits_taken b a r ls t n d i o k h =
    rw (k, eq-eqb _ _ h.size, eq-eqb _ _ h.rows, eq-eqb _ _ h.ticks, eq-eqb _ _ h.answers, eq-eqb _ _ h.done, eq-eqb _ _ h.input, eq-eqb _ _ h.output) refl

module _ (wp : Bool) (p : Record) (xs image : List ℕ) (s : sound p ≡ true) (own : length xs ≡ array_bytes p.part.blocks) (same : length image ≡ length xs) (byte : AreBytes image) where
  abbrev jobs : List Job
  jobs = jobs_for xs image

  abbrev steps : List Sending
  steps = sendings_for p.part.blocks jobs

  abbrev script : Script
  script = script_for wp steps

  all_sent : Each (IsSent p) jobs
  all_sent = each_so (Sendable image) (IsSent p) (job_sent p s image (same ∙ own) byte) jobs (all_sendable xs image)

  -- it passes the test
  script_right : flashes p xs image script ≡ true
  unfolding flashes
  script_right =
      and_in (ap (in_twos p) (read_back wp steps) ∙ steps_right p jobs all_sent)
      (ap (right_jobs xs image) (ap (jobs_in p) (read_back wp steps) ∙ steps_jobs p jobs all_sent) ∙ jobs_right xs image)

  -- and is not refused
  script_unrefused : (b : Board) (o n d : List ℕ) → Rested b → b.array ≡ xs → length o ≡ length script.input → length n ≡ length script.lengths → length d ≡ length script.lengths
      → check_refusal_of true script b o n d image ≡ 0
  script_unrefused b o n d r f ho hn hd =
      same_check b.state.part.blocks true (length image) (length b.array) (length b.rows) script.lengths (length script.ticks) (length n) (length d) (length script.input) (length o) (same ∙ ap (λ (l : List ℕ). length l) (sym f))
      ∙ fits_taken b.state.part.blocks (length b.array) (length b.rows) script.lengths (length script.ticks) (length n) (length d) (length script.input) (length o) (sound_parts b.state r.is_sound).size
      (record { size = r.own_array; rows = r.own_rows; ticks = same_length steps; answers = hn; done = hd; input = lengths_sum steps; output = ho; is_sound = refl })

  flasher_made : IsMade wp p xs image (flasher_for wp p.part.blocks xs image)
  unfolding flasher_for
  flasher_made =
      record {
        level = refl;
        right = script_right;
        input = steps_bytes p jobs all_sent;
        lengths = steps_lengths p jobs all_sent;
        ticks = steps_ticks p jobs all_sent;
        unrefused = script_unrefused;
      }

pub makes : Makes
makes = flasher_made
