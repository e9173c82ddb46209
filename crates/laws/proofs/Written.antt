-- A whole write on a board: what its calls leave of the record, of the array and of the rows. The part is at rest then, and other writes can follow.
use Prim.Native.Nat.{ℕ}
use mathlib.Core.Path.{◌≡◌, refl, sym, ap, ◌∙◌, subst⁻¹}
use mathlib.Core.Bool.{true, false}
use mathlib.Core.List.{[], ◌∷◌}
use native.Mathlib.Omega.{arith}
use borrow.Author.Tests.{le-leb}
use lib.ListN.{length, get_or}
use Rattle.types.specs.declared.Memory.{Memory}
use Rattle.types.specs.declared.Phase.TheVariants.{Idle}
use Rattle.types.specs.declared.Record.{Record}
use Rattle.types.specs.declared.Answer.{Answer}
use Rattle.words.proofs.Tests.{and_in}
use Rattle.paper.specs.Sizes.{array_bytes, rows_bytes, tick_limit}
use Rattle.paper.specs.Program.{no_data}
use Rattle.paper.specs.Operations.{ticks_in_all}
use Rattle.paper.specs.History.{record_after_calls, history, byte_after_all}
use Rattle.paper.specs.Board.{Board, answer_to, after_calls}
use Rattle.paper.specs.Calls.{transacted}
use Rattle.paper.proofs.Soundness.{sound_parts, running_in_order}
use Rattle.paper.proofs.RunToEnd.{ticks_few}
use Rattle.history.proofs.Told.{Told}
use Rattle.history.proofs.Joined.{run_exists}
use Rattle.laws.specs.Waiting.{all_wait}
use Rattle.laws.specs.Writes.{Kind, Write, opening, steps, begun_by, Fitting, Whole, Rested, Makes, at_rest, byte_written, memory_in, Done}
use Rattle.laws.specs.DriverLaws.{PlainlyWhole}
use Rattle.laws.proofs.Commanded.{standing_again, started, commanded, started_sound, rested, rested_bytes, enabled, enables, enabled_sound, opened, fits_standing}
use Rattle.laws.proofs.Boards.{rested_own, made_told, told_length, told_bytes}
use Rattle.laws.proofs.Begun.{ready_sound, ready_fits, start_is, steps_record, steps_bytes}
use Rattle.laws.proofs.Leaves.{kind_leaves}

-- what is a whole write on a part is one on the part at rest
whole_at_rest : (p : Record) (d : Kind) (w : Write) → Whole p d w → Whole (at_rest p) d w
whole_at_rest p d w h =
    record { begun = record { fitting = fits_standing p Idle false no_data d w.input h.begun.fitting; checks_wait = h.begun.checks_wait }; wait_waits = h.wait_waits; enough = h.enough }

-- a write of one tick call is whole, where its input fits
pub plainly_whole : PlainlyWhole
plainly_whole p d first second i s idle awake f =
    let q = enabled p in
    let o = begun_by p d i in
    let n = p.part.blocks in
    let begins = started_sound q (enabled_sound p s idle awake) refl awake refl d i (fits_standing p Idle true p.page d i f) in
    let few = ticks_few o n (started q d i).part.stored (sound_parts p s).size (running_in_order (started q d i) o refl begins) in
    record { begun = record { fitting = f; checks_wait = refl }; wait_waits = and_in refl refl; enough = rw (le-leb (ticks_in_all o n) (tick_limit n) few) (omega arith) }

-- 06h and checks: the record after them, and what the command answers
module _ (b : Board) (r : Rested b) (w : Write) (h : all_wait b.state.part.blocks b.state.part.bank w.checks ≡ true) where
  open_record : record_after_calls (opening w) b.state ≡ enabled b.state
  open_record = opened b.state r.is_sound r.idle r.awake w.enabled_at w.checks h

  pub opened_number : (answer_to (after_calls (opening w) b) w.sent_at w.input (length w.input)).number ≡ (transacted (enabled b.state) (array_bytes b.state.part.blocks) rows_bytes w.sent_at w.input (length w.input)).number
  opened_number =
      let c = after_calls (opening w) b in
      let t = made_told (rested_own b r) (run_exists (opening w) b) in
      let answer : Record → ℕ → ℕ → ℕ = λ s a m. (transacted s a m w.sent_at w.input (length w.input)).number in
      ap (λ (s : Record). answer s (length c.array) (length c.rows)) (t.next ∙ open_record)
      ∙ ap (λ (a : ℕ). answer (enabled b.state) a (length c.rows)) (t.array_length ∙ r.own_array)
      ∙ ap (answer (enabled b.state) (array_bytes b.state.part.blocks)) (t.rows_length ∙ r.own_rows)

module _ (b : Board) (r : Rested b) (d : Kind) (w : Write) (h : Whole b.state d w) where
  abbrev before : Record
  before = b.state

  -- with WEL 1
  abbrev ready : Record
  ready = enabled before

  enabled_fits : Fitting ready d w.input
  enabled_fits = ready_fits b r d w h.begun

  write_record : record_after_calls (steps w) before ≡ at_rest before
  write_record =
      steps_record b r d w h.begun
      ∙ ap (record_after_calls w.wait) (start_is b r d w h.begun)
      ∙ rested ready (ready_sound b r d w h.begun) refl r.awake refl d w.input enabled_fits w.wait h.wait_waits h.enough
      ∙ standing_again before Idle true before.page Idle false no_data

  write_bytes : (m : Memory) (at x : ℕ) → byte_after_all m at (history (steps w) before) x ≡ byte_written before d w.input m at x
  write_bytes m at x =
      steps_bytes b r d w h.begun m at x
      ∙ ap (λ (q : Record). byte_after_all m at (history w.wait q) x) (start_is b r d w h.begun)
      ∙ rested_bytes ready (ready_sound b r d w h.begun) refl r.awake refl d w.input enabled_fits w.wait h.wait_waits h.enough m at x
      ∙ kind_leaves m at x before d w.input before.page

  -- 06h and the command answer 0
  enable_zero : (answer_to b w.enabled_at (0x06 ∷ []) 1).number ≡ 0
  enable_zero =
      rw (r.own_array, r.own_rows) (ap (λ (a : Answer). a.number) (enables before r.is_sound r.idle r.awake w.enabled_at))

  command_zero : (answer_to (after_calls (opening w) b) w.sent_at w.input (length w.input)).number ≡ 0
  command_zero =
      opened_number b r w h.begun.checks_wait
      ∙ ap (λ (a : Answer). a.number) (commanded ready (ready_sound b r d w h.begun) refl r.awake refl d w.input enabled_fits w.sent_at)

  module _ (e : Board) (run : Makes b (steps w) e) where
    told : Told (steps w) b.state b.array b.rows e.state e.array e.rows
    told = made_told (rested_own b r) run

    at_rest_lem : e.state ≡ at_rest before
    at_rest_lem = told.next ∙ write_record

    pub write_done : Done b d w e
    write_done =
        record {
          enabled = enable_zero;
          executed = command_zero;
          idle = ap (λ (q : Record). q.phase) at_rest_lem;
          latch = ap (λ (q : Record). q.part.wel) at_rest_lem;
          rest = at_rest_lem;
          lengths = told_length told;
          bytes = λ m at l. told_bytes told m at l ∙ write_bytes m at (get_or (memory_in m b) at 0);
        }

    pub rested_again : Rested e
    rested_again =
        record {
          is_sound = told.next_sound;
          idle = write_done.idle;
          awake = ap (λ (q : Record). q.part.asleep) at_rest_lem ∙ r.awake;
          own_array = told.array_length ∙ r.own_array ∙ sym (ap (λ (q : Record). array_bytes q.part.blocks) at_rest_lem);
          own_rows = told.rows_length ∙ r.own_rows;
        }

    -- and what was a whole write is one
    pub whole_again : (f : Kind) (v : Write) → Whole before f v → Whole e.state f v
    whole_again f v g = subst⁻¹ (λ (q : Record). Whole q f v) at_rest_lem (whole_at_rest before f v g)
