-- A write that is begun on an idle, awake part, up to its start: 06h and the command are executed, and nothing is reached.
use Prim.Native.Nat.{ℕ}
use mathlib.Core.Path.{◌≡◌, refl, sym, ap, ◌∙◌}
use mathlib.Core.Bool.{true}
use mathlib.Core.List.{[], ◌∷◌}
use Rattle.types.specs.declared.Memory.{Memory}
use Rattle.types.specs.declared.Phase.TheVariants.{Idle}
use Rattle.types.specs.declared.Record.{Record}
use Rattle.types.specs.declared.Answer.{Answer}
use Rattle.paper.specs.Soundness.{sound}
use Rattle.paper.specs.History.{record_after_call, record_after_calls, history, byte_after_all}
use Rattle.paper.specs.Board.{Board}
use Rattle.history.proofs.Calls.{calls_append, bytes_joined}
use Rattle.laws.specs.Writes.{Kind, Write, opening, command, steps, at_start, Fitting, Begun, Rested}
use Rattle.laws.proofs.Commanded.{started, commanded, started_sound, enabled, enabled_sound, opened, opened_bytes, fits_standing}

module _ (b : Board) (r : Rested b) (d : Kind) (w : Write) (h : Begun b.state d w) where
  abbrev before : Record
  before = b.state

  -- with WEL 1
  abbrev ready : Record
  ready = enabled before

  pub ready_sound : sound ready ≡ true
  ready_sound = enabled_sound before r.is_sound r.idle r.awake

  pub ready_fits : Fitting ready d w.input
  ready_fits = fits_standing before Idle true before.page d w.input h.fitting

  opened_here : record_after_calls (opening w) before ≡ ready
  opened_here = opened before r.is_sound r.idle r.awake w.enabled_at w.checks h.checks_wait

  start_here : at_start before w ≡ record_after_call (command w) (record_after_calls (opening w) before)
  start_here = calls_append (opening w) (command w ∷ []) before

  -- the record at its start
  pub start_is : at_start before w ≡ started ready d w.input
  start_is =
      start_here
      ∙ ap (record_after_call (command w)) opened_here
      ∙ ap (λ (a : Answer). a.next) (commanded ready ready_sound refl r.awake refl d w.input ready_fits w.sent_at)

  pub start_sound : sound (at_start before w) ≡ true
  start_sound = ap sound start_is ∙ started_sound ready ready_sound refl r.awake refl d w.input ready_fits

  pub start_size : (at_start before w).part.blocks ≡ before.part.blocks
  start_size = ap (λ (p : Record). p.part.blocks) start_is

  -- what its calls make of the record and of each byte, they make from then on
  pub steps_record : record_after_calls (steps w) before ≡ record_after_calls w.wait (at_start before w)
  steps_record = calls_append (opening w) (command w ∷ w.wait) before ∙ ap (record_after_calls w.wait) (sym start_here)

  pub steps_bytes : (m : Memory) (at x : ℕ) → byte_after_all m at (history (steps w) before) x ≡ byte_after_all m at (history w.wait (at_start before w)) x
  steps_bytes m at x =
      bytes_joined m at (opening w) (command w ∷ w.wait) before x
      ∙ ap (byte_after_all m at (history w.wait (record_after_call (command w) (record_after_calls (opening w) before)))) (opened_bytes before r.is_sound r.idle r.awake w.enabled_at w.checks h.checks_wait m at x)
      ∙ ap (λ (p : Record). byte_after_all m at (history w.wait p) x) (sym start_here)
