-- An erase that is begun on an idle, awake part: at its start the part is busy with it, and no tick is done.
use Prim.Native.Nat.{ℕ}
use mathlib.Core.Path.{◌≡◌, refl, sym, ap, ◌∙◌, subst⁻¹}
use mathlib.Core.Bool.{Bool, true, cond}
use mathlib.Core.List.{[], ◌∷◌}
use Rattle.types.specs.declared.Memory.{Memory}
use Rattle.types.specs.declared.EraseUnit.{EraseUnit}
use Rattle.types.specs.declared.Operation.TheVariants.{Erase}
use Rattle.types.specs.declared.Phase.{Phase}
use Rattle.types.specs.declared.Phase.TheVariants.{Busy}
use Rattle.types.specs.declared.Record.{Record}
use Rattle.words.specs.Lists.{every}
use Rattle.words.proofs.Tests.{fails}
use Rattle.words.proofs.Lists.{every_last}
use Rattle.paper.specs.Erase.{unit_base, erased_byte, erase_of}
use Rattle.paper.specs.Operations.{Touch}
use Rattle.paper.specs.History.{record_after_calls, history}
use Rattle.paper.specs.Board.{Board}
use Rattle.history.proofs.Calls.{calls_append, history_append}
use Rattle.suspended.specs.UnderWay.{Erasing}
use Rattle.suspended.proofs.Proceeds.{nothing_done, left_in}
use Rattle.laws.specs.Writes.{erase, Write, opening, command, steps, at_start, Begun, Rested}
use Rattle.laws.proofs.Begun.{start_is}
use Rattle.restart.specs.Cuts.{aim}

module _ (b : Board) (r : Rested b) (u : EraseUnit) (w : Write) (h : Begun b.state (erase u) w) where
  abbrev before : Record
  before = b.state

  abbrev base : ℕ
  base = unit_base u before.part.blocks (aim before u w)

  pub start_phase : (at_start before w).phase ≡ Busy (Erase u base 0)
  unfolding erase_of
  start_phase = ap (λ (p : Record). p.phase) (start_is b r (erase u) w h)

  pub start_erasing : Erasing u base (at_start before w).phase
  start_erasing = subst⁻¹ (Erasing u base) start_phase refl

  -- no page is done
  pub at_first : (m : Memory) (at x : ℕ) → left_in u base (at_start before w).phase m at x ≡ x
  at_first m at x =
      ap (λ (f : Phase). left_in u base f m at x) start_phase ∙ ap (λ (t : Bool). cond t erased_byte x) (fails _ (nothing_done m at u base))

-- a test that every touch of a write passes, those from its start on pass
pub steps_every : (p : Record) (w : Write) (test : Touch → Bool) → every test (history (steps w) p) ≡ true → every test (history w.wait (at_start p w)) ≡ true
steps_every p w test g =
    let q = record_after_calls (opening w) p in
    ap (λ (s : Record). every test (history w.wait s)) (calls_append (opening w) (command w ∷ []) p)
    ∙ every_last test (history (opening w) p) (history (command w ∷ w.wait) q) (sym (ap (every test) (history_append (opening w) (command w ∷ w.wait) p)) ∙ g)
