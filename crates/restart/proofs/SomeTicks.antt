-- An erase that is begun and gets some of its ticks: it is under way, and nothing else is written.
use Prim.Native.Nat.{ℕ, ◌+◌, ◌≤◌, ◌<◌}
use mathlib.Core.Path.{◌≡◌, refl, ap, ◌∙◌, subst, subst⁻¹}
use mathlib.Core.Bool.{Bool, true, false, not}
use mathlib.Core.List.{List, [], ◌∷◌, ◌++◌}
use native.Mathlib.Omega.{arith}
use Rattle.types.specs.declared.EraseUnit.{EraseUnit}
use Rattle.types.specs.declared.Operation.{Operation}
use Rattle.types.specs.declared.Operation.TheVariants.{Erase}
use Rattle.types.specs.declared.Phase.{Phase}
use Rattle.types.specs.declared.Phase.TheVariants.{Busy}
use Rattle.types.specs.declared.Record.{Record}
use Rattle.types.specs.declared.Answer.{Answer}
use Rattle.words.proofs.Tests.{and_in}
use Rattle.paper.specs.Sizes.{tick_limit}
use Rattle.paper.specs.Erase.{unit_pages, unit_base}
use Rattle.paper.specs.Phases.{running, is_idle}
use Rattle.paper.specs.Soundness.{sound}
use Rattle.paper.specs.History.{Call, ticks, record_after_call, call_touches}
use Rattle.paper.specs.Board.{Board}
use Rattle.paper.proofs.Soundness.{sound_parts}
use Rattle.paper.proofs.CallKept.{call_sound}
use Rattle.paper.proofs.RunToEnd.{pages_few}
use Rattle.reset.specs.Closing.{arm}
use Rattle.reset.proofs.Steps.{not_idle_awake, armed_now}
use Rattle.suspended.specs.UnderWay.{done_in, never_idle}
use Rattle.suspended.proofs.Proceeds.{ticks_go_on}
use Rattle.laws.specs.Writes.{erase, Write, at_start, write_of, Fitting, Begun, Rested}
use Rattle.laws.proofs.Begun.{start_sound, start_size}
use Rattle.restart.specs.Cuts.{NoOther, nothing_else, aim}
use Rattle.restart.specs.Restart.{EveryTick}
use Rattle.restart.proofs.Alone.{nothing_else_lem}
use Rattle.restart.proofs.Started.{start_phase}

-- an erase that is begun with nothing between 06h and it
module _ (b : Board) (r : Rested b) (u : EraseUnit) (wp : Bool) (i : List ℕ) (fits : Fitting b.state (erase u) i) where
  abbrev pub n : ℕ
  n = b.state.part.blocks

  abbrev pub write : List Call → Write
  write cs = write_of wp wp i cs

  pub begun : (cs : List Call) → Begun b.state (erase u) (write cs)
  begun cs = record { fitting = fits; checks_wait = refl }

  abbrev pub place : ℕ
  place = aim b.state u (write [])

  abbrev pub start : Record
  start = at_start b.state (write [])

  abbrev pub erasing : ℕ → Operation
  erasing k = Erase u (unit_base u n place) k

  pub at_start_lem : start.phase ≡ Busy (erasing 0)
  at_start_lem = start_phase b r u (write []) (begun [])

  pub sound_start : sound start ≡ true
  sound_start = start_sound b r (erase u) (write []) (begun [])

  pub size_start : unit_pages u start.part.blocks ≡ unit_pages u n
  size_start = ap (unit_pages u) (start_size b r (erase u) (write []) (begun []))

  -- so many ticks may be asked
  pub few : unit_pages u n ≤ tick_limit start.part.blocks
  few =
      subst (λ (k : ℕ). k ≤ tick_limit start.part.blocks) size_start (pages_few u start.part.blocks (sound_parts start sound_start).size)

  -- ticks write nothing else
  pub ticks_alone : (k : ℕ) → nothing_else u n place (call_touches (ticks k) start ++ []) ≡ true
  ticks_alone k =
      subst (λ (m : ℕ). nothing_else u m place (call_touches (ticks k) start ++ []) ≡ true) (start_size b r (erase u) (write []) (begun []))
      (nothing_else_lem start u place (ticks k ∷ []) sound_start
      (subst⁻¹ (λ (m : ℕ). NoOther u (unit_base u m place) (running start.phase)) (start_size b r (erase u) (write []) (begun [])) (subst⁻¹ (λ (f : Phase). NoOther u (unit_base u n place) (running f)) at_start_lem refl), tt))

  -- before the last tick
  module _ (k : ℕ) (l : k < unit_pages u n) where
    abbrev ran : Record
    ran = record_after_call (ticks k) start

    ran_sound : sound ran ≡ true
    ran_sound = call_sound (ticks k) start sound_start

    ran_phase : ran.phase ≡ Busy (erasing k)
    ran_phase =
        let z : 0 + k ≡ k = omega arith in
        ticks_go_on u (unit_base u n place) start.part.blocks start sound_start refl k 0 at_start_lem (omega (arith, size_start)) ∙ ap (λ (j : ℕ). Busy (erasing j)) z

    ran_awake : ran.part.asleep ≡ false
    ran_awake = not_idle_awake ran.phase ran.part.asleep (ap is_idle ran_phase) (sound_parts ran ran_sound).sleep

    -- it is never idle
    pub never : never_idle (ticks k ∷ []) start ≡ true
    never = and_in (ap (λ (f : Phase). not (is_idle f)) ran_phase) refl

    pub never_armed : never_idle (ticks k ∷ arm wp ∷ []) start ≡ true
    never_armed =
        and_in (ap (λ (f : Phase). not (is_idle f)) ran_phase) (and_in (ap (λ (t : Answer). not (is_idle t.next.phase)) (armed_now ran ran_sound wp ran_awake) ∙ ap (λ (f : Phase). not (is_idle f)) ran_phase) refl)

pub every_tick : EveryTick
every_tick b u wp i k r fits l =
    (never b r u wp i fits k l, ap done_in (ran_phase b r u wp i fits k l))
