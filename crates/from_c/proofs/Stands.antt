-- Each kind of call from C stands for its list of calls: from what holds a sound record these lead to what the call leaves, and C hears what it tells of their course.
use Prim.Native.Nat.{ℕ, ◌/◌, ◌%◌, ◌^◌, ◌<◌}
use mathlib.Core.Path.{◌≡◌, refl, sym, ap, subst⁻¹, ◌∙◌}
use mathlib.Core.Bool.{Bool, true, false, cond}
use mathlib.Core.List.{List, [], ◌∷◌}
use native.Mathlib.Omega.{arith}
use lib.Dec.{eqb, leb}
use lib.ListN.{length}
use borrow.Author.Tests.{eqb-true, eqb-false, leb-true, ne_eqb}
use Rattle.types.specs.declared.Record.{Record}
use Rattle.words.specs.Logic.{◌and◌, unless}
use Rattle.paper.specs.Sizes.{array_bytes, map_bytes, tick_limit}
use Rattle.paper.specs.Soundness.{sound}
use Rattle.paper.specs.Numbers.{image_number, map_number}
use Rattle.paper.specs.Ticks.{working_ticks}
use Rattle.paper.specs.Calls.{transacted, ticked}
use Rattle.paper.specs.History.{Call, transaction}
use Rattle.paper.specs.Board.{Board, board_of, waited, after_calls}
use Rattle.paper.specs.Script.{Script, Scripted, after_steps, unstepped, refusal_of}
use Rattle.paper.specs.Map.{MapTicked, MapScripted}
use Rattle.paper.proofs.Answers.{ticks_run, ticks_refused}
use Rattle.record_bytes.specs.Layout.{record_bytes}
use Rattle.history.specs.Run.{Run, done, sends, waits}
use Rattle.history.specs.Course.{course_of}
use Rattle.history.proofs.Joined.{run_exists}
use Rattle.history.proofs.Scripts.{script_laws}
use Rattle.map_laws.proofs.Stands.{ticks_stand, scripts_stand}
use Rattle.map_laws.proofs.Answers.{ticks_answer, ticks_36, script_answer_lem, script_36}
use Rattle.script.specs.InBytes.{script_of}
use Rattle.yawlspar.specs.Face.{packed}
use Rattle.yawlspar_script.specs.Face.{script_answer}
use Rattle.from_c.specs.Driven.{Lent, lent, CCall, transact, tick, script, check, tick_map, script_map, Given, gives, call_of, heard_of, heard_steps, packed_steps, script_steps, told_by, InMemory}
use Rattle.from_c.proofs.Held.{held_answer, held_transacted, held_ticks_answer, held_ticked, held_array, held_rows, came, held_script_lem, came_map, held_script_map, ran_map, held_tick_map, no_level, same_left, image_kept}
use Rattle.from_c.specs.Holding.{Holding}
use Rattle.from_c.proofs.Holding.{in_bytes, holding_own, run_holding}
use Rattle.from_c.proofs.Leads.{Leads}
use Rattle.from_c.proofs.ScriptHeard.{script_heard}

-- the call c, lent l on a part with the record p, gave g
pub record StandsFor (c : CCall) (l : Lent) (p : Record) (g : Given) : Type 0 where
  pub leads : Leads l p (call_of c p) g.left
  pub heard : InMemory c → heard_of c g ≡ told_by c (course_of (call_of c p) p (length l.array) (length l.rows))

module _ (l : Lent) (p : Record) (h : Holding l p) where
  -- a transaction whose level of WP# is one
  level_leads : (wp : ℕ) (i o : List ℕ) → leb wp 1 ≡ true → Leads l p (transaction (eqb wp 1) i (length o) ∷ []) (gives (transact wp i o) l).left
  level_leads wp i o e =
      let a = transacted p (length l.array) (length l.rows) (eqb wp 1) i (length o) in
      let run : Run p l.array l.rows (transaction (eqb wp 1) i (length o) ∷ []) a.next l.array l.rows = sends a refl done in
      record { next = a.next; run = run; holding = run_holding h run (held_transacted l p (in_bytes h) wp i o e) }

  transact_leads : (wp : ℕ) (i o : List ℕ) (t : Bool) → leb wp 1 ≡ t → Leads l p (call_of (transact wp i o) p) (gives (transact wp i o) l).left
  transact_leads wp i o true e = rw e (level_leads wp i o e)
  transact_leads wp i o false e = rw e (record { next = p; run = done; holding = run_holding h done (no_level l wp i o e ∙ h.bytes) })

  transact_heard : (wp : ℕ) (i o : List ℕ) (t : Bool) → leb wp 1 ≡ t
      → heard_of (transact wp i o) (gives (transact wp i o) l) ≡ told_by (transact wp i o) (course_of (call_of (transact wp i o) p) p (length l.array) (length l.rows))
  transact_heard wp i o true e = rw e (ap (λ (k : ℕ). k ∷ []) (held_answer l p (in_bytes h) wp i o e))
  transact_heard wp i o false e = rw e refl

  transact_stands : (wp : ℕ) (i o : List ℕ) → StandsFor (transact wp i o) l p (gives (transact wp i o) l)
  transact_stands wp i o = record { leads = transact_leads wp i o (leb wp 1) refl; heard = λ few. transact_heard wp i o (leb wp 1) refl }

  tick_stands : (n : ℕ) → StandsFor (tick n) l p (gives (tick n) l)
  tick_stands n =
      let t = ticked p (length l.array) (length l.rows) n in
      let run : Run p l.array l.rows (call_of (tick n) p) t.next (gives (tick n) l).left.array (gives (tick n) l).left.rows = waits t refl (held_array l p (in_bytes h) n) (held_rows l p (in_bytes h) n) done in
      record { leads = record { next = t.next; run = run; holding = run_holding h run (held_ticked l p (in_bytes h) n) }; heard = λ few. ap (λ (k : ℕ). k ∷ []) (held_ticks_answer l p (in_bytes h) n) }

  -- a script, refused or not
  module _ (wp : ℕ) (i ls ts o n d : List ℕ) where
    abbrev level_ok : Bool
    level_ok = sound p and leb wp 1

    abbrev its : Script
    its = script_of wp i ls ts

    abbrev board : Board
    board = board_of p l.array l.rows

    abbrev left : Scripted
    left = came l p (in_bytes h) wp i ls ts o n d

    abbrev stood : List Call
    stood = call_of (script wp i ls ts o n d) p

    abbrev LeftBy : Scripted → Type 0
    LeftBy w = Run p l.array l.rows stood w.board.state w.board.array w.board.rows

    run_as : (t : Bool) → eqb (refusal_of level_ok its board o n d) 0 ≡ t → LeftBy left
    run_as true e =
        let z = eqb-true _ _ e in
        let t = script_laws.taken level_ok its board o n d h.array h.rows z in
        let w = after_steps its (length ls) (unstepped 0 board o n d) in
        subst⁻¹ LeftBy t.0 (subst⁻¹ (λ (cs : List Call). Run p l.array l.rows cs w.board.state w.board.array w.board.rows) t.1 (script_laws.steps level_ok its board o n d h.is_sound z (length ls) (omega arith)).run)
    run_as false e =
        let t = script_laws.refused level_ok its board o n d h.array h.rows (eqb-false _ _ e) in
        subst⁻¹ LeftBy t.0 (subst⁻¹ (λ (cs : List Call). Run p l.array l.rows cs p l.array l.rows) t.1 done)

    script_run : LeftBy left
    script_run = run_as (eqb (refusal_of level_ok its board o n d) 0) refl

    script_stands : StandsFor (script wp i ls ts o n d) l p (gives (script wp i ls ts o n d) l)
    script_stands =
        subst⁻¹ (StandsFor (script wp i ls ts o n d) l p) (held_script_lem l p (in_bytes h) wp i ls ts o n d)
        (record { leads = record { next = left.board.state; run = script_run; holding = run_holding h script_run refl }; heard = script_heard level_ok its board o n d h.is_sound h.array h.rows })

  -- a check: its script; with an image of another length nothing
  module _ (wp : ℕ) (i ls ts o n d image : List ℕ) where
    abbrev checked_call : CCall
    checked_call = check wp i ls ts o n d image

    check_leads : (t : Bool) → eqb (length image) (array_bytes p.part.blocks) ≡ t → Leads l p (call_of checked_call p) (gives checked_call l).left
    unfolding image_number unless
    check_leads true e =
        rw (e, same_left wp i ls ts o n d image l (eqb-true _ _ e ∙ sym h.array)) (script_stands wp i ls ts o n d).leads
    check_leads false e =
        rw (e, image_kept wp i ls ts o n d image l (λ z. eqb-false _ _ e (z ∙ h.array))) (record { next = p; run = done; holding = h })

    check_stands : StandsFor checked_call l p (gives checked_call l)
    check_stands = record { leads = check_leads (eqb (length image) (array_bytes p.part.blocks)) refl; heard = λ few. refl }

-- a map: ticks and scripts that are lent one
module _ (l : Lent) (p : Record) (h : Holding l p) where
  abbrev whole : Board
  whole = board_of p l.array l.rows

  -- the calls that a board follows from lead to it
  board_leads : (cs : List Call) (c : Board) → c ≡ after_calls cs whole → Leads l p cs (lent (record_bytes c.state) c.array c.rows)
  board_leads cs c e =
      let run : Run p l.array l.rows cs c.state c.array c.rows = subst⁻¹ (λ (d : Board). Run p l.array l.rows cs d.state d.array d.rows) e (run_exists cs whole) in
      record { next = c.state; run = run; holding = run_holding h run refl }

  module _ (n : ℕ) (k : List ℕ) where
    abbrev tally : MapTicked
    tally = ran_map l p (in_bytes h) n k

    -- what plain ticks answer is not 36
    not_36 : (t : Bool) → leb n (tick_limit p.part.blocks) ≡ t → eqb (packed (waited whole n).number (waited whole n).done) 36 ≡ false
    not_36 true e =
        rw (h.array, h.rows, ticks_run p h.is_sound n (leb-true _ _ e)) (ne_eqb (packed 0 (working_ticks n p)) 36 (λ z. omega arith))
    not_36 false e = rw (h.array, h.rows, ticks_refused p h.is_sound n e) refl

    tick_map_heard : (t : Bool) → eqb (length k) (map_bytes p.part.blocks) ≡ t
        → cond (eqb (packed tally.number tally.done) 36) [] (packed tally.number tally.done ∷ []) ≡ packed_steps (course_of (call_of (tick_map n k) p) p (length l.array) (length l.rows))
    unfolding map_number unless
    tick_map_heard true e =
        let a = ticks_answer n whole k (holding_own h) e in
        rw (e, a.0, a.1, not_36 (leb n (tick_limit p.part.blocks)) refl) refl
    tick_map_heard false e =
        let a = ticks_36 n whole k (holding_own h) e in
        rw (e, a.0, a.1) refl

    tick_map_stands : StandsFor (tick_map n k) l p (gives (tick_map n k) l)
    tick_map_stands =
        subst⁻¹ (StandsFor (tick_map n k) l p) (held_tick_map l p (in_bytes h) n k)
        (record { leads = board_leads (call_of (tick_map n k) p) tally.board (ticks_stand n whole k (holding_own h)).part; heard = λ few. tick_map_heard (eqb (length k) (map_bytes p.part.blocks)) refl })

  module _ (wp : ℕ) (i ls ts o n d k : List ℕ) where
    abbrev mapped_call : CCall
    mapped_call = script_map wp i ls ts o n d k

    abbrev trace : MapScripted
    trace = came_map l p (in_bytes h) wp i ls ts o n d k

    abbrev heard_by : Scripted → List ℕ
    heard_by w = heard_steps (script_answer w % 256) (script_answer w / 256) w.answers w.done

    script_map_heard : length ls < 2 ^ 56 → (t : Bool) → eqb (length k) (map_bytes p.part.blocks) ≡ t
        → heard_by trace.run ≡ script_steps (course_of (call_of mapped_call p) p (length l.array) (length l.rows))
    unfolding map_number unless script_answer
    script_map_heard few true e =
        rw e
        (ap heard_by (script_answer_lem (sound p and leb wp 1) (script_of wp i ls ts) whole o n d k (holding_own h) e)
        ∙ script_heard (sound p and leb wp 1) (script_of wp i ls ts) whole o n d h.is_sound h.array h.rows few)
    script_map_heard few false e =
        rw e (ap heard_by (script_36 (sound p and leb wp 1) (script_of wp i ls ts) whole o n d k (holding_own h) e))

    script_map_stands : StandsFor mapped_call l p (gives mapped_call l)
    script_map_stands =
        subst⁻¹ (StandsFor mapped_call l p) (held_script_map l p (in_bytes h) wp i ls ts o n d k)
        (record { leads = board_leads (call_of mapped_call p) trace.run.board (scripts_stand (sound p and leb wp 1) (script_of wp i ls ts) whole o n d k (holding_own h)).part; heard = λ few. script_map_heard few (eqb (length k) (map_bytes p.part.blocks)) refl })

-- every kind
module _ (l : Lent) (p : Record) (h : Holding l p) where
  kind_stands : (c : CCall) → StandsFor c l p (gives c l)
  kind_stands (transact wp i o) = transact_stands l p h wp i o
  kind_stands (tick n) = tick_stands l p h n
  kind_stands (script wp i ls ts o n d) = script_stands l p h wp i ls ts o n d
  kind_stands (check wp i ls ts o n d image) = check_stands l p h wp i ls ts o n d image
  kind_stands (tick_map n k) = tick_map_stands l p h n k
  kind_stands (script_map wp i ls ts o n d k) = script_map_stands l p h wp i ls ts o n d k

  pub stands : (c : CCall) (g : Given) → g ≡ gives c l → StandsFor c l p g
  stands c g e = subst⁻¹ (StandsFor c l p) e (kind_stands c)
