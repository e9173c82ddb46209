-- Tries that are cut at any tick, any number of them: each leaves a part on which the same bytes begin the same erase, and writes nothing else.
use Prim.Native.Nat.{ℕ, ◌<◌}
use mathlib.Core.Path.{◌≡◌, refl, sym, ap, ◌∙◌, subst⁻¹}
use mathlib.Core.Bool.{Bool, true}
use mathlib.Core.List.{List, [], ◌∷◌, ◌++◌}
use native.Mathlib.Omega.{arith}
use Rattle.types.specs.declared.EraseUnit.{EraseUnit}
use Rattle.types.specs.declared.Operation.{Operation}
use Rattle.types.specs.declared.Operation.TheVariants.{Erase}
use Rattle.types.specs.declared.Phase.TheVariants.{Busy}
use Rattle.types.specs.declared.Stored.{Stored}
use Rattle.types.specs.declared.Record.{Record}
use Rattle.words.specs.Logic.{◌or◌}
use Rattle.paper.specs.Erase.{unit_pages, unit_base, erase_of}
use Rattle.paper.specs.Registers.{bank_loaded}
use Rattle.paper.specs.Records.{fresh}
use Rattle.paper.specs.Phases.{running, is_idle}
use Rattle.paper.specs.Operations.{unit_free, target_free}
use Rattle.paper.specs.History.{Call, ticks, record_after_calls, call_touches, history}
use Rattle.paper.specs.Board.{Board, board_of, answer_to, after_call}
use Rattle.paper.proofs.Kept.{powered_fresh}
use Rattle.paper.proofs.RunToEnd.{call_rests}
use Rattle.history.proofs.Told.{Told}
use Rattle.history.proofs.Joined.{Parted, run_folded, run_parted}
use Rattle.reset.specs.Closing.{arm, reset}
use Rattle.suspended.specs.UnderWay.{done_in, never_idle, runs_to_end}
use Rattle.suspended.proofs.UnderWay.{under_in_order}
use Rattle.laws.specs.Writes.{erase, Write, steps, at_start, write_of, begun_by, Begun, Makes}
use Rattle.laws.specs.DriverLaws.{plainly}
use Rattle.laws.proofs.Boards.{rested_own, made_told}
use Rattle.laws.proofs.Written.{plainly_whole}
use Rattle.restart.specs.Cuts.{up_again, powered_again, by_reset, by_power, Event, calls, Lives, over, sent, up, history_through, nothing_else, aim}
use Rattle.restart.specs.Restart.{CutAt, Again, Try, reset_after, power_after, all_tried, AllCuttable, none, more, EveryCut}
use Rattle.restart.proofs.Alone.{alone_none, alone_both}
use Rattle.restart.proofs.AtTheCut.{reset_next, at_the_cut, reset_cuts}
use Rattle.restart.proofs.DoneOver.{done_over}
use Rattle.restart.proofs.SomeTicks.{begun, erasing, at_start_lem, sound_start, size_start, few, ticks_alone, never, never_armed}
use Rattle.restart.proofs.StillFits.{StillFits, begun_same, place_same, next_fits}

-- the first part p, to which every try is sent
module _ (p : Record) (u : EraseUnit) (wp : Bool) (i : List ℕ) where
  abbrev first : Write
  first = write_of wp wp i []

  -- ticks of the erase on the board b
  module _ (b : Board) (s : StillFits p u i b) (k : ℕ) where
    ticks_still_alone : nothing_else u p.part.blocks (aim p u first) (call_touches (ticks k) (at_start b.state first) ++ []) ≡ true
    ticks_still_alone =
        let ts = call_touches (ticks k) (at_start b.state first) ++ [] in
        sym (ap (λ (n : ℕ). nothing_else u n (aim b.state u first) ts) s.size ∙ ap (λ (a : ℕ). nothing_else u p.part.blocks a ts) (place_same p u i b s [] wp))
        ∙ ticks_alone b s.rested u wp i s.fits k

    still_fewer : k < unit_pages u p.part.blocks → k < unit_pages u b.state.part.blocks
    still_fewer l = subst⁻¹ (λ (n : ℕ). k < unit_pages u n) s.size l

-- its bank register is 00h
module _ (p : Record) (u : EraseUnit) (wp : Bool) (i : List ℕ) (zero-bank : p.part.bank ≡ bank_loaded) where
  abbrev aimed : ℕ
  aimed = aim p u (write_of wp wp i [])

  -- it was cut by a reset
  module _ (b : Board) (s : StillFits p u i b) (k : ℕ) (l : k < unit_pages u p.part.blocks) (d : Board) (run : Makes b (steps (write_of wp wp i (ticks k ∷ arm wp ∷ [])) ++ (reset wp ∷ [])) d) where
    abbrev reset_write : Write
    reset_write = write_of wp wp i (ticks k ∷ arm wp ∷ [])

    parts : Parted b.state b.array b.rows (steps reset_write) (reset wp ∷ []) d.state d.array d.rows
    parts = run_parted (steps reset_write) (reset wp ∷ []) run

    abbrev c : Board
    c = board_of parts.between parts.array parts.rows

    abbrev reset_begun : Begun b.state (erase u) reset_write
    reset_begun = begun b s.rested u wp i s.fits (ticks k ∷ arm wp ∷ [])

    reset_never : never_idle reset_write.wait (at_start b.state reset_write) ≡ true
    reset_never = never_armed b s.rested u wp i s.fits k (still_fewer p u wp i b s k l)

    reset_answers : (answer_to c wp (0x99 ∷ []) 1).number ≡ 0
    reset_answers = reset_cuts b c u reset_write (ticks k ∷ []) [] wp wp s.rested reset_begun refl reset_never refl parts.before

    d_is : d ≡ after_call (reset wp) c
    d_is = run_folded parts.after

    reset_cut : CutAt b u reset_write c (after_call (reset wp) c) (by_reset wp reset_answers)
    reset_cut = at_the_cut b c (after_call (reset wp) c) u reset_write s.rested reset_begun parts.before reset_never (by_reset wp reset_answers)

    reset_told : Told (steps reset_write) b.state b.array b.rows c.state c.array c.rows
    reset_told = made_told (rested_own b s.rested) parts.before

    -- the unit is free under the registers that the part had
    reset_free : target_free (begun_by b.state (erase u) i) b.state.part.blocks c.state.part.stored ≡ true
    unfolding erase_of
    reset_free =
        let base = unit_base u b.state.part.blocks (aim b.state u reset_write) in
        ap (λ (n : ℕ). unit_free u base n c.state.part.stored) (sym reset_told.size)
        ∙ (under_in_order c.state (Erase u base (done_in c.state.phase)) reset_cut.erasing reset_told.next_sound).open_target

    reset_fresh : (after_call (reset wp) c).state ≡ fresh b.state.part.blocks c.state.identity c.state.part.stored
    reset_fresh =
        reset_next c wp reset_answers ∙ ap (λ (n : ℕ). fresh n c.state.identity c.state.part.stored) reset_told.size

    reset_fits : StillFits p u i d
    reset_fits =
        subst⁻¹ (StillFits p u i) d_is (next_fits p u i b (after_call (reset wp) c) c.state.identity c.state.part.stored zero-bank s reset_fresh reset_cut.rested reset_free)

    reset_alone : nothing_else u p.part.blocks aimed (history (steps reset_write ++ (reset wp ∷ [])) b.state) ≡ true
    reset_alone = ticks_still_alone p u wp i b s k

  -- or by a loss of power
  module _ (b : Board) (s : StillFits p u i b) (k : ℕ) (g : Stored) (l : k < unit_pages u p.part.blocks) (free : target_free (begun_by p (erase u) i) p.part.blocks g ≡ true)
      (c : Board) (run : Makes b (steps (write_of wp wp i (ticks k ∷ []))) c) (z : (up_again g c.state).number ≡ 0) where
    abbrev power_write : Write
    power_write = write_of wp wp i (ticks k ∷ [])

    power_cut : CutAt b u power_write c (powered_again g c) (by_power g z)
    power_cut =
        at_the_cut b c (powered_again g c) u power_write s.rested (begun b s.rested u wp i s.fits (ticks k ∷ [])) run (never b s.rested u wp i s.fits k (still_fewer p u wp i b s k l)) (by_power g z)

    power_fresh : (powered_again g c).state ≡ fresh b.state.part.blocks b.state.identity g
    power_fresh = power_cut.fresh ∙ powered_fresh b.state.part.blocks b.state.identity g power_cut.unrefused

    power_fits : StillFits p u i (powered_again g c)
    power_fits =
        next_fits p u i b (powered_again g c) b.state.identity g zero-bank s power_fresh power_cut.rested
        (ap (λ (o : Operation). target_free o b.state.part.blocks g) (begun_same p u i b s) ∙ ap (λ (n : ℕ). target_free (begun_by p (erase u) i) n g) s.size ∙ free)

    power_alone : nothing_else u p.part.blocks aimed (history (steps power_write) b.state) ≡ true
    power_alone = ticks_still_alone p u wp i b s k

  -- all tries, and what comes after them
  record TriedAll (b : Board) (ts : List Try) (es : List Event) (e : Board) : Type 0 where
    at : Board
    lives : Lives b (all_tried wp i ts) at
    lives_on : Lives at es e
    still : StillFits p u i at
    alone : nothing_else u p.part.blocks aimed (history_through (all_tried wp i ts) b.state) ≡ true

  tried_all : (b : Board) (ts : List Try) (es : List Event) (e : Board) → StillFits p u i b → AllCuttable p u i ts → Lives b (all_tried wp i ts ++ es) e → TriedAll b ts es e
  tried_all b [] es e s none lives = record { at = b; lives = over; lives_on = lives; still = s; alone = alone_none u p.part.blocks aimed }
  tried_all b (reset_after k ∷ ts) es e s (more l rest) (sent {c = d} run lives) =
      let v = write_of wp wp i (ticks k ∷ arm wp ∷ []) in
      let cs = steps v ++ (reset wp ∷ []) in
      let on = tried_all d ts es e (reset_fits b s k l d run) rest lives in
      let next = (made_told (rested_own b s.rested) run).next in
      record {
        at = on.at;
        lives = sent run on.lives;
        lives_on = on.lives_on;
        still = on.still;
        alone = alone_both u p.part.blocks aimed (history cs b.state) (history_through (all_tried wp i ts) (record_after_calls cs b.state)) (reset_alone b s k l d run)
            (sym (ap (λ (q : Record). nothing_else u p.part.blocks aimed (history_through (all_tried wp i ts) q)) next) ∙ on.alone);
      }
  tried_all b (power_after k g ∷ ts) es e s (more (l, free) rest) (sent {c = c} run (up z lives)) =
      let x = write_of wp wp i (ticks k ∷ []) in
      let on = tried_all (powered_again g c) ts es e (power_fits b s k g l free c run z) rest lives in
      let next = (made_told (rested_own b s.rested) run).next in
      record {
        at = on.at;
        lives = sent run (up z on.lives);
        lives_on = on.lives_on;
        still = on.still;
        alone = alone_both u p.part.blocks aimed (history (steps x) b.state) (history_through (all_tried wp i ts) (up_again g (record_after_calls (steps x) b.state)).next) (power_alone b s k g l free c run z)
            (sym (ap (λ (q : Record). nothing_else u p.part.blocks aimed (history_through (all_tried wp i ts) (up_again g q).next)) next) ∙ on.alone);
      }

-- the last erase, which gets all of its ticks
module _ (p : Record) (u : EraseUnit) (wp : Bool) (i : List ℕ) (c : Board) (s : StillFits p u i c) where
  abbrev all : ℕ
  all = unit_pages u p.part.blocks

  abbrev last : Write
  last = write_of wp wp i (ticks all ∷ [])

  last_ends : runs_to_end (ticks all ∷ []) (at_start c.state last) ≡ true
  unfolding ◌or◌
  last_ends =
      let start = at_start c.state last in
      let phase = at_start_lem c s.rested u wp i s.fits in
      let pages : unit_pages u start.part.blocks ≡ all = size_start c s.rested u wp i s.fits ∙ ap (unit_pages u) s.size in
      let most = few c s.rested u wp i s.fits in
      let rests = call_rests start (erasing c s.rested u wp i s.fits 0) (ap running phase) (sound_start c s.rested u wp i s.fits) all (omega (arith, pages)) (omega (arith, most, ap (unit_pages u) s.size)) (Busy (erasing c s.rested u wp i s.fits 0)) phase in
      rw (ap is_idle rests.phase_is) refl

  again : Again c.state u (aim p u (write_of wp wp i [])) last
  again =
      record {
        begun = begun c s.rested u wp i s.fits (ticks all ∷ []);
        same_unit = ap (unit_base u c.state.part.blocks) (place_same p u i c s (ticks all ∷ []) wp);
        ends = last_ends;
        nothing_else_lem = ap (λ (n : ℕ). nothing_else u n (aim p u last) (history (steps last) c.state)) s.size ∙ ticks_still_alone p u wp i c s all;
      }

-- one event of calls is a run of them
one_run : {c e : Board} {cs : List Call} → Lives c (calls cs ∷ []) e → Makes c cs e
one_run (sent run over) = run

pub every_cut : EveryCut
unfolding erase_of
every_cut b e f u wp i ts r zero-bank fits cuttable lives undisturbed =
    let p = b.state in
    let first : StillFits p u i b = record { rested = r; size = refl; bank = refl; fits = fits } in
    let w = plainly p (erase u) wp wp i in
    let all = tried_all p u wp i zero-bank b ts (calls (steps w) ∷ []) e first cuttable lives in
    done_over b all.at e f (all_tried wp i ts) u (aim p u w) w w r all.lives all.alone all.still.rested (again p u wp i all.at all.still) (one_run all.lives_on)
    (record { whole = plainly_whole p (erase u) wp wp i r.is_sound r.idle r.awake fits; same_unit = refl })
    undisturbed
