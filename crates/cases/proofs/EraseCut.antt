-- BER64 at block 3 that is begun, runs for some ticks, is suspended and reset: what each call answers, and what the cut leaves of the array and of the rows.
use Rattle.types.specs.declared.Command.{Command}
use Rattle.std.specs.Prelude.{Option}
use Prim.Native.Nat.{ℕ, ◌+◌, ◌*◌, ◌%◌, ◌<◌}
use mathlib.Core.Path.{◌≡◌, refl, sym, ap, ◌∙◌, subst, subst⁻¹}
use mathlib.Core.Bool.{Bool, true, false, not, cond}
use mathlib.Core.List.{List, [], ◌∷◌}
use native.Mathlib.Omega.{arith}
use native.Mathlib.Nat.{mod-eq_of_lt}
use lib.ListN.{length, get_or}
use lib.Seq.{ext_get_or}
use Rattle.types.specs.declared.Memory.TheVariants.{Array, Rows}
use Rattle.types.specs.declared.Addressing.{Addressing}
use Rattle.types.specs.declared.Addressing.TheVariants.{Three}
use Rattle.types.specs.declared.EraseUnit.TheVariants.{Block64}
use Rattle.types.specs.declared.Operation.{Operation}
use Rattle.types.specs.declared.Operation.TheVariants.{Erase}
use Rattle.types.specs.declared.Phase.{Phase}
use Rattle.types.specs.declared.Phase.TheVariants.{Idle, Busy, Suspended}
use Rattle.types.specs.declared.Command.TheVariants.{BlockErase64}
use Rattle.types.specs.declared.Record.{Record}
use Rattle.types.specs.declared.Answer.{Answer}
use Rattle.types.specs.declared.Ticked.{Ticked}
use Rattle.words.specs.Logic.{◌and◌}
use Rattle.words.proofs.Tests.{and_in}
use Rattle.paper.specs.Sizes.{block_bytes, array_bytes, rows_bytes, page_bytes, down_to, from_on}
use Rattle.paper.specs.Address.{high_first, address_sent, address_in, place_in}
use Rattle.paper.specs.Protection.{code_of}
use Rattle.paper.specs.Erase.{unit_base, erased_byte, erase_of}
use Rattle.paper.specs.Operations.{target_free}
use Rattle.paper.specs.Soundness.{sound}
use Rattle.paper.specs.Records.{settled, fresh, marked}
use Rattle.paper.specs.Ticks.{record_after}
use Rattle.paper.specs.Phases.{running, is_idle}
use Rattle.paper.specs.History.{transaction, ticks, one_byte, record_after_call, record_after_calls}
use Rattle.paper.specs.Board.{Board, board_of, answer_to, after_call, after_calls}
use Rattle.paper.proofs.MadeSound.{live_again, registers_again, target_stored}
use Rattle.paper.proofs.Soundness.{record_of, marked_sound}
use Rattle.paper.proofs.Kept.{run_sound}
use Rattle.paper.proofs.TransactionKept.{transaction_sound}
use Rattle.paper.proofs.ManyTicks.{run_record, run_works}
use Rattle.paper.proofs.Pages.{stretch, stretch_length, stretch_at}
use Rattle.paper.proofs.Answers.{ticks_run}
use Rattle.history.proofs.Joined.{run_exists}
use Rattle.history.proofs.Told.{run_told}
use Rattle.reset.specs.Closing.{arm, reset}
use Rattle.reset.proofs.Steps.{armed_now, reset_now}
use Rattle.suspended.specs.UnderWay.{done_in, never_idle}
use Rattle.suspended.proofs.EraseResumed.{suspend_codes, suspends_now}
use Rattle.laws.specs.Writes.{erase, Write, enable, steps, at_start, write_of, addressing_by, sent_as, begun_by, Fitting, Begun, Rested}
use Rattle.laws.proofs.Commanded.{standing, standing_again, did, commanded, enabled, standing_fits}
use Rattle.restart.specs.Cuts.{by_reset, alone, NoOther, aim}
use Rattle.restart.specs.Restart.{in_finished, CutAt}
use Rattle.restart.proofs.AtTheCut.{cut_bytes}
use Rattle.restart.proofs.Restart.{restart}
use Rattle.cases.proofs.Paper.{send, tick, Ready, Free}
use Rattle.cases.proofs.Parts.{known_here, ticks_most, three_bytes, free_alone, enabled_so, enabled_ready}

-- BER64 at block 3 with k ticks done
abbrev erasing : ℕ → Operation
erasing k = Erase Block64 0x030000 k

-- the part has a block 3 and does not protect it
module _ (p : Record) (r : Ready p) (has : 3 < p.part.blocks) (free : Free (code_of p.part.stored.status) p.part.blocks 0x030000) where
  abbrev busy : ℕ → Record
  busy k = standing p (Busy (erasing k)) true p.page

  abbrev halted : ℕ → Bool → Record
  halted k armed = record_of p.identity (marked (settled p.part (Suspended (erasing k)) false) armed) (Suspended (erasing k)) p.page

  module _ (m l : ℕ) (hm : m < 256) (hl : l < 256) where
    abbrev input : List ℕ
    input = 0xD8 ∷ 0x03 ∷ m ∷ l ∷ []

    at_block_3 : unit_base Block64 p.part.blocks (place_in Array (Three false) p.part.blocks input) ≡ 0x030000
    unfolding address_in high_first
    at_block_3 =
        let a = address_sent (Three false) input in
        let e : a % array_bytes p.part.blocks ≡ a = mod-eq_of_lt (omega arith) in
        let b : down_to block_bytes a ≡ 0x030000 = omega arith in
        rw e b

    sent_three : sent_as p input ≡ Three false
    sent_three = ap (λ (c : Option Command). addressing_by c p.part.bank) (known_here p r 0xD8 BlockErase64 refl) ∙ three_bytes p r

    unit_at : unit_base Block64 p.part.blocks (place_in Array (sent_as p input) p.part.blocks input) ≡ 0x030000
    unit_at = ap (λ (g : Addressing). unit_base Block64 p.part.blocks (place_in Array g p.part.blocks input)) sent_three ∙ at_block_3

    begun_at : begun_by p (erase Block64) input ≡ erasing 0
    unfolding erase_of
    begun_at = ap (λ (b : ℕ). Erase Block64 b 0) unit_at

    abbrev enabled_fits : Fitting (enabled p) (erase Block64) input
    enabled_fits =
        record {
          code = record { command = BlockErase64; known = known_here p r 0xD8 BlockErase64 refl; does = refl };
          some = omega arith;
          most = omega arith;
          right_length = refl;
          right_address = refl;
          free_target = ap (λ (o : Operation). target_free o p.part.blocks (enabled p).part.stored) begun_at
              ∙ target_stored Idle true p.part.stored (erasing 0) p.part.blocks
              ∙ ap not (free_alone p r 0x030000 free);
        }

    fits : Fitting p (erase Block64) input
    fits = standing_fits p Idle true p.page (erase Block64) input enabled_fits

    pub erase_begins : send (enabled p) input ≡ did (busy 0) 4
    erase_begins =
        commanded (enabled p) (enabled_ready p r).is_sound refl r.awake refl (erase Block64) input enabled_fits true
        ∙ ap (λ (o : Operation). did (standing (enabled p) (Busy o) true p.page) 4) begun_at
        ∙ ap (λ (q : Record). did q 4) (standing_again p Idle true p.page (Busy (erasing 0)) true p.page)

  begun_sound : sound (busy 0) ≡ true
  begun_sound =
      sym (ap (λ (t : Answer). sound t.next) (erase_begins 0 0 (omega arith) (omega arith)))
      ∙ transaction_sound (enabled p) (array_bytes p.part.blocks) rows_bytes true (input 0 0 (omega arith) (omega arith)) 4 (enabled_ready p r).is_sound

  module _ (k : ℕ) (h : k < 256) where
    ran_so : record_after k (busy 0) ≡ busy k
    ran_so = let z : 0 + k ≡ k = omega arith in run_record (busy 0) (erasing 0) refl k (omega arith) ∙ ap busy z

    busy_sound : sound (busy k) ≡ true
    busy_sound = sym (ap sound ran_so) ∙ run_sound k (busy 0) begun_sound

    pub erase_runs : tick (busy 0) k ≡ record { next = busy k; number = 0; done = k }
    erase_runs =
        ticks_run (busy 0) begun_sound k (omega (arith, ticks_most p r)) ∙ rw (ran_so, run_works (busy 0) (erasing 0) refl k (omega arith))

    pub erase_suspends : send (busy k) (0x75 ∷ []) ≡ did (halted k false) 1
    erase_suspends =
        suspends_now (busy k) (erasing k) busy_sound true 0x75 refl refl suspend_codes.0
        ∙ ap (λ (q : Record). did q 1) (standing_again p (Busy (erasing k)) true p.page (Suspended (erasing k)) false p.page)

    halted_sound : (armed : Bool) → sound (halted k armed) ≡ true
    halted_sound armed =
        marked_sound (halted k false).part (Suspended (erasing k)) p.page armed
        (sym (ap (λ (t : Answer). sound t.next) erase_suspends) ∙ transaction_sound (busy k) (array_bytes p.part.blocks) rows_bytes true (0x75 ∷ []) 1 busy_sound)

    pub halted_arms : send (halted k false) (0x66 ∷ []) ≡ did (halted k true) 1
    halted_arms = armed_now (halted k false) (halted_sound false) true r.awake

    pub halted_resets : send (halted k true) (0x99 ∷ []) ≡ did (fresh p.part.blocks p.identity p.part.stored) 1
    halted_resets =
        reset_now (halted k true) (halted_sound true) true r.awake refl
        ∙ rw (registers_again (Suspended (erasing k)) false p.part.stored Idle false, live_again (Suspended (erasing k)) false p.part.stored)

    -- the cut, as one of those that request 14 speaks of
    module _ (m l : ℕ) (hm : m < 256) (hl : l < 256) (xs rs : List ℕ) (lx : length xs ≡ array_bytes p.part.blocks) (lr : length rs ≡ rows_bytes) where
      abbrev write : Write
      write = write_of true true (input m l hm hl) (ticks k ∷ one_byte true 0x75 ∷ arm true ∷ [])

      abbrev first : Board
      first = board_of p xs rs

      abbrev last : Board
      last = after_calls (steps write) first

      rested : Rested first
      rested = record { is_sound = r.is_sound; idle = r.idle; awake = r.awake; own_array = lx; own_rows = lr }

      begun : Begun p (erase Block64) write
      begun = record { fitting = fits m l hm hl; checks_wait = refl }

      -- the record after each call
      enabled_is : record_after_call (enable true) p ≡ enabled p
      enabled_is = ap (λ (t : Answer). t.next) (enabled_so p r)

      start_is : at_start p write ≡ busy 0
      start_is = ap (record_after_call (transaction true (input m l hm hl) 4)) enabled_is ∙ ap (λ (t : Answer). t.next) (erase_begins m l hm hl)

      ran_is : record_after_calls (ticks k ∷ []) (at_start p write) ≡ busy k
      ran_is = ap (record_after_call (ticks k)) start_is ∙ ap (λ (t : Ticked). t.next) erase_runs

      suspended_is : record_after_calls (ticks k ∷ one_byte true 0x75 ∷ []) (at_start p write) ≡ halted k false
      suspended_is = ap (record_after_call (one_byte true 0x75)) ran_is ∙ ap (λ (t : Answer). t.next) erase_suspends

      armed_is : record_after_calls write.wait (at_start p write) ≡ halted k true
      armed_is = ap (record_after_call (arm true)) suspended_is ∙ ap (λ (t : Answer). t.next) halted_arms

      never : never_idle write.wait (at_start p write) ≡ true
      never =
          let not-idle : Record → Bool = λ q. not (is_idle q.phase) in
          and_in (ap not-idle ran_is) (and_in (ap not-idle suspended_is) (and_in (ap not-idle armed_is) refl))

      executed : (answer_to last true (0x99 ∷ []) 1).number ≡ 0
      executed = restart.reset_cuts first last Block64 write (ticks k ∷ one_byte true 0x75 ∷ []) [] true true rested begun refl never refl (run_exists (steps write) first)

      abbrev after : Board
      after = after_call (reset true) last

      cut_at : CutAt first Block64 write last after (by_reset true executed)
      cut_at = restart.at_the_cut first last after Block64 write rested begun (run_exists (steps write) first) never (by_reset true executed)

      done_is : done_in last.state.phase ≡ k
      done_is =
          ap (λ (q : Record). done_in q.phase) ((run_told (run_exists (steps write) first) r.is_sound lx lr).next ∙ armed_is)

      is_erasing : (j : ℕ) → erasing j ≡ Erase Block64 (unit_base Block64 p.part.blocks (aim p Block64 write)) j
      is_erasing j = ap (λ (b : ℕ). Erase Block64 b j) (sym (unit_at m l hm hl))

      abbrev Only : Record → Type 0
      Only q = NoOther Block64 (unit_base Block64 p.part.blocks (aim p Block64 write)) (running q.phase)

      only : alone p Block64 (aim p Block64 write) (steps write) ≡ true
      only =
          restart.nothing_else_lem p Block64 (aim p Block64 write) (steps write) r.is_sound
          (subst⁻¹ (λ (f : Phase). NoOther Block64 (unit_base Block64 p.part.blocks (aim p Block64 write)) (running f)) r.idle tt, (subst⁻¹ Only enabled_is tt, (subst⁻¹ Only start_is (is_erasing 0), (subst⁻¹ Only ran_is (is_erasing k), (subst⁻¹ Only suspended_is tt, tt)))))

      pages_done : (at : ℕ) → in_finished first Block64 write last Array at ≡ from_on 0x030000 (k * page_bytes) at
      unfolding ◌and◌
      pages_done at =
          ap (λ (d : ℕ). from_on (unit_base Block64 p.part.blocks (aim p Block64 write)) (d * page_bytes) at) done_is ∙ ap (λ (b : ℕ). from_on b (k * page_bytes) at) (unit_at m l hm hl)

      pub array_cut : after.array ≡ stretch xs 0x030000 (k * page_bytes)
      array_cut =
          ext_get_or 0 after.array (stretch xs 0x030000 (k * page_bytes)) (cut_at.lengths Array ∙ sym (stretch_length xs 0x030000 (k * page_bytes) (omega arith)))
          (λ at g.
          cut_bytes cut_at only Array at (subst (λ (n : ℕ). at < n) (cut_at.lengths Array) g)
          ∙ ap (λ (t : Bool). cond t erased_byte (get_or xs at 0)) (pages_done at)
          ∙ sym (stretch_at xs 0x030000 (k * page_bytes) at (omega arith)))

      pub rows_kept : after.rows ≡ rs
      unfolding ◌and◌
      rows_kept =
          ext_get_or 0 after.rows rs (cut_at.lengths Rows) (λ at g. cut_bytes cut_at only Rows at (subst (λ (n : ℕ). at < n) (cut_at.lengths Rows) g))
