-- An interrupted erase, done over, from C: what calls and power-ups from C lead to is what the events lead to that they stand for.
use Rattle.std.specs.Prelude.{Some}
use Prim.Native.Nat.{ℕ, zero, suc}
use mathlib.Core.Path.{◌≡◌, refl, sym, ap, ◌∙◌, subst, subst⁻¹}
use mathlib.Core.Bool.{Bool, true}
use mathlib.Core.List.{List, [], ◌∷◌}
use native.Mathlib.Omega.{arith}
use lib.ListN.{length, get_or}
use lib.Dec.{eqb}
use Rattle.types.specs.declared.EraseUnit.{EraseUnit}
use Rattle.types.specs.declared.Command.TheVariants.{Reset}
use Rattle.types.specs.declared.Identity.{Identity}
use Rattle.types.specs.declared.Stored.{Stored}
use Rattle.types.specs.declared.PoweredUp.{PoweredUp}
use Rattle.types.specs.declared.Answer.{Answer}
use Rattle.types.specs.declared.Record.{Record}
use Rattle.paper.specs.Sizes.{array_bytes}
use Rattle.words.proofs.Tests.{and_l, and_in}
use Rattle.paper.specs.Soundness.{sound}
use Rattle.paper.specs.Numbers.{ignored_number}
use Rattle.paper.specs.Calls.{powered_up, transacted}
use Rattle.paper.specs.History.{Call, answer_to_byte}
use Rattle.paper.specs.Board.{Board, board_of, answer_to, after_call}
use Rattle.paper.proofs.Table.{known}
use Rattle.paper.proofs.Kept.{powered_fresh}
use Rattle.paper.proofs.Answers.{executes, ignores}
use Rattle.history.specs.Course.{course_of}
use Rattle.history.proofs.Told.{run_told}
use Rattle.history.proofs.Joined.{run_folded}
use Rattle.reset.specs.Closing.{reset}
use Rattle.reset.proofs.Aside.{calls_identity}
use Rattle.yawlspar.specs.Face.{packed, Asked, identity_of, registers_of, up_of, power_up_answer, power_up_bytes}
use Rattle.suspended.specs.UnderWay.{never_idle}
use Rattle.laws.specs.Writes.{erase, Write, steps, at_start, Begun, Makes}
use Rattle.restart.specs.Cuts.{up_again, powered_again, Cut, by_reset, by_power, registers_after, calls, Lives, over, sent, up, history_through, nothing_outside}
use Rattle.restart.specs.Restart.{Again}
use Rattle.restart.proofs.Lives.{up_size, lives_told}
use Rattle.restart.proofs.Restart.{restart}
use Rattle.from_c.specs.Driven.{Lent, lent, CCall, transact, calls_of, Driven, packed_steps}
use Rattle.from_c.specs.Holding.{Holding}
use Rattle.from_c.specs.LawsFromC.{board_in, RestedIn}
use Rattle.from_c.specs.RestartFromC as c
use Rattle.from_c.specs.RestartFromC.{CEvent, drives, powers, SamePart, events_of, LivesInC, driven, powered, LivedFromC, CutInC, registers_in_c, CutAtInC, DoneInC, SameMemoryInC, RestartFromC}
use Rattle.from_c.proofs.FromC.{up_unrefused, up_holds}
use Rattle.from_c.proofs.Reset.{sent_of}
use Rattle.from_c.proofs.LawsFromC.{made_from_c, rested_board}

-- a power-up of the same part, into a buffer
module _ (p : Record) (q : Asked) (bs : List ℕ) (n-is : q.blocks ≡ p.part.blocks) (id-is : identity_of q ≡ p.identity) (z : power_up_answer (length bs) q ≡ 0) where
  up_is : up_again (registers_of q) p ≡ up_of q
  up_is =
      ap (λ (n : ℕ). powered_up n p.identity (registers_of q)) (sym n-is) ∙ ap (λ (id : Identity). powered_up q.blocks id (registers_of q)) (sym id-is)

  up_number_lem : (up_again (registers_of q) p).number ≡ 0
  up_number_lem = ap (λ (t : PoweredUp). t.number) up_is ∙ up_unrefused q bs z

  up_blocks : (up_of q).next.part.blocks ≡ p.part.blocks
  up_blocks = sym (ap (λ (t : PoweredUp). t.next.part.blocks) up_is) ∙ up_size (registers_of q) p up_number_lem

  up_identity : (up_of q).next.identity ≡ p.identity
  up_identity = ap (λ (r : Record). r.identity) (powered_fresh q.blocks (identity_of q) (registers_of q) (up_unrefused q bs z)) ∙ id-is

  -- on what l lends
  module _ (l : Lent) (h : Holding l p) where
    up_held : Holding (lent (power_up_bytes q bs) l.array l.rows) (up_of q).next
    up_held = up_holds q bs z l.array l.rows (h.array ∙ ap array_bytes (sym n-is)) h.rows

    up_board : powered_again (registers_of q) (board_in l p) ≡ board_in (lent (power_up_bytes q bs) l.array l.rows) (up_of q).next
    up_board = ap (λ (t : PoweredUp). board_of t.next l.array l.rows) up_is

-- the same part as before is the same part as then
same_part : {n m : ℕ} {id jd : Identity} (es : List CEvent) → m ≡ n → jd ≡ id → SamePart n id es → SamePart m jd es
same_part {n} {m} {id} {jd} es e f h = subst⁻¹ (λ (k : ℕ). SamePart k jd es) e (subst⁻¹ (λ (j : Identity). SamePart n j es) f h)

-- what events from C lead to
record Led (p : Record) (l : Lent) (es : List CEvent) (m : Lent) : Type 0 where
  next : Record
  holding : Holding m next
  lives : Lives (board_in l p) (events_of es p) (board_in m next)

lives_led : (l m : Lent) (p : Record) (es : List CEvent) → Holding l p → SamePart p.part.blocks p.identity es → LivesInC l es m → Led p l es m
lives_led l m p [] h same c.over = record { next = p; holding = h; lives = over }
lives_led l m p (drives cs ∷ es) h same (driven {m = k} chain rest) =
    let made = made_from_c l k p cs h chain in
    let t = run_told made.made h.is_sound h.array h.rows in
    let on = lives_led k m made.next es made.holding (same_part es t.size (ap (λ (r : Record). r.identity) t.next ∙ calls_identity (calls_of cs p) p) same) rest in
    record { next = on.next; holding = on.holding; lives = subst (λ (r : Record). Lives (board_in l p) (calls (calls_of cs p) ∷ events_of es r) (board_in m on.next)) t.next (sent made.made on.lives) }
lives_led l m p (powers q bs ∷ es) h (n-is, id-is, same) (powered z rest) =
    let on = lives_led (lent (power_up_bytes q bs) l.array l.rows) m (up_of q).next es (up_held p q bs n-is id-is z l h) (same_part es (up_blocks p q bs n-is id-is z) (up_identity p q bs n-is id-is z) same) rest in
    record { next = on.next; holding = on.holding; lives = up (up_number_lem p q bs n-is id-is z) (subst⁻¹ (λ (b : Board). Lives b (events_of es (up_of q).next) (board_in m on.next)) (up_board p q bs n-is id-is z l h) on.lives) }

lives_from_c : (l m : Lent) (p : Record) (es : List CEvent) → Holding l p → SamePart p.part.blocks p.identity es → LivesInC l es m → LivedFromC p l es m
lives_from_c l m p es h same lives =
    let on = lives_led l m p es h same lives in
    record { next = on.next; holding = on.holding; is = (lives_told (record { is_sound = h.is_sound; own_array = h.array; own_rows = h.rows }) on.lives).next; lives = on.lives }

-- a part that 99h is sent to: C hears that it was executed only if it was
reset_heard : (p : Record) → sound p ≡ true → (wp : Bool) (n : ℕ) → ignored_number (Some Reset) p.part p.phase (0x99 ∷ []) wp ≡ n
    → packed (answer_to_byte wp 0x99 p).number (answer_to_byte wp 0x99 p).first ≡ packed 0 1 → (answer_to_byte wp 0x99 p).number ≡ 0
reset_heard p s wp zero e h =
    ap (λ (t : Answer). t.number) (executes p s wp Reset (0x99 ∷ []) (omega arith) (omega arith) (known 0x99 Reset refl refl p.part.blocks p.part.bank) e)
reset_heard p s wp (suc n) e h =
    let t = ignores p s wp Reset (0x99 ∷ []) (omega arith) (omega arith) (known 0x99 Reset refl refl p.part.blocks p.part.bank) n e in
    let k : packed (suc n) 1 ≡ packed 0 1 = sym (ap (λ (a : Answer). packed a.number a.first) t) ∙ h in
    absurd (omega arith)

-- a cut from C is a cut of the part, with the same registers after it; what is lent then holds the part's record
record CutHeld {n : ℕ} {id : Identity} (m : Lent) (at : Record) (k : Lent) (c : CutInC n id m k) : Type 0 where
  after : Record
  held : Holding k after
  board : Board
  is : board_in k after ≡ board
  cut : Cut (board_in m at) board
  registers : registers_after cut ≡ registers_in_c c at

cut_held : {n : ℕ} {id : Identity} (m : Lent) (at : Record) (k : Lent) → Holding m at → at.part.blocks ≡ n → at.identity ≡ id → (c : CutInC n id m k) → CutHeld m at k c
cut_held m at k h n-is id-is (c.by_reset wp x l chain hears) =
    let made = made_from_c m k at (transact wp (0x99 ∷ []) (x ∷ []) ∷ []) h chain in
    let calls_are = sent_of wp 0x99 x [] at l in
    let run = subst (λ (cs : List Call). Makes (board_in m at) cs (board_in k made.next)) calls_are made.made in
    let told : packed 0 1 ∷ [] ≡ packed_steps (course_of (reset (eqb wp 1) ∷ []) at (length m.array) (length m.rows)) = sym hears ∙ made.plain_answers (and_in refl refl) ∙ ap (λ (cs : List Call). packed_steps (course_of cs at (length m.array) (length m.rows))) calls_are in
    let own : answer_to (board_in m at) (eqb wp 1) (0x99 ∷ []) 1 ≡ answer_to_byte (eqb wp 1) 0x99 at = ap (λ (n : ℕ). transacted at n (length m.rows) (eqb wp 1) (0x99 ∷ []) 1) h.array ∙ ap (λ (n : ℕ). transacted at (array_bytes at.part.blocks) n (eqb wp 1) (0x99 ∷ []) 1) h.rows in
    let z = reset_heard at h.is_sound (eqb wp 1) (ignored_number (Some Reset) at.part at.phase (0x99 ∷ []) (eqb wp 1)) refl (sym (ap (λ (a : Answer). packed a.number a.first) own) ∙ sym (ap (λ (ks : List ℕ). get_or ks 0 0) told)) in
    record { after = made.next; held = made.holding; board = after_call (reset (eqb wp 1)) (board_in m at); is = run_folded run; cut = by_reset (eqb wp 1) (ap (λ (a : Answer). a.number) own ∙ z); registers = refl }
cut_held m at k h n-is id-is (c.by_power q bs blocks-are id-are z) =
    let e = blocks-are ∙ sym n-is in
    let f = id-are ∙ sym id-is in
    record { after = (up_of q).next; held = up_held at q bs e f z m h; board = powered_again (registers_of q) (board_in m at); is = sym (up_board at q bs e f z m h); cut = by_power (registers_of q) (up_number_lem at q bs e f z); registers = refl }

cut_from_c : (l m k : Lent) (p : Record) (u : EraseUnit) (w : Write) (cs : List CCall) → RestedIn l p → Begun p (erase u) w → calls_of cs p ≡ steps w → Driven l cs m
    → never_idle w.wait (at_start p w) ≡ true → (c : CutInC p.part.blocks p.identity m k) → CutAtInC l p u w m k c
cut_from_c l m k p u w cs r begun stands chain never cut =
    let made = made_from_c l m p cs r.holding chain in
    let run = subst (λ (ds : List Call). Makes (board_in l p) ds (board_in m made.next)) stands made.made in
    let t = run_told run r.holding.is_sound r.holding.array r.holding.rows in
    let held = cut_held m made.next k made.holding t.size (ap (λ (q : Record). q.identity) t.next ∙ calls_identity (steps w) p) cut in
    let cut-here = subst⁻¹ (Cut (board_in m made.next)) held.is held.cut in
    let at_the_cut = restart.at_the_cut (board_in l p) (board_in m made.next) held.board u w (rested_board l p r) begun run never held.cut in
    record {
      at = made.next;
      after = held.after;
      held_at = made.holding;
      held_after = held.held;
      cut = cut-here;
      told = restart.at_the_cut (board_in l p) (board_in m made.next) (board_in k held.after) u w (rested_board l p r) begun run never cut-here;
      fresh = ap (λ (b : Board). b.state) held.is ∙ at_the_cut.fresh ∙ ap (λ (g : Stored). (up_again g p).next) held.registers;
    }

-- an erase that is done over
update_from_c : (l m k o : Lent) (p : Record) (u : EraseUnit) (a : ℕ) (es : List CEvent) → DoneInC l p u a es m k o
    → nothing_outside u p.part.blocks a (history_through (events_of es p) p) ≡ true → SameMemoryInC k o
update_from_c l m k o p u a es d out =
    let lived = lives_from_c l m p es d.rested.holding d.same_part d.lives in
    let q = lived.next in
    let rested : RestedIn m q = record { holding = lived.holding; idle = ap (λ (r : Record). r.phase) lived.is ∙ d.idle; awake = ap (λ (r : Record). r.part.asleep) lived.is ∙ d.awake } in
    let last = made_from_c m k q d.last_calls lived.holding d.last_driven in
    let last-run = subst (λ (cs : List Call). Makes (board_in m q) cs (board_in k last.next)) (ap (calls_of d.last_calls) lived.is ∙ d.last_stands) last.made in
    let only = made_from_c l o p d.only_calls d.rested.holding d.only_driven in
    let only-run = subst (λ (cs : List Call). Makes (board_in l p) cs (board_in o only.next)) d.only_stands only.made in
    let same = restart.update_restarts (board_in l p) (board_in m q) (board_in k last.next) (board_in o only.next) (events_of es p) u a d.only d.last (rested_board l p d.rested) lived.lives out (rested_board m q rested) (subst⁻¹ (λ (r : Record). Again r u a d.last) lived.is d.again) last-run d.undisturbed only-run in
    record { array = same.array; rows = same.rows }

pub restart_from_c : RestartFromC
restart_from_c =
    record {
      lives = lives_from_c;
      at_the_cut = cut_from_c;
      done_over = λ l m k o p u a es d only. update_from_c l m k o p u a es d (and_l _ _ only);
      update_restarts = update_from_c;
    }
