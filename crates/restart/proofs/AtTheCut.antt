-- What a cut leaves: the pages of the unit that are done hold FFh, the others what they held; the part is as power-up makes it.
use Prim.Native.Nat.{ℕ, ◌<◌}
use mathlib.Core.Path.{◌≡◌, refl, sym, ap, ◌∙◌, subst, subst⁻¹}
use mathlib.Core.Bool.{Bool, true, false, cond}
use mathlib.Core.List.{List, [], ◌∷◌}
use lib.ListN.{length, get_or}
use Rattle.types.specs.declared.Memory.{Memory}
use Rattle.types.specs.declared.Memory.TheVariants.{Array, Rows}
use Rattle.types.specs.declared.EraseUnit.{EraseUnit}
use Rattle.types.specs.declared.Operation.TheVariants.{Erase}
use Rattle.types.specs.declared.Command.TheVariants.{Reset}
use Rattle.types.specs.declared.Identity.{Identity}
use Rattle.types.specs.declared.Stored.{Stored}
use Rattle.types.specs.declared.PoweredUp.{PoweredUp}
use Rattle.types.specs.declared.Answer.{Answer}
use Rattle.types.specs.declared.Record.{Record}
use Rattle.words.proofs.Tests.{and_l}
use Rattle.paper.specs.Sizes.{array_bytes}
use Rattle.paper.specs.Erase.{unit_pages, unit_base, erased_byte}
use Rattle.paper.specs.Registers.{stored_bits}
use Rattle.paper.specs.Records.{fresh}
use Rattle.paper.specs.Soundness.{sound}
use Rattle.paper.specs.Calls.{powered_up}
use Rattle.paper.specs.History.{Call, record_after_calls, history, byte_after_all}
use Rattle.paper.specs.Board.{Board, Own, answer_to, after_call}
use Rattle.paper.proofs.Table.{known}
use Rattle.paper.proofs.Soundness.{sound_parts}
use Rattle.paper.proofs.Kept.{powered_fresh}
use Rattle.paper.proofs.Answers.{executed_so}
use Rattle.history.proofs.Told.{Told}
use Rattle.history.proofs.Calls.{calls_sound, calls_append}
use Rattle.reset.specs.Closing.{arm, reset, all_aside}
use Rattle.reset.proofs.Aside.{calls_identity}
use Rattle.reset.proofs.Steps.{not_idle_awake, reset_now}
use Rattle.reset.proofs.Armed.{Armed, armed_after, sound_powered}
use Rattle.suspended.specs.UnderWay.{done_in, never_idle}
use Rattle.suspended.proofs.UnderWay.{under_in_order, under_not_idle, never_first}
use Rattle.suspended.proofs.Proceeds.{Proceeds, calls_proceed, done_in_unit}
use Rattle.laws.specs.Writes.{erase, Write, steps, at_start, Begun, Rested, Makes, memory_in}
use Rattle.laws.proofs.Boards.{rested_own, made_told, made_own, told_length, told_bytes}
use Rattle.laws.proofs.Begun.{start_sound, start_size, steps_record, steps_bytes}
use Rattle.restart.specs.Cuts.{up_again, Cut, by_reset, by_power, registers_after, alone, aim}
use Rattle.restart.specs.Restart.{in_aimed, in_finished, CutAt, AtTheCut, ResetCuts}
use Rattle.restart.proofs.Outside.{outside_stays}
use Rattle.restart.proofs.Lives.{up_own, memory_again}
use Rattle.restart.proofs.Started.{start_erasing, at_first}

-- the board after a cut: the part is as a power-up makes it that is not refused, and its memory as it was
record Renewed (c d : Board) (g : Stored) : Type 0 where
  unrefused : (up_again g c.state).number ≡ 0
  next : d.state ≡ (up_again g c.state).next
  memory : (m : Memory) → memory_in m d ≡ memory_in m c

-- 99h, executed
module _ (c : Board) (wp : Bool) (z : (answer_to c wp (0x99 ∷ []) 1).number ≡ 0) where
  abbrev n : ℕ
  n = c.state.part.blocks

  abbrev held : Stored
  held = c.state.part.stored

  pub reset_next : (after_call (reset wp) c).state ≡ fresh n c.state.identity held
  reset_next =
      ap (λ (a : Answer). a.next) (executed_so c.state (length c.array) (length c.rows) wp (0x99 ∷ []) 1 Reset (known 0x99 Reset refl refl n c.state.part.bank) z)

  reset_memory : (m : Memory) → memory_in m (after_call (reset wp) c) ≡ memory_in m c
  reset_memory Array = refl
  reset_memory Rows = refl

  reset_renews : Own c → Renewed c (after_call (reset wp) c) (stored_bits held)
  reset_renews o =
      let up = sound_powered c.state o.is_sound in
      record { unrefused = ap (λ (t : PoweredUp). t.number) up; next = reset_next ∙ sym (ap (λ (t : PoweredUp). t.next) up); memory = reset_memory }

cut_renews : {c d : Board} → Own c → (cut : Cut c d) → Renewed c d (registers_after cut)
cut_renews {c} o (by_reset wp z) = reset_renews c wp z o
cut_renews {c} o (by_power g z) =
    record { unrefused = z; next = refl; memory = λ m. memory_again m g c }

-- such a board is idle and awake
module _ {c d : Board} (o : Own c) (g : Stored) (e : Renewed c d g) where
  renewed_fresh : d.state ≡ fresh c.state.part.blocks c.state.identity g
  renewed_fresh = e.next ∙ powered_fresh c.state.part.blocks c.state.identity g e.unrefused

  renewed_rested : Rested d
  renewed_rested =
      let up = up_own c g o e.unrefused in
      record {
        is_sound = ap sound e.next ∙ up.is_sound;
        idle = ap (λ (p : Record). p.phase) renewed_fresh;
        awake = ap (λ (p : Record). p.part.asleep) renewed_fresh;
        own_array = ap (λ (xs : List ℕ). length xs) (e.memory Array) ∙ up.own_array ∙ sym (ap (λ (p : Record). array_bytes p.part.blocks) e.next);
        own_rows = ap (λ (xs : List ℕ). length xs) (e.memory Rows) ∙ o.own_rows;
      }

-- an erase that is begun, and calls from its start on after none of which the part is idle
module _ (b : Board) (r : Rested b) (u : EraseUnit) (w : Write) (h : Begun b.state (erase u) w) (c : Board) (run : Makes b (steps w) c) (never : never_idle w.wait (at_start b.state w) ≡ true) where
  abbrev p : Record
  p = b.state

  abbrev base : ℕ
  base = unit_base u p.part.blocks (aim p u w)

  abbrev start : Record
  start = at_start p w

  told : Told (steps w) b.state b.array b.rows c.state c.array c.rows
  told = made_told (rested_own b r) run

  cut_record : c.state ≡ record_after_calls w.wait start
  cut_record = told.next ∙ steps_record b r (erase u) w h

  proceeds : Proceeds u base p.part.blocks (history w.wait start) start.phase c.state.phase
  proceeds =
      subst⁻¹ (λ (q : Record). Proceeds u base p.part.blocks (history w.wait start) start.phase q.phase) cut_record
      (calls_proceed u base p.part.blocks w.wait start (start_sound b r (erase u) w h) (start_size b r (erase u) w h) (start_erasing b r u w h) never)

  abbrev done : ℕ
  done = done_in c.state.phase

  fewer : done < unit_pages u p.part.blocks
  fewer =
      subst (λ (n : ℕ). done < unit_pages u n) told.size (under_in_order c.state (Erase u base done) proceeds.erasing told.next_sound).going

  in-the-unit : (m : Memory) (at : ℕ) → at < length (memory_in m b) → in_aimed b u w m at ≡ true → get_or (memory_in m c) at 0 ≡ cond (in_finished b u w c m at) erased_byte (get_or (memory_in m b) at 0)
  in-the-unit m at l i =
      let x = get_or (memory_in m b) at 0 in
      told_bytes told m at l
      ∙ steps_bytes b r (erase u) w h m at x
      ∙ ap (byte_after_all m at (history w.wait start)) (sym (at_first b r u w h m at x))
      ∙ proceeds.bytes m at x i

  module _ (d : Board) (cut : Cut c d) where
    own : Own c
    own = made_own (rested_own b r) run

    abbrev given : Stored
    given = registers_after cut

    renewed : Renewed c d given
    renewed = cut_renews own cut

    -- a power-up of the part at the cut is one of the part that it was
    again : up_again given c.state ≡ up_again given p
    again =
        ap (λ (n : ℕ). powered_up n c.state.identity given) told.size
        ∙ ap (λ (id : Identity). powered_up p.part.blocks id given) (ap (λ (q : Record). q.identity) told.next ∙ calls_identity (steps w) p)

    kept : (m : Memory) (at : ℕ) → get_or (memory_in m d) at 0 ≡ get_or (memory_in m c) at 0
    kept m at = ap (λ (xs : List ℕ). get_or xs at 0) (renewed.memory m)

    cut_at : CutAt b u w c d cut
    cut_at =
        record {
          erasing = proceeds.erasing;
          fewer = fewer;
          finished = λ m at l f.
              kept m at
              ∙ in-the-unit m at l (done_in_unit m at u base done p.part.blocks fewer f)
              ∙ ap (λ (t : Bool). cond t erased_byte (get_or (memory_in m b) at 0)) f;
          rest = λ m at l i f.
              kept m at ∙ in-the-unit m at l i ∙ ap (λ (t : Bool). cond t erased_byte (get_or (memory_in m b) at 0)) f;
          outside = λ only m at l i.
              kept m at
              ∙ told_bytes told m at l
              ∙ outside_stays u p.part.blocks (aim p u w) m at i (history (steps w) p) (get_or (memory_in m b) at 0) (and_l _ _ only);
          lengths = λ m. ap (λ (xs : List ℕ). length xs) (renewed.memory m) ∙ told_length told m;
          rested = renewed_rested own given renewed;
          latch = ap (λ (q : Record). q.part.wel) (renewed_fresh own given renewed);
          unrefused = sym (ap (λ (t : PoweredUp). t.number) again) ∙ renewed.unrefused;
          fresh = renewed.next ∙ ap (λ (t : PoweredUp). t.next) again;
        }

pub at_the_cut : AtTheCut
at_the_cut b c d u w r h run never cut = cut_at b r u w h c run never d cut

-- where nothing else was written, each byte is FFh in the pages that are done, and else as it was
module _ {b c d : Board} {u : EraseUnit} {w : Write} {cut : Cut c d} (e : CutAt b u w c d cut) (only : alone b.state u (aim b.state u w) (steps w) ≡ true) where
  first_or_not : (m : Memory) (at : ℕ) → at < length (memory_in m b) → (t s : Bool) → in_finished b u w c m at ≡ t → in_aimed b u w m at ≡ s
      → get_or (memory_in m d) at 0 ≡ cond t erased_byte (get_or (memory_in m b) at 0)
  first_or_not m at l true s f i = e.finished m at l f
  first_or_not m at l false true f i = e.rest m at l i f
  first_or_not m at l false false f i = e.outside only m at l i

  pub cut_bytes : (m : Memory) (at : ℕ) → at < length (memory_in m b)
      → get_or (memory_in m d) at 0 ≡ cond (in_finished b u w c m at) erased_byte (get_or (memory_in m b) at 0)
  cut_bytes m at l = first_or_not m at l (in_finished b u w c m at) (in_aimed b u w m at) refl refl

-- 66h arms the part, since it is not idle, and so awake
pub reset_cuts : ResetCuts
reset_cuts b c u w before between w1 w2 r h wait never aside run =
    let base = unit_base u b.state.part.blocks (aim b.state u w) in
    let start = at_start b.state w in
    let q = record_after_calls before start in
    let q-sound = calls_sound before start (start_sound b r (erase u) w h) in
    let never-before = never_first before (arm w1 ∷ between) start (subst (λ (cs : List Call). never_idle cs start ≡ true) wait never) in
    let erasing = (calls_proceed u base b.state.part.blocks before start (start_sound b r (erase u) w h) (start_size b r (erase u) w h) (start_erasing b r u w h) never-before).erasing in
    let awake = not_idle_awake q.phase q.part.asleep (under_not_idle q.phase (Erase u base (done_in q.phase)) erasing) (sound_parts q q-sound).sleep in
    let armed = armed_after q w1 between q-sound awake (subst (λ (s : Record). all_aside between s ≡ true) (calls_append before (arm w1 ∷ []) start) aside) in
    let last : c.state ≡ record_after_calls (arm w1 ∷ between) q = (made_told (rested_own b r) run).next ∙ steps_record b r (erase u) w h ∙ ap (λ (cs : List Call). record_after_calls cs start) wait ∙ calls_append before (arm w1 ∷ between) start in
    let ready = subst⁻¹ Armed last armed in
    let own = made_own (rested_own b r) run in
    rw (own.own_array, own.own_rows) (ap (λ (a : Answer). a.number) (reset_now c.state ready.is_sound w2 ready.awake ready.is_armed))
