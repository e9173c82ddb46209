-- Request 14: an interrupted erase, done over. In runs of the calls and over any number of cuts, for every size, every unit and every number of ticks done.
use Rattle.std.specs.Prelude.{ℕ, ◌<◌, ◌≡◌, Bool, true, false, List, [], ◌∷◌, ◌++◌, length, get_or}
use Rattle.types.specs.declared.Memory.{Memory}
use Rattle.types.specs.declared.EraseUnit.{EraseUnit}
use Rattle.types.specs.declared.Stored.{Stored}
use Rattle.types.specs.declared.Record.{Record}
use Rattle.paper.specs.Erase.{unit_pages, unit_base, erased_byte}
use Rattle.paper.specs.Registers.{bank_loaded}
use Rattle.paper.specs.Operations.{target_free, Touch}
use Rattle.paper.specs.History.{Call, ticks, record_after_calls}
use Rattle.paper.specs.Board.{Board, answer_to}
use Rattle.paper.specs.Soundness.{sound}
use Rattle.reset.specs.Closing.{arm, reset, all_aside}
use Rattle.suspended.specs.UnderWay.{done_in, Erasing, never_idle, runs_to_end}
use Rattle.laws.specs.Writes.{Kind, erase, Write, steps, at_start, write_of, begun_by, Fitting, Begun, Whole, Rested, Makes, in_unit_of, memory_in}
use Rattle.laws.specs.DriverLaws.{plainly}
use Rattle.restart.specs.Cuts.{up_again, Cut, registers_after, Event, calls, power, Lives, history_through, nothing_else, alone, RunsAlone, nothing_outside, AloneThrough, aim, SameUnit, in_first}

-- a place lies in the unit that an erase on the board b is aimed at; and in the pages of it that are done on the board c
abbrev pub in_aimed : Board → EraseUnit → Write → Memory → ℕ → Bool
in_aimed b u w m at = in_unit_of u b.state.part.blocks (aim b.state u w) m at

abbrev pub in_finished : Board → EraseUnit → Write → Board → Memory → ℕ → Bool
in_finished b u w c m at = in_first (done_in c.state.phase) u b.state.part.blocks (aim b.state u w) m at

-- "at each cut the unit is FFh in its finished pages and untouched in the rest": an erase on the board b, under way on the board c, cut there, and the board d after the cut.
-- The ticks done are those of the record at the cut. In the unit it does not matter if something else was written: a program that ran within a suspend reached no place of it. Outside of the unit all is untouched if nothing else was written.
-- After the cut the part is idle and awake, with WEL 0, as power-up makes it; a reset leaves it the registers that it had
pub record CutAt (b : Board) (u : EraseUnit) (w : Write) (c d : Board) (cut : Cut c d) : Type 0 where
  pub erasing : Erasing u (unit_base u b.state.part.blocks (aim b.state u w)) c.state.phase
  pub fewer : done_in c.state.phase < unit_pages u b.state.part.blocks
  pub finished : (m : Memory) (at : ℕ) → at < length (memory_in m b) → in_finished b u w c m at ≡ true → get_or (memory_in m d) at 0 ≡ erased_byte
  pub rest : (m : Memory) (at : ℕ) → at < length (memory_in m b) → in_aimed b u w m at ≡ true → in_finished b u w c m at ≡ false → get_or (memory_in m d) at 0 ≡ get_or (memory_in m b) at 0
  pub outside : alone b.state u (aim b.state u w) (steps w) ≡ true
      → (m : Memory) (at : ℕ) → at < length (memory_in m b) → in_aimed b u w m at ≡ false → get_or (memory_in m d) at 0 ≡ get_or (memory_in m b) at 0
  pub lengths : (m : Memory) → length (memory_in m d) ≡ length (memory_in m b)
  pub rested : Rested d
  pub latch : d.state.part.wel ≡ false
  pub unrefused : (up_again (registers_after cut) b.state).number ≡ 0
  pub fresh : d.state ≡ (up_again (registers_after cut) b.state).next

abbrev pub AtTheCut : Type 0
AtTheCut =
    (b c d : Board) (u : EraseUnit) (w : Write) → Rested b → Begun b.state (erase u) w → Makes b (steps w) c → never_idle w.wait (at_start b.state w) ≡ true → (cut : Cut c d)
    → CutAt b u w c d cut

-- 66h and 99h are such a cut, with no other executed or ignored transaction between them
abbrev pub ResetCuts : Type 0
ResetCuts =
    (b c : Board) (u : EraseUnit) (w : Write) (before between : List Call) (w1 w2 : Bool) → Rested b → Begun b.state (erase u) w → w.wait ≡ before ++ (arm w1 ∷ between)
    → never_idle w.wait (at_start b.state w) ≡ true → all_aside between (record_after_calls (before ++ (arm w1 ∷ [])) (at_start b.state w)) ≡ true → Makes b (steps w) c
    → (answer_to c w2 (0x99 ∷ []) 1).number ≡ 0

-- 06h is needed again: with WEL 0, as after a cut, an erase answers 26, and so does a program
abbrev pub NeedsEnable : Type 0
NeedsEnable =
    (b : Board) (kind : Kind) (wp : Bool) (i : List ℕ) → Rested b → b.state.part.wel ≡ false → Fitting b.state kind i → (answer_to b wp i (length i)).number ≡ 26

-- the cut may fall at every tick but the last: 06h, the erase and k ticks leave it under way with k ticks done
abbrev pub EveryTick : Type 0
EveryTick =
    (b : Board) (u : EraseUnit) (wp : Bool) (i : List ℕ) (k : ℕ) → Rested b → Fitting b.state (erase u) i → k < unit_pages u b.state.part.blocks
    → let w = write_of wp wp i (ticks k ∷ []) in
    (never_idle w.wait (at_start b.state w) ≡ true) × (done_in (record_after_calls (steps w) b.state).phase ≡ k)

-- nothing else is written where nothing runs but this unit's erase and register writes. So reads, refused and ignored transactions, suspends, resumes and ticks may come; a program within a suspend may not
abbrev pub NothingElse : Type 0
NothingElse =
    (p : Record) (u : EraseUnit) (a : ℕ) (cs : List Call) → sound p ≡ true → RunsAlone u (unit_base u p.part.blocks a) cs p → alone p u a cs ≡ true

-- and so over calls and power-ups
abbrev pub NothingElseThrough : Type 0
NothingElseThrough =
    (b c : Board) (u : EraseUnit) (a : ℕ) (es : List Event) → Rested b → Lives b es c → AloneThrough u (unit_base u b.state.part.blocks a) es b.state
    → nothing_else u b.state.part.blocks a (history_through es b.state) ≡ true

-- "an undisturbed erase" of the unit that holds a, on a part: taken, and run to the end with nothing but reads and ticks
pub record Undisturbed (p : Record) (u : EraseUnit) (a : ℕ) (v : Write) : Type 0 where
  pub whole : Whole p (erase u) v
  pub same_unit : SameUnit p u a v

-- "executed again and run to the end": the same unit, by whichever code, with any calls from its start on, suspends and resumes among them, that write nothing else
pub record Again (p : Record) (u : EraseUnit) (a : ℕ) (w : Write) : Type 0 where
  pub begun : Begun p (erase u) w
  pub same_unit : SameUnit p u a w
  pub ends : runs_to_end w.wait (at_start p w) ≡ true
  pub nothing_else_lem : alone p u a (steps w) ≡ true

-- the same array and rows
pub record SameMemory (e f : Board) : Type 0 where
  pub array : e.array ≡ f.array
  pub rows : e.rows ≡ f.rows

-- from its first start, on the board b, to its last, on the board c, anything may happen whose touches pass a test, any number of starts and cuts among it. The last erase then leaves the memory of an undisturbed one
abbrev pub AsUndisturbed : (EraseUnit → ℕ → ℕ → List Touch → Bool) → Type 0
AsUndisturbed test =
    (b c e f : Board) (es : List Event) (u : EraseUnit) (a : ℕ) (v w : Write) → Rested b → Lives b es c → test u b.state.part.blocks a (history_through es b.state) ≡ true
    → Rested c → Again c.state u a w → Makes c (steps w) e → Undisturbed b.state u a v → Makes b (steps v) f → SameMemory e f

-- "an erase dropped by reset or power-up, then executed again and run to the end with nothing else written from its first start on, leaves the array and rows of an undisturbed erase"
abbrev pub DoneOver : Type 0
DoneOver = AsUndisturbed nothing_else

-- beyond the request: programs of pages in the unit may come before the last start, run to their end or cut. So an update that erases and programs its unit can restart with the erase
abbrev pub UpdateRestarts : Type 0
UpdateRestarts = AsUndisturbed nothing_outside

-- an updater's try: 06h, the erase and k ticks, and then 66h and 99h, or a loss of power and a power-up with registers
pub data Try : Type 0 where
  reset_after : ℕ → Try
  power_after : ℕ → Stored → Try

abbrev pub tried : Bool → List ℕ → Try → List Event
tried wp i (reset_after k) = calls (steps (write_of wp wp i (ticks k ∷ arm wp ∷ [])) ++ (reset wp ∷ [])) ∷ []
tried wp i (power_after k g) = calls (steps (write_of wp wp i (ticks k ∷ []))) ∷ power g ∷ []

abbrev pub all_tried : Bool → List ℕ → List Try → List Event
all_tried wp i [] = []
all_tried wp i (t ∷ ts) = tried wp i t ++ all_tried wp i ts

-- it is cut before the last tick, since later there is nothing to cut; and a power-up gets registers under which the unit is free
abbrev pub Cuttable : Record → EraseUnit → List ℕ → Try → Type 0
Cuttable p u i (reset_after k) = k < unit_pages u p.part.blocks
Cuttable p u i (power_after k g) =
    (k < unit_pages u p.part.blocks) × (target_free (begun_by p (erase u) i) p.part.blocks g ≡ true)

pub data AllCuttable (p : Record) (u : EraseUnit) (i : List ℕ) : List Try → Type 0 where
  none : AllCuttable p u i []
  more : {t : Try} {ts : List Try} → Cuttable p u i t → AllCuttable p u i ts → AllCuttable p u i (t ∷ ts)

-- every number of tries, each cut at any tick but the last, and then 06h, the erase and all of its ticks, by the same bytes each time, with WP# at one level. The bank register is 00h at first, as a cut makes it, and as it always is but on the large part
abbrev pub EveryCut : Type 0
EveryCut =
    (b e f : Board) (u : EraseUnit) (wp : Bool) (i : List ℕ) (ts : List Try) → Rested b → b.state.part.bank ≡ bank_loaded → Fitting b.state (erase u) i → AllCuttable b.state u i ts
    → let last = steps (plainly b.state (erase u) wp wp i) in
    Lives b (all_tried wp i ts ++ (calls last ∷ [])) e → Makes b last f → SameMemory e f

pub record Restart : Type 0 where
  pub at_the_cut : AtTheCut
  pub reset_cuts : ResetCuts
  pub needs_enable : NeedsEnable
  pub every_tick : EveryTick
  pub nothing_else_lem : NothingElse
  pub nothing_else_through : NothingElseThrough
  pub done_over : DoneOver
  pub update_restarts : UpdateRestarts
  pub every_cut : EveryCut
