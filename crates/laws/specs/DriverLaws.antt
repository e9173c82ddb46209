-- Laws for the driver team, request 9: what writes leave when each is taken and run to the end, in runs of the calls on an idle, awake part of any size, with WP# at any level. One law covers the array and the rows: "State it for rows too".
use Rattle.std.specs.Prelude.{ℕ, ◌+◌, ◌≤◌, ◌<◌, ◌≡◌, Bool, true, false, ◌↔◌, List, [], ◌∷◌, ◌++◌, length, get_or}
use Rattle.types.specs.declared.Memory.{Memory}
use Rattle.types.specs.declared.EraseUnit.{EraseUnit}
use Rattle.types.specs.declared.Phase.TheVariants.{Idle}
use Rattle.types.specs.declared.Record.{Record}
use Rattle.paper.specs.Sizes.{page_bytes}
use Rattle.paper.specs.Program.{page_base, page_place}
use Rattle.paper.specs.Erase.{memory_of, erased_byte}
use Rattle.paper.specs.Soundness.{sound}
use Rattle.paper.specs.Operations.{ticks_in_all}
use Rattle.paper.specs.History.{Call, ticks}
use Rattle.paper.specs.Board.{Board, answer_to, after_calls}
use Rattle.laws.specs.Waiting.{all_wait}
use Rattle.laws.specs.Writes.{Kind, program, erase, Write, opening, steps, write_of, begun_by, OfKind, Fitting, Whole, Rested, Makes, place_of, data_of, in_page_of, in_unit_of, memory_in, Done}

-- two writes, one after the other: where each of them leads, and what it does
pub record BothDone (b : Board) (first : Kind) (v : Write) (second : Kind) (w : Write) (c : Board) : Type 0 where
  pub between : Board
  pub leads : Makes b (steps v) between
  pub does : Done b first v between
  pub leads_on : Makes between (steps w) c
  pub does_then : Done between second w c

-- the calls of writes, one after the other
abbrev pub all_steps : List Write → List Call
all_steps [] = []
all_steps (w ∷ ws) = steps w ++ all_steps ws

-- writes each of which is taken and run to the end, and passes a test
pub data AllWhole (p : Record) (Q : Kind → Write → Type 0) : List Write → Type 0 where
  none : AllWhole p Q []
  more : {w : Write} {ws : List Write} (kind : Kind) → Whole p kind w → Q kind w → AllWhole p Q ws → AllWhole p Q (w ∷ ws)

-- the test that every write passes
abbrev pub Any : Kind → Write → Type 0
Any kind w = Unit {0}

-- "executed": after 06h and checks an idle, awake part executes exactly the inputs of a kind that fit it
abbrev pub FitsExactly : Type 0
FitsExactly =
    (b : Board) (kind : Kind) (w : Write) → Rested b → OfKind b.state.part.blocks b.state.part.bank kind w.input → all_wait b.state.part.blocks b.state.part.bank w.checks ≡ true
    → ((answer_to (after_calls (opening w) b) w.sent_at w.input (length w.input)).number ≡ 0) ↔ Fitting b.state kind w.input

-- the plainest write: 06h, the command, and one tick call of as many ticks as the operation takes
abbrev pub plainly : Record → Kind → Bool → Bool → List ℕ → Write
plainly p kind first second i = write_of first second i (ticks (ticks_in_all (begun_by p kind i) p.part.blocks) ∷ [])

-- it is whole where its input fits: no operation takes more ticks than a call may ask
abbrev pub PlainlyWhole : Type 0
PlainlyWhole =
    (p : Record) (kind : Kind) (first second : Bool) (i : List ℕ) → sound p ≡ true → p.phase ≡ Idle → p.part.asleep ≡ false → Fitting p kind i → Whole p kind (plainly p kind first second i)

-- a whole write leaves what its kind says
abbrev pub WritesDo : Type 0
WritesDo = (b e : Board) (kind : Kind) (w : Write) → Rested b → Whole b.state kind w → Makes b (steps w) e → Done b kind w e

-- and leaves an idle, awake part, on which every write that was whole before still is: writes can follow one another
pub record AsBefore (b e : Board) : Type 0 where
  pub rested : Rested e
  pub whole : (kind : Kind) (w : Write) → Whole b.state kind w → Whole e.state kind w

abbrev pub WritesFollow : Type 0
WritesFollow = (b e : Board) (ws : List Write) → Rested b → AllWhole b.state Any ws → Makes b (all_steps ws) e → AsBefore b e

-- "two programs of the same unprotected page, both run to the end with write enable before each, leave the same page in either order": the same array, rows and record; outside of the page each byte is as it was. The part is idle and WEL is 0 after each
pub record SameEitherWay (b : Board) (m : Memory) (v w : Write) (c e : Board) : Type 0 where
  pub same : c ≡ e
  pub one_way : BothDone b (program m) v (program m) w c
  pub other_way : BothDone b (program m) w (program m) v e
  pub untouched : (k : Memory) (at : ℕ) → at < length (memory_in k b) → in_page_of m (place_of b.state m v.input) k at ≡ false → get_or (memory_in k c) at 0 ≡ get_or (memory_in k b) at 0

abbrev pub EitherOrder : Type 0
EitherOrder =
    (b c e : Board) (m : Memory) (v w : Write) → Rested b → Whole b.state (program m) v → Whole b.state (program m) w
    → page_base (place_of b.state m v.input) ≡ page_base (place_of b.state m w.input)
    → Makes b (steps v ++ steps w) c → Makes b (steps w ++ steps v) e → SameEitherWay b m v w c e

-- programs of different pages, of the array or of rows, can go in either order too
abbrev pub AnyOrder : Type 0
AnyOrder =
    (b c e : Board) (m k : Memory) (v w : Write) → Rested b → Whole b.state (program m) v → Whole b.state (program k) w
    → Makes b (steps v ++ steps w) c → Makes b (steps w ++ steps v) e → c ≡ e

-- two programs of the same data at the same place, by one code or by two
pub record SameProgram (p : Record) (m : Memory) (v w : Write) : Type 0 where
  pub place : place_of p m w.input ≡ place_of p m v.input
  pub same_data : data_of p w.input ≡ data_of p v.input

-- "programming the same data twice leaves what once leaves"
abbrev pub TwiceIsOnce : Type 0
TwiceIsOnce =
    (b c e : Board) (m : Memory) (v w : Write) → Rested b → Whole b.state (program m) v → Whole b.state (program m) w → SameProgram b.state m v w
    → Makes b (steps v) c → Makes b (steps v ++ steps w) e → e ≡ c

-- "an executed erase run to the end after any of them leaves FFh in its unit", and nothing else changed
pub record Erased (c : Board) (u : EraseUnit) (w : Write) (e : Board) : Type 0 where
  pub done : Done c (erase u) w e
  pub filled : (at : ℕ) → at < length (memory_in (memory_of u) c) → in_unit_of u c.state.part.blocks (place_of c.state (memory_of u) w.input) (memory_of u) at ≡ true → get_or (memory_in (memory_of u) e) at 0 ≡ erased_byte
  pub untouched : (k : Memory) (at : ℕ) → at < length (memory_in k c) → in_unit_of u c.state.part.blocks (place_of c.state (memory_of u) w.input) k at ≡ false → get_or (memory_in k e) at 0 ≡ get_or (memory_in k c) at 0

abbrev pub EraseAfter : Type 0
EraseAfter =
    (b c e : Board) (ws : List Write) (u : EraseUnit) (w : Write) → Rested b → AllWhole b.state Any ws → Whole b.state (erase u) w
    → Makes b (all_steps ws) c → Makes c (steps w) e → Erased c u w e

-- a program of a page in the unit that holds the place a
abbrev pub Within : Record → EraseUnit → ℕ → Kind → Write → Type 0
Within p u a (program m) w = in_unit_of u p.part.blocks a m (place_of p m w.input) ≡ true
Within p u a (erase v) w = ⊥

-- programs of pages in a unit leave no trace once it is erased: they might as well not have been sent
abbrev pub EraseForgets : Type 0
EraseForgets =
    (b c e : Board) (ws : List Write) (u : EraseUnit) (w : Write) → Rested b → AllWhole b.state (Within b.state u (place_of b.state (memory_of u) w.input)) ws → Whole b.state (erase u) w
    → Makes b (steps w) c → Makes b (all_steps ws ++ steps w) e → e ≡ c

-- z merges v and w: it starts where v does and sends the data of both, at most 256 bytes; w goes on where v ended, at the page's start if that is past its last byte
pub record Merges (p : Record) (m : Memory) (v w z : Write) : Type 0 where
  pub starts : place_of p m z.input ≡ place_of p m v.input
  pub goes_on : place_of p m w.input ≡ page_base (place_of p m v.input) + page_place (place_of p m v.input) (length (data_of p v.input))
  pub joined : data_of p z.input ≡ data_of p v.input ++ data_of p w.input
  pub fits : length (data_of p v.input) + length (data_of p w.input) ≤ page_bytes

abbrev pub MergeLeavesBoth : Type 0
MergeLeavesBoth =
    (b c e : Board) (m : Memory) (v w z : Write) → Rested b → Whole b.state (program m) v → Whole b.state (program m) w → Whole b.state (program m) z → Merges b.state m v w z
    → Makes b (steps v ++ steps w) c → Makes b (steps z) e → c ≡ e

-- all of them. Of these AnyOrder, EraseForgets and MergeLeavesBoth go beyond the request
pub record Laws : Type 0 where
  pub fits_exactly : FitsExactly
  pub plainly_whole : PlainlyWhole
  pub writes_do : WritesDo
  pub writes_follow : WritesFollow
  pub either_order : EitherOrder
  pub any_order : AnyOrder
  pub twice_is_once : TwiceIsOnce
  pub erase_after : EraseAfter
  pub erase_forgets : EraseForgets
  pub merge_leaves_both : MergeLeavesBoth
