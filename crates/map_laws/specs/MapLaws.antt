-- Request 12: a map of blank pages. What its bits say, that there is one right map of an array, what calls make of a map, whatever it was, and what a query tells.
use Rattle.std.specs.Prelude.{ℕ, ◌+◌, ◌-◌, ◌*◌, ◌/◌, ◌%◌, ◌^◌, ◌≤◌, ◌<◌, ◌≡◌, Bool, true, false, List, ◌++◌, ◌↔◌, length, get_or, replicate}
use Rattle.types.specs.declared.Record.{Record}
use Rattle.words.specs.Lists.{AreBytes}
use Rattle.words.specs.Bits.{bit_in}
use Rattle.paper.specs.Sizes.{page_bytes, array_bytes, array_pages, map_bytes, rows_bytes}
use Rattle.paper.specs.Erase.{erased_byte}
use Rattle.paper.specs.Phases.{running}
use Rattle.paper.specs.Operations.{Touch, none}
use Rattle.paper.specs.Soundness.{sound}
use Rattle.paper.specs.Numbers.{rebuild_number}
use Rattle.paper.specs.Ticks.{working_ticks}
use Rattle.paper.specs.Calls.{ticked}
use Rattle.paper.specs.Reached.{reached, touches_of, touch_page, reaches_page}
use Rattle.paper.specs.History.{Call, transaction, ticks, tick_touches, call_touches, history}
use Rattle.paper.specs.Board.{Board, Own, after_call, after_calls}
use Rattle.paper.specs.Script.{Script}
use Rattle.paper.specs.Map.{Page, NoPage, blank_page, Right, rebuilt, queried, map_after_calls, map_ticked, map_scripted, map_tick_calls, map_script_calls}

-- "page p is bit p % 8 of byte p / 8", low bit first
abbrev pub LowFirst : Type 0
LowFirst = (m : List ℕ) (q : ℕ) → (bit_in m q ≡ true) ↔ (get_or m (q / 8) 0 / 2 ^ (q % 8) % 2 ≡ 1)

-- "set exactly when the page is all FFh"
abbrev pub BlankExactly : Type 0
BlankExactly = (xs : List ℕ) (q : ℕ) → (blank_page xs q ≡ true) ↔ ((i : ℕ) → i < page_bytes → get_or xs (q * page_bytes + i) 0 ≡ erased_byte)

-- there is one right map of an array
abbrev pub Only : Type 0
Only = (m k xs : List ℕ) → Right m xs → Right k xs → m ≡ k

-- "Rebuild gives the only right map": not refused, what it leaves is right; refused, the map is as it was
abbrev pub Rebuild : Type 0
Rebuild =
    (n : ℕ) (xs m : List ℕ)
    → (rebuild_number n (length xs) (length m) ≡ 0 → Right (rebuilt n xs m) xs)
    × ((rebuild_number n (length xs) (length m) ≡ 0 → ⊥) → rebuilt n xs m ≡ m)

-- a call that is lent the map m and leaves the part c and the map k stands for the plain calls cs on the part b
pub record StandsFor (cs : List Call) (b c : Board) (m k : List ℕ) : Type 0 where
  pub part : c ≡ after_calls cs b
  pub map : k ≡ map_after_calls cs b m

-- ticks and scripts that are lent a map do, refused or not; ok is false where a script's level of WP# is none
abbrev pub TicksStand : Type 0
TicksStand =
    (n : ℕ) (b : Board) (m : List ℕ) → Own b
    → StandsFor (map_tick_calls b.state n (length m)) b (map_ticked b n m).board m (map_ticked b n m).map

abbrev pub ScriptsStand : Type 0
ScriptsStand =
    (ok : Bool) (s : Script) (b : Board) (o n d m : List ℕ) → Own b
    → StandsFor (map_script_calls ok s b.state (length o) (length n) (length d) (length m)) b (map_scripted ok s b o n d m).run.board m (map_scripted ok s b o n d m).map

-- "Each call that starts with a right map ends with one": a transaction, which is lent none; ticks; a script; and any calls
abbrev pub TransactionRight : Type 0
TransactionRight =
    (wp : Bool) (i : List ℕ) (o : ℕ) (b : Board) (m : List ℕ) → Right m b.array → Right m (after_call (transaction wp i o) b).array

abbrev pub TicksRight : Type 0
TicksRight = (n : ℕ) (b : Board) (m : List ℕ) → Own b → Right m b.array → Right (map_ticked b n m).map (map_ticked b n m).board.array

abbrev pub ScriptRight : Type 0
ScriptRight =
    (ok : Bool) (s : Script) (b : Board) (o n d m : List ℕ) → Own b → Right m b.array
    → Right (map_scripted ok s b o n d m).map (map_scripted ok s b o n d m).run.board.array

abbrev pub CallsRight : Type 0
CallsRight = (cs : List Call) (b : Board) (m : List ℕ) → Own b → Right m b.array → Right (map_after_calls cs b m) (after_calls cs b).array

-- the map k is the map m of n blocks after touches that left the array xs: "only bits of pages that a working tick reached may change, and those are right afterwards"
pub record Framed (n : ℕ) (ts : List Touch) (xs m k : List ℕ) : Type 0 where
  pub size : length k ≡ length m
  pub bytes : AreBytes k
  pub touched : (q : ℕ) → q < array_pages n → touch_page ts q ≡ true → bit_in k q ≡ blank_page xs q
  pub untouched : (q : ℕ) → q < array_pages n → touch_page ts q ≡ false → bit_in k q ≡ bit_in m q

-- "Whatever map is given"
abbrev pub Frame : Type 0
Frame =
    (cs : List Call) (b : Board) (m : List ℕ) → Own b → length m ≡ map_bytes b.state.part.blocks → AreBytes m
    → Framed b.state.part.blocks (history cs b.state) (after_calls cs b).array m (map_after_calls cs b m)

-- "With the frame the contract fixes the map: two allowed results are equal"
abbrev pub Fixed : Type 0
Fixed =
    (n : ℕ) (ts : List Touch) (xs m k l : List ℕ) → length m ≡ map_bytes n → Framed n ts xs m k → Framed n ts xs m l → k ≡ l

-- page r of n blocks is the first at or after page q that passes a test
pub record FirstPage (n : ℕ) (test : ℕ → Bool) (q r : ℕ) : Type 0 where
  pub in-part : r < array_pages n
  pub from : q ≤ r
  pub passes : test r ≡ true
  pub none_before : (j : ℕ) → q ≤ j → j < r → test j ≡ false

-- no page at or after page q does
abbrev pub NoneFrom : ℕ → (ℕ → Bool) → ℕ → Type 0
NoneFrom n test q = (j : ℕ) → q ≤ j → j < array_pages n → test j ≡ false

-- what a query tells of a map, whatever it is, and of the array that it is right for: "the answer is blank, no page from the asked one up to it is, or none is"
abbrev pub Query : Type 0
Query =
    (n : ℕ) (m : List ℕ) (q : ℕ)
    → ((r : ℕ) → queried n m q ≡ Page r → FirstPage n (bit_in m) q r)
    × (queried n m q ≡ NoPage → NoneFrom n (bit_in m) q)

abbrev pub QueryRight : Type 0
QueryRight =
    (n : ℕ) (m xs : List ℕ) (q : ℕ) → Right m xs → length xs ≡ array_bytes n
    → ((r : ℕ) → queried n m q ≡ Page r → FirstPage n (blank_page xs) q r)
    × (queried n m q ≡ NoPage → NoneFrom n (blank_page xs) q)

-- what ticks reached is what history says of them: the touches of the working ones, and nothing after these; and the pages that they lie in
abbrev pub Touches : Type 0
Touches =
    (n : ℕ) (p : Record) → sound p ≡ true
    → tick_touches n p ≡ touches_of (record { work = running p.phase; count = working_ticks n p }) p.page ++ replicate (n - working_ticks n p) none

abbrev pub TickPages : Type 0
TickPages =
    (n : ℕ) (p : Record) (q : ℕ) → sound p ≡ true
    → touch_page (tick_touches n p) q ≡ reaches_page (record { work = running p.phase; count = working_ticks n p }) q

-- and of a tick call, refused or not
abbrev pub CallPages : Type 0
CallPages =
    (n : ℕ) (p : Record) (q : ℕ) → sound p ≡ true
    → touch_page (call_touches (ticks n) p) q ≡ reaches_page (reached p (ticked p (array_bytes p.part.blocks) rows_bytes n)) q

pub record MapLaws : Type 0 where
  pub low_first : LowFirst
  pub blank_exactly : BlankExactly
  pub only : Only
  pub rebuild : Rebuild
  pub ticks_stand : TicksStand
  pub scripts_stand : ScriptsStand
  pub transaction_right : TransactionRight
  pub ticks_right : TicksRight
  pub script_right : ScriptRight
  pub calls_right : CallsRight
  pub frame : Frame
  pub fixed : Fixed
  pub query : Query
  pub query_right : QueryRight
  pub touches : Touches
  pub tick_pages : TickPages
  pub call_pages : CallPages
