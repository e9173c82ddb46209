-- Request 7: wear. What each tick counts, what calls make of the records, whatever they were, and that while no count is full they are the history's since they were zeroed.
use Rattle.std.specs.Prelude.{ℕ, suc, ◌+◌, ◌/◌, ◌%◌, ◌<◌, min, ◌≡◌, Bool, true, false, List, length, get_or, replicate}
use Rattle.types.specs.declared.EraseUnit.{EraseUnit}
use Rattle.types.specs.declared.Memory.TheVariants.{Array, Rows}
use Rattle.types.specs.declared.Operation.TheVariants.{Program, Erase, Write}
use Rattle.types.specs.declared.Register.{Register}
use Rattle.types.specs.declared.Wear.{Wear}
use Rattle.paper.specs.Sizes.{same_memory, array_sectors, sector_bytes, sector_pages}
use Rattle.paper.specs.Erase.{memory_of}
use Rattle.paper.specs.History.{Call}
use Rattle.paper.specs.Board.{Board, Own, after_calls}
use Rattle.paper.specs.Script.{Script}
use Rattle.paper.specs.Wear.{unworn, full_count, no_count, erase, program, next_count, Count, history_counts, erases_of, programs_of, all_erases, all_programs, worn, wear_after_calls, wear_ticked, wear_scripted, wear_tick_calls, wear_script_calls}
use Rattle.paper.specs.WearText.{total_of}
use Rattle.wear_text.specs.TextLaws.{AreCounts}

-- "at the tick that finishes that sector (its ticks 16, 32, ..)": with d ticks of an erase of the array done, the next one counts exactly where it is such a tick, for the sector whose 16 pages it ends
abbrev pub EraseCounts : Type 0
EraseCounts =
    (u : EraseUnit) (b d : ℕ) → same_memory Array (memory_of u) ≡ true
    → (suc d % sector_pages ≡ 0 → next_count (Erase u b d) ≡ erase (b / sector_bytes + d / sector_pages))
    × ((suc d % sector_pages ≡ 0 → ⊥) → next_count (Erase u b d) ≡ no_count)

-- "a page program once at its last tick", in the sector of its page
abbrev pub ProgramCounts : Type 0
ProgramCounts =
    (s b k d : ℕ)
    → (suc d ≡ k → next_count (Program Array s b k d) ≡ program (b / sector_bytes))
    × ((suc d ≡ k → ⊥) → next_count (Program Array s b k d) ≡ no_count)

-- "rows count nothing"; nor do registers
abbrev pub RowsCountNothing : Type 0
RowsCountNothing =
    (u : EraseUnit) (s b k d : ℕ) (r : Register) (v : ℕ)
    → (same_memory Array (memory_of u) ≡ false → next_count (Erase u b d) ≡ no_count)
    × (next_count (Program Rows s b k d) ≡ no_count)
    × (next_count (Write r v) ≡ no_count)

-- what a list of counts makes of the records ws: as many records, and each count with those of its sector added, up to the largest value, at which it stays
pub record Counted (cs : List Count) (ws vs : List Wear) : Type 0 where
  pub size : length vs ≡ length ws
  pub erases : (q : ℕ) → q < length ws → (get_or vs q unworn).erases ≡ min full_count ((get_or ws q unworn).erases + erases_of q cs)
  pub programs : (q : ℕ) → q < length ws → (get_or vs q unworn).programs ≡ min full_count ((get_or ws q unworn).programs + programs_of q cs)

-- calls make of them what the history counts, which never reads array or rows
abbrev pub CallsCount : Type 0
CallsCount =
    (cs : List Call) (b : Board) (ws : List Wear) → Own b → AreCounts ws
    → Counted (history_counts cs b.state) ws (wear_after_calls cs b ws)

-- "every other field as it was": and that fixes the records
abbrev pub Fixed : Type 0
Fixed = (cs : List Count) (ws vs us : List Wear) → Counted cs ws vs → Counted cs ws us → vs ≡ us

-- no count is at its largest value
abbrev pub NoneFull : List Wear → Type 0
NoneFull ws = (q : ℕ) → q < length ws → ((get_or ws q unworn).erases < full_count) × ((get_or ws q unworn).programs < full_count)

-- records of n blocks that are what a list of counts has: of each sector, and in all
pub record AsCounted (n : ℕ) (cs : List Count) (ws : List Wear) : Type 0 where
  pub size : length ws ≡ array_sectors n
  pub erases : (q : ℕ) → q < array_sectors n → (get_or ws q unworn).erases ≡ erases_of q cs
  pub programs : (q : ℕ) → q < array_sectors n → (get_or ws q unworn).programs ≡ programs_of q cs
  pub erases_in_all : total_of (λ w. w.erases) ws (length ws) ≡ all_erases cs
  pub programs_in_all : total_of (λ w. w.programs) ws (length ws) ≡ all_programs cs

-- the records of n blocks, zeroed
abbrev pub zeroed : ℕ → List Wear
zeroed n = replicate (array_sectors n) unworn

-- "While no count is at its largest value, totals equal the history's since the records were zeroed"
abbrev pub SinceZeroed : Type 0
SinceZeroed =
    (cs : List Call) (b : Board) → Own b → NoneFull (wear_after_calls cs b (zeroed b.state.part.blocks))
    → AsCounted b.state.part.blocks (history_counts cs b.state) (wear_after_calls cs b (zeroed b.state.part.blocks))

-- a call that is lent the records ws and leaves the part c and the records vs stands for the plain calls cs on the part b
pub record StandsFor (cs : List Call) (b c : Board) (ws vs : List Wear) : Type 0 where
  pub part : c ≡ after_calls cs b
  pub wear : vs ≡ wear_after_calls cs b ws

-- ticks and scripts that are lent records do, refused or not; ok is false where a script's level of WP# is none
abbrev pub TicksStand : Type 0
TicksStand =
    (n : ℕ) (b : Board) (ws : List Wear) → Own b
    → StandsFor (wear_tick_calls b.state n (length ws)) b (wear_ticked b n (length ws)).board ws (worn (wear_ticked b n (length ws)).tally ws)

abbrev pub ScriptsStand : Type 0
ScriptsStand =
    (ok : Bool) (s : Script) (b : Board) (o n d : List ℕ) (ws : List Wear) → Own b
    → StandsFor (wear_script_calls ok s b.state (length o) (length n) (length d) (length ws)) b (wear_scripted ok s b o n d ws).run.board ws (wear_scripted ok s b o n d ws).wear

pub record WearLaws : Type 0 where
  pub erase_counts : EraseCounts
  pub program_counts : ProgramCounts
  pub rows_count_nothing : RowsCountNothing
  pub calls_count : CallsCount
  pub fixed : Fixed
  pub since_zeroed : SinceZeroed
  pub ticks_stand : TicksStand
  pub scripts_stand : ScriptsStand
