-- Wear: one record per sector of 4 Kbyte, each with its erases and its programs.
use Rattle.std.specs.Prelude.{ℕ, zero, suc, ◌+◌, ◌-◌, ◌/◌, ◌%◌, List, [], ◌∷◌, ◌++◌, Bool, false, cond, length, eqb, ltb, None, Option, Some}
use Rattle.types.specs.declared.Memory.TheVariants.{Array}
use Rattle.types.specs.declared.Operation.{Operation}
use Rattle.types.specs.declared.Operation.TheVariants.{Program, Erase, Write}
use Rattle.types.specs.declared.Record.{Record}
use Rattle.types.specs.declared.Reached.{Reached}
use Rattle.types.specs.declared.Wear.{Wear}
use Rattle.types.specs.declared.Tally.{Tally}
use Rattle.words.specs.Logic.{◌and◌, when_zero, bit}
use Rattle.words.specs.Lists.{each_from}
use Rattle.paper.specs.Sizes.{same_memory, from_on, sector_bytes, sector_pages, array_bytes, rows_bytes}
use Rattle.paper.specs.Erase.{memory_of}
use Rattle.paper.specs.Phases.{running}
use Rattle.paper.specs.Soundness.{sound}
use Rattle.paper.specs.Numbers.{wear_number, wear_tick_number, wear_script_refusal}
use Rattle.paper.specs.Ticks.{record_after}
use Rattle.paper.specs.Calls.{ticked}
use Rattle.paper.specs.Reached.{reached}
use Rattle.paper.specs.History.{Call, transaction, ticks, record_after_call}
use Rattle.paper.specs.Board.{Board, waited, after_ticks, over_calls}
use Rattle.paper.specs.Script.{Script, Scripted, over_steps, unstepped, scripted, script_calls}

-- the record of a sector that nothing wore
abbrev pub unworn : Wear
unworn = record { erases = 0; programs = 0 }

-- the largest value of a count
abbrev pub full_count : ℕ
full_count = 4294967295

-- one more; "a full count stays"
unfoldable pub one_more : ℕ → ℕ
one_more n = cond (ltb n full_count) (n + 1) n

-- What a tick counts: nothing, an erase for a sector, or a program for one
pub data Count : Type 0 where
  no_count : Count
  erase : ℕ → Count
  program : ℕ → Count

-- "An erase counts once for each sector of its unit at the tick that finishes that sector, a page program once at its last tick; rows count nothing": what the next tick of an operation counts
abbrev pub next_count : Operation → Count
next_count (Program m s b k d) = cond (same_memory Array m and eqb (suc d) k) (program (b / sector_bytes)) no_count
next_count (Erase u b d) =
    cond (same_memory Array (memory_of u) and eqb (suc d % sector_pages) 0) (erase (b / sector_bytes + d / sector_pages)) no_count
next_count (Write r v) = no_count

abbrev pub work_count : Option Operation → Count
work_count None = no_count
work_count (Some o) = next_count o

-- what n ticks count, in order
abbrev pub tick_counts : ℕ → Record → List Count
tick_counts zero p = []
tick_counts (suc n) p = tick_counts n p ++ (work_count (running (record_after n p).phase) ∷ [])

-- what a call counts: a transaction nothing, a refused tick call nothing
abbrev pub call_counts : Call → Record → List Count
call_counts (transaction wp i o) p = []
call_counts (ticks n) p = when_zero (ticked p (array_bytes p.part.blocks) rows_bytes n).number (tick_counts n p) []

-- the history's counts: what a list of calls counts, in order. It never reads array or rows
abbrev pub history_counts : List Call → Record → List Count
history_counts [] p = []
history_counts (c ∷ cs) p = call_counts c p ++ history_counts cs (record_after_call c p)

-- how many erases, and how many programs, these are of sector q
abbrev pub is_erase : ℕ → Count → Bool
is_erase q no_count = false
is_erase q (erase s) = eqb s q
is_erase q (program s) = false

abbrev pub is_program : ℕ → Count → Bool
is_program q no_count = false
is_program q (erase s) = false
is_program q (program s) = eqb s q

abbrev pub erases_of : ℕ → List Count → ℕ
erases_of q [] = 0
erases_of q (c ∷ cs) = bit (is_erase q c) + erases_of q cs

abbrev pub programs_of : ℕ → List Count → ℕ
programs_of q [] = 0
programs_of q (c ∷ cs) = bit (is_program q c) + programs_of q cs

-- and how many in all
abbrev pub all_erases : List Count → ℕ
all_erases [] = 0
all_erases (no_count ∷ cs) = all_erases cs
all_erases (erase s ∷ cs) = suc (all_erases cs)
all_erases (program s ∷ cs) = all_erases cs

abbrev pub all_programs : List Count → ℕ
all_programs [] = 0
all_programs (no_count ∷ cs) = all_programs cs
all_programs (erase s ∷ cs) = all_programs cs
all_programs (program s ∷ cs) = suc (all_programs cs)

-- What ticks that reached something count: the sectors that an erase finished, so many from the first on, and the sector of a program that ended. Ticks 16, 32, .. of an erase finish a sector; tick k of a program of k kept bytes is its last
abbrev pub tally_by : Operation → ℕ → Tally
tally_by (Program m s b k d) t =
    record { first = 0; erases = 0; programmed = same_memory Array m and from_on (suc d) t k; at = b / sector_bytes }
tally_by (Erase u b d) t =
    record { first = b / sector_bytes + d / sector_pages; erases = cond (same_memory Array (memory_of u)) ((d + t) / sector_pages - d / sector_pages) 0; programmed = false; at = 0 }
tally_by (Write r v) t = record { first = 0; erases = 0; programmed = false; at = 0 }

abbrev pub no_tally : Tally
no_tally = record { first = 0; erases = 0; programmed = false; at = 0 }

abbrev pub tally_in : Option Operation → ℕ → Tally
tally_in None t = no_tally
tally_in (Some o) t = tally_by o t

unfoldable pub tally_of : Reached → Tally
tally_of r = tally_in r.work r.count

-- the record of sector q with a tally: one more of what it counts of the sector, and all else as it was
abbrev pub worn_by : Tally → ℕ → Wear → Wear
worn_by t q w =
    record { erases = cond (from_on t.first t.erases q) (one_more w.erases) w.erases; programs = cond (t.programmed and eqb t.at q) (one_more w.programs) w.programs }

-- the records with a tally
unfoldable pub worn : Tally → List Wear → List Wear
worn t ws = each_from 0 (worn_by t) ws

-- and after a call, on a part with its memory: a transaction leaves them
abbrev pub wear_after_call : Call → Board → List Wear → List Wear
wear_after_call (transaction wp i o) b ws = ws
wear_after_call (ticks n) b ws = worn (tally_of (reached b.state (waited b n))) ws

-- after a list of calls
abbrev pub wear_after_calls : List Call → Board → List Wear → List Wear
wear_after_calls cs b ws = over_calls wear_after_call cs b ws

-- what ticks that are lent so many wear records give: the part after them, what they count, the number, and how many ticks did work
pub record WearTicked : Type 0 where
  pub board : Board
  pub tally : Tally
  pub number : ℕ
  pub done : ℕ

abbrev pub wear_tick_number_of : Board → ℕ → ℕ → ℕ
wear_tick_number_of b n w =
    wear_tick_number b.state.part.blocks (sound b.state) (length b.array) (length b.rows) w n

-- as plain ticks, and they count; refused, with 1, 35, 2, 5 or 6, all is as it was
unfoldable pub wear_ticked : Board → ℕ → ℕ → WearTicked
wear_ticked b n w =
    when_zero (wear_tick_number_of b n w)
    (record { board = after_ticks b n; tally = tally_of (reached b.state (waited b n)); number = 0; done = (waited b n).done })
    (record { board = b; tally = no_tally; number = wear_tick_number_of b n w; done = 0 })

-- the records after the first k steps of a script, up to and including the one that stops it
abbrev pub wear_steps : Script → ℕ → Scripted → List Wear → List Wear
wear_steps s k w ws = over_steps wear_after_call s k w ws

-- what a script that is lent them gives
pub record WearScripted : Type 0 where
  pub run : Scripted
  pub wear : List Wear

-- 1, 35, 2, 7, 4 or 5 of it, of a record that is sound or is not
abbrev pub wear_refusal_of : Bool → Script → Board → List ℕ → List ℕ → List ℕ → ℕ → ℕ
wear_refusal_of sound s b o n d w =
    wear_script_refusal b.state.part.blocks sound w (length b.array) (length b.rows) s.lengths (length s.ticks) (length n) (length d) (length s.input) (length o)

-- as a plain script, and its ticks count; refused, all is as it was
unfoldable pub wear_scripted : Bool → Script → Board → List ℕ → List ℕ → List ℕ → List Wear → WearScripted
wear_scripted sound s b o n d ws =
    when_zero (wear_refusal_of sound s b o n d (length ws))
    (record { run = scripted sound s b o n d; wear = wear_steps s (length s.lengths) (unstepped 0 b o n d) ws })
    (record { run = unstepped (wear_refusal_of sound s b o n d (length ws)) b o n d; wear = ws })

-- the calls that they make, with the part's own memory and w records lent: the plain ones; refused by 35, none
abbrev pub wear_tick_calls : Record → ℕ → ℕ → List Call
wear_tick_calls p n w = when_zero (wear_number p.part.blocks w) (ticks n ∷ []) []

abbrev pub wear_script_calls : Bool → Script → Record → ℕ → ℕ → ℕ → ℕ → List Call
wear_script_calls sound s p o n d w =
    when_zero (wear_number p.part.blocks w) (script_calls sound s p o n d) []
