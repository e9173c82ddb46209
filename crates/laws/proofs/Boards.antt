-- A sound part with its own memory, and what a run of calls leaves of it.
use Prim.Native.Nat.{ℕ, ◌<◌}
use mathlib.Core.Path.{◌≡◌, sym, ap, ◌∙◌}
use mathlib.Core.List.{List}
use lib.ListN.{length, get_or}
use Rattle.types.specs.declared.Memory.{Memory}
use Rattle.types.specs.declared.Memory.TheVariants.{Array, Rows}
use Rattle.paper.specs.Sizes.{array_bytes}
use Rattle.paper.specs.History.{Call, history, byte_after_all}
use Rattle.paper.specs.Board.{Board, Own}
use Rattle.history.proofs.Told.{Told, run_told}
use Rattle.laws.specs.Writes.{Rested, Makes, memory_in}

pub rested_own : (b : Board) → Rested b → Own b
rested_own b r = record { is_sound = r.is_sound; own_array = r.own_array; own_rows = r.own_rows }

-- a run of calls, told
pub made_told : {b c : Board} {cs : List Call} → Own b → Makes b cs c → Told cs b.state b.array b.rows c.state c.array c.rows
made_told o run = run_told run o.is_sound o.own_array o.own_rows

pub made_own : {b c : Board} {cs : List Call} → Own b → Makes b cs c → Own c
made_own o run =
    let t = made_told o run in
    record { is_sound = t.next_sound; own_array = t.array_length ∙ o.own_array ∙ sym (ap array_bytes t.size); own_rows = t.rows_length ∙ o.own_rows }

-- of each memory
module _ {b e : Board} {cs : List Call} (t : Told cs b.state b.array b.rows e.state e.array e.rows) where
  pub told_length : (m : Memory) → length (memory_in m e) ≡ length (memory_in m b)
  told_length Array = t.array_length
  told_length Rows = t.rows_length

  pub told_bytes : (m : Memory) (at : ℕ) → at < length (memory_in m b) → get_or (memory_in m e) at 0 ≡ byte_after_all m at (history cs b.state) (get_or (memory_in m b) at 0)
  told_bytes Array = t.array
  told_bytes Rows = t.rows
