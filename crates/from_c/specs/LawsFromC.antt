-- The laws for the driver team from C: for chained calls of yawlspar_transact, yawlspar_tick, yawlspar_script, yawlspar_check, yawlspar_tick_map and yawlspar_script_map that stand for writes, on the bytes of an idle, awake part's record and on memory of its own lengths.
use Rattle.std.specs.Prelude.{ℕ, ◌≡◌, true, false, List, [], ◌∷◌, ◌++◌, length, replicate}
use Rattle.types.specs.declared.Memory.{Memory}
use Rattle.types.specs.declared.EraseUnit.{EraseUnit}
use Rattle.types.specs.declared.Phase.TheVariants.{Idle}
use Rattle.types.specs.declared.Record.{Record}
use Rattle.words.specs.Logic.{bit}
use Rattle.words.specs.Lists.{every}
use Rattle.paper.specs.Sizes.{array_bytes, rows_bytes}
use Rattle.paper.specs.Program.{page_base}
use Rattle.paper.specs.History.{Call, transaction, ticks, record_after_calls}
use Rattle.paper.specs.Board.{Board, board_of}
use Rattle.yawlspar.specs.Face.{Asked, up_of, power_up_answer, power_up_bytes}
use Rattle.history.specs.Course.{course_of}
use Rattle.laws.specs.Writes.{program, erase, Write, steps, Whole, Makes, place_of}
use Rattle.laws.specs.DriverLaws.{all_steps, AllWhole, Any, SameEitherWay, SameProgram, Erased}
use Rattle.from_c.specs.Driven.{Lent, lent, CCall, transact, tick, calls_of, Driven, heard, packed_steps, told_of, AllInMemory, is_plain}
use Rattle.from_c.specs.Holding.{Holding}

-- the part that is lent, with the record p
abbrev pub board_in : Lent → Record → Board
board_in l p = board_of p l.array l.rows

-- calls as C makes them: the level of WP# is 0 or 1, and the output goes to a buffer of its length
abbrev pub in_c : List Call → List CCall
in_c [] = []
in_c (transaction wp i o ∷ cs) = transact (bit wp) i (replicate o 0) ∷ in_c cs
in_c (ticks n ∷ cs) = tick n ∷ in_c cs

-- what calls from C make of what is lent: what the calls that they stand for make of the part, with the bytes of its record; and C hears what it tells of their course, all of it where no call is a script, with a map or without, or a check
pub record MadeFromC (p : Record) {l m : Lent} {cs : List CCall} (chain : Driven l cs m) : Type 0 where
  pub next : Record
  pub holding : Holding m next
  pub made : Makes (board_in l p) (calls_of cs p) (board_in m next)
  pub answers : AllInMemory cs → heard chain ≡ told_of cs p
  pub plain_answers : every is_plain cs ≡ true → heard chain ≡ packed_steps (course_of (calls_of cs p) p (length l.array) (length l.rows))

-- what is lent belongs to an idle, awake part
pub record RestedIn (l : Lent) (p : Record) : Type 0 where
  pub holding : Holding l p
  pub idle : p.phase ≡ Idle
  pub awake : p.part.asleep ≡ false

-- two programs of one page, in either order: the same bytes of the record, of the array and of the rows, and what the law says of the part
pub record SameFromC (l : Lent) (p : Record) (k : Memory) (v w : Write) (m n : Lent) : Type 0 where
  pub same : m ≡ n
  pub one : Record
  pub other : Record
  pub held_one : Holding m one
  pub held_other : Holding n other
  pub told : SameEitherWay (board_in l p) k v w (board_in m one) (board_in n other)

-- an erase, from what m lends to what n lends
pub record ErasedFromC (u : EraseUnit) (w : Write) (m n : Lent) : Type 0 where
  pub before : Record
  pub after : Record
  pub held_before : Holding m before
  pub held_after : Holding n after
  pub erased : Erased (board_in m before) u w (board_in n after)

pub record LawsFromC : Type 0 where
  -- each list of calls is what some calls from C stand for; and what calls from C make is told by the calls that they stand for, so that each law speaks of them
  pub calls : (cs : List Call) (p : Record) → calls_of (in_c cs) p ≡ cs
  pub made : (l m : Lent) (p : Record) (cs : List CCall) → Holding l p → (chain : Driven l cs m) → MadeFromC p chain
  -- a part that yawlspar_power_up powered up is idle and awake
  pub powered : (q : Asked) (bs xs rs : List ℕ) → power_up_answer (length bs) q ≡ 0 → length xs ≡ array_bytes q.blocks → length rs ≡ rows_bytes → RestedIn (lent (power_up_bytes q bs) xs rs) (up_of q).next
  -- two programs of one page in either order
  pub either_order : (l m n : Lent) (p : Record) (k : Memory) (v w : Write) (cs ds : List CCall) → RestedIn l p → Whole p (program k) v → Whole p (program k) w
      → page_base (place_of p k v.input) ≡ page_base (place_of p k w.input)
      → calls_of cs p ≡ steps v ++ steps w → calls_of ds p ≡ steps w ++ steps v → Driven l cs m → Driven l ds n → SameFromC l p k v w m n
  -- and any two programs
  pub any_order : (l m n : Lent) (p : Record) (k j : Memory) (v w : Write) (cs ds : List CCall) → RestedIn l p → Whole p (program k) v → Whole p (program j) w
      → calls_of cs p ≡ steps v ++ steps w → calls_of ds p ≡ steps w ++ steps v → Driven l cs m → Driven l ds n → m ≡ n
  -- the same program twice leaves what once leaves
  pub twice_is_once : (l m n : Lent) (p : Record) (k : Memory) (v w : Write) (cs ds : List CCall) → RestedIn l p → Whole p (program k) v → Whole p (program k) w → SameProgram p k v w
      → calls_of cs p ≡ steps v → calls_of ds p ≡ steps v ++ steps w → Driven l cs m → Driven l ds n → n ≡ m
  -- an erase after any writes leaves FFh in its unit, and nothing else changed
  pub erase_after : (l m n : Lent) (p : Record) (ws : List Write) (u : EraseUnit) (w : Write) (cs ds : List CCall) → RestedIn l p → AllWhole p Any ws → Whole p (erase u) w
      → calls_of cs p ≡ all_steps ws → calls_of ds (record_after_calls (all_steps ws) p) ≡ steps w → Driven l cs m → Driven m ds n → ErasedFromC u w m n
