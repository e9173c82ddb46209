-- Demand 3 on one page: its sentences in their order, and what each says of a run of calls. `Demand3` is all of it; from C it is said with the same records.
use Rattle.std.specs.Prelude.{ℕ, ◌<◌, ◌≡◌, Bool, true, List, [], ◌∷◌, ◌++◌, length, get_or}
use Rattle.types.specs.declared.Memory.TheVariants.{Array, Rows}
use Rattle.types.specs.declared.Identity.{Identity}
use Rattle.types.specs.declared.Stored.{Stored}
use Rattle.types.specs.declared.Record.{Record}
use Rattle.paper.specs.Sizes.{array_bytes, rows_bytes}
use Rattle.paper.specs.Soundness.{sound}
use Rattle.paper.specs.Calls.{powered_up, transacted}
use Rattle.paper.specs.History.{Call, record_after_call, record_after_calls, history_of, byte_after_all, shielded_throughout}
use Rattle.history.specs.Run.{Run}
use Rattle.reset.specs.Closing.{wake, all_aside, until_armed, until_reset, closing, powered_as}

-- a part of n blocks with an identity, and the registers that it is powered up with
module _ (n : ℕ) (id : Identity) (g : Stored) where
  -- "Power a part up, unrefused, then send it any sequence of transactions and ticks, noise included, each call given the record that the last one returned, with the same memory lent each time and written by nobody else."
  -- The calls cs, over an array xs and rows rs of the part's own lengths, leave the record q, the array ys and the rows ts
  pub record PoweredAndSent (cs : List Call) (xs rs : List ℕ) (q : Record) (ys ts : List ℕ) : Type 0 where
    pub unrefused : (powered_up n id g).number ≡ 0
    pub own_array : length xs ≡ array_bytes n
    pub own_rows : length rs ≡ rows_bytes
    pub run : Run (powered_up n id g).next xs rs cs q ys ts

  -- "Every stored byte is then what the history says: its starting value, set to FFh by each erase tick that reached it, narrowed by each program tick.": array and rows; the record is the one that the calls tell, and sound.
  -- "A byte whose block was protected throughout, or whose row was locked throughout, still holds its starting value.": protected_kept and locked_kept
  pub record FromPowerUp (cs : List Call) (xs rs : List ℕ) (q : Record) (ys ts : List ℕ) : Type 0 where
    pub next : q ≡ record_after_calls cs (powered_up n id g).next
    pub next_sound : sound q ≡ true
    pub array_length : length ys ≡ length xs
    pub rows_length : length ts ≡ length rs
    pub array : (at : ℕ) → at < length xs → get_or ys at 0 ≡ byte_after_all Array at (history_of n id g cs) (get_or xs at 0)
    pub rows : (at : ℕ) → at < length rs → get_or ts at 0 ≡ byte_after_all Rows at (history_of n id g cs) (get_or rs at 0)
    pub protected_kept : (at : ℕ) → at < length xs → shielded_throughout Array at cs (powered_up n id g).next ≡ true → get_or ys at 0 ≡ get_or xs at 0
    pub locked_kept : (at : ℕ) → at < length rs → shielded_throughout Rows at cs (powered_up n id g).next ≡ true → get_or ts at 0 ≡ get_or rs at 0

  -- "If the bench next sends ABh, 66h and 99h as three one-byte transactions, none refused under demand 1, with no other executed or ignored transaction between": after any calls a come ABh, b, 66h, c and 99h, and each call of b and c is ticks or a refused transaction.
  -- The three are not refused: the part's record is sound, and the memory is its own
  pub record Closes (a : List Call) (w1 w2 : Bool) (b c : List Call) : Type 0 where
    pub between : all_aside b (record_after_call (wake w1) (record_after_calls a (powered_up n id g).next)) ≡ true
    pub armed : all_aside c (record_after_calls (until_armed w1 w2 b) (record_after_calls a (powered_up n id g).next)) ≡ true

  -- "the part equals one freshly powered with the same stored bytes, registers and identity. That holds if it was asleep, busy or suspended."
  -- The same are those of the moment just before 99h, when the part has a record, an array and rows: 99h answers 0 and keeps array and rows, and the record is the one that power-up gives, unrefused, for the size, the identity and the stored bits of the registers. What the history says, it says of these calls too
  pub record FreshRun (a : List Call) (w1 w2 w3 : Bool) (b c : List Call) (xs rs : List ℕ) (q : Record) (ys ts : List ℕ) : Type 0 where
    pub before : Record
    pub array : List ℕ
    pub rows : List ℕ
    pub until_reset_lem : Run (powered_up n id g).next xs rs (a ++ until_reset w1 w2 b c) before array rows
    pub executed : (transacted before (length array) (length rows) w3 (0x99 ∷ []) 1).number ≡ 0
    pub array_kept : ys ≡ array
    pub rows_kept : ts ≡ rows
    pub unrefused : (powered_as n id before).number ≡ 0
    pub equal : q ≡ (powered_as n id before).next
    pub told : FromPowerUp (a ++ closing w1 w2 w3 b c) xs rs q ys ts

-- every part, and every sequence of calls
pub record Demand3 : Type 0 where
  pub told : (n : ℕ) (id : Identity) (g : Stored) {cs : List Call} {xs rs : List ℕ} {q : Record} {ys ts : List ℕ}
      → PoweredAndSent n id g cs xs rs q ys ts → FromPowerUp n id g cs xs rs q ys ts
  pub fresh : (n : ℕ) (id : Identity) (g : Stored) (a : List Call) (w1 w2 w3 : Bool) (b c : List Call) {xs rs : List ℕ} {q : Record} {ys ts : List ℕ}
      → PoweredAndSent n id g (a ++ closing w1 w2 w3 b c) xs rs q ys ts → Closes n id g a w1 w2 b c → FreshRun n id g a w1 w2 w3 b c xs rs q ys ts
