-- Demand 3 from C, with the records of its page: what chained calls from C leave of a part that yawlspar_power_up powered up, and what they leave when they end with ABh, 66h and 99h. `Demand3FromC` is all of it.
use Rattle.std.specs.Prelude.{ℕ, ◌≤◌, ◌≡◌, Bool, true, List, [], ◌∷◌, ◌++◌, eqb, length}
use Rattle.types.specs.declared.Record.{Record}
use Rattle.words.specs.Lists.{every}
use Rattle.paper.specs.Sizes.{array_bytes, rows_bytes}
use Rattle.paper.specs.History.{Call, record_after_call, record_after_calls}
use Rattle.record_bytes.specs.Layout.{record_bytes}
use Rattle.record_bytes.specs.Read.{held, record_in}
use Rattle.yawlspar.specs.Face.{packed, Asked, identity_of, registers_of, up_of, power_up_answer, power_up_bytes}
use Rattle.history.specs.Course.{course}
use Rattle.reset.specs.Closing.{wake, until_armed, powered_as}
use Rattle.reset.specs.Demand3.{PoweredAndSent, FromPowerUp, Closes, FreshRun}
use Rattle.from_c.specs.Driven.{Lent, lent, CCall, calls_of, Driven, heard, packed_steps, told_of, AllInMemory, is_plain, closing_from_c}

-- answers of which the last is that of an executed transaction
pub record EndsExecuted (answers : List ℕ) : Type 0 where
  pub earlier : List ℕ
  pub first : ℕ
  pub last : answers ≡ earlier ++ (packed 0 first ∷ [])

-- the numbers that yawlspar_power_up was given, and the buffer that it was lent
module _ (q : Asked) (bs : List ℕ) where
  -- what calls from C leave: the bytes are those of a record, and hold it; the part was powered up and sent the calls that they stand for, and has that record; every stored byte is what the history says; and C heard what its calls tell of the part's course, all of it where none is a script, with a map or without, or a check
  pub record FromC {ds : List CCall} {xs rs : List ℕ} {m : Lent} (chain : Driven (lent (power_up_bytes q bs) xs rs) ds m) : Type 0 where
    pub next : Record
    pub bytes : m.bytes ≡ record_bytes next
    pub in_bytes : record_in m.bytes ≡ held next
    pub sent : PoweredAndSent q.blocks (identity_of q) (registers_of q) (calls_of ds (up_of q).next) xs rs next m.array m.rows
    pub told : FromPowerUp q.blocks (identity_of q) (registers_of q) (calls_of ds (up_of q).next) xs rs next m.array m.rows
    pub answers : AllInMemory ds → heard chain ≡ told_of ds (up_of q).next
    pub plain_answers : every is_plain ds ≡ true → heard chain ≡ packed_steps (course sent.run)

  -- what calls from C leave that stand for a, ABh, b, 66h, c and 99h: the part is a fresh one; the bytes are those of the record that power-up gives for the same size, identity and stored registers; and 99h, the last, answers 0
  pub record FreshFromC (a : List Call) (w1 w2 w3 : Bool) (b c : List Call) {ds : List CCall} {xs rs : List ℕ} {m : Lent} (chain : Driven (lent (power_up_bytes q bs) xs rs) ds m) : Type 0 where
    pub from_c : FromC chain
    pub fresh_run : FreshRun q.blocks (identity_of q) (registers_of q) a w1 w2 w3 b c xs rs from_c.next m.array m.rows
    pub bytes : m.bytes ≡ record_bytes (powered_as q.blocks (identity_of q) fresh_run.before).next
    pub executed : EndsExecuted (heard chain)

-- the calls that b stands for after ABh, and those that c stands for after 66h, on a part that has the record p before them
abbrev pub after_wake : ℕ → List CCall → Record → List Call
after_wake l1 b p = calls_of b (record_after_call (wake (eqb l1 1)) p)

abbrev pub after_arm : ℕ → ℕ → List CCall → List CCall → Record → List Call
after_arm l1 l2 b c p = calls_of c (record_after_calls (until_armed (eqb l1 1) (eqb l2 1) (after_wake l1 b p)) p)

-- every power-up from C that answers 0, on memory of the part's own lengths, and every sequence of calls from C; and every sequence a, ABh, b, 66h, c and 99h, where no call of b and c is an executed or ignored transaction
pub record Demand3FromC : Type 0 where
  pub told : (q : Asked) (bs : List ℕ) {ds : List CCall} {xs rs : List ℕ} {m : Lent} → power_up_answer (length bs) q ≡ 0 → length xs ≡ array_bytes q.blocks → length rs ≡ rows_bytes
      → (chain : Driven (lent (power_up_bytes q bs) xs rs) ds m) → FromC q bs chain
  pub fresh : (q : Asked) (bs : List ℕ) (a : List CCall) (l1 l2 l3 x y z : ℕ) (b c : List CCall) → l1 ≤ 1 → l2 ≤ 1 → l3 ≤ 1
      → {xs rs : List ℕ} {m : Lent} → power_up_answer (length bs) q ≡ 0 → length xs ≡ array_bytes q.blocks → length rs ≡ rows_bytes
      → let early = calls_of a (up_of q).next in let p = record_after_calls early (up_of q).next in
      Closes q.blocks (identity_of q) (registers_of q) early (eqb l1 1) (eqb l2 1) (after_wake l1 b p) (after_arm l1 l2 b c p)
      → (chain : Driven (lent (power_up_bytes q bs) xs rs) (a ++ closing_from_c l1 l2 l3 x y z b c) m)
      → FreshFromC q bs early (eqb l1 1) (eqb l2 1) (eqb l3 1) (after_wake l1 b p) (after_arm l1 l2 b c p) chain
