-- An interrupted erase, done over, from C: chained calls of yawlspar_transact, yawlspar_tick, yawlspar_script, yawlspar_check, yawlspar_tick_map and yawlspar_script_map, and yawlspar_power_up again on the same array and rows after a loss of power.
use Rattle.std.specs.Prelude.{ℕ, ◌≤◌, ◌≡◌, true, false, List, [], ◌∷◌, length}
use Rattle.types.specs.declared.EraseUnit.{EraseUnit}
use Rattle.types.specs.declared.Phase.TheVariants.{Idle}
use Rattle.types.specs.declared.Identity.{Identity}
use Rattle.types.specs.declared.Stored.{Stored}
use Rattle.types.specs.declared.Record.{Record}
use Rattle.paper.specs.Registers.{stored_bits}
use Rattle.paper.specs.History.{record_after_calls}
use Rattle.yawlspar.specs.Face.{packed, Asked, identity_of, registers_of, up_of, power_up_answer, power_up_bytes}
use Rattle.suspended.specs.UnderWay.{never_idle}
use Rattle.laws.specs.Writes.{erase, Write, steps, at_start, Begun}
use Rattle.restart.specs.Cuts.{up_again, Cut, Event, calls, power, Lives, record_after_events, history_through, nothing_else, nothing_outside}
use Rattle.restart.specs.Restart.{CutAt, Undisturbed, Again}
use Rattle.from_c.specs.Driven.{Lent, lent, CCall, transact, calls_of, Driven, heard}
use Rattle.from_c.specs.Holding.{Holding}
use Rattle.from_c.specs.LawsFromC.{board_in, RestedIn}

-- what a C program does with a part: calls, or a power-up into a buffer, whatever that holds
pub data CEvent : Type 0 where
  drives : List CCall → CEvent
  powers : Asked → List ℕ → CEvent

-- each power-up is of the same part: n blocks, and that identity
abbrev pub SamePart : ℕ → Identity → List CEvent → Type 0
SamePart n id [] = Unit {0}
SamePart n id (drives cs ∷ es) = SamePart n id es
SamePart n id (powers q bs ∷ es) = (q.blocks ≡ n) × (identity_of q ≡ id) × SamePart n id es

-- the events that these stand for, from the record p on
abbrev pub events_of : List CEvent → Record → List Event
events_of [] p = []
events_of (drives cs ∷ es) p = calls (calls_of cs p) ∷ events_of es (record_after_calls (calls_of cs p) p)
events_of (powers q bs ∷ es) p = power (registers_of q) ∷ events_of es (up_of q).next

-- what is lent before, the events, and what is lent after. Each power-up answers 0, and array and rows are as they were
pub data LivesInC : Lent → List CEvent → Lent → Type 0 where
  over : {l : Lent} → LivesInC l [] l
  driven : {l m n : Lent} {cs : List CCall} {es : List CEvent} → Driven l cs m → LivesInC m es n → LivesInC l (drives cs ∷ es) n
  powered : {l n : Lent} {q : Asked} {bs : List ℕ} {es : List CEvent} → power_up_answer (length bs) q ≡ 0 → LivesInC (lent (power_up_bytes q bs) l.array l.rows) es n → LivesInC l (powers q bs ∷ es) n

-- what events from C make: what the events that they stand for make of the part
pub record LivedFromC (p : Record) (l : Lent) (es : List CEvent) (m : Lent) : Type 0 where
  pub next : Record
  pub holding : Holding m next
  pub is : next ≡ record_after_events (events_of es p) p
  pub lives : Lives (board_in l p) (events_of es p) (board_in m next)

-- a cut of a part of n blocks and that identity: 99h, which answers 0; or a power-up, which does
pub data CutInC (n : ℕ) (id : Identity) (m : Lent) : Lent → Type 0 where
  by_reset : {k : Lent} (wp x : ℕ) → wp ≤ 1 → (chain : Driven m (transact wp (0x99 ∷ []) (x ∷ []) ∷ []) k) → heard chain ≡ packed 0 1 ∷ [] → CutInC n id m k
  by_power : (q : Asked) (bs : List ℕ) → q.blocks ≡ n → identity_of q ≡ id → power_up_answer (length bs) q ≡ 0 → CutInC n id m (lent (power_up_bytes q bs) m.array m.rows)

-- the registers that the part has after it, if its record at the cut is p: the stored bits of those that it had, or those that power-up got
abbrev pub registers_in_c : {n : ℕ} {id : Identity} {m k : Lent} → CutInC n id m k → Record → Stored
registers_in_c (by_reset wp x l chain e) p = stored_bits p.part.stored
registers_in_c (by_power q bs e f z) p = registers_of q

-- what it leaves, from what l lends to what m lends at the cut and k after it
pub record CutAtInC (l : Lent) (p : Record) (u : EraseUnit) (w : Write) (m k : Lent) (c : CutInC p.part.blocks p.identity m k) : Type 0 where
  pub at : Record
  pub after : Record
  pub held_at : Holding m at
  pub held_after : Holding k after
  pub cut : Cut (board_in m at) (board_in k after)
  pub told : CutAt (board_in l p) u w (board_in m at) (board_in k after) cut
  pub fresh : after ≡ (up_again (registers_in_c c at) p).next

-- an erase that is done over, from C: from its first start, where l lends, to its last, where m lends, and its end, where k does; and an undisturbed one, from l to o
pub record DoneInC (l : Lent) (p : Record) (u : EraseUnit) (a : ℕ) (es : List CEvent) (m k o : Lent) : Type 0 where
  pub rested : RestedIn l p
  pub same_part : SamePart p.part.blocks p.identity es
  pub lives : LivesInC l es m
  pub idle : (record_after_events (events_of es p) p).phase ≡ Idle
  pub awake : (record_after_events (events_of es p) p).part.asleep ≡ false
  pub last : Write
  pub again : Again (record_after_events (events_of es p) p) u a last
  pub last_calls : List CCall
  pub last_stands : calls_of last_calls (record_after_events (events_of es p) p) ≡ steps last
  pub last_driven : Driven m last_calls k
  pub only : Write
  pub undisturbed : Undisturbed p u a only
  pub only_calls : List CCall
  pub only_stands : calls_of only_calls p ≡ steps only
  pub only_driven : Driven l only_calls o

-- the same array and rows
pub record SameMemoryInC (k o : Lent) : Type 0 where
  pub array : k.array ≡ o.array
  pub rows : k.rows ≡ o.rows

pub record RestartFromC : Type 0 where
  -- what events from C make is told by the events that they stand for, so that each law speaks of them
  pub lives : (l m : Lent) (p : Record) (es : List CEvent) → Holding l p → SamePart p.part.blocks p.identity es → LivesInC l es m → LivedFromC p l es m
  -- what a cut leaves
  pub at_the_cut : (l m k : Lent) (p : Record) (u : EraseUnit) (w : Write) (cs : List CCall) → RestedIn l p → Begun p (erase u) w → calls_of cs p ≡ steps w → Driven l cs m
      → never_idle w.wait (at_start p w) ≡ true → (c : CutInC p.part.blocks p.identity m k) → CutAtInC l p u w m k c
  -- an erase that is done over, with nothing else written from its first start on; and with programs of pages in its unit too
  pub done_over : (l m k o : Lent) (p : Record) (u : EraseUnit) (a : ℕ) (es : List CEvent) → DoneInC l p u a es m k o
      → nothing_else u p.part.blocks a (history_through (events_of es p) p) ≡ true → SameMemoryInC k o
  pub update_restarts : (l m k o : Lent) (p : Record) (u : EraseUnit) (a : ℕ) (es : List CEvent) → DoneInC l p u a es m k o
      → nothing_outside u p.part.blocks a (history_through (events_of es p) p) ≡ true → SameMemoryInC k o
