-- What calls lead to from what is lent: a run, whose last record is held again. Calls and then others lead on, so that what stands for several calls is put together of what stands for one.
use mathlib.Core.Path.{◌≡◌}
use mathlib.Core.List.{List, ◌++◌}
use Rattle.types.specs.declared.Record.{Record}
use Rattle.paper.specs.History.{Call, record_after_calls}
use Rattle.history.specs.Run.{Run}
use Rattle.history.proofs.Told.{run_told}
use Rattle.history.proofs.Joined.{run_joined}
use Rattle.from_c.specs.Driven.{Lent}
use Rattle.from_c.specs.Holding.{Holding}

-- from what l lends to a part with the record p the calls cs lead to what m lends
pub record Leads (l : Lent) (p : Record) (cs : List Call) (m : Lent) : Type 0 where
  pub next : Record
  pub run : Run p l.array l.rows cs next m.array m.rows
  pub holding : Holding m next

module _ {l m : Lent} {p : Record} {cs : List Call} (s : Leads l p cs m) where
  -- the record is the one that the calls tell
  pub leads_told : Holding l p → s.next ≡ record_after_calls cs p
  leads_told h = (run_told s.run h.is_sound h.array h.rows).next

  -- other calls lead on
  pub leads_on : {n : Lent} {ds : List Call} → Leads m s.next ds n → Leads l p (cs ++ ds) n
  leads_on t = record { next = t.next; run = run_joined s.run t.run; holding = t.holding }
