-- A run is made of calls: what the contracts of `transact`, `tick` and `power_up` allow are its steps and its start. A tick call reports at most the ticks asked.
use Prim.Native.Nat.{ℕ, ◌≤◌}
use mathlib.Core.Path.{◌≡◌}
use mathlib.Core.List.{List, ◌∷◌}
use lib.ListN.{length}
use Rattle.types.specs.declared.Record.{Record}
use Rattle.words.proofs.Allowed.{Follows}
use Rattle.paper.specs.Calls.{powered_up}
use Rattle.paper.specs.History.{Call, transaction, ticks}
use Rattle.paper.proofs.CallKept.{done_at_most}
use Rattle.history.specs.Run.{Run, sends, waits}
use Rattle.record.proofs.power_up.Reads as power-up
use Rattle.ticks.proofs.tick.Reads as tick
use Rattle.transact.proofs.transact.Reads as transact

-- part, array, rows, pin, input and output are a call's arguments
pub transact_step : Follows transact.Learnt (λ κ a x s.
    (cs : List Call) (q : Record) (ys ts : List ℕ) → Run x.next a.1.0.now a.1.1.0.now cs q ys ts
    → Run a.0 a.1.0.now a.1.1.0.now (transaction a.1.1.1.0 a.1.1.1.1.0.now (length a.1.1.1.1.1.0.now) ∷ cs) q ys ts)
transact_step κ a x s l cs q ys ts r = sends x l.0 r

-- part, array, rows and ticks are
pub tick_step : Follows tick.Learnt (λ κ a x s.
    (cs : List Call) (q : Record) (ys ts : List ℕ) → Run x.next s.1.0.now s.1.1.0.now cs q ys ts
    → Run a.0 a.1.0.now a.1.1.0.now (ticks a.1.1.1.0 ∷ cs) q ys ts)
tick_step κ a x s l cs q ys ts r = waits x l.0 l.1.0 l.1.1 r

-- blocks, identity and stored register bits are
pub power_up_start : Follows power-up.Learnt (λ κ a x s. x ≡ powered_up a.0 a.1.0 a.1.1.0)
power_up_start κ a x s l = l

-- the ticks that a tick call reports are at most those asked, whether it is refused or not
pub tick_done_at_most : Follows tick.Learnt (λ κ a x s. x.done ≤ a.1.1.1.0)
tick_done_at_most κ a x s l =
    rw l.0 (done_at_most a.0 (length a.1.0.now) (length a.1.1.0.now) a.1.1.1.0).0
