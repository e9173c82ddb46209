-- Calls keep page data a page.
use Rattle.std.specs.Prelude.{None, Option, Some}
use Prim.Native.Nat.{ℕ, zero, suc, ◌+◌}
use mathlib.Core.Bool.{Bool, true, false, cond}
use mathlib.Core.List.{List, [], ◌∷◌}
use lib.Dec.{ltb}
use Rattle.types.specs.declared.Operation.{Operation}
use Rattle.types.specs.declared.Change.{Change}
use Rattle.types.specs.declared.Record.{Record}
use Rattle.paper.specs.Sizes.{array_bytes, rows_bytes}
use Rattle.paper.specs.Phases.{running}
use Rattle.paper.specs.Operations.{ticks_in_all, ticks_done, advanced_by}
use Rattle.paper.specs.Soundness.{sound}
use Rattle.paper.specs.Commands.{data_after, changed}
use Rattle.paper.specs.Ticks.{finished, advanced, worked, ticked_at, record_after}
use Rattle.paper.specs.Calls.{outcome_of, transacted}
use Rattle.paper.specs.History.{Call, transaction, ticks, record_after_call, record_after_calls}
use Rattle.paper.proofs.KeptBytes.{none_page, after_page}
use Rattle.paper.proofs.CallKept.{after_tick_call}
use Rattle.history.specs.PageData.{Page}

-- what a transaction changes keeps it a page
changed_page : (c : Change) (i : List ℕ) (p : Record) → Page p → Page (changed c i p)
changed_page c i p h = after_page (data_after c) i p.page h

-- and so do ticks
worked_page : (p : Record) (o : Operation) (t : Bool) → Page p → Page (cond t (advanced p (advanced_by 1 o)) (finished p o))
worked_page p o true h = h
worked_page p o false h = none_page

ticked_page : (p : Record) (w : Option Operation) → Page p → Page (ticked_at p w)
unfolding worked
ticked_page p None h = h
ticked_page p (Some o) h = worked_page p o (ltb (ticks_done o + 1) (ticks_in_all o p.part.blocks)) h

run_page : (n : ℕ) (p : Record) → Page p → Page (record_after n p)
run_page zero p h = h
run_page (suc n) p h = ticked_page (record_after n p) (running (record_after n p).phase) (run_page n p h)

-- and so a call, and a list of calls
call_page : (c : Call) (p : Record) → Page p → Page (record_after_call c p)
unfolding transacted
call_page (transaction wp i o) p h =
    changed_page (outcome_of p.part p.phase (sound p) (array_bytes p.part.blocks) rows_bytes wp i o).change i p h
call_page (ticks n) p h = after_tick_call Page p n h (run_page n p h) (array_bytes p.part.blocks) rows_bytes

pub calls_page : (cs : List Call) (p : Record) → Page p → Page (record_after_calls cs p)
calls_page [] p h = h
calls_page (c ∷ cs) p h = calls_page cs (record_after_call c p) (call_page c p h)
