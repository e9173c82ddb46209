-- `ticks::tick_bytes` meets its contract: bytes that hold no record are left alone, and else what the ticks make of the record is written.
use mathlib.Core.Path.{◌∙◌}
use Rattle.record_bytes.specs.Read.{record_in}
use Rattle.record_bytes.proofs.Back.{held_length}
use Rattle.record_bytes.proofs.Told.{none_held, some_held}
use Rattle.ticks.proofs.InBytes.{unheld_worked, unheld_tick_bytes, unheld_memory, told_worked, told_bytes, told_memory}
use native.Mathlib.Omega.{arith}
use Rattle.ticks.proofs.tick_bytes.Goals as goal

pub returns-in_default : goal.returns-in_default
returns-in_default c =
    let h = record_in c.args.bytes.now in
    let n = none_held h _ c.in_default.is c.read.ensures in
    record { answer = unheld_worked h n _ _ _ _ (c.number_of.ensures ∙ c.check_unread-unread.ensures); bytes = unheld_tick_bytes h n _ _ _ _; array = unheld_memory h n _ _ _ _ _; rows = unheld_memory h n _ _ _ _ _ }

pub slice_bounds-page-end : goal.slice_bounds-page-end
slice_bounds-page-end c = omega (arith, held_length c.args.bytes.now (some_held (record_in c.args.bytes.now) _ _ c.in-Some.is c.read.ensures).0)

pub returns : goal.returns
returns c =
    let bs = c.args.bytes.now in
    let f = some_held (record_in bs) _ _ c.in-Some.is c.read.ensures in
    let w = c.running-work in
    let u = c.tick_part-told.ensures in
    record { answer = told_worked bs f.0 _ f.1 _ _ _ _ u.answer w.result w.ensures; bytes = c.write_change.ensures ∙ told_bytes bs f.0 _ f.1 _ _ _ _ u.answer; array = told_memory bs f.0 _ f.1 _ _ _ _ _ _ u.array; rows = told_memory bs f.0 _ f.1 _ _ _ _ _ _ u.rows }
