-- `script::wait` meets its contract: part and phase are those of the record that the bytes hold, and what the ticks make of it is written.
use Rattle.record_bytes.proofs.Back.{held_length}
use Rattle.types.specs.declared.Memory.TheVariants.{Array, Rows}
use Rattle.script.proofs.OneStep.{only_runs, waits_told, waits_held, waits_memory}
use native.Mathlib.Omega.{arith}
use Rattle.script.proofs.wait.Goals as goal

pub slice_bounds-page-end : goal.slice_bounds-page-end
slice_bounds-page-end c = omega (arith, held_length c.args.bytes.now c.requires.ok)

pub write_ran-requires : goal.write_ran-requires
write_ran-requires c = let u = c.tick_part-told in only_runs _ _ _ _ _ _ u.result u.ensures.answer

pub returns : goal.returns
returns c = let s = c in
    let a = c.args in
    let p = c.part_again-part in
    let f = c.phase_again-phase in
    let w = c.running-work in
    let u = c.tick_part-told in
    record { waits = waits_told a.bytes.now a.array.now a.rows.now c.requires p.result f.result p.ensures f.ensures a.ticks u.result u.ensures.answer w.result w.ensures; held = waits_held a.bytes.now a.array.now a.rows.now c.requires p.result f.result p.ensures f.ensures a.ticks u.result u.ensures.answer _ c.write_ran.ensures; array = waits_memory a.bytes.now a.array.now a.rows.now c.requires p.result f.result p.ensures f.ensures a.ticks Array _ _ u.ensures.array; rows = waits_memory a.bytes.now a.array.now a.rows.now c.requires p.result f.result p.ensures f.ensures a.ticks Rows _ _ u.ensures.rows }
