-- `bench_lines::wait` meets its contract: the call is made, and its answer is printed.
use Rattle.bench_lines.proofs.wait.Goals as goal

pub returns : goal.returns
returns c =
    let t = c.tick-ticked.ensures in
    record { after = rw (t.answer, t.array, t.rows); output = rw (← t.answer) c.put_ticks-printed.ensures }
