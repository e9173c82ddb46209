-- `bench::answer` meets its contract: what was printed is written.
use Rattle.std.specs.Prelude.{List, ℕ, OnOk}
use Rattle.std.specs.Io.KnownBytes.{Appends}
use Rattle.bench.proofs.Whole.{prints_as_far}
use mathlib.Core.Path.{subst}
use Rattle.bench.proofs.answer.Goals as goal

pub returns : goal.returns
returns g c =
    subst (λ (l : List ℕ). OnOk c.write_all.result (Appends (g.W.Write.contents c.args.writer.now) (g.W.Write.contents c.write_all.new.self) l))
    (prints_as_far _ _ _ _ c.bench-benched.ensures.output) c.write_all.ensures.bytes
