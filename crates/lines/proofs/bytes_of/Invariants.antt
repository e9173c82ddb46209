use Rattle.std.proofs.Common.{◌≡◌, ◌*◌, drop}
use Rattle.std.proofs.lemmas.List.Edits.{sets}
use Rattle.paper.specs.Bench.{pairs}
use Rattle.lines.proofs.bytes_of.Given as goal

abbrev pub invariant-loop-i : goal.invariant-loop-i
invariant-loop-i l = sets l.bytes l.i (pairs (drop (2 * l.i) l.text)) ≡ sets l.initial.bytes 0 (pairs l.text)
