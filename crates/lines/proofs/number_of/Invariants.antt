use Rattle.std.proofs.Common.{◌≡◌, ◌<◌, drop}
use Rattle.lines.proofs.Numerals.{tens}
use Rattle.paper.specs.Bench.{numeral_from}
use Rattle.lines.proofs.number_of.Given as goal

abbrev pub invariant-loop-x : goal.invariant-loop-x
invariant-loop-x l = (numeral_from l.n (drop l.x-index l.text) ≡ numeral_from 0 l.text) × (l.n < tens l.x-index)
