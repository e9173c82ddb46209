use Rattle.printing.specs.Printed.{Prints}
use Rattle.paper.specs.Bench.{hex_pairs}
use lib.ListN.{take}
use Rattle.printing.proofs.put_pairs.Given as goal

abbrev pub invariant-loop-byte : goal.invariant-loop-byte
invariant-loop-byte l = Prints l.initial.output l.at (hex_pairs (take l.byte-index l.bytes)) l.output l.place
