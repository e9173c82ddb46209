use lib.ListN.{take}
use Rattle.printing.specs.Printed.{Prints}
use Rattle.printing.proofs.put_text.Given as goal

abbrev pub invariant-loop-character : goal.invariant-loop-character
invariant-loop-character l = Prints l.initial.output l.at (take l.character-index l.text) l.output l.place
