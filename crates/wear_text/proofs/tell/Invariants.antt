-- So many lines are printed, and their counts are summed.
use Rattle.std.proofs.Common.{◌≡◌}
use Rattle.paper.specs.WearText.{wear_lines}
use Rattle.printing.specs.Printed.{Prints}
use Rattle.wear_text.specs.Page.{sum_at}
use Rattle.wear_text.proofs.tell.Given as goal

abbrev pub invariant-loop-sector : goal.invariant-loop-sector
invariant-loop-sector l =
    record {
      text : Prints l.initial.text 0 (wear_lines l.wear l.sector) l.text l.at;
      erases : l.erases ≡ sum_at (λ w. w.erases) l.wear l.sector;
      programs : l.programs ≡ sum_at (λ w. w.programs) l.wear l.sector;
    }
