-- One line more, with its counts; and after all lines the last two.
use Rattle.std.proofs.Common.{◌≡◌, length, add-one, arith}
use Rattle.paper.specs.WearText.{wear_text}
use Rattle.printing.proofs.Text.{prints_then}
use Rattle.wear_text.specs.Page.{with}
use Rattle.wear_text.proofs.tell.Goals as goal

pub loop-sector-preserved : goal.loop-sector-preserved
unfolding with
loop-sector-preserved c =
    let l = c.loop-sector.invariant in
    record {
      text = rw add-one (prints_then l.text c.put_wear-at.ensures);
      erases = rw (add-one, c.with-erases.ensures, l.erases);
      programs = rw (add-one, c.with-programs.ensures, l.programs);
    }

pub returns : goal.returns
unfolding wear_text
returns c =
    let l = c.loop-sector.invariant in
    let e : c.loop-sector.sector ≡ length c.args.wear.now = omega arith in
    let p = rw (l.erases, l.programs) at c.put_sums.ensures in
    rw (← e) (prints_then l.text p)
