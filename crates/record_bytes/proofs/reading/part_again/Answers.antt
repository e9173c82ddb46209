-- `record_bytes::reading::part_again` meets its contract: bytes of a record's length have the fields of a part at their places, and others give the part of no record.
use mathlib.Core.Path.{ap, ◌∙◌}
use borrow.Author.Tests.{eq-eqb, ne_eqb}
use Rattle.record_bytes.specs.Read.{part_in, part_again}
use Rattle.record_bytes.proofs.reading.part_again.Goals as goal

pub returns-in-Some : goal.returns-in-Some
unfolding part_again
returns-in-Some c =
    let w = c.in-Some.ensures.cases in
    rw (eq-eqb _ _ w.long) (c.part_in.ensures ∙ ap part_in w.same)

pub returns-in-None : goal.returns-in-None
unfolding part_again
returns-in-None c = rw (ne_eqb _ _ c.in-None.ensures.cases, c.fresh_part.ensures, c.no_stored.ensures)
