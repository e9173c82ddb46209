-- `record_bytes::reading::marks_in` meets its contract: it joins the three tests.
use Rattle.record_bytes.specs.Read.{marks_in}
use Rattle.record_bytes.proofs.reading.marks_in.Goals as goal

pub returns : goal.returns
unfolding marks_in
returns c = rw (c.both-2.ensures, c.both.ensures)
