-- `reading::identity_in` meets its contract: each byte is read at its place.
use Rattle.record_bytes.proofs.reading.identity_in.Goals as goal

pub returns : goal.returns
returns c = rw (c.byte_at-4.ensures, c.byte_at-3.ensures, c.byte_at-2.ensures, c.byte_at.ensures)
