-- `record_bytes::writing::write_page` meets its contract: an arm for each; what is filled has a page's length.
use mathlib.Core.Path.{◌∙◌}
use borrow.Author.Tests.{eq-eqb}
use Rattle.paper.specs.Program.{no_data}
use Rattle.record_bytes.proofs.writing.write_page.Goals as goal

pub returns-in-Sent : goal.returns-in-Sent
returns-in-Sent c = rw c.in-Sent.is (c.write_page_data.ensures ∙ rw (eq-eqb _ _ c.requires))

pub returns-in-Zero : goal.returns-in-Zero
unfolding no_data
returns-in-Zero c = rw c.in-Zero.is (c.fill.ensures ∙ rw c.requires)
