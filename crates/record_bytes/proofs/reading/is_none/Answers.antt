-- `record_bytes::reading::is_none` meets its contract: all five cells are 0.
use mathlib.Core.Path.{sym, ◌∙◌}
use Rattle.words.specs.Logic.{◌and◌}
use Rattle.cells.proofs.Own.{none_told}
use Rattle.record_bytes.proofs.reading.is_none.Goals as goal

pub returns : goal.returns
unfolding ◌and◌
returns c = c.eq.ensures ∙ sym (none_told c.args.cells)
