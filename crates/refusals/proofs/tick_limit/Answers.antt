-- `refusals::tick_limit` meets its contract: it goes by whether the part is the large one.
use mathlib.Core.Path.{sym, ◌∙◌}
use Rattle.refusals.proofs.tick_limit.Goals as goal

pub returns-then-is_large : goal.returns-then-is_large
returns-then-is_large c = rw (sym c.is_large.ensures ∙ c.if-is_large.true)

pub returns-else-is_large : goal.returns-else-is_large
returns-else-is_large c = rw (sym c.is_large.ensures ∙ c.if-is_large.false)
