-- `sent::names_row` meets its contract: it joins the four tests as the definition does.
use Rattle.std.proofs.Common.{rules}
use Rattle.words.specs.Logic.{◌or◌}
use Rattle.sent.proofs.names_row.Goals as goal

pub returns-in-0 : goal.returns-in-0
unfolding ◌or◌
returns-in-0 c = search rules

pub returns-in_default : goal.returns-in_default
unfolding ◌or◌
returns-in_default c = search rules
