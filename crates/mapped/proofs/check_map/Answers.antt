-- `mapped::check_map` meets its contract: it is 1 or 36 where the map hasn't one bit for each page of the array.
use Rattle.mapped.specs.InBytes.{map_refusal}
use Rattle.mapped.proofs.check_map.Goals as goal

pub returns : goal.returns
unfolding map_refusal
returns c = c.check.ensures
