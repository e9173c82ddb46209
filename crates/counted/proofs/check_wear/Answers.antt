-- `counted::check_wear` meets its contract: it is refused with 1 or 35 where the records aren't one for each sector of the array.
use Rattle.counted.specs.InBytes.{wear_refusal}
use Rattle.counted.proofs.check_wear.Goals as goal

pub returns : goal.returns
unfolding wear_refusal
returns c = c.check.ensures
