-- `transact::transact` meets its contract: the outcome is made of the record.
use Rattle.paper.specs.Calls.{transacted}
use Rattle.transact.proofs.transact.Goals as goal

pub returns : goal.returns
unfolding transacted
returns c =
    let u = c.transact_part-outcome.ensures in
    record { answer = rw (c.apply-next.ensures, u.answer, c.is_sound-sound.ensures); output = rw c.is_sound-sound.ensures at u.output }
