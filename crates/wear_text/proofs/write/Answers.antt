-- `wear_text::write` meets its contract: the refusal decides.
use Rattle.paper.proofs.Refusals.{refused}
use Rattle.paper.specs.WearText.{wear_written}
use Rattle.wear_text.proofs.write.Goals as goal

pub returns-in-Err : goal.returns-in-Err
unfolding wear_written
returns-in-Err c =
    let n = c.in-Err.ensures in
    let z = refused c.in-Err.refusal in
    record { answer = rw (← n, z, c.number-number.ensures); text = rw (← n, z) }
