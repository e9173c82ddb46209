-- `beside::refusal` meets its contract: what is lent fits, no record is held, or a record whose size is judged.
use Rattle.std.proofs.Common.{◌∙◌}
use Rattle.beside.proofs.Told.{it_fits, unheld, found_so, joined}
use Rattle.record_bytes.specs.Read.{record_in}
use Rattle.record_bytes.proofs.Told.{none_held, some_held}
use Rattle.beside.proofs.refusal.Goals as goal

pub returns-then-fits : goal.returns-then-fits
returns-then-fits c = it_fits _ _ _ _ c.if-fits.true

pub returns-in_default : goal.returns-in_default
returns-in_default c =
    unheld _ _ _ _ c.if-fits.false (none_held (record_in c.args.bytes.now) _ c.in_default.is c.read.ensures)

pub returns : goal.returns
returns c =
    let f = some_held (record_in c.args.bytes.now) _ _ c.in-Some.is c.read.ensures in
    found_so c.args.bytes.now _ _ _ c.if-fits.false _ f.1 f.0 _ (joined _ _ _ _ (c.number_of-size.ensures ∙ c.check_size.ensures) c.number_or.ensures)
