-- `beside::check` meets its contract: what is lent fits, no record is held, or a record whose size is judged.
use Rattle.std.proofs.Common.{◌≡◌, sym, arith}
use Rattle.std.proofs.lemmas.Grind.{common_steps}
use Rattle.words.specs.Logic.{◌or_else◌}
use Rattle.paper.specs.Numbers.{size_number}
use Rattle.paper.specs.Refusals.{number, number_of}
use Rattle.paper.proofs.Refusals.{refuses, passes}
use Rattle.record_bytes.specs.Read.{record_in}
use Rattle.record_bytes.proofs.Told.{none_held, some_held}
use Rattle.beside.proofs.Told.{it_fits, unheld, found_so}
use Rattle.beside.proofs.check.Goals as goal

pub returns-then-fits : goal.returns-then-fits
returns-then-fits c = it_fits _ _ _ _ c.if-fits.true

pub returns-in_default : goal.returns-in_default
returns-in_default c =
    unheld _ _ _ _ c.if-fits.false (none_held (record_in c.args.bytes.now) _ c.in_default.is c.read.ensures)

pub returns-in_err-check_size : goal.returns-in_err-check_size
returns-in_err-check_size c =
    let f = some_held (record_in c.args.bytes.now) _ _ c.in-Some.is c.read.ensures in
    let k : number_of c.from_residual.result ≡ (size_number c.in-Some.found.part.blocks c.args.array or_else number c.args.refusal) = grind (arith, common_steps, refuses) in
    found_so c.args.bytes.now _ _ _ c.if-fits.false _ f.1 f.0 _ k

pub returns : goal.returns
returns c =
    let f = some_held (record_in c.args.bytes.now) _ _ c.in-Some.is c.read.ensures in
    found_so c.args.bytes.now _ _ _ c.if-fits.false _ f.1 f.0 _ (sym (passes _ _ c.in_ok-check_size.ensures))
