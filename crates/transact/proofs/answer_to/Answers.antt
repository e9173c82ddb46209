-- `transact::answer_to` meets its contract: the number decides, and a command that is executed has something to drive.
use Rattle.transact.proofs.Driven.{has_bytes, number_told}
use Rattle.paper.proofs.Numbers.{command_taken}
use mathlib.Core.Path.{sym}
use Rattle.std.proofs.Common.{rules}
use Rattle.transact.proofs.answer_to.Goals as goal

pub show-requires : goal.show-requires
show-requires c =
    let a = c.args in
    let n = number_told a.command a.part a.phase a.input.now a.wp c.columns_of-k.ensures c.addressing-form.ensures c.begins-work.ensures c.in-Ok.ensures in
    let t = command_taken _ _ a.part a.phase a.input.now a.wp (sym n) in
    (rw c.columns_of-k.ensures (has_bytes a.identity a.part a.array.now a.rows.now a.input.now c.requires.0 c.requires.1 c.requires.2 a.command t.address_ok_lem), c.requires.3, c.addressing-form.ensures)

pub returns-in-Err : goal.returns-in-Err
returns-in-Err c =
    let a = c.args in
    let n = number_told a.command a.part a.phase a.input.now a.wp c.columns_of-k.ensures c.addressing-form.ensures c.begins-work.ensures c.in-Err.ensures in
    search rules
