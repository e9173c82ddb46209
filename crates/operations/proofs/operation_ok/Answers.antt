-- `operations::operation_ok` meets its contract: each arm joins the tests of what the operation is.
use Rattle.operations.proofs.InOrder.{program_as, write_as}
use mathlib.Core.Path.{sym}
use borrow.Author.Rules.{rules}
use Rattle.operations.proofs.operation_ok.Goals as goal

pub returns-in-Program : goal.returns-in-Program
returns-in-Program c =
    let a = c.args in
    rw (c.in-Program.is, c.both-in-Program-3.ensures, c.both-in-Program-2.ensures, c.both-in-Program.ensures, c.both.ensures, c.is_free-open.ensures, c.ends_within-within.ensures, c.memory_bytes.ensures) (sym (program_as _ _ _ _ _ a.blocks a.stored (search rules)))

pub returns-in-Erase : goal.returns-in-Erase
returns-in-Erase c = rw c.in-Erase.is c.erase_ok.ensures

pub returns-in-Write : goal.returns-in-Write
returns-in-Write c =
    let a = c.args in
    rw (c.in-Write.is, c.held_byte.ensures) (sym (write_as _ _ a.blocks a.stored))
