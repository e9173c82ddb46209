-- `protection::large_cell` meets its contract: bit 4 of the code chooses the cell of its row.
use borrow.Author.Tests.{le-leb, lt-leb}
use Rattle.protection.proofs.large_cell.Goals as goal

pub returns-then-code-ge16 : goal.returns-then-code-ge16
returns-then-code-ge16 c = rw (le-leb 16 c.args.code c.if-code-ge16.true, c.large_row-row.ensures)

pub returns-else-code-ge16 : goal.returns-else-code-ge16
returns-else-code-ge16 c = rw (lt-leb 16 c.args.code c.if-code-ge16.false, c.large_row-row.ensures)
