-- `protection::protected_blocks` meets its contract: it takes the cell of the code in the table of the size, and none for a number that is no code.
use mathlib.Core.Bool.{true, false}
use mathlib.Core.Path.{sym, ◌∙◌}
use native.Mathlib.Omega.{arith}
use Rattle.paper.proofs.Protected.{table_looked_up, table_none}
use Rattle.protection.proofs.protected_blocks.Goals as goal

pub returns-then-code-gt-LARGE_CODE_MOST : goal.returns-then-code-gt-LARGE_CODE_MOST
returns-then-code-gt-LARGE_CODE_MOST c =
    let a = c.args in
    rw (table_none a.code a.blocks true (sym c.is_large.ensures ∙ c.if-is_large.true) c.if-code-gt-LARGE_CODE_MOST.true)

pub returns-then-is_large : goal.returns-then-is_large
returns-then-is_large c =
    let a = c.args in
    rw (table_looked_up a.code a.blocks true (sym c.is_large.ensures ∙ c.if-is_large.true) (omega (arith, c.if-code-gt-LARGE_CODE_MOST.false)), c.blocks_of.ensures, c.large_cell.ensures)

pub returns-then-code-gt-CODE_MOST : goal.returns-then-code-gt-CODE_MOST
returns-then-code-gt-CODE_MOST c =
    let a = c.args in
    rw (table_none a.code a.blocks false (sym c.is_large.ensures ∙ c.if-is_large.false) c.if-code-gt-CODE_MOST.true)

pub returns : goal.returns
returns c =
    let a = c.args in
    rw (table_looked_up a.code a.blocks false (sym c.is_large.ensures ∙ c.if-is_large.false) (omega (arith, c.if-code-gt-CODE_MOST.false)), c.blocks_of-2.ensures, c.cell_of.ensures, c.block_row.ensures)
