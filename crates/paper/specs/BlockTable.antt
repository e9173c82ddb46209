-- The block tables: which blocks each code protects, in the layout of table 6.4 of source document 000, and for the large part in that of source document 004.
use Rattle.std.specs.Prelude.{ℕ, ◌%◌, List, [], ◌∷◌, Bool, cond, eqb, leb}
use Rattle.types.specs.declared.Cell.{Cell}
use Rattle.types.specs.declared.BlockRow.{BlockRow}
use Rattle.types.specs.declared.LargeRow.{LargeRow}
use Rattle.paper.specs.Sizes.{is_large}

infixl 80 ◌is◌
-- a code and its row
pub record CodeRow (R : Type 0) : Type 0 where
  pub code : ℕ
  pub cells : R

abbrev pub ◌is◌ : {R : Type 0} → ℕ → R → CodeRow R
c is r = record { code = c; cells = r }

-- The sixteen rows, BP3 BP2 BP1 BP0 = 0000 downward to 1111, with a column for each size in the printed order, and then that of the 1-block size, which no source prints.
-- A cell is the first protected block and how many there are from it; (0, 0) is printed as None. Where print and table differ the cell is named behind its row, and 01's rule
-- decides it: blank (nothing is printed), shifted (printed one column to the left), garbled ("All Blocks" can be guessed), stray (a mark that is no cell).
abbrev pub block_table : List (CodeRow BlockRow)
block_table =
    --           8 Mbit    4 Mbit    2 Mbit    1 block
    0b0000 is ((00, 00), (00, 00), (00, 00), (00, 00))
    ∷ 0b0001 is ((15, 01), (07, 01), (03, 01), (00, 01))  -- 4 Mbit blank, 2 Mbit shifted
    ∷ 0b0010 is ((14, 02), (06, 02), (02, 02), (00, 01))
    ∷ 0b0011 is ((12, 04), (04, 04), (00, 04), (00, 01))  -- 4 Mbit blank, 2 Mbit blank
    ∷ 0b0100 is ((08, 08), (00, 08), (00, 04), (00, 01))  -- 4 Mbit blank, 2 Mbit blank
    ∷ 0b0101 is ((00, 16), (00, 08), (00, 04), (00, 01))  -- 8 Mbit blank, 4 Mbit blank, 2 Mbit blank
    ∷ 0b0110 is ((00, 16), (00, 08), (00, 04), (00, 01))  -- 8 Mbit blank, 4 Mbit blank, 2 Mbit blank
    ∷ 0b0111 is ((00, 16), (00, 08), (00, 04), (00, 01))  -- 8 Mbit blank, 4 Mbit blank, 2 Mbit blank
    ∷ 0b1000 is ((00, 16), (00, 08), (00, 04), (00, 01))  -- 8 Mbit garbled, 4 Mbit garbled, 2 Mbit garbled
    ∷ 0b1001 is ((00, 16), (00, 08), (00, 04), (00, 01))  -- 8 Mbit stray, 4 Mbit blank, 2 Mbit blank
    ∷ 0b1010 is ((00, 16), (00, 08), (00, 04), (00, 01))  -- 8 Mbit blank, 4 Mbit blank, 2 Mbit blank
    ∷ 0b1011 is ((00, 08), (00, 08), (00, 04), (00, 01))  -- 4 Mbit blank, 2 Mbit blank
    ∷ 0b1100 is ((00, 04), (00, 04), (00, 04), (00, 01))  -- 2 Mbit blank
    ∷ 0b1101 is ((00, 02), (00, 02), (00, 02), (00, 01))
    ∷ 0b1110 is ((00, 01), (00, 01), (00, 01), (00, 01))
    ∷ 0b1111 is ((00, 00), (00, 00), (00, 00), (00, 00))
    ∷ []

-- The sixteen rows of the large part, with a column for each value of the top or bottom bit. Rows that are printed as one (101x, 11xx) are two and four here.
abbrev pub large_table : List (CodeRow LargeRow)
large_table =
    --           TBS 0, top  TBS 1, bottom
    0b0000 is ((000, 000), (000, 000))
    ∷ 0b0001 is ((511, 001), (000, 001))
    ∷ 0b0010 is ((510, 002), (000, 002))
    ∷ 0b0011 is ((508, 004), (000, 004))
    ∷ 0b0100 is ((504, 008), (000, 008))
    ∷ 0b0101 is ((496, 016), (000, 016))
    ∷ 0b0110 is ((480, 032), (000, 032))
    ∷ 0b0111 is ((448, 064), (000, 064))
    ∷ 0b1000 is ((384, 128), (000, 128))
    ∷ 0b1001 is ((256, 256), (000, 256))
    ∷ 0b1010 is ((000, 512), (000, 512))
    ∷ 0b1011 is ((000, 512), (000, 512))
    ∷ 0b1100 is ((000, 512), (000, 512))
    ∷ 0b1101 is ((000, 512), (000, 512))
    ∷ 0b1110 is ((000, 512), (000, 512))
    ∷ 0b1111 is ((000, 512), (000, 512))
    ∷ []

-- no block, and rows of none
abbrev pub no_blocks : Cell
no_blocks = (0, 0)

abbrev pub no_row : BlockRow
no_row = (no_blocks, no_blocks, no_blocks, no_blocks)

abbrev pub no_large_row : LargeRow
no_large_row = (no_blocks, no_blocks)

-- the cells of the first row that has the code; a number that is no code has none
abbrev pub row_in : {R : Type 0} → R → List (CodeRow R) → ℕ → R
row_in none [] c = none
row_in none (r ∷ rs) c = cond (eqb c r.code) r.cells (row_in none rs c)

unfoldable pub block_row : ℕ → BlockRow
block_row c = row_in no_row block_table c

unfoldable pub large_row : ℕ → LargeRow
large_row c = row_in no_large_row large_table c

-- the cell of a row in the column of a size; a number of blocks that is no size has none
unfoldable pub cell_of : ℕ → BlockRow → Cell
cell_of n r =
    cond (eqb n 16) r.0 (cond (eqb n 8) r.1 (cond (eqb n 4) r.2 (cond (eqb n 1) r.3 no_blocks)))

-- the cell of a row of the large part, by the top or bottom bit
abbrev pub large_cell_of : Bool → LargeRow → Cell
large_cell_of bottom r = cond bottom r.1 r.0

-- the cell of a code on a part of n blocks; codes of the large part have the top or bottom bit above the four bits of a row
unfoldable pub table_cell : ℕ → ℕ → Cell
table_cell c n = cond (is_large n) (large_cell_of (leb 16 c) (large_row (c % 16))) (cell_of n (block_row c))
