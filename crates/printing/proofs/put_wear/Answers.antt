-- `printing::put_wear` meets its contract: the pieces of the line are printed one after another, with ` full` and without it.
use mathlib.Core.List.{[], ◌∷◌, ◌++◌, append-nil}
use Rattle.printing.proofs.Text.{prints_then, prints_join, word_joins}
use Rattle.paper.specs.WearText.{full_word, counts_text, wide_decimal, wear_line}
use Rattle.paper.specs.Bench.{space, LF}
use Rattle.printing.proofs.put_wear.Goals as goal

pub returns-then-is_full : goal.returns-then-is_full
unfolding wear_line
returns-then-is_full c =
    let a = c.args in
    let x = wide_decimal a.sector ++ (space ∷ []) ++ counts_text a.erases a.programs in
    rw (← c.is_full.ensures, c.if-is_full.true, ← word_joins x (space ∷ []) full_word (LF ∷ [])) (prints_then (prints_join (counts_text a.erases a.programs) (space ∷ []) c.put_wide-a.ensures c.put_counts-b.ensures) c.put_text.ensures)

pub returns : goal.returns
unfolding wear_line
returns c =
    let a = c.args in
    let x = wide_decimal a.sector ++ (space ∷ []) ++ counts_text a.erases a.programs in
    rw (← c.is_full.ensures, c.if-is_full.false, append-nil x) (prints_join (counts_text a.erases a.programs) (LF ∷ []) c.put_wide-a.ensures c.put_counts.ensures)
