-- `printing::put_answer` meets its contract: the pieces of the line are printed one after another.
use Rattle.printing.proofs.Text.{prints_then, prints_join}
use Rattle.paper.specs.Bench.{space, place_text, answer_text}
use mathlib.Core.List.{[], ◌∷◌}
use lib.ListN.{length}
use Rattle.printing.proofs.put_answer.Goals as goal

pub returns : goal.returns
unfolding answer_text
returns c =
    let a = c.args in
    prints_then (prints_then (prints_join (place_text a.first (length a.bytes.now)) (space ∷ []) c.put_decimal-a.ensures c.put_place-b.ensures) c.put_pairs-c.ensures) c.put.ensures
