-- `printing::put_text` meets its contract. The loop's invariant: so many characters of the text are printed.
use Rattle.printing.proofs.Text.{prints_then, prints_length}
use Rattle.std.proofs.Common.{add-one}
use lib.Seq.{take-suc}
use Rattle.printing.proofs.put_text.Goals as goal

pub loop-character-preserved : goal.loop-character-preserved
loop-character-preserved c =
    let l = c.loop-character in
    rw (add-one, take-suc c.args.text.now l.character-index 0 c.loop-character-test.true) (prints_then l.invariant c.put-place.ensures)

pub shape_of-output : goal.shape_of-output
shape_of-output c = prints_length c.loop-character.invariant
