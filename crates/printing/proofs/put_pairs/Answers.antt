-- `printing::put_pairs` meets its contract. The loop's invariant: the pairs of the bytes so far are printed.
use Rattle.printing.proofs.Text.{prints_then, prints_length, pair_more}
use Rattle.std.proofs.Common.{add-one}
use Rattle.printing.proofs.put_pairs.Goals as goal

pub loop-byte-preserved : goal.loop-byte-preserved
loop-byte-preserved c =
    let l = c.loop-byte in
    rw (add-one, ← pair_more c.args.bytes.now l.byte-index c.loop-byte-test.true, ← c.hex_digit.ensures, ← c.hex_digit-in-loop-byte.ensures) (prints_then l.invariant c.put_two-place.ensures)

pub shape_of-output : goal.shape_of-output
shape_of-output c = prints_length c.loop-byte.invariant
