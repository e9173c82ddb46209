-- `blank_map::all_blank` meets its contract. The loop's invariant: the bits so far are FFh where all bytes so far are.
use mathlib.Core.Path.{◌≡◌, refl}
use native.Mathlib.Numerals.{add-one}
use native.Mathlib.Omega.{arith}
use lib.Bits.{and_le_l}
use lib.ListN.{length, get_or}
use Rattle.words.specs.Lists.{all_below, AreBytes}
use Rattle.blank_map.proofs.Blank.{blank_more}
use Rattle.blank_map.proofs.all_blank.Goals as goal

pub loop-byte-init : goal.loop-byte-init
unfolding all_below
loop-byte-init c = (refl, omega arith)

pub loop-byte-preserved : goal.loop-byte-preserved
loop-byte-preserved c =
    let l = c.loop-byte in
    let xs = c.args.bytes.now in
    let bytes : AreBytes xs = λ j. omega (arith, c.type_inv.bytes j) in
    (rw add-one (blank_more xs l.all l.byte-index bytes l.invariant.1 l.invariant.0), omega (arith, and_le_l l.all (get_or xs l.byte-index 0)))

pub returns : goal.returns
returns c =
    let l = c.loop-byte in
    let e : l.byte-index ≡ length c.args.bytes.now = omega (arith, l.auto.byte-index-end) in
    rw (← e) l.invariant.0
