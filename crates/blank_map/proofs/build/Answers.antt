-- `blank_map::build` meets its contract. The loop's invariant: the bytes so far are made, and what is left is as it came.
use mathlib.Core.Path.{◌≡◌, ◌∙◌}
use mathlib.Core.List.{append-nil}
use native.Mathlib.Numerals.{add-one}
use native.Mathlib.Omega.{arith}
use lib.ListN.{length}
use lib.Seq.{drop-length}
use Rattle.words.specs.Bits.{byte_of}
use Rattle.paper.specs.Map.{blank_page}
use Rattle.blank_map.proofs.Blank.{made_more}
use Rattle.blank_map.proofs.build.Goals as goal

pub loop-j-preserved : goal.loop-j-preserved
loop-j-preserved c =
    let l = c.loop-j in
    let a = c.args in
    rw (l.invariant, c.byte_of.ensures, add-one) (made_more a.map.now (byte_of (blank_page a.array.now)) l.j c.loop-j-test.true)

pub returns : goal.returns
returns c =
    let l = c.loop-j in
    let e : l.j ≡ length c.args.map.now = omega (arith, l.auto.j-end, c.loop-j-test.false) in
    l.invariant ∙ rw (e, drop-length, append-nil)
