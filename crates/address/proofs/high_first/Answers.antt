-- `address::high_first` meets its contract. The loop's invariant: the number is that of the bytes passed, of which there are at most eight;
-- seven bytes leave room for one more.
use Prim.Native.Nat.{ℕ, ◌<◌, min}
use mathlib.Core.Path.{◌≡◌, sym, ◌∙◌}
use native.Mathlib.Numerals.{add-one}
use native.Mathlib.Omega.{arith}
use lib.ListN.{length, length-take, get_or}
use lib.Seq.{get_or-take}
use Rattle.paper.proofs.Addresses.{high_first_none, high_first_more, high_first_room}
use Rattle.words.proofs.Lists.{take_min}
use Rattle.address.proofs.high_first.Goals as goal

pub loop-byte-init : goal.loop-byte-init
loop-byte-init c = sym (high_first_none c.args.bytes.now)

pub overflow_mul-number : goal.overflow_mul-number
overflow_mul-number c =
    let l = c.loop-byte in
    let bs = c.args.bytes.now in
    let low : (i : ℕ) → get_or bs i 0 < 256 = λ i. omega (arith, c.type_inv.bytes i) in
    let t = simp (length-take, c.min.ensures) at c.loop-byte-test.true in
    omega (arith, l.invariant, high_first_room bs low l.byte-index (omega arith) (omega arith))

pub overflow_add-number : goal.overflow_add-number
overflow_add-number c =
    let l = c.loop-byte in
    let bs = c.args.bytes.now in
    let low : (i : ℕ) → get_or bs i 0 < 256 = λ i. omega (arith, c.type_inv.bytes i) in
    let t = simp (length-take, c.min.ensures) at c.loop-byte-test.true in
    let e = c.from.ensures ∙ get_or-take c.min.result bs l.byte-index 0 (omega arith) in
    omega (arith, l.invariant, e, low l.byte-index, high_first_room bs low l.byte-index (omega arith) (omega arith))

pub loop-byte-preserved : goal.loop-byte-preserved
loop-byte-preserved c =
    let l = c.loop-byte in
    let bs = c.args.bytes.now in
    let t = simp (length-take, c.min.ensures) at c.loop-byte-test.true in
    let e = c.from.ensures ∙ get_or-take c.min.result bs l.byte-index 0 (omega (arith, c.min.ensures)) in
    rw (add-one, high_first_more bs l.byte-index (omega arith), e, l.invariant)

pub returns : goal.returns
returns c =
    let l = c.loop-byte in
    let bs = c.args.bytes.now in
    let t = simp (length-take, c.min.ensures) at c.loop-byte-test.false in
    let u = simp (length-take, c.min.ensures) at l.auto.byte-index-end in
    let e : l.byte-index ≡ min 8 (length bs) = omega arith in
    l.invariant ∙ rw (e, take_min)
