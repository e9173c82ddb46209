-- `blank_map::byte_of` meets its contract. The loop's invariant: the number has the bits of the pages from the last one looked at on.
use Prim.Native.Nat.{ℕ, ◌+◌, ◌-◌, ◌*◌}
use mathlib.Core.Path.{◌≡◌, ap, ◌∙◌}
use native.Mathlib.Nat.{add-zero}
use native.Mathlib.Omega.{arith}
use Rattle.words.specs.Bits.{bits_from, byte_of}
use Rattle.words.proofs.Tests.{bit_le}
use Rattle.paper.specs.Map.{blank_page}
use Rattle.blank_map.proofs.Blank.{few_bits, bits_below}
use Rattle.blank_map.proofs.byte_of.Goals as goal

pub overflow_mul-byte : goal.overflow_mul-byte
overflow_mul-byte c =
    let l = c.loop-k in
    let a = c.args in
    omega (arith, l.invariant, few_bits (8 - l.k) (blank_page a.array.now) (a.j * 8 + l.k) (omega (arith, c.loop-k-test.true)))

pub overflow_add-byte : goal.overflow_add-byte
overflow_add-byte c =
    let l = c.loop-k in
    let a = c.args in
    omega (arith, l.invariant, few_bits (8 - l.k) (blank_page a.array.now) (a.j * 8 + l.k) (omega (arith, c.loop-k-test.true)), c.bit_of.ensures, bit_le c.blank_page.result)

pub loop-k-preserved : goal.loop-k-preserved
loop-k-preserved c =
    let l = c.loop-k in
    let a = c.args in
    rw (l.invariant, c.bit_of.ensures, c.blank_page.ensures) (bits_below (blank_page a.array.now) (a.j * 8) l.k c.loop-k-test.true l.auto.k)

pub returns : goal.returns
unfolding byte_of
returns c =
    let l = c.loop-k in
    let a = c.args in
    let e : l.k ≡ 0 = omega (arith, c.loop-k-test.false) in
    l.invariant ∙ ap (λ (k : ℕ). bits_from (8 - k) (blank_page a.array.now) (a.j * 8 + k)) e ∙ ap (bits_from 8 (blank_page a.array.now)) (add-zero (a.j * 8))
