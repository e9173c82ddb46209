-- `blank_map::mark` meets its contract: the run of bits is put in its parts.
use Prim.Native.Nat.{ℕ, ◌+◌, ◌-◌, ◌*◌, ◌/◌}
use mathlib.Core.Path.{refl, sym}
use mathlib.Core.Bool.{true}
use native.Mathlib.Omega.{arith}
use Rattle.blank_map.proofs.Marks.{puts_out, in-parts, in-two-parts}
use Rattle.blank_map.proofs.mark.Goals as goal

pub returns-then-n-j : goal.returns-then-n-j
returns-then-n-j c =
    let a = c.args in
    sym (puts_out a.count (a.j * 8 + a.place) (λ (q : ℕ). true) a.map.now (omega (arith, c.if-n-j.true)))

pub returns-then-rest-n : goal.returns-then-rest-n
returns-then-rest-n c =
    let a = c.args in
    let k = c.min-head in
    let p = c.requires in
    rw (c.mark_bits-then-rest-n.ensures, c.mark_bytes.ensures, c.mark_bits.ensures)
    (in-parts (λ (q : ℕ). true) a.map.now a.j a.place a.count k.result (a.count - k.result) (a.j + (a.place + 7) / 8) p k.ensures refl refl)

pub returns-else-rest-n : goal.returns-else-rest-n
returns-else-rest-n c =
    let a = c.args in
    let k = c.min-head in
    let p = c.requires in
    rw (c.mark_bytes.ensures, c.mark_bits.ensures)
    (in-two-parts (λ (q : ℕ). true) a.map.now a.j a.place a.count k.result (a.count - k.result) (a.j + (a.place + 7) / 8) p k.ensures refl refl (omega (arith, c.if-rest-n.false)))
