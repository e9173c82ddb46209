-- `blank_map::zero_group` meets its contract: eight bytes that are there are lent on.
use Prim.Native.Nat.{◌+◌, ◌-◌}
use mathlib.Core.Path.{sym, ◌∙◌}
use native.Mathlib.Omega.{arith}
use borrow.Author.Tests.{lt-leb}
use Rattle.blank_map.proofs.Clear.{no_group, group_lent}
use Rattle.blank_map.proofs.zero_group.Goals as goal

pub returns-then-map-j-ge8 : goal.returns-then-map-j-ge8
returns-then-map-j-ge8 c =
    let a = c.args in
    c.zero_from.ensures ∙ group_lent a.map.now a.j (a.j + 8 - a.j) (omega arith) (omega (arith, c.if-map-j-ge8.true, c.requires))

pub returns-else-map-j-ge8 : goal.returns-else-map-j-ge8
returns-else-map-j-ge8 c =
    let a = c.args in
    lt-leb 8 _ c.if-map-j-ge8.false ∙ sym (no_group a.map.now a.j (omega (arith, c.if-map-j-ge8.false, c.requires)))
