-- `blank_map::clear_from` meets its contract: each test is the definition's, and the zeros of the byte are counted.
use mathlib.Core.Path.{sym, ◌∙◌, refl}
use mathlib.Core.Bool.{true, false}
use Prim.Native.Nat.{◌/◌, ◌%◌}
use native.Mathlib.Omega.{arith}
use lib.Count.{trailing_le}
use borrow.Author.Tests.{eq-eqb, ne_eqb}
use Rattle.blank_map.specs.Marked.{rest_at}
use Rattle.blank_map.proofs.Clear.{seen_by_lem, next_seen}
use Rattle.blank_map.proofs.clear_from.Goals as goal

pub overflow_cast-result : goal.overflow_cast-result
overflow_cast-result c = let a = c.args in omega (arith, trailing_le 8 (rest_at a.map.now a.bit))

pub returns-then-rest-ne0 : goal.returns-then-rest-ne0
returns-then-rest-ne0 c =
    let a = c.args in
    next_seen a.map.now a.bit (omega (arith, c.shared_slice_known-2-1.given (a.bit / 8))) c.if-rest-ne0.true

pub returns-then-place-ne0 : goal.returns-then-place-ne0
returns-then-place-ne0 c =
    let a = c.args in
    sym (seen_by_lem a.map.now a.bit true false _ (eq-eqb _ 0 c.if-rest-ne0.false) (ne_eqb (a.bit % 8) 0 c.if-place-ne0.true) refl)

pub returns-then-zero_group : goal.returns-then-zero_group
returns-then-zero_group c =
    let a = c.args in
    sym (seen_by_lem a.map.now a.bit true true true (eq-eqb _ 0 c.if-rest-ne0.false) (eq-eqb (a.bit % 8) 0 c.if-place-ne0.false) (sym c.zero_group.ensures ∙ c.if-zero_group.true))

pub returns : goal.returns
returns c =
    let a = c.args in
    sym (seen_by_lem a.map.now a.bit true true false (eq-eqb _ 0 c.if-rest-ne0.false) (eq-eqb (a.bit % 8) 0 c.if-place-ne0.false) (sym c.zero_group.ensures ∙ c.if-zero_group.false))
