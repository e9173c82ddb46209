-- `runs::first_of_chunk` meets its contract. The loop's invariant: none of the bytes so far differs.
use mathlib.Core.Path.{◌≡◌, refl, sym, ap}
use mathlib.Core.Bool.{not}
use native.Mathlib.Numerals.{add-one}
use native.Mathlib.Omega.{arith}
use lib.ListN.{length}
use borrow.Author.Tests.{ne_eqb, eq-eqb}
use Rattle.words.specs.Lists.{first_of, differ_at}
use Rattle.words.proofs.Search.{first_next, none_next}
use Rattle.runs.proofs.first_of_chunk.Goals as goal

pub loop-i-init : goal.loop-i-init
unfolding first_of
loop-i-init c = refl

pub bounds-b-i : goal.bounds-b-i
bounds-b-i c = omega (arith, c.requires)

pub returns-then-a-i : goal.returns-then-a-i
returns-then-a-i c =
    let l = c.loop-i in
    let a = c.args in
    sym (first_next (differ_at a.a.now a.b.now) l.i l.invariant (length a.a.now) c.loop-i-test.true (ap not (ne_eqb _ _ c.if-a-i.true)))

pub loop-i-preserved : goal.loop-i-preserved
loop-i-preserved c =
    let l = c.loop-i in
    let a = c.args in
    rw add-one (none_next (differ_at a.a.now a.b.now) l.i l.invariant (ap not (eq-eqb _ _ c.if-a-i.false)))

pub returns : goal.returns
returns c =
    let l = c.loop-i in
    let a = c.args in
    let e : l.i ≡ length a.a.now = omega arith in
    rw (← e) (sym l.invariant)
