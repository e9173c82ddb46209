-- `blank_map::first_set` meets its contract. The loop's invariant: no bit so far is one that is looked for.
use Prim.Native.Nat.{◌*◌}
use mathlib.Core.Path.{◌≡◌, sym, ◌∙◌}
use native.Mathlib.Omega.{arith}
use lib.ListN.{length}
use Rattle.blank_map.proofs.Clear.{clear_le, search_starts, search_passes, search_finds}
use Rattle.blank_map.proofs.first_set.Goals as goal

pub overflow_mul-end : goal.overflow_mul-end
overflow_mul-end c = omega (arith, c.requires)

pub loop-at-init : goal.loop-at-init
loop-at-init c = (search_starts c.args.map.now c.args.from, omega (arith, c.requires), omega arith)

pub clear_from-clear-requires : goal.clear_from-clear-requires
clear_from-clear-requires c = c.loop-at-test.true

pub returns-then-clear-eq0 : goal.returns-then-clear-eq0
returns-then-clear-eq0 c =
    let l = c.loop-at in
    let a = c.args in
    sym (search_finds a.map.now a.from l.at l.invariant.0 (length a.map.now * 8) c.loop-at-test.true l.invariant.2 (sym c.clear_from-clear.ensures ∙ c.if-clear-eq0.true))

pub overflow_add-at : goal.overflow_add-at
overflow_add-at c =
    let l = c.loop-at in
    let a = c.args in
    omega (arith, c.clear_from-clear.ensures, clear_le a.map.now l.at c.loop-at-test.true, c.requires)

pub loop-at-smaller : goal.loop-at-smaller
loop-at-smaller c =
    let l = c.loop-at in
    let a = c.args in
    omega (arith, c.if-clear-eq0.false, c.clear_from-clear.ensures, clear_le a.map.now l.at c.loop-at-test.true)

pub loop-at-preserved : goal.loop-at-preserved
loop-at-preserved c =
    let l = c.loop-at in
    let a = c.args in
    (rw c.clear_from-clear.ensures (search_passes a.map.now a.from l.at l.invariant.0), omega (arith, c.clear_from-clear.ensures, clear_le a.map.now l.at c.loop-at-test.true), omega (arith, l.invariant.2))

pub returns : goal.returns
returns c =
    let l = c.loop-at in
    let a = c.args in
    let e : l.at ≡ length a.map.now * 8 = omega (arith, l.invariant.1) in
    rw (← e) (sym l.invariant.0)
