-- `blank_map::blank_page` meets its contract. The loop's invariant: the chunks so far are FFh.
use Prim.Native.Nat.{ℕ, ◌+◌, ◌-◌, ◌*◌}
use mathlib.Core.Path.{◌≡◌, refl, sym, ap, ◌∙◌}
use native.Mathlib.Numerals.{add-one}
use native.Mathlib.Omega.{arith}
use lib.Dec.{eqb}
use lib.ListN.{get_or}
use Rattle.words.specs.Lists.{all_below}
use Rattle.paper.specs.Map.{blank_page}
use Rattle.blank_map.proofs.Blank.{page_out, chunk_full_lem, chunk_not}
use Rattle.blank_map.proofs.blank_page.Goals as goal

pub returns-then-array-page : goal.returns-then-array-page
returns-then-array-page c =
    let a = c.args in
    sym (page_out a.array.now a.page c.if-array-page.true)

pub loop-k-init : goal.loop-k-init
unfolding all_below
loop-k-init c = refl

pub returns-then-not-all_blank : goal.returns-then-not-all_blank
returns-then-not-all_blank c =
    let a = c.args in
    let l = c.loop-k in
    let at = a.page * 256 + l.k * 64 in
    sym (chunk_not a.array.now a.page l.k at (at + 64 - at) refl (omega arith) (omega arith) c.loop-k-test.true (sym c.all_blank.ensures ∙ c.if-not-all_blank.true))

pub loop-k-preserved : goal.loop-k-preserved
loop-k-preserved c =
    let a = c.args in
    let l = c.loop-k in
    let at = a.page * 256 + l.k * 64 in
    rw add-one (chunk_full_lem a.array.now a.page l.k at (at + 64 - at) refl (omega arith) (omega arith) l.invariant (sym c.all_blank.ensures ∙ c.if-not-all_blank.false))

pub returns : goal.returns
unfolding blank_page
returns c =
    let l = c.loop-k in
    let a = c.args in
    let e : l.k ≡ 4 = omega (arith, c.loop-k-test.false) in
    sym (ap (λ (k : ℕ). all_below (k * 64) (λ (i : ℕ). eqb (get_or a.array.now (a.page * 256 + i) 0) 255)) (sym e) ∙ l.invariant)
