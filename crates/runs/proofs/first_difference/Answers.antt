-- `runs::first_difference` meets its contract. The loop's invariant: nothing differs before the place, and the chunks go on from there.
use Rattle.std.proofs.Common.{◌≡◌, length, sym, ◌∙◌, inl, inr, arith, rules}
use Rattle.std.specs.Cmp.Lexicographic.{same_text, other_text}
use borrow.Author.Tests.{not-true, not-false}
use Rattle.words.specs.Lists.{first_of, differ_at}
use Rattle.words.proofs.Search.{first_le}
use Rattle.runs.proofs.Differing.{chunks, none_left}
use Rattle.runs.proofs.first_difference.Goals as goal

pub loop-x-init : goal.loop-x-init
unfolding first_of
loop-x-init c = search rules

pub loop-x-preserved : goal.loop-x-preserved
loop-x-preserved c =
    let i = c.loop-x.invariant in
    let h = c.in-Some.ensures.steps in
    let k = chunks _ _ _ _ 4096 _ _ _ _ _ _ _ _ c.min-n.ensures i.inside i.none i.left_a i.left_b i.size_a i.size_b h.0.1.0 h.1.1.0 h.0.1.1 h.1.1.1 in
    record {
      none = k.equal (same_text _ _ (sym (not-false _ (sym c.ne.ensures ∙ c.if-ne.false))));
      inside = k.room;
      left_a = k.left_a;
      left_b = k.left_b;
      size_a = h.0.0 ∙ i.size_a;
      size_b = h.1.0 ∙ i.size_b;
    }

pub first_of_chunk-requires : goal.first_of_chunk-requires
first_of_chunk-requires c =
    let i = c.loop-x.invariant in
    let h = c.in-Some.ensures.steps in
    let k = chunks _ _ _ _ 4096 _ _ _ _ _ _ _ _ c.min-n.ensures i.inside i.none i.left_a i.left_b i.size_a i.size_b h.0.1.0 h.1.1.0 h.0.1.1 h.1.1.1 in
    k.same

pub overflow_add-result : goal.overflow_add-result
overflow_add-result c =
    let i = c.loop-x.invariant in
    let h = c.in-Some.ensures.steps in
    let k = chunks _ _ _ _ 4096 _ _ _ _ _ _ _ _ c.min-n.ensures i.inside i.none i.left_a i.left_b i.size_a i.size_b h.0.1.0 h.1.1.0 h.0.1.1 h.1.1.1 in
    omega (arith, k.room, c.first_of_chunk.ensures, first_le (differ_at c.in-Some.x.now c.in-Some.y.now) (length c.in-Some.x.now))

pub returns-then-ne : goal.returns-then-ne
returns-then-ne c =
    let i = c.loop-x.invariant in
    let h = c.in-Some.ensures.steps in
    let k = chunks _ _ _ _ 4096 _ _ _ _ _ _ _ _ c.min-n.ensures i.inside i.none i.left_a i.left_b i.size_a i.size_b h.0.1.0 h.1.1.0 h.0.1.1 h.1.1.1 in
    rw (c.first_of_chunk.ensures, ← c.min-n.ensures) (k.unequal (other_text _ _ (sym (not-true _ (sym c.ne.ensures ∙ c.if-ne.true)))))

pub returns : goal.returns
returns c =
    let i = c.loop-x.invariant in
    let n = c.min-n.ensures in
    let all : c.loop-x.at ≡ c.min-n.result = elim c.in-None.ensures.steps [
      | inl w ↦ none_left _ _ _ _ (omega (arith, n)) i.inside i.left_a w.1.1.0
      | inr w ↦ none_left _ _ _ _ (omega (arith, n)) i.inside i.left_b w.1.1.0
    ] in
    rw (← n, ← all) (sym i.none)
