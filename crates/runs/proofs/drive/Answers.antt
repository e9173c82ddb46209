-- `runs::drive` meets its contract. The loop's invariant: so many places from the first on are laid, and the source stands where they end.
use Rattle.std.proofs.Common.{ℕ, ◌+◌, ◌<◌, ◌≤◌, ◌-◌, ◌≡◌, length, take, drop, sym, ap, ◌∙◌, add-zero, arith}
use native.Mathlib.Nat.{mod-lt}
use Rattle.words.specs.Lists.{round}
use Rattle.words.proofs.Lists.{driven_empty, driven_past, driven_laid, laid_none, begins_again}
use Rattle.runs.proofs.Copied.{round_copied}
use Rattle.runs.proofs.drive.Goals as goal
use Rattle.runs.proofs.drive.Goals.{then-n-eq0-via-then-n-eq0, then-n-eq0-via-else-n-eq0+then-output-from}

pub returns-then-n-eq0 : goal.returns-then-n-eq0
returns-then-n-eq0 c =
    elim c.then-n-eq0.branch [
      | then-n-eq0-via-then-n-eq0 w ↦ sym (driven_empty _ _ _ _ w.if-n-eq0.true)
      | then-n-eq0-via-else-n-eq0+then-output-from w ↦ sym (driven_past _ _ _ _ w.if-n-eq0.false w.if-output-from.true)
    ]

pub loop-there-init : goal.loop-there-init
loop-there-init c =
    let a = c.args in
    let none : a.from - a.from ≡ 0 = omega arith in
    let pos : 0 < length a.source.now = omega (arith, c.if-n-eq0.false) in
    record {
      so_far = rw none (sym (laid_none a.output.now a.from (round a.source.now a.at)));
      begun = omega arith;
      inside = omega (arith, c.if-output-from.false);
      in_source = mod-lt a.at pos;
      turn = λ h. rw (none, add-zero);
    }

pub loop-there-preserved : goal.loop-there-preserved
loop-there-preserved c =
    let l = c.loop-there in
    let i = l.invariant in
    let a = c.args in
    let s = a.source.now in
    let o = a.output.now in
    let r = c.min-run.result in
    let short = c.min-run.ensures in
    let room : l.there + r ≤ length o = omega (arith, short, l.auto.output, c.loop-there-test.true) in
    let inside : l.here + r ≤ length s = omega (arith, short, i.in_source) in
    let turn = i.turn (omega (arith, l.auto.output, c.loop-there-test.true)) in
    let more : l.there - a.from + r ≡ l.there + r - a.from = omega (arith, i.begun) in
    let here : l.here + r - l.here ≡ r = omega arith in
    let there : l.there + r - l.there ≡ r = omega arith in
    let came = c.copy_from_slice.ensures.after ∙ ap (λ (k : ℕ). take k (drop l.here s)) here in
    record {
      so_far = rw there (round_copied s o _ _ a.at a.from l.there l.here (l.there - a.from) r _ (omega (arith, i.begun)) more room inside turn i.so_far came);
      begun = omega (arith, i.begun);
      inside = room;
      in_source = omega (arith, i.in_source);
      turn = λ h. rw (← more) (begins_again (length s) a.at (l.there - a.from) r l.here turn (omega (arith, short, l.auto.output)));
    }

pub returns : goal.returns
returns c =
    let l = c.loop-there in
    l.invariant.so_far ∙ driven_laid _ _ _ _ c.if-n-eq0.false (l.there - c.args.from) (omega (arith, l.invariant.begun, l.invariant.inside, l.auto.output, c.loop-there-test.false))
