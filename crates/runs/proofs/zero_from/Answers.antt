-- `runs::zero_from` meets its contract. The loop's invariant: what was looked at and what is left are zero where all is.
use Rattle.std.proofs.Common.{◌-◌, length, take, drop, sym, ap, ◌∙◌, ◌≡◌, add-one, arith, length-drop, take_all}
use Rattle.std.proofs.lemmas.List.{drop_min}
use Rattle.words.specs.Lists.{all_zero}
use Rattle.words.proofs.Zeros.{zero_start, zero_more, zero_end}
use Rattle.runs.proofs.zero_from.Goals as goal

pub loop-byte-init : goal.loop-byte-init
loop-byte-init c = zero_start _ 0

pub loop-byte-preserved : goal.loop-byte-preserved
loop-byte-preserved c =
    let l = c.loop-byte in
    rw add-one (sym (zero_more _ l.any l.byte-index c.loop-byte-test.true) ∙ l.invariant)

pub returns : goal.returns
returns c =
    let l = c.loop-byte in
    let xs = c.args.bytes.now in
    let i = c.min.result in
    let rest : take (length xs - i) (drop i xs) ≡ drop c.args.from xs = take_all _ (drop i xs) (simp length-drop (omega arith)) ∙ rw c.min.ensures (drop_min c.args.from xs) in
    sym (zero_end _ l.any l.byte-index (omega arith)) ∙ l.invariant ∙ ap all_zero rest
