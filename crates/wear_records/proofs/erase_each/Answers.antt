-- `wear_records::erase_each` meets its contract. The loop's invariant: the sectors so far have one erase more.
use Rattle.std.proofs.Common.{◌≡◌, ℕ, ◌+◌, ◌-◌, length, take, drop, ap, ◌∙◌, arith, add-one, length-take, length-drop}
use Rattle.std.proofs.lemmas.List.{take-append-drop}
use Rattle.wear_records.specs.Thin.{erase_at, erased_from}
use Rattle.wear_records.proofs.Laws.{mid_erase}
use Rattle.wear_records.proofs.erase_each.Goals as goal

pub loop-sector-init : goal.loop-sector-init
loop-sector-init c =
    let a = c.args in
    let n : a.first + a.count - a.first ≡ a.count = omega arith in
    rw (n, take-append-drop a.count (drop a.first a.wear.now), take-append-drop a.first a.wear.now)

pub loop-sector-preserved : goal.loop-sector-preserved
loop-sector-preserved c =
    let l = c.loop-sector in
    let a = c.args in
    let rest = drop a.count (drop a.first a.wear.now) in
    let long : length (take a.first a.wear.now) ≡ a.first = simp length-take (omega arith) in
    let e = mid_erase (take a.first a.wear.now) l.sector-items rest l.sector-index _ c.add_erase.new.sector (omega (arith, l.auto.sector-items)) c.add_erase.ensures.erases c.add_erase.ensures.programs in
    rw add-one (rw long at e ∙ ap (erase_at (a.first + l.sector-index)) l.invariant)

pub returns : goal.returns
returns c =
    let l = c.loop-sector in
    let a = c.args in
    let n : a.first + a.count - a.first ≡ a.count = omega arith in
    let long : length (take (a.first + a.count - a.first) (drop a.first a.wear.now)) ≡ a.count = simp (length-take, length-drop) (omega arith) in
    let all : l.sector-index ≡ a.count = omega (arith, long, l.auto.sector-index-end) in
    rw n (l.invariant ∙ ap (λ (k : ℕ). erased_from a.first k a.wear.now) all)
