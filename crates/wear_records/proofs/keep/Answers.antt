-- Counted one field at a time, a tally makes what the whole tally makes.
use Rattle.std.proofs.Common.{◌≡◌, ◌<◌, true, false, length, arith, sym, ap, ◌∙◌}
use Rattle.types.specs.declared.Tally.{Tally}
use Rattle.wear_records.specs.Thin.{clipped}
use Rattle.wear_records.proofs.Laws.{erased_length, clipped_erases, clipped_at, clipped_worn}
use Rattle.wear_records.proofs.keep.Goals as goal

pub erase_each-requires : goal.erase_each-requires
erase_each-requires c = rw c.within-t.ensures (clipped_erases c.args.tally (length c.args.wear.now))

pub add_program-requires : goal.add_program-requires
add_program-requires c =
    let a = c.args in
    let t = clipped a.tally (length a.wear.now) in
    let at : t.at < length a.wear.now = clipped_at a.tally (length a.wear.now) (ap (λ (x : Tally). x.programmed) (sym c.within-t.ensures) ∙ c.if-t.true) in
    rw (c.erase_each.ensures, c.within-t.ensures) (omega (arith, at, erased_length t.first t.erases a.wear.now))

pub returns-then-t : goal.returns-then-t
returns-then-t c =
    let a = c.args in
    let t = clipped a.tally (length a.wear.now) in
    let on : t.programmed ≡ true = ap (λ (x : Tally). x.programmed) (sym c.within-t.ensures) ∙ c.if-t.true in
    rw (c.add_program.ensures, c.erase_each.ensures, c.within-t.ensures) (rw on at (clipped_worn a.tally a.wear.now))

pub returns-else-t : goal.returns-else-t
returns-else-t c =
    let a = c.args in
    let t = clipped a.tally (length a.wear.now) in
    let off : t.programmed ≡ false = ap (λ (x : Tally). x.programmed) (sym c.within-t.ensures) ∙ c.if-t.false in
    rw (c.erase_each.ensures, c.within-t.ensures) (rw off at (clipped_worn a.tally a.wear.now))
