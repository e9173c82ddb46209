-- `transact::drive_row` meets its contract: the part that is lent on is the row.
use Prim.Native.Nat.{◌-◌, min}
use mathlib.Core.Path.{◌≡◌, ◌∙◌}
use native.Mathlib.Omega.{arith}
use lib.ListN.{length, drop, length-drop}
use Rattle.words.proofs.Lists.{take_min}
use Rattle.transact.proofs.drive_row.Goals as goal

pub returns : goal.returns
returns c =
    let s = c in
    let xs = c.args.rows.now in
    let b = c.row_base-base in
    let m = c.min-end in
    let e : m.result - b.result ≡ min 256 (length (drop b.result xs)) = rw length-drop (omega (arith, m.ensures, b.ensures, c.requires)) in
    c.drive_from.ensures ∙ rw (e, take_min, c.row_byte-at.ensures, b.ensures)
