-- `blank_map::look_again` meets its contract: the page's bit, or none beyond the map.
use Prim.Native.Nat.{◌*◌, ◌/◌, ◌%◌, ◌+◌}
use mathlib.Core.Path.{◌≡◌, sym, ◌∙◌}
use native.Mathlib.Omega.{arith}
use Rattle.words.proofs.BitLists.{put_out}
use Rattle.paper.specs.Map.{blank_page}
use Rattle.blank_map.proofs.look_again.Goals as goal

pub returns-then-j-map : goal.returns-then-j-map
returns-then-j-map c =
    let a = c.args in
    let e : a.page / 8 * 8 + a.page % 8 ≡ a.page = omega arith in
    c.put_bit.ensures ∙ rw (c.blank_page-blank.ensures, e)

pub returns-else-j-map : goal.returns-else-j-map
returns-else-j-map c =
    let a = c.args in
    sym (put_out a.map.now a.page (blank_page a.array.now a.page) (omega (arith, c.if-j-map.false)))
