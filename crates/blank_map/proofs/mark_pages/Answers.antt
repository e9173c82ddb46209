-- `blank_map::mark_pages` meets its contract: byte and place are those of the page that lies so many pages on.
use Prim.Native.Nat.{ℕ, ◌+◌, ◌*◌, ◌/◌, ◌%◌}
use mathlib.Core.Path.{◌≡◌, ap, ◌∙◌}
use mathlib.Core.Bool.{true}
use native.Mathlib.Omega.{arith}
use Rattle.words.specs.Bits.{put_bits}
use Rattle.blank_map.proofs.mark_pages.Goals as goal

pub returns : goal.returns
returns c =
    let a = c.args in
    let e : (a.page / 8 + a.done / 8 + (a.page % 8 + a.done % 8) / 8) * 8 + (a.page % 8 + a.done % 8) % 8 ≡ a.page + a.done = omega arith in
    c.mark.ensures ∙ ap (λ (k : ℕ). put_bits a.count k (λ (q : ℕ). true) a.map.now) e
