-- `record_bytes::writing::write_halted` meets its contract: what ran is copied to where what is suspended stands, and zeros to its place.
use Rattle.record_bytes.specs.Layout.{operation_length, works_laid}
use lib.ListN.{replicate}
use mathlib.Core.Path.{◌∙◌, ap}
use mathlib.Core.List.{List}
use Prim.Native.Nat.{ℕ}
use Rattle.record_bytes.proofs.writing.write_halted.Goals as goal

pub returns : goal.returns
returns c =
    let s = c.before in
    c.write_works.ensures ∙ ap (λ (x : List ℕ). works_laid s.args.part (replicate operation_length 0) x s.args.bytes.now) (rw c.unwrap-ran.ensures at c.as_array.ensures.cases).same
