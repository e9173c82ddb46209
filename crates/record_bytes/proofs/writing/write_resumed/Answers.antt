-- `record_bytes::writing::write_resumed` meets its contract: what was suspended is copied to where what runs stands, and zeros to its place.
use Rattle.record_bytes.specs.Layout.{operation_length, works_laid}
use lib.ListN.{replicate}
use mathlib.Core.Path.{◌∙◌, ap}
use mathlib.Core.List.{List}
use Prim.Native.Nat.{ℕ}
use Rattle.record_bytes.proofs.writing.write_resumed.Goals as goal

pub returns : goal.returns
returns c =
    let s = c.before in
    c.write_works.ensures ∙ ap (λ (x : List ℕ). works_laid s.args.part x (replicate operation_length 0) s.args.bytes.now) (rw c.unwrap-stood.ensures at c.as_array.ensures.cases).same
