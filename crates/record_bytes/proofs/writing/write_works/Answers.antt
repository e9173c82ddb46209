-- `record_bytes::writing::write_works` meets its contract: both are copied to their places, and what the part is before.
use Rattle.record_bytes.specs.Layout.{operation_length}
use Rattle.record_bytes.proofs.Laid.{works_put}
use lib.ListN.{length}
use mathlib.Core.Path.{◌≡◌, ◌∙◌}
use borrow.Author.Rules.{rules}
use Rattle.record_bytes.proofs.writing.write_works.Goals as goal

pub returns : goal.returns
returns c =
    let bs = c.args.bytes.now in
    let w = c.args.running in
    let h = c.args.halted in
    let la : length w ≡ operation_length = search rules in
    let lb : length h ≡ operation_length = search rules in
    let ey = c.copy_from_slice.ensures.after in
    let ez = c.copy_from_slice-2.ensures.after in
    c.write_part.ensures ∙ works_put bs c.told-bytes w _ la ey h _ ez c.args.part
