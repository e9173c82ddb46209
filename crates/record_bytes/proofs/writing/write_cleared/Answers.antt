-- `record_bytes::writing::write_cleared` meets its contract: zeros are written where the part does what it does, what it is before, and zeros behind the identity.
use Rattle.types.specs.declared.Phase.TheVariants.{Idle}
use Rattle.paper.specs.Program.{no_data}
use Rattle.record_bytes.specs.Layout.{header_idle}
use Rattle.record_bytes.proofs.Laid.{phase_room, part_laid, idle_laid, idle_header_length, page_room, page_laid, idle_bytes, no_data_bytes}
use lib.ListN.{replicate}
use mathlib.Core.Path.{◌∙◌, ap}
use Prim.Native.Nat.{ℕ}
use Rattle.record_bytes.proofs.writing.write_cleared.Goals as goal

pub returns : goal.returns
returns c =
    let s = c in
    let bs = c.args.bytes.now in
    let p = c.args.part in
    let e = c.fill.ensures ∙ ap (λ (n : ℕ). replicate n 0) (phase_room bs c.told-bytes) ∙ idle_bytes in
    let h = c.write_part.ensures ∙ part_laid bs c.told-bytes Idle _ e p ∙ idle_laid bs c.told-bytes p in
    let l = idle_header_length bs c.told-bytes p in
    let z = c.fill-2.ensures ∙ ap (λ (n : ℕ). replicate n 0) (page_room bs (header_idle p bs) _ l c.told-bytes h) ∙ no_data_bytes in
    page_laid bs (header_idle p bs) _ l c.told-bytes h _ no_data z
