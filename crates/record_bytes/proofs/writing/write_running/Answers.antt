-- `record_bytes::writing::write_running` meets its contract: what runs is written in its place, and what the part is before; all else stays.
use Rattle.record_bytes.proofs.Laid.{part_kept}
use mathlib.Core.Path.{◌∙◌}
use Rattle.record_bytes.proofs.writing.write_running.Goals as goal

pub returns : goal.returns
returns c = c.write_part.ensures ∙ part_kept c.args.bytes.now c.told-bytes c.args.work _ (c.copy_from_slice.ensures.after ∙ c.work_bytes.ensures) c.args.part
