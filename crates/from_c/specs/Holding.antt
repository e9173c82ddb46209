-- What is lent holds a sound record: its bytes, and memory of its lengths.
use Rattle.std.specs.Prelude.{◌≡◌, true, length}
use Rattle.types.specs.declared.Record.{Record}
use Rattle.paper.specs.Sizes.{array_bytes, rows_bytes}
use Rattle.paper.specs.Soundness.{sound}
use Rattle.record_bytes.specs.Layout.{record_bytes}
use Rattle.history.specs.PageData.{Page}
use Rattle.from_c.specs.Driven.{Lent}

pub record Holding (l : Lent) (p : Record) : Type 0 where
  pub bytes : l.bytes ≡ record_bytes p
  pub is_sound : sound p ≡ true
  pub page : Page p
  pub array : length l.array ≡ array_bytes p.part.blocks
  pub rows : length l.rows ≡ rows_bytes
