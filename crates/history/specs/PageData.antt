-- Page data of a record.
use Rattle.std.specs.Prelude.{◌≡◌, length}
use Rattle.types.specs.declared.Record.{Record}
use Rattle.paper.specs.Sizes.{page_bytes}

-- it has 256 bytes
abbrev pub Page : Record → Type 0
Page p = length p.page ≡ page_bytes
