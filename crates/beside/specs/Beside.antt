-- What a call is lent beside the part's memory, on the record that bytes hold.
use Rattle.std.specs.Prelude.{ℕ, Bool, cond, List}
use Rattle.words.specs.Logic.{◌or_else◌}
use Rattle.paper.specs.Numbers.{size_number}
use Rattle.paper.specs.Board.{Board}
use Rattle.record_bytes.specs.Layout.{record_bytes}
use Rattle.record_bytes.specs.Read.{Held, on_held}

-- 1, or a number, where it doesn't fit an array of a bytes; else 0, and the plain call judges what is left
unfoldable pub beside_refusal : Held → Bool → ℕ → ℕ → ℕ
beside_refusal h fits a number = cond fits 0 (on_held h (λ p. size_number p.part.blocks a or_else number) 0)

-- the record's bytes after a call: those of the part's record; where none was held, as they were
abbrev pub board_bytes : Held → Board → List ℕ → List ℕ
board_bytes h b bs = on_held h (λ p. record_bytes b.state) bs
