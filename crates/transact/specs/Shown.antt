-- What a source that is read round and round leaves in an output of n places, and when it can.
use Rattle.std.specs.Prelude.{ℕ, ◌-◌, ◌≡◌, true, cond, List, leb, length}
use Rattle.types.specs.declared.Columns.{Columns}
use Rattle.types.specs.declared.Identity.{Identity}
use Rattle.types.specs.declared.Part.{Part}
use Rattle.words.specs.Lists.{up_to, round}
use Rattle.paper.specs.Reads.{undriven_byte, source_bytes}
use Rattle.paper.specs.Table.{addressing_on, is_read}

-- the places before the first driven one hold FFh
abbrev pub shown : List ℕ → ℕ → ℕ → ℕ → List ℕ
shown s at from n = up_to n (λ (j : ℕ). cond (leb from j) (round s at (j - from)) undriven_byte)

-- a command that drives has something to drive
abbrev pub HasBytes : Columns → Identity → Part → List ℕ → List ℕ → List ℕ → Type 0
HasBytes k id p xs rs i = is_read k ≡ true → length (source_bytes k.source (addressing_on k p) id p xs rs i) ≡ 0 → ⊥
