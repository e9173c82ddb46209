-- The number of a kind, and the kind of a number.
use Rattle.std.specs.Prelude.{ℕ, ◌<◌, ◌≤◌, ◌≡◌, Result, MatchResult}
use Rattle.cells.specs.declared.Kind.{Kind}
use Rattle.cells.specs.declared.Kind.TheVariants.{Program, Erase, Write}
use Rattle.cells.specs.declared.NoKind.{NoKind}
use Rattle.cells.specs.Operations.{program_kind, erase_kind, write_kind}

abbrev pub kind_byte : Kind → ℕ
kind_byte (Program m) = program_kind m
kind_byte (Erase u) = erase_kind u
kind_byte (Write r) = write_kind r

-- a number is read as the kind that has it; no kind has 0 or a number above 10
abbrev pub ReadsKind : ℕ → Result Kind NoKind → Type 0
ReadsKind n r = MatchResult r (λ kind. kind_byte kind ≡ n) (λ _. 1 ≤ n → 10 < n)
