-- What the functions of this crate carry and answer.
use Rattle.std.specs.Prelude.{ℕ, ◌+◌, ◌%◌, ◌^◌, List}
use Rattle.types.specs.declared.Wear.{Wear}
use Rattle.paper.specs.WearText.{larger, largest_of, total_of, Written as Told}
use Rattle.wear_text.specs.declared.Sum.{Sum}
use Rattle.wear_text.specs.declared.Written.{Written}

-- a sum with one count more
unfoldable pub with : Sum → ℕ → Sum
with s n = record { largest = larger s.largest n; total = (s.total + n) % 2 ^ 64 }

-- the sum of one of the counts of the first k records
abbrev pub sum_at : (Wear → ℕ) → List Wear → ℕ → Sum
sum_at count ws k = record { largest = largest_of count ws k; total = total_of count ws k }

-- what a call answers: the number, and how many bytes of text there are
abbrev pub written_of : Told → Written
written_of w = record { number = w.number; bytes = w.bytes }
