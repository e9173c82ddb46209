-- Text that is written into an output from a place on, as far as the output goes.
use Rattle.std.specs.Prelude.{ℕ, ◌+◌, min, ◌≡◌, List, length}
use Rattle.std.proofs.lemmas.List.Edits.{sets}

-- the output and the place before; the text; the output and the place after. What does not fit is left out
pub record Prints (o : List ℕ) (at : ℕ) (text o' : List ℕ) (at' : ℕ) : Type 0 where
  pub written : o' ≡ sets o at text
  pub place : at' ≡ min (length o) (at + length text)
