-- Wear records in code: one field of one record at a time.
use Rattle.std.specs.Prelude.{ℕ, zero, suc, ◌+◌, ◌-◌, min, Bool, cond, List, ltb, set, get_or}
use Rattle.types.specs.declared.Wear.{Wear}
use Rattle.types.specs.declared.Tally.{Tally}
use Rattle.words.specs.Logic.{◌and◌}
use Rattle.paper.specs.Wear.{unworn, one_more}

-- the records with one erase more for sector i
unfoldable pub erase_at : ℕ → List Wear → List Wear
erase_at i ws =
    set ws i (record { erases = one_more (get_or ws i unworn).erases; programs = (get_or ws i unworn).programs })

-- with one program more for sector i, and that where a test says so
unfoldable pub program_at : ℕ → List Wear → List Wear
program_at i ws =
    set ws i (record { erases = (get_or ws i unworn).erases; programs = one_more (get_or ws i unworn).programs })

abbrev pub program_where : Bool → ℕ → List Wear → List Wear
program_where t i ws = cond t (program_at i ws) ws

-- with one erase more for each of so many sectors, from the first on
abbrev pub erased_from : ℕ → ℕ → List Wear → List Wear
erased_from first zero ws = ws
erased_from first (suc n) ws = erase_at (first + n) (erased_from first n ws)

-- a tally of the first n sectors alone
unfoldable pub clipped : Tally → ℕ → Tally
clipped t n =
    record { first = min t.first n; erases = min t.erases (n - min t.first n); programmed = t.programmed and ltb t.at n; at = t.at }
