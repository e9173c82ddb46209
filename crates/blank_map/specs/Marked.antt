-- A map of blank pages: how it is kept after ticks, and how it is searched.
use Rattle.std.specs.Prelude.{ℕ, ◌+◌, ◌-◌, ◌/◌, ◌%◌, ◌^◌, Bool, true, cond, List, eqb, leb, length, get_or, None, Option, Some}
use Rattle.std.specs.Int.Count.{count_trailing_zeros}
use Rattle.types.specs.declared.Operation.{Operation}
use Rattle.types.specs.declared.Operation.TheVariants.{Program, Erase, Write}
use Rattle.types.specs.declared.Reached.{Reached}
use Rattle.words.specs.Logic.{◌and◌}
use Rattle.words.specs.Lists.{all_zero, between}
use Rattle.words.specs.Bits.{put_bits}
use Rattle.paper.specs.Reached.{first_page, pages_by}
use Rattle.paper.specs.Map.{blank_page}

-- a map after k ticks of an operation that left the array xs: a program's page is looked at again, and the pages of an erase are blank without a look
abbrev pub marked_by : Operation → ℕ → List ℕ → List ℕ → List ℕ
marked_by (Program w s b c d) k xs m =
    put_bits (pages_by (Program w s b c d) k) (first_page (Program w s b c d)) (blank_page xs) m
marked_by (Erase u b d) k xs m = put_bits (pages_by (Erase u b d) k) (first_page (Erase u b d)) (λ q. true) m
marked_by (Write r v) k xs m = m

abbrev pub marked_in : Option Operation → ℕ → List ℕ → List ℕ → List ℕ
marked_in None k xs m = m
marked_in (Some o) k xs m = marked_by o k xs m

-- a map after ticks that reached r and left the array xs
unfoldable pub marked : Reached → List ℕ → List ℕ → List ℕ
marked r xs m = marked_in r.work r.count xs m

-- a byte with its bit p as v says: the bit's weight is taken away where it was 1, and added where it is to be
abbrev pub with_bit : ℕ → ℕ → Bool → ℕ
with_bit x p v = x + cond v (2 ^ p) 0 - cond (eqb (x / 2 ^ p % 2) 1) (2 ^ p) 0

-- eight bytes of a map from byte j on are there, and all are 0
abbrev pub zero_group : List ℕ → ℕ → Bool
zero_group m j = leb (j + 8) (length m) and all_zero (between j 8 m)

-- what is left of the byte of bit q, from that bit on
abbrev pub rest_at : List ℕ → ℕ → ℕ
rest_at m q = get_or m (q / 8) 0 / 2 ^ (q % 8)

-- how many bits from bit q on are seen at once to be 0: up to the next one of its byte; where the rest of the byte is 0 those of it, or of eight such bytes
unfoldable pub clear_from : List ℕ → ℕ → ℕ
clear_from m q =
    cond (eqb (rest_at m q) 0) (cond (eqb (q % 8) 0) (cond (zero_group m (q / 8)) 64 8) (8 - q % 8)) (count_trailing_zeros (8 - q % 8) (rest_at m q))
