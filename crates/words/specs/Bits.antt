-- Bytes as bits, low bit first: bit k is bit k % 8 of byte k / 8.
use Rattle.std.specs.Prelude.{ℕ, zero, suc, ◌+◌, ◌*◌, ◌/◌, ◌%◌, ◌^◌, Bool, cond, List, eqb, get_or, set}
use Rattle.words.specs.Logic.{bit}

-- bit k of a list of bytes
unfoldable pub bit_in : List ℕ → ℕ → Bool
bit_in bs k = eqb (get_or bs (k / 8) 0 / 2 ^ (k % 8) % 2) 1

-- the number of n bits, the lowest first, of which a test says each, from bit k on
abbrev pub bits_from : ℕ → (ℕ → Bool) → ℕ → ℕ
bits_from zero test k = 0
bits_from (suc n) test k = bit (test k) + 2 * bits_from n test (suc k)

-- byte j, of whose bits a test says each
unfoldable pub byte_of : (ℕ → Bool) → ℕ → ℕ
byte_of test j = bits_from 8 test (j * 8)

-- bytes with bit k as v says, and every other bit as it was
unfoldable pub put_bit : List ℕ → ℕ → Bool → List ℕ
put_bit bs k v = set bs (k / 8) (byte_of (λ i. cond (eqb i k) v (bit_in bs i)) (k / 8))

-- bytes with the n bits from bit k on as a test says, and every other bit as it was
abbrev pub put_bits : ℕ → ℕ → (ℕ → Bool) → List ℕ → List ℕ
put_bits zero k test bs = bs
put_bits (suc n) k test bs = put_bit (put_bits n k test bs) (k + n) (test (k + n))
