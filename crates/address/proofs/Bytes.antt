-- The bytes of a number are read as that number, and bytes are those of the number that they are read as.
use Prim.Native.Nat.{ℕ, zero, suc, ◌+◌, ◌*◌, ◌/◌, ◌%◌, ◌^◌, ◌<◌, ◌≤◌}
use mathlib.Core.Path.{◌≡◌, refl, sym, ◌∙◌}
use mathlib.Core.List.{List, []}
use native.Mathlib.Omega.{arith}
use lib.ListN.{length, take, get_or}
use lib.Seq.{take-suc}
use lib.Pow.{pow-add}
use Rattle.paper.specs.Address.{high_first}
use Rattle.paper.proofs.Addresses.{high_first_none, high_first_snoc, high_first_more}
use Rattle.address.specs.Bytes.{high_first_bytes}

-- where it fits so many
pub number_back : (k n : ℕ) → n < 2 ^ (8 * k) → high_first (high_first_bytes k n) ≡ n
number_back zero n h = high_first_none [] ∙ omega arith
number_back (suc k) n h =
    let e : 8 * suc k ≡ 8 * k + 8 = omega arith in
    let q : 2 ^ (8 * suc k) ≡ 2 ^ (8 * k) * 256 = rw (e, pow-add) in
    high_first_snoc (high_first_bytes k (n / 256)) (n % 256) ∙ rw (number_back k (n / 256) (omega arith)) (omega arith)

module _ (bs : List ℕ) (byte : (j : ℕ) → get_or bs j 0 < 256) where
  pub bytes_back : (k : ℕ) → k ≤ length bs → high_first_bytes k (high_first (take k bs)) ≡ take k bs
  bytes_back zero h = refl
  bytes_back (suc k) h =
      let n = high_first (take (suc k) bs) in
      let m = high_first_more bs k (omega arith) in
      let q : n / 256 ≡ high_first (take k bs) = omega (arith, m, byte k) in
      let r : n % 256 ≡ get_or bs k 0 = omega (arith, m, byte k) in
      rw (q, r, bytes_back k (omega arith)) (sym (take-suc bs k 0 (omega arith)))
