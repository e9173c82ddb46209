-- The number that bytes are, high byte first: one byte more, and how large it is, over the number of bytes. Taken modulo an array size it keeps its place in a page. A valid row address names one of the four rows, with a fourth byte of 00h the same one.
use Prim.Native.Nat.{ℕ, zero, suc, ◌+◌, ◌*◌, ◌/◌, ◌%◌, ◌^◌, ◌<◌, ◌≤◌}
use mathlib.Core.Path.{◌≡◌, refl, subst⁻¹}
use mathlib.Core.Bool.{Bool, true, false}
use mathlib.Core.List.{List, [], ◌∷◌, ◌++◌}
use mathlib.Core.Logic.{⊎_elim}
use native.Mathlib.Omega.{arith}
use native.Mathlib.Nat.{mod-mod_of_dvd, dvd-mul_left, dvd-mul_left_of_dvd}
use lib.ListN.{length, get_or, take, drop}
use lib.Seq.{take-suc, take_all, take-length, get_or-drop}
use lib.Dec.{eqb, leb}
use borrow.Author.Tests.{leb-true, leb-false, eqb-true}
use Rattle.types.specs.declared.Addressing.{Addressing}
use Rattle.types.specs.declared.Addressing.TheVariants.{Three, Four}
use Rattle.words.specs.Logic.{◌and◌}
use Rattle.words.proofs.Tests.{and_r, or_cases}
use lib.Pow.{pow-add, pow_mono}
use Rattle.paper.specs.Sizes.{block_bytes, page_bytes, rows_bytes}
use Rattle.paper.specs.Address.{read_on, high_first, address_bytes, address_sent, address_in, row_at, names_row, row_ok, row_base, row_byte}

read_on_snoc : (a : ℕ) (bs : List ℕ) (b : ℕ) → read_on a (bs ++ (b ∷ [])) ≡ read_on a bs * 256 + b
read_on_snoc a [] b = refl
read_on_snoc a (x ∷ xs) b = read_on_snoc (a * 256 + x) xs b

-- one byte more
pub high_first_snoc : (bs : List ℕ) (b : ℕ) → high_first (bs ++ (b ∷ [])) ≡ high_first bs * 256 + b
unfolding high_first
high_first_snoc bs b = read_on_snoc 0 bs b

module _ (bs : List ℕ) where
  pub high_first_none : high_first (take 0 bs) ≡ 0
  unfolding high_first
  high_first_none = refl

  -- the same for the first bytes of a list
  pub high_first_more : (i : ℕ) → i < length bs → high_first (take (suc i) bs) ≡ high_first (take i bs) * 256 + get_or bs i 0
  high_first_more i h = rw (take-suc bs i 0 h) (high_first_snoc (take i bs) (get_or bs i 0))

  -- so many bytes are below so many times eight bits
  pub high_first_fits : ((i : ℕ) → get_or bs i 0 < 256) → (i : ℕ) → i ≤ length bs → high_first (take i bs) < 2 ^ (8 * i)
  high_first_fits byte zero h = rw high_first_none (omega arith)
  high_first_fits byte (suc i) h =
      let e : 8 * suc i ≡ 8 * i + 8 = omega arith in
      let q : 2 ^ (8 * suc i) ≡ 2 ^ (8 * i) * 256 = rw (e, pow-add) in
      omega (arith, q, high_first_more i h, high_first_fits byte i (omega arith), byte i)

  -- at most seven bytes leave room for one more in 64 bits
  pub high_first_room : ((i : ℕ) → get_or bs i 0 < 256) → (i : ℕ) → i ≤ length bs → i ≤ 7 → high_first (take i bs) < 2 ^ 56
  high_first_room byte i h k =
      let m : 2 ^ (8 * i) ≤ 2 ^ 56 = pow_mono {i = 8 * i} {j = 56} (omega arith) in
      omega (arith, high_first_fits byte i h)

-- so many bytes of a list, or as many as it has
below_as : (bs : List ℕ) → ((i : ℕ) → get_or bs i 0 < 256) → (k : ℕ) (t : Bool) → leb k (length bs) ≡ t → high_first (take k bs) < 2 ^ (8 * k)
below_as bs byte k true e = high_first_fits bs byte k (leb-true _ _ e)
below_as bs byte k false e =
    let l : length bs < k = leb-false _ _ e in
    let m : 2 ^ (8 * length bs) ≤ 2 ^ (8 * k) = pow_mono {i = 8 * length bs} {j = 8 * k} (omega arith) in
    let s : high_first (take k bs) ≡ high_first (take (length bs) bs) = rw (take_all k bs (omega arith), take-length) in
    omega (arith, m, s, high_first_fits bs byte (length bs) (omega arith))

pub address_below : (i : List ℕ) → ((j : ℕ) → get_or i j 0 < 256) → (k : ℕ) → high_first (address_bytes k i) < 2 ^ (8 * k)
address_below i byte k =
    below_as (drop 1 i) (λ j. rw get_or-drop (byte (1 + j))) k (leb k (length (drop 1 i))) refl

-- A lies in its page where the address sent does
pub in-page : (g : Addressing) (n : ℕ) (i : List ℕ) → address_in g n i % page_bytes ≡ address_sent g i % page_bytes
unfolding address_in
in-page g n i = mod-mod_of_dvd page_bytes (address_sent g i) (dvd-mul_left_of_dvd page_bytes {b = block_bytes} (dvd-mul_left page_bytes page_bytes) n)

-- a row address stands within the first three places
pub row_at_le : (g : Addressing) → row_at g ≤ 2
row_at_le (Three upper) = omega arith
row_at_le Four = omega arith

-- the row that a valid one names is one of four
names_one : (b : ℕ) → names_row b ≡ true → b / 16 < 4
names_one b h =
    let at : (r : ℕ) → r / 16 < 4 → eqb b r ≡ true → b / 16 < 4 = λ r l e. subst⁻¹ (λ (x : ℕ). x / 16 < 4) (eqb-true b r e) l in
    ⊎_elim
    (at 0x00 (omega arith))
    (λ h'.
    ⊎_elim
    (at 0x10 (omega arith))
    (λ h''. ⊎_elim (at 0x20 (omega arith)) (at 0x30 (omega arith)) (or_cases _ _ h''))
    (or_cases _ _ h'))
    (or_cases _ _ h)

pub row_inside : (g : Addressing) (i : List ℕ) → row_ok g i ≡ true → row_base g i < rows_bytes
unfolding row_ok
row_inside g i h =
    let l = names_one (get_or i (row_at g + 1) 0) (and_r _ _ (and_r _ _ h)) in
    omega (arith, l)

-- a fourth byte: another than 00h makes no row address, and behind 00h a valid one is what it is behind the code, and names the same row and byte
module _ (c z a b d : ℕ) (rest : List ℕ) where
  pub row_ok_four : row_ok Four (c ∷ z ∷ a ∷ b ∷ d ∷ rest) ≡ (eqb z 0x00 and row_ok (Three false) (c ∷ a ∷ b ∷ d ∷ rest))
  unfolding row_ok ◌and◌
  row_ok_four = refl

  pub row_same_four : (row_base Four (c ∷ z ∷ a ∷ b ∷ d ∷ rest) ≡ row_base (Three false) (c ∷ a ∷ b ∷ d ∷ rest)) × (row_byte Four (c ∷ z ∷ a ∷ b ∷ d ∷ rest) ≡ row_byte (Three false) (c ∷ a ∷ b ∷ d ∷ rest))
  row_same_four = (refl, refl)
