-- What the text of wear records says: its numbers are decimal numerals, its last two lines the largest counts and the plain sums, and its buffer holds all of it.
use Rattle.std.specs.Prelude.{◌≡◌, ℕ, zero, suc, ◌+◌, ◌^◌, ◌<◌, ◌≤◌, true, ◌⊎◌, List, ◌++◌, length, drop, slice_index_or}
use Rattle.types.specs.declared.Wear.{Wear}
use Rattle.words.specs.Lists.{every}
use Rattle.paper.specs.Sizes.{size_ok, array_sectors, wear_text_bytes}
use Rattle.paper.specs.Numbers.{wear_text_number}
use Rattle.paper.specs.Bench.{is_digit, digit, numeral_from}
use Rattle.paper.specs.Wear.{unworn, full_count}
use Rattle.paper.specs.WearText.{wide_decimal, largest_of, total_of, wear_text, wear_written}

-- a count is a number of 32 bits: each of the records' counts is at most the largest value
abbrev pub AreCounts : List Wear → Type 0
AreCounts ws = (q : ℕ) → ((slice_index_or ws q unworn).erases ≤ full_count) × ((slice_index_or ws q unworn).programs ≤ full_count)

-- The decimal numeral of n, below 10 ^ 15: digits alone, which are read back as n; no zero before it; one digit below 10, and so on
pub record Numeral (n : ℕ) (xs : List ℕ) : Type 0 where
  pub digits : every is_digit xs ≡ true
  pub value : numeral_from 0 xs ≡ n
  pub first : slice_index_or xs 0 0 ≡ digit 0 → n ≡ 0
  pub few_1 : n < 10 → length xs ≤ 1
  pub few_4 : n < 10 ^ 4 → length xs ≤ 4
  pub few_10 : n < 10 ^ 10 → length xs ≤ 10
  pub few_14 : n < 10 ^ 14 → length xs ≤ 14

abbrev pub Numerals : Type 0
Numerals = (n : ℕ) → n < 10 ^ 15 → Numeral n (wide_decimal n)

-- one of the first k of some numbers
pub record OneOf (numbers : ℕ → ℕ) (k m : ℕ) : Type 0 where
  pub place : ℕ
  pub within : place < k
  pub same : m ≡ numbers place

-- the largest of them: none is larger, and it is one of them, or 0
pub record Largest (numbers : ℕ → ℕ) (k m : ℕ) : Type 0 where
  pub above : (q : ℕ) → q < k → numbers q ≤ m
  pub one : (m ≡ 0) ⊎ OneOf numbers k m

-- their plain sum
abbrev pub sum_of : (ℕ → ℕ) → ℕ → ℕ
sum_of numbers zero = 0
sum_of numbers (suc k) = sum_of numbers k + numbers k

-- the erases, and the programs, of the records
abbrev pub erases_in : List Wear → ℕ → ℕ
erases_in ws q = (slice_index_or ws q unworn).erases

abbrev pub programs_in : List Wear → ℕ → ℕ
programs_in ws q = (slice_index_or ws q unworn).programs

-- what the last two lines tell of the records of a part
pub record Sums (ws : List Wear) : Type 0 where
  pub largest_erases : Largest (erases_in ws) (length ws) (largest_of (λ w. w.erases) ws (length ws))
  pub largest_programs : Largest (programs_in ws) (length ws) (largest_of (λ w. w.programs) ws (length ws))
  pub total_erases : total_of (λ w. w.erases) ws (length ws) ≡ sum_of (erases_in ws) (length ws)
  pub total_programs : total_of (λ w. w.programs) ws (length ws) ≡ sum_of (programs_in ws) (length ws)

abbrev pub SumsTold : Type 0
SumsTold = (n : ℕ) (ws : List Wear) → size_ok n ≡ true → length ws ≡ array_sectors n → AreCounts ws → Sums ws

-- the buffer that is asked holds the text
abbrev pub Fits : Type 0
Fits = (n : ℕ) (ws : List Wear) → size_ok n ≡ true → length ws ≡ array_sectors n → AreCounts ws → length (wear_text ws) ≤ wear_text_bytes n

-- so a call that is not refused writes exactly the text, and every byte behind it is as it was
pub record Whole (n : ℕ) (ws : List Wear) (t : List ℕ) : Type 0 where
  pub number : (wear_written n ws t).number ≡ 0
  pub bytes : (wear_written n ws t).bytes ≡ length (wear_text ws)
  pub text : (wear_written n ws t).text ≡ wear_text ws ++ drop (length (wear_text ws)) t

abbrev pub WrittenWhole : Type 0
WrittenWhole = (n : ℕ) (ws : List Wear) (t : List ℕ) → wear_text_number n (length ws) (length t) ≡ 0 → AreCounts ws → Whole n ws t

-- all of it
pub record TextLaws : Type 0 where
  pub numerals : Numerals
  pub sums : SumsTold
  pub fits : Fits
  pub whole : WrittenWhole
