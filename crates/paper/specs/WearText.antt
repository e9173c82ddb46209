-- The text of wear records: one line a sector, then the largest and the total of each count.
use Rattle.std.specs.Prelude.{ℕ, zero, suc, ◌+◌, ◌/◌, ◌%◌, ◌^◌, min, List, [], ◌∷◌, ◌++◌, Bool, cond, length, get_or, take, replicate, eqb, ltb}
use Rattle.std.proofs.lemmas.List.Edits.{sets}
use Rattle.types.specs.declared.Line.{Line}
use Rattle.types.specs.declared.Line.TheVariants.{Transaction, Ticks, Neither}
use Rattle.types.specs.declared.Wear.{Wear}
use Rattle.words.specs.Logic.{◌or◌, when_zero}
use Rattle.paper.specs.Numbers.{wear_text_number}
use Rattle.paper.specs.Sizes.{array_sectors}
use Rattle.paper.specs.History.{Call, transaction, ticks}
use Rattle.paper.specs.Bench.{LF, space, digit, decimal, pairs, after_space, line_of, lines_of, input_limit, pair_limit, bench_board}
use Rattle.paper.specs.Wear.{unworn, full_count, wear_after_calls}

-- the last five digits of a number
unfoldable pub five_digits : ℕ → List ℕ
five_digits n = digit (n / 10000) ∷ digit (n / 1000) ∷ digit (n / 100) ∷ digit (n / 10) ∷ digit n ∷ []

-- a number below 10 ^ 15 in decimal: where it has more than five digits, five at a time
unfoldable pub wide_decimal : ℕ → List ℕ
wide_decimal n =
    cond (ltb n 100000)
    (decimal n)
    (cond (ltb n 10000000000)
    (decimal (n / 100000) ++ five_digits n)
    (decimal (n / 10000000000) ++ five_digits (n / 100000) ++ five_digits n))

-- `full`, `largest ` and `total `
abbrev pub full_word : List ℕ
full_word = 102 ∷ 117 ∷ 108 ∷ 108 ∷ []

abbrev pub largest_word : List ℕ
largest_word = 108 ∷ 97 ∷ 114 ∷ 103 ∷ 101 ∷ 115 ∷ 116 ∷ space ∷ []

abbrev pub total_word : List ℕ
total_word = 116 ∷ 111 ∷ 116 ∷ 97 ∷ 108 ∷ space ∷ []

-- two counts, with a space between them
abbrev pub counts_text : ℕ → ℕ → List ℕ
counts_text e p = wide_decimal e ++ (space ∷ []) ++ wide_decimal p

-- either count is at its largest value
abbrev pub is_full : Wear → Bool
is_full w = eqb w.erases full_count or eqb w.programs full_count

-- the line of sector q: its number, its erases, its programs; "a full count stays, and its line ends in ` full`"
unfoldable pub wear_line : ℕ → Wear → List ℕ
wear_line q w =
    wide_decimal q ++ (space ∷ []) ++ counts_text w.erases w.programs ++ cond (is_full w) (space ∷ full_word) [] ++ (LF ∷ [])

-- the lines of the first k records
abbrev pub wear_lines : List Wear → ℕ → List ℕ
wear_lines ws zero = []
wear_lines ws (suc k) = wear_lines ws k ++ wear_line k (get_or ws k unworn)

-- the larger of two numbers
unfoldable pub larger : ℕ → ℕ → ℕ
larger a b = cond (ltb a b) b a

-- the largest of one of their counts, and its total, a number of 64 bits: over 8,192 records no sum is larger (TextLaws.antt of wear_text: total_is_sum)
abbrev pub largest_of : (Wear → ℕ) → List Wear → ℕ → ℕ
largest_of count ws zero = 0
largest_of count ws (suc k) = larger (largest_of count ws k) (count (get_or ws k unworn))

abbrev pub total_of : (Wear → ℕ) → List Wear → ℕ → ℕ
total_of count ws zero = 0
total_of count ws (suc k) = (total_of count ws k + count (get_or ws k unworn)) % 2 ^ 64

-- the last two lines, of the largest counts and the totals
unfoldable pub sums_text : ℕ → ℕ → ℕ → ℕ → List ℕ
sums_text le lp te tp =
    largest_word ++ counts_text le lp ++ (LF ∷ []) ++ total_word ++ counts_text te tp ++ (LF ∷ [])

-- the whole text
unfoldable pub wear_text : List Wear → List ℕ
wear_text ws =
    wear_lines ws (length ws)
    ++ sums_text (largest_of (λ w. w.erases) ws (length ws)) (largest_of (λ w. w.programs) ws (length ws)) (total_of (λ w. w.erases) ws (length ws)) (total_of (λ w. w.programs) ws (length ws))

-- what its call gives, which is lent the buffer t: the number, how many bytes of text there are, and the buffer; refused, with 1, 35 or 4, it is as it was
pub record Written : Type 0 where
  pub number : ℕ
  pub bytes : ℕ
  pub text : List ℕ

unfoldable pub wear_written : ℕ → List Wear → List ℕ → Written
wear_written n ws t =
    when_zero (wear_text_number n (length ws) (length t))
    (record { number = 0; bytes = min (length t) (length (wear_text ws)); text = sets t 0 (wear_text ws) })
    (record { number = wear_text_number n (length ws) (length t); bytes = 0; text = t })

-- The program wear: the lines of bench, on bench's part. The calls that a line l makes that says so
abbrev pub line_calls : Line → List ℕ → List Call
line_calls (Transaction wp) l = transaction wp (pairs (after_space l)) (length (pairs (after_space l))) ∷ []
line_calls (Ticks n) l = ticks n ∷ []
line_calls Neither l = []

-- and those of some lines of at most so many pairs
abbrev pub lines_calls : ℕ → List (List ℕ) → List Call
lines_calls most [] = []
lines_calls most (l ∷ ls) = line_calls (line_of most l) l ++ lines_calls most ls

-- its records after all lines of an input: nothing wore them before
abbrev pub wear_bench : List ℕ → List Wear
wear_bench input =
    wear_after_calls (lines_calls pair_limit (lines_of (take input_limit input))) (bench_board 1) (replicate (array_sectors 1) unworn)

-- what it prints: nothing for the lines, and at the end the text of its records
abbrev pub wear_program_text : List ℕ → List ℕ
wear_program_text input = wear_text (wear_bench input)
