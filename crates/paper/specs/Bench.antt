-- The program bench: what a line says, what it does with the part, and what is printed for it.
use Rattle.std.specs.Prelude.{ℕ, ◌+◌, ◌*◌, ◌-◌, ◌/◌, ◌%◌, List, [], ◌∷◌, ◌++◌, Bool, true, false, cond, length, get_or, take, drop, replicate, eqb, leb, ltb}
use Rattle.types.specs.declared.Identity.{Identity}
use Rattle.types.specs.declared.Line.{Line}
use Rattle.types.specs.declared.Line.TheVariants.{Transaction, Ticks, Neither}
use Rattle.words.specs.Logic.{◌and◌, ◌or◌}
use Rattle.words.specs.Lists.{every}
use Rattle.paper.specs.Sizes.{array_bytes, rows_bytes}
use Rattle.paper.specs.Erase.{erased_byte}
use Rattle.paper.specs.Calls.{no_stored, powered_up}
use Rattle.paper.specs.Board.{Board, sent_to, driven_by, waited, after_sent, after_ticks}

-- The characters: LF, space, `-`, `?`, and the letters of the lines
abbrev pub LF : ℕ
LF = 10

abbrev pub space : ℕ
space = 32

abbrev pub dash : ℕ
dash = 45

abbrev pub query : ℕ
query = 63

abbrev pub letter_k : ℕ
letter_k = 75

abbrev pub letter_l : ℕ
letter_l = 76

abbrev pub letter_t : ℕ
letter_t = 84

-- Lines. LF ends a line, the last may lack it: a character before the lines that follow it
abbrev pub before : ℕ → List (List ℕ) → List (List ℕ)
before x [] = (x ∷ []) ∷ []
before x (l ∷ ls) = (x ∷ l) ∷ ls

-- the lines of an input: `K 1`, LF, LF, `K 2` are three, the second empty (Course.antt of bench_lines: three_lines)
abbrev pub lines_of : List ℕ → List (List ℕ)
lines_of [] = []
lines_of (x ∷ xs) = cond (eqb x LF) ([] ∷ lines_of xs) (before x (lines_of xs))

-- upper-case hex: 0 to 9 and A to F
unfoldable pub is_digit : ℕ → Bool
is_digit x = leb 48 x and leb x 57

unfoldable pub is_hex : ℕ → Bool
is_hex x = is_digit x or (leb 65 x and leb x 70)

-- the value of a digit: a character that is none has 0
unfoldable pub digit_value : ℕ → ℕ
digit_value x = cond (is_digit x) (x - 48) 0

unfoldable pub hex_value : ℕ → ℕ
hex_value x = cond (is_digit x) (x - 48) (cond (is_hex x) (x - 55) 0)

unfoldable pub hex_digit : ℕ → ℕ
hex_digit v = cond (ltb v 10) (48 + v) (55 + v)

-- the bytes of hex pairs
abbrev pub pairs : List ℕ → List ℕ
pairs [] = []
pairs (h ∷ []) = []
pairs (h ∷ l ∷ xs) = (16 * hex_value h + hex_value l) ∷ pairs xs

-- the number of a digit before those that follow it, high first
abbrev pub numeral_from : ℕ → List ℕ → ℕ
numeral_from n [] = n
numeral_from n (x ∷ xs) = numeral_from (10 * n + digit_value x) xs

-- what follows the letter and the space
abbrev pub after_space : List ℕ → List ℕ
after_space l = drop 2 l

-- a letter, a space
unfoldable pub begins : ℕ → List ℕ → Bool
begins letter l = eqb (get_or l 0 0) letter and eqb (get_or l 1 0) space

-- 1 to so many upper-case hex pairs
unfoldable pub pairs_ok : ℕ → List ℕ → Bool
pairs_ok most xs = eqb (length xs % 2) 0 and leb 2 (length xs) and leb (length xs) (2 * most) and every is_hex xs

-- one to five digits
unfoldable pub digits_ok : List ℕ → Bool
digits_ok xs = leb 1 (length xs) and leb (length xs) 5 and every is_digit xs

-- what a line says: `T` or `L` (WP# high, low), a space, hex pairs; `K`, a space, digits; or neither
unfoldable pub line_of : ℕ → List ℕ → Line
line_of most l =
    cond (begins letter_t l and pairs_ok most (after_space l))
    (Transaction true)
    (cond (begins letter_l l and pairs_ok most (after_space l))
    (Transaction false)
    (cond (begins letter_k l and digits_ok (after_space l)) (Ticks (numeral_from 0 (after_space l))) Neither))

-- What is printed. The character of a digit
abbrev pub digit : ℕ → ℕ
digit v = 48 + v % 10

-- a number below 100,000 in decimal: the digit that counts d's where the number reaches d, and the last digit always
unfoldable pub leading : ℕ → ℕ → List ℕ
leading d n = cond (leb d n) (digit (n / d) ∷ []) []

unfoldable pub decimal : ℕ → List ℕ
decimal n = leading 10000 n ++ leading 1000 n ++ leading 100 n ++ leading 10 n ++ (digit n ∷ [])

-- bytes as upper-case hex pairs
abbrev pub hex_pairs : List ℕ → List ℕ
hex_pairs [] = []
hex_pairs (x ∷ xs) = hex_digit (x / 16) ∷ hex_digit (x % 16) ∷ hex_pairs xs

-- the first driven place or `-`, of an output of n bytes
unfoldable pub place_text : ℕ → ℕ → List ℕ
place_text first n = cond (eqb first n) (dash ∷ []) (decimal first)

-- answer, first driven place or `-`, output in hex
unfoldable pub answer_text : ℕ → ℕ → List ℕ → List ℕ
answer_text number first out =
    decimal number ++ (space ∷ []) ++ place_text first (length out) ++ (space ∷ []) ++ hex_pairs out ++ (LF ∷ [])

-- for K answer and ticks done
unfoldable pub ticks_text : ℕ → ℕ → List ℕ
ticks_text number done = decimal number ++ (space ∷ []) ++ decimal done ++ (LF ∷ [])

-- for any other line, an empty one too, `?`
unfoldable pub other_text : List ℕ
other_text = query ∷ LF ∷ []

-- what is printed for a transaction, and for ticks
abbrev pub sent_text : Board → Bool → List ℕ → List ℕ
sent_text b wp i = answer_text (sent_to b wp i).number (sent_to b wp i).first (driven_by b wp i)

abbrev pub waited_text : Board → ℕ → List ℕ
waited_text b n = ticks_text (waited b n).number (waited b n).done

-- what is printed for a line l that says so, and the part after it
abbrev pub line_text : Line → List ℕ → Board → List ℕ
line_text (Transaction wp) l b = sent_text b wp (pairs (after_space l))
line_text (Ticks n) l b = waited_text b n
line_text Neither l b = other_text

abbrev pub line_after : Line → List ℕ → Board → Board
line_after (Transaction wp) l b = after_sent b wp (pairs (after_space l))
line_after (Ticks n) l b = after_ticks b n
line_after Neither l b = b

-- what is printed for some lines of at most so many pairs, and the part after them
abbrev pub text_of : ℕ → List (List ℕ) → Board → List ℕ
text_of most [] b = []
text_of most (l ∷ ls) b = line_text (line_of most l) l b ++ text_of most ls (line_after (line_of most l) l b)

abbrev pub board_after : ℕ → List (List ℕ) → Board → Board
board_after most [] b = b
board_after most (l ∷ ls) b = board_after most ls (line_after (line_of most l) l b)

-- M T C D = 11 22 33 44h
abbrev pub bench_identity : Identity
bench_identity = record { maker = 17; kind = 34; capacity = 51; device = 68 }

-- the part of n blocks: array and rows FFh, registers 0
abbrev pub bench_board : ℕ → Board
bench_board n =
    record { state = (powered_up n bench_identity no_stored).next; array = replicate (array_bytes n) erased_byte; rows = replicate rows_bytes erased_byte }

-- bench reads up to 65,536 bytes, in lines of 1 to 64 pairs
abbrev pub input_limit : ℕ
input_limit = 65536

abbrev pub pair_limit : ℕ
pair_limit = 64

-- it runs them on the 1-block part: what it prints, and the part after it
abbrev pub bench_text : List ℕ → List ℕ
bench_text input = text_of pair_limit (lines_of (take input_limit input)) (bench_board 1)

abbrev pub bench_after : List ℕ → Board
bench_after input = board_after pair_limit (lines_of (take input_limit input)) (bench_board 1)
