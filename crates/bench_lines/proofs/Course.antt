-- What a line does is what its call does, and lines one after another do what all of them do.
use Prim.Native.Nat.{ℕ, suc, ◌+◌, ◌*◌, ◌-◌, ◌/◌, ◌≤◌, ◌<◌, min}
use mathlib.Core.Path.{◌≡◌, refl, sym, ap, subst, ◌∙◌}
use mathlib.Core.Bool.{Bool, true, false, not, cond}
use mathlib.Core.List.{List, [], ◌∷◌}
use native.Mathlib.Omega.{arith}
use native.Mathlib.Numerals.{add-one}
use lib.Dec.{eqb}
use lib.ListN.{length, take, drop, replicate, length-replicate, length-drop, drop_of_length-le}
use lib.Seq.{sets, take_all, length-take-le}
use Rattle.types.specs.declared.Record.{Record}
use Rattle.types.specs.declared.Answer.{Answer}
use Rattle.types.specs.declared.PoweredUp.{PoweredUp}
use Rattle.types.specs.declared.Line.TheVariants.{Transaction}
use Rattle.bench_lines.specs.LineEnd.{index_of, index_after}
use Rattle.paper.specs.Sizes.{array_bytes, rows_bytes}
use Rattle.paper.specs.Erase.{erased_byte}
use Rattle.paper.specs.Reads.{undriven, undriven_byte}
use Rattle.paper.specs.Calls.{no_stored, powered_up, transacted, transacted_output}
use Rattle.paper.specs.Board.{Board, board_of, sent_to, driven_by, after_sent}
use Rattle.paper.specs.Bench.{LF, space, input_limit, pair_limit, letter_k, before, lines_of, pairs, line_of, bench_identity, bench_board, line_text, line_after, text_of, board_after}
use Rattle.words.proofs.Lists.{take_min}
use Rattle.lines.proofs.Numerals.{pairs_whole}
use Rattle.lines.proofs.Lines.{pairs_count, Says, line_says}
use Rattle.std.specs.List.{position, position_or_len}
use Rattle.std.proofs.Common.{Some, None}
use borrow.Author.Tests.{ltb-false}
use Rattle.printing.specs.Printed.{Prints}
use Rattle.printing.proofs.Text.{prints_empty, prints_then, prints_length}

-- a line that says a transaction has a byte or more, and there is room for them in s and t, each of which is as long as there may be pairs
pub line_room : (most : ℕ) (l s t : List ℕ) (wp : Bool) → line_of most l ≡ Transaction wp → most ≤ length s → most ≤ length t
    → (1 ≤ length l / 2) × (length l / 2 - 1 ≤ length s) × (length l / 2 - 1 ≤ length t) × (length l ≡ 2 * length (take (length l / 2 - 1 - 0) s) + 2) × (length (take (length l / 2 - 1 - 0) t) ≡ length (take (length l / 2 - 1 - 0) s))
line_room most l s t wp e h k =
    let c = pairs_count most (drop 2 l) (subst (Says most l) e (line_says most l)) in
    let d : length (drop 2 l) ≡ length l - 2 = length-drop 2 l in
    let a : 1 ≤ length l / 2 = omega (arith, c) in
    let u : length l / 2 - 1 ≤ length s = omega (arith, c) in
    let v : length l / 2 - 1 ≤ length t = omega (arith, c) in
    let f : length (take (length l / 2 - 1 - 0) s) ≡ length l / 2 - 1 - 0 = length-take-le (length l / 2 - 1 - 0) s (omega arith) in
    let g : length (take (length l / 2 - 1 - 0) t) ≡ length l / 2 - 1 - 0 = length-take-le (length l / 2 - 1 - 0) t (omega arith) in
    (a, u, v, omega (arith, c), g ∙ sym f)

-- the bytes of its pairs, which were put into a buffer s that has just room for them
pub sent_pairs : (l s s₁ : List ℕ) → length l ≡ 2 * length s + 2 → s₁ ≡ sets s 0 (pairs (take (length l - 2) (drop 2 l))) → s₁ ≡ pairs (drop 2 l)
sent_pairs l s s₁ h e =
    let n : length (drop 2 l) ≡ length l - 2 = length-drop 2 l in
    e ∙ rw (take_all (length l - 2) (drop 2 l) (omega arith)) (pairs_whole (drop 2 l) s (omega arith))

-- a transaction of the bytes i, with a buffer of as many bytes that was set to FFh
pub sent_as_lem : (p : Record) (xs rs : List ℕ) (wp : Bool) (i sent back back₁ back₂ : List ℕ) (a : Answer) → sent ≡ i → length back ≡ length sent → back₁ ≡ undriven (length back)
    → a ≡ transacted p (length xs) (length rs) wp sent (length back₁) → back₂ ≡ transacted_output p xs rs wp sent back₁
    → (a ≡ sent_to (board_of p xs rs) wp i) × (back₂ ≡ driven_by (board_of p xs rs) wp i)
sent_as_lem p xs rs wp i sent back back₁ back₂ a e n f g h =
    let m : length back₁ ≡ length i = ap length f ∙ length-replicate (length back) undriven_byte ∙ n ∙ ap length e in
    let k : back₁ ≡ undriven (length i) = f ∙ ap undriven (n ∙ ap length e) in
    (g ∙ rw (m, e), h ∙ rw (k, e))

-- the part after it
pub sent_board : (b : Board) (wp : Bool) (i : List ℕ) (p : Record) → p ≡ (sent_to b wp i).next → board_of p b.array b.rows ≡ after_sent b wp i
sent_board b wp i p e = ap (λ (q : Record). board_of q b.array b.rows) e

-- `K 1`, LF, LF, `K 2`
pub three_lines : lines_of (letter_k ∷ space ∷ 49 ∷ LF ∷ LF ∷ letter_k ∷ space ∷ 50 ∷ []) ≡ (letter_k ∷ space ∷ 49 ∷ []) ∷ [] ∷ (letter_k ∷ space ∷ 50 ∷ []) ∷ []
three_lines = refl

index_as : (t : Bool) (m n : ℕ) → m ≡ n → cond (not t) (1 + m) 0 ≡ index_after t n
index_as true m n e = refl
index_as false m n e = omega (arith, e)

-- the library finds it
index_is : (b : ℕ) (xs : List ℕ) → position_or_len (λ (x : ℕ). eqb x b) xs ≡ index_of b xs
index_is b [] = refl
index_is b (x ∷ xs) = index_as (eqb x b) _ _ (index_is b xs)

found_as : (t : Bool) (m i : ℕ) → cond t (Some m) None ≡ Some i → i ≡ m
found_as true m i e = cc
found_as false m i e = cc

none_as : (t : Bool) (m : ℕ) → cond t (Some m) None ≡ None → t ≡ false
none_as true m e = cc
none_as false m e = refl

-- the place that it finds, and where it finds none
pub index_found : (b : ℕ) (xs : List ℕ) (i : ℕ) → position (λ (x : ℕ). eqb x b) xs ≡ Some i → i ≡ index_of b xs
index_found b xs i e = found_as _ _ i e ∙ index_is b xs

pub index_none : (b : ℕ) (xs : List ℕ) → position (λ (x : ℕ). eqb x b) xs ≡ None → length xs ≤ index_of b xs
index_none b xs e = rw (← index_is b xs) (ltb-false _ _ (none_as _ _ e))

-- a line ends within the input
after_within : (t : Bool) (n m : ℕ) → n ≤ m → index_after t n ≤ suc m
after_within true n m h = omega arith
after_within false n m h = omega arith

pub index_within : (b : ℕ) (xs : List ℕ) → index_of b xs ≤ length xs
index_within b [] = omega arith
index_within b (x ∷ xs) = after_within (eqb x b) (index_of b xs) (length xs) (index_within b xs)

-- the first line, and the lines after it
next_as : (xs : List ℕ) (x : ℕ) (b : Bool) → eqb x LF ≡ b
    → cond b ([] ∷ lines_of xs) (before x (lines_of xs)) ≡ take (index_after b (index_of LF xs)) (x ∷ xs) ∷ lines_of (drop (suc (index_after b (index_of LF xs))) (x ∷ xs))
next_as [] x true e = refl
next_as [] x false e = refl
next_as (y ∷ ys) x true e = refl
next_as (y ∷ ys) x false e = ap (before x) (next_as ys y (eqb y LF) refl)

pub lines_next : (xs : List ℕ) → 0 < length xs → lines_of xs ≡ take (index_of LF xs) xs ∷ lines_of (drop (suc (index_of LF xs)) xs)
lines_next [] h = absurd (omega arith)
lines_next (x ∷ xs) h = next_as xs x (eqb x LF) refl

-- a line's part and text, then those of the lines after it
module _ (most : ℕ) (xs : List ℕ) (some : 0 < length xs) (b b₁ : Board) (o o₁ : List ℕ) (at at₁ : ℕ)
    (after : b₁ ≡ line_after (line_of most (take (index_of LF xs) xs)) (take (index_of LF xs) xs) b)
    (printed : Prints o at (line_text (line_of most (take (index_of LF xs) xs)) (take (index_of LF xs) xs) b) o₁ at₁) where
  pub board_on : board_after most (lines_of (drop (suc (index_of LF xs)) xs)) b₁ ≡ board_after most (lines_of xs) b
  board_on = rw (lines_next xs some, after)

  pub text_on : (o₂ : List ℕ) (at₂ : ℕ) → Prints o₁ at₁ (text_of most (lines_of (drop (suc (index_of LF xs)) xs)) b₁) o₂ at₂ → Prints o at (text_of most (lines_of xs) b) o₂ at₂
  text_on o₂ at₂ p = rw (lines_next xs some) (prints_then printed (rw (← after) p))

-- how far the lines of an input have gone: what is left of it is rest, with the part b and the text in o up to the place at. What the lines of the rest leave and print is what all of them do
pub record Goes (most : ℕ) (input : List ℕ) (b₀ : Board) (o₀ : List ℕ) (rest : List ℕ) (b : Board) (o : List ℕ) (at : ℕ) : Type 0 where
  pub board : board_after most (lines_of rest) b ≡ board_after most (lines_of input) b₀
  pub text : (o' : List ℕ) (at' : ℕ) → Prints o at (text_of most (lines_of rest) b) o' at' → Prints o₀ 0 (text_of most (lines_of input) b₀) o' at'
  pub fits : at ≤ length o
  pub same : length o ≡ length o₀

pub goes_start : (most : ℕ) (input : List ℕ) (b : Board) (o : List ℕ) → Goes most input b o input b o 0
goes_start most input b o = record { board = refl; text = λ o' at' p. p; fits = omega arith; same = refl }

module _ (most : ℕ) (input : List ℕ) (b₀ : Board) (o₀ : List ℕ) (rest : List ℕ) (b : Board) (o : List ℕ) (at : ℕ) (g : Goes most input b₀ o₀ rest b o at) where
  -- a line further
  pub goes_on : (line others : List ℕ) (b₁ : Board) (o₁ : List ℕ) (at₁ : ℕ) → 0 < length rest → line ≡ take (index_of LF rest) rest → others ≡ drop (index_of LF rest + 1) rest
      → b₁ ≡ line_after (line_of most line) line b
      → Prints o at (line_text (line_of most line) line b) o₁ at₁
      → Goes most input b₀ o₀ others b₁ o₁ at₁
  goes_on line others b₁ o₁ at₁ some e f after printed =
      let a = rw e at after in
      let p = rw e at printed in
      let l : length o₁ ≡ length o = prints_length printed in
      rw (f, add-one) (record {
        board = board_on most rest some b b₁ o o₁ at at₁ a p ∙ g.board;
        text = λ o' at' q. g.text o' at' (text_on most rest some b b₁ o o₁ at at₁ a p o' at' q);
        fits = omega (arith, printed.place);
        same = l ∙ g.same;
      })

  -- no line is left
  pub goes_end : length rest ≡ 0 → (b ≡ board_after most (lines_of input) b₀) × Prints o₀ 0 (text_of most (lines_of input) b₀) o at
  goes_end h =
      let d : rest ≡ [] = drop_of_length-le rest {i = 0} (omega arith) in
      (rw d at g.board, g.text o at (rw d (prints_empty o at g.fits)))

-- a part that was powered up, with memory that was set to FFh, is the bench's
pub bench_board_lem : (n : ℕ) (up : PoweredUp) (xs rs : List ℕ) → up ≡ powered_up n bench_identity no_stored → xs ≡ replicate (array_bytes n) erased_byte → rs ≡ replicate rows_bytes erased_byte → board_of up.next xs rs ≡ bench_board n
bench_board_lem n up xs rs e f g = rw (e, f, g)

-- what bench leaves and prints goes by the bytes that it reads
abbrev Left : List ℕ → List ℕ → List ℕ → List ℕ → List ℕ → ℕ → Type 0
Left read xs rs o o' at =
    (xs ≡ (board_after pair_limit (lines_of read) (bench_board 1)).array) × ((rs ≡ (board_after pair_limit (lines_of read) (bench_board 1)).rows) × Prints o 0 (text_of pair_limit (lines_of read) (bench_board 1)) o' at)

pub bench_read : (read input xs rs o o' : List ℕ) (at k : ℕ) → k ≡ min input_limit (length input) → read ≡ take k input → Left read xs rs o o' at → Left (take input_limit input) xs rs o o' at
bench_read read input xs rs o o' at k e f h =
    subst (λ (l : List ℕ). Left l xs rs o o' at) (f ∙ ap (λ (n : ℕ). take n input) e ∙ take_min input_limit input) h
