-- What is printed for an input is at most four times as long as the input, so an output of four times its length holds all of it.
use Rattle.types.specs.declared.Command.{Command}
use Rattle.std.specs.Prelude.{None, Option, Some}
use Prim.Native.Nat.{ℕ, suc, ◌+◌, ◌*◌, ◌-◌, ◌≤◌}
use mathlib.Core.Path.{◌≡◌}
use mathlib.Core.Bool.{Bool, true, false, cond}
use mathlib.Core.List.{List, [], ◌∷◌}
use native.Mathlib.Omega.{arith}
use lib.Dec.{eqb}
use lib.ListN.{length, take, drop, get_or, length-append, length-drop, length-replicate}
use Rattle.types.specs.declared.Phase.{Phase}
use Rattle.types.specs.declared.Identity.{Identity}
use Rattle.types.specs.declared.Part.{Part}
use Rattle.types.specs.declared.Line.{Line}
use Rattle.types.specs.declared.Line.TheVariants.{Transaction, Ticks, Neither}
use Rattle.words.proofs.Lists.{length_up_to}
use Rattle.paper.specs.Soundness.{sound}
use Rattle.paper.specs.Numbers.{transaction_refusal, ignored_number}
use Rattle.paper.specs.Table.{decoded, columns}
use Rattle.paper.specs.Reads.{undriven_byte, undriven, output_byte, output_of}
use Rattle.paper.specs.Calls.{output_to, output_after}
use Rattle.paper.specs.Board.{Board, sent_to, driven_by, waited}
use Rattle.paper.specs.Bench.{LF, before, lines_of, pairs, pairs_ok, digits_ok, line_of, other_text, sent_text, waited_text, line_text, line_after, text_of}
use Rattle.lines.proofs.Numerals.{length_pairs}
use Rattle.lines.proofs.Lines.{digits_count, pairs_count, Says, line_says}
use Rattle.printing.specs.Printed.{Prints}
use Rattle.printing.proofs.Text.{prints_whole}
use Rattle.printing.proofs.Lengths.{answer_fits, ticks_fit}

-- an output is as long as the input
length_either : (t : Bool) (xs ys : List ℕ) (n : ℕ) → length xs ≡ n → length ys ≡ n → length (cond t xs ys) ≡ n
length_either true xs ys n e f = e
length_either false xs ys n e f = f

module _ (id : Identity) (p : Part) (f : Phase) (s : Bool) (xs rs : List ℕ) (wp : Bool) (i : List ℕ) where
  length_output : (d : Option Command) → length (output_to d id p f xs rs wp i) ≡ length i
  unfolding output_of
  length_output (Some k) =
      length_either (eqb (ignored_number (Some k) p f i wp) 0) (output_of (columns k) id p xs rs i) (undriven (length i)) (length i)
      (length_up_to (length i) (output_byte (columns k) id p xs rs i))
      (length-replicate (length i) undriven_byte)
  length_output None = length-replicate (length i) undriven_byte

  length_after : (o : List ℕ) → length o ≡ length i → length (output_after id p f s xs rs wp i o) ≡ length i
  unfolding output_after
  length_after o e =
      length_either (eqb (transaction_refusal p.blocks s (length xs) (length rs) (length i) (length o)) 0) (output_to (decoded p.blocks p.bank (get_or i 0 0)) id p f xs rs wp i) o (length i)
      (length_output (decoded p.blocks p.bank (get_or i 0 0))) e

length_driven : (b : Board) (wp : Bool) (i : List ℕ) → length (driven_by b wp i) ≡ length i
length_driven b wp i =
    length_after b.state.identity b.state.part b.state.phase (sound b.state) b.array b.rows wp i (undriven (length i)) (length-replicate (length i) undriven_byte)

-- the characters that a line takes: those that it has, and an empty one its LF
abbrev taken : List ℕ → ℕ
taken [] = 1
taken (x ∷ l) = suc (length l)

taken_some : (l : List ℕ) → (1 ≤ taken l) × (length l ≤ taken l)
taken_some [] = (omega arith, omega arith)
taken_some (x ∷ l) = (omega arith, omega arith)

module _ (most : ℕ) (l : List ℕ) (b : Board) where
  -- a line of pairs has at least four characters, one of digits at least three
  sent_fits : (wp : Bool) → pairs_ok most (drop 2 l) ≡ true → length (sent_text b wp (pairs (drop 2 l))) ≤ 4 * taken l
  sent_fits wp e =
      let a = answer_fits (sent_to b wp (pairs (drop 2 l))).number (sent_to b wp (pairs (drop 2 l))).first (driven_by b wp (pairs (drop 2 l))) in
      let n = length_driven b wp (pairs (drop 2 l)) in
      let p = length_pairs (drop 2 l) in
      let c = (pairs_count most (drop 2 l) e).1 in
      let d : length (drop 2 l) ≡ length l - 2 = length-drop 2 l in
      let t = (taken_some l).1 in
      omega arith

  waited_fits : (n : ℕ) → digits_ok (drop 2 l) ≡ true → length (waited_text b n) ≤ 4 * taken l
  waited_fits n e =
      let a = ticks_fit (waited b n).number (waited b n).done in
      let c = (digits_count (drop 2 l) e).0 in
      let d : length (drop 2 l) ≡ length l - 2 = length-drop 2 l in
      let t = (taken_some l).1 in
      omega arith

  other_fits : length other_text ≤ 4 * taken l
  unfolding other_text
  other_fits = let t = (taken_some l).0 in omega arith

  said_fits : (d : Line) → Says most l d → length (line_text d l b) ≤ 4 * taken l
  said_fits (Transaction wp) e = sent_fits wp e
  said_fits (Ticks n) e = waited_fits n e
  said_fits Neither e = other_fits

  -- a line prints at most four times what it takes
  line_fits : length (line_text (line_of most l) l b) ≤ 4 * taken l
  line_fits = said_fits (line_of most l) (line_says most l)

-- the characters that lines take, which the input has
abbrev taken_by : List (List ℕ) → ℕ
taken_by [] = 0
taken_by (l ∷ ls) = taken l + taken_by ls

before_takes : (x : ℕ) (ls : List (List ℕ)) → taken_by (before x ls) ≤ suc (taken_by ls)
before_takes x [] = omega arith
before_takes x (l ∷ ls) = let t = (taken_some l).1 in omega arith

next_takes : (x : ℕ) (ls : List (List ℕ)) (t : Bool) → taken_by (cond t ([] ∷ ls) (before x ls)) ≤ suc (taken_by ls)
next_takes x ls true = omega arith
next_takes x ls false = before_takes x ls

lines_take : (xs : List ℕ) → taken_by (lines_of xs) ≤ length xs
lines_take [] = omega arith
lines_take (x ∷ xs) =
    let a = next_takes x (lines_of xs) (eqb x LF) in
    let e = lines_take xs in
    omega arith

lines_fit : (most : ℕ) (ls : List (List ℕ)) (b : Board) → length (text_of most ls b) ≤ 4 * taken_by ls
lines_fit most [] b = omega arith
lines_fit most (l ∷ ls) b =
    let a = line_fits most l b in
    let e = lines_fit most ls (line_after (line_of most l) l b) in
    simp length-append (omega arith)

-- what is printed for an input is at most four times as long
pub text_fits : (most : ℕ) (xs : List ℕ) (b : Board) → length (text_of most (lines_of xs) b) ≤ 4 * length xs
text_fits most xs b =
    let a = lines_fit most (lines_of xs) b in
    let e = lines_take xs in
    omega arith

-- an output of four times the input's length holds all that is printed
pub printed_whole : (most : ℕ) (xs : List ℕ) (b : Board) (o o' : List ℕ) (at : ℕ) → 4 * length xs ≤ length o → Prints o 0 (text_of most (lines_of xs) b) o' at
    → (at ≡ length (text_of most (lines_of xs) b)) × (take at o' ≡ text_of most (lines_of xs) b)
printed_whole most xs b o o' at h p =
    let f = text_fits most xs b in
    prints_whole o (text_of most (lines_of xs) b) o' at (omega arith) p
