-- What is written is what bench prints for all that is read.
use Rattle.std.specs.Prelude.{◌≡◌, ℕ, zero, suc, ◌*◌, ◌≤◌, min, List, [], ◌∷◌, length, take, None, Some, IfSome, Result, Ok, Err, OnErr}
use Rattle.std.specs.Io.KnownBytes.{Appends, Consumes}
use Rattle.std.specs.declared.option.Option.{Option}
use Rattle.paper.specs.Board.{Board}
use Rattle.paper.specs.Bench.{input_limit, pair_limit, lines_of, text_of, bench_board, bench_text}
use Rattle.paper.specs.Numbers.{size_number, rows_number}
use Rattle.paper.specs.Sizes.{size_ok}
use Rattle.words.specs.Logic.{when_zero, ◌or_else◌, unless, ◌and◌, ◌or◌}
use Rattle.bench_lines.specs.Lent.{lent_number}
use Rattle.bench_lines.proofs.Fits.{text_fits}
use Rattle.printing.specs.Printed.{Prints}
use mathlib.Core.Path.{refl, ap, subst, ◌∙◌}
use native.Mathlib.Omega.{arith}
use lib.ListN.{set, length-take}
use lib.Seq.{sets, take_all, take-take}

-- stores past the first element leave it
sets_past : (a : ℕ) (o : List ℕ) (i : ℕ) (t : List ℕ) → sets (a ∷ o) (suc i) t ≡ a ∷ sets o i t
sets_past a o i [] = refl
sets_past a o i (b ∷ t) = sets_past a (set o i b) (suc i) t

as_far : (o t : List ℕ) (n : ℕ) → n ≡ min (length o) (length t) → take n (sets o 0 t) ≡ take (length o) t
as_far [] t n e = let z : n ≡ 0 = omega arith in rw z
as_far (x ∷ o) [] n e = let z : n ≡ 0 = omega arith in rw z
as_far (x ∷ o) (a ∷ t) zero e = absurd (omega arith)
as_far (x ∷ o) (a ∷ t) (suc n) e = rw (sets_past a o 0 t) (ap (λ (l : List ℕ). a ∷ l) (as_far o t n (omega arith)))

-- a text is printed as far as the output has room for it
pub prints_as_far : (o t o' : List ℕ) (n : ℕ) → Prints o 0 t o' n → take n o' ≡ take (length o) t
prints_as_far o t o' n p = rw p.written (as_far o t n (omega (arith, p.place)))

-- an output of four times what is read has room for all of it
text_whole : (n : ℕ) (read : List ℕ) (b : Board) → 4 * length read ≤ n → take n (text_of pair_limit (lines_of read) b) ≡ text_of pair_limit (lines_of read) b
text_whole n read b h = let f = text_fits pair_limit read b in take_all n (text_of pair_limit (lines_of read) b) (omega arith)

-- no more is read than has a meaning
read_whole : (input : List ℕ) → bench_text (take input_limit input) ≡ bench_text input
read_whole input = ap (λ (read : List ℕ). text_of pair_limit (lines_of read) (bench_board 1)) (take-take input_limit input_limit input (omega arith))

bench_whole : (n : ℕ) (input : List ℕ) → 4 * input_limit ≤ n → take n (bench_text input) ≡ bench_text input
bench_whole n input h =
    let l : length (take input_limit input) ≤ input_limit = simp length-take (omega arith) in
    text_whole n (take input_limit input) (bench_board 1) (omega arith)

lent_right : (a r : ℕ) → a ≡ 65536 → r ≡ 1024 → lent_number a r ≡ 0
unfolding size_number rows_number size_ok ◌or_else◌ unless ◌and◌ ◌or◌
lent_right a r e f = rw (e, f) refl

unrefused : (k : ℕ) (t : List ℕ) → k ≡ 0 → when_zero k t [] ≡ t
unrefused k t e = rw e refl

-- with the memory of the part and room for what is printed, what is written is the text of the bytes that are known to be left to read
pub known_whole : (limit n a r : ℕ) (known old new : Option (List ℕ)) (got : List ℕ) → limit ≡ input_limit → n ≡ 4 * input_limit → a ≡ 65536 → r ≡ 1024
    → IfSome known (λ input. got ≡ take limit input)
    → Appends old new (take n (when_zero (lent_number a r) (bench_text got) [])) → IfSome known (λ input. Appends old new (bench_text input))
known_whole limit n a r None old new got el en ea er h p = tt
known_whole limit n a r (Some input) old new got el en ea er h p =
    let g : got ≡ take input_limit input = rw el at h in
    let t : when_zero (lent_number a r) (bench_text got) [] ≡ bench_text input = unrefused (lent_number a r) (bench_text got) (lent_right a r ea er) ∙ ap bench_text g ∙ read_whole input in
    let w : take n (when_zero (lent_number a r) (bench_text got) []) ≡ bench_text input = ap (take n) t ∙ bench_whole n input (omega arith) in
    subst (Appends old new) w p

-- what is not read is left
pub known_rest : (limit : ℕ) (known rest : Option (List ℕ)) (got : List ℕ) → limit ≡ input_limit
    → IfSome known (λ input. got ≡ take limit input) → Consumes known rest got → IfSome known (λ input. Consumes known rest (take input_limit input))
known_rest limit None rest got el h p = tt
known_rest limit (Some input) rest got el h p =
    let g : got ≡ take input_limit input = rw el at h in
    subst (Consumes (Some input) rest) g p

-- no more is taken than there is room for
pub few_taken : {T E : Type 0} (r : Result T E) (a b : Option (List ℕ)) (buffer : List ℕ) (n : ℕ) → length buffer ≡ input_limit → Consumes a b (take n buffer)
    → OnErr r ((taken : List ℕ) × (length taken ≤ input_limit) × Consumes a b taken)
few_taken (Ok x) a b buffer n e p = tt
few_taken (Err x) a b buffer n e p = (take n buffer, simp length-take (omega arith), p)
