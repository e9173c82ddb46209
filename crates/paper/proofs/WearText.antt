-- A number in wide decimal is its decimal numeral: it is read back, has digits alone and no zero before them, and is no longer than its size asks.
use Prim.Native.Nat.{ℕ, ◌+◌, ◌*◌, ◌/◌, ◌%◌, ◌^◌, ◌≤◌, ◌<◌}
use mathlib.Core.Path.{◌≡◌, refl, ◌∙◌}
use mathlib.Core.Bool.{Bool, true, false, cond}
use mathlib.Core.List.{List, [], ◌∷◌, ◌++◌, append_assoc}
use native.Mathlib.Omega.{arith}
use lib.Dec.{leb, ltb}
use lib.ListN.{length, get_or, length-append}
use borrow.Author.Tests.{le-leb, lt-leb, leb-true, leb-false, lt-ltb, le-ltb, ltb-true, ltb-false}
use Rattle.words.specs.Logic.{◌and◌}
use Rattle.words.specs.Lists.{every}
use Rattle.words.proofs.Lists.{every_both}
use Rattle.paper.specs.Bench.{is_digit, digit_value, digit, leading, decimal, numeral_from}
use Rattle.paper.specs.WearText.{five_digits, wide_decimal}

-- Digits
digit_is : (v : ℕ) → is_digit (digit v) ≡ true
unfolding is_digit ◌and◌
digit_is v = rw (le-leb 48 (48 + v % 10) (omega arith), le-leb (48 + v % 10) 57 (omega arith))

digit_value_lem : (v : ℕ) → digit_value (digit v) ≡ v % 10
unfolding digit_value
digit_value_lem v = rw (digit_is v) (omega arith)

digits_five : (n : ℕ) → every is_digit (five_digits n) ≡ true
unfolding five_digits ◌and◌
digits_five n = rw (digit_is (n / 10000), digit_is (n / 1000), digit_is (n / 100), digit_is (n / 10), digit_is n)

digits_some : (t : Bool) (v : ℕ) → every is_digit (cond t (digit v ∷ []) []) ≡ true
unfolding ◌and◌
digits_some true v = rw (digit_is v)
digits_some false v = refl

digits_leading : (d n : ℕ) → every is_digit (leading d n) ≡ true
unfolding leading
digits_leading d n = digits_some (leb d n) (n / d)

digits_last : (n : ℕ) → every is_digit (digit n ∷ []) ≡ true
unfolding ◌and◌
digits_last n = rw (digit_is n)

digits_decimal : (n : ℕ) → every is_digit (decimal n) ≡ true
unfolding decimal
digits_decimal n =
    every_both is_digit (leading 10000 n ++ leading 1000 n ++ leading 100 n ++ leading 10 n) (digit n ∷ [])
    (every_both is_digit (leading 10000 n ++ leading 1000 n ++ leading 100 n) (leading 10 n)
    (every_both is_digit (leading 10000 n ++ leading 1000 n) (leading 100 n)
    (every_both is_digit (leading 10000 n) (leading 1000 n) (digits_leading 10000 n) (digits_leading 1000 n))
    (digits_leading 100 n))
    (digits_leading 10 n))
    (digits_last n)

-- Read back
numeral_append : (m : ℕ) (xs ys : List ℕ) → numeral_from m (xs ++ ys) ≡ numeral_from (numeral_from m xs) ys
numeral_append m [] ys = refl
numeral_append m (x ∷ xs) ys = numeral_append (10 * m + digit_value x) xs ys

-- five digits before a number, of which each stands for ten times the next
five_digits_lem : (m a b c d e x y z w : ℕ) → 10 * a + b ≡ x → 10 * x + c ≡ y → 10 * y + d ≡ z → 10 * z + e ≡ w → 10 * (10 * (10 * (10 * (10 * m + a) + b) + c) + d) + e ≡ 100000 * m + w
five_digits_lem m a b c d e x y z w p q r s = omega arith

five_value : (m n : ℕ) → numeral_from m (five_digits n) ≡ 100000 * m + n % 100000
unfolding five_digits
five_value m n =
    rw (digit_value_lem (n / 10000), digit_value_lem (n / 1000), digit_value_lem (n / 100), digit_value_lem (n / 10), digit_value_lem n)
    (five_digits_lem m (n / 10000 % 10) (n / 1000 % 10) (n / 100 % 10) (n / 10 % 10) (n % 10) (n / 1000 % 100) (n / 100 % 1000) (n / 10 % 10000) (n % 100000) (omega arith) (omega arith) (omega arith) (omega arith))

some_value : (t : Bool) (m v : ℕ) → (t ≡ true → m ≡ v / 10) → (t ≡ false → m ≡ v) → numeral_from m (cond t (digit v ∷ []) []) ≡ v
some_value true m v h g = rw (digit_value_lem v) (omega (arith, h refl))
some_value false m v h g = g refl

leading_value : (d n m : ℕ) → m ≡ n / d / 10 → (n < d → n / d ≡ 0) → numeral_from m (leading d n) ≡ n / d
unfolding leading
leading_value d n m h g =
    some_value (leb d n) m (n / d) (λ e. h) (λ e. let z = g (leb-false d n e) in omega arith)

decimal_value : (n : ℕ) → n < 100000 → numeral_from 0 (decimal n) ≡ n
unfolding decimal
decimal_value n h =
    let a : numeral_from 0 (leading 10000 n) ≡ n / 10000 = leading_value 10000 n 0 (omega arith) (λ (l : n < 10000). omega arith) in
    let b : numeral_from (n / 10000) (leading 1000 n) ≡ n / 1000 = leading_value 1000 n (n / 10000) (omega arith) (λ (l : n < 1000). omega arith) in
    let c : numeral_from (n / 1000) (leading 100 n) ≡ n / 100 = leading_value 100 n (n / 1000) (omega arith) (λ (l : n < 100). omega arith) in
    let d : numeral_from (n / 100) (leading 10 n) ≡ n / 10 = leading_value 10 n (n / 100) (omega arith) (λ (l : n < 10). omega arith) in
    rw (numeral_append, numeral_append, numeral_append, numeral_append, a, b, c, d, digit_value_lem n) (omega arith)

-- a number of several parts: which of the three forms it has
wide_low : (n : ℕ) → n < 100000 → wide_decimal n ≡ decimal n
unfolding wide_decimal
wide_low n h = rw (lt-ltb n 100000 h)

wide_middle : (n : ℕ) → 100000 ≤ n → n < 10000000000 → wide_decimal n ≡ decimal (n / 100000) ++ five_digits n
unfolding wide_decimal
wide_middle n h g = rw (le-ltb n 100000 h, lt-ltb n 10000000000 g)

wide_high : (n : ℕ) → 10000000000 ≤ n → wide_decimal n ≡ decimal (n / 10000000000) ++ five_digits (n / 100000) ++ five_digits n
unfolding wide_decimal
wide_high n h =
    let l : 100000 ≤ n = omega arith in
    rw (le-ltb n 100000 l, le-ltb n 10000000000 h)

-- what holds of each form holds of all
by_form : (P : ℕ → List ℕ → Type 0) (n : ℕ)
    → (n < 100000 → P n (decimal n)) → (100000 ≤ n → n < 10000000000 → P n (decimal (n / 100000) ++ five_digits n)) → (10000000000 ≤ n → P n (decimal (n / 10000000000) ++ five_digits (n / 100000) ++ five_digits n))
    → P n (wide_decimal n)
by_form P n low middle high = by_form_as (ltb n 100000) (ltb n 10000000000) refl refl
  where
    by_form_as : (a b : Bool) → ltb n 100000 ≡ a → ltb n 10000000000 ≡ b → P n (wide_decimal n)
    by_form_as true b e f = let h = ltb-true n 100000 e in rw (wide_low n h) (low h)
    by_form_as false true e f =
        let h = ltb-false n 100000 e in
        let g = ltb-true n 10000000000 f in
        rw (wide_middle n h g) (middle h g)
    by_form_as false false e f = let h = ltb-false n 10000000000 f in rw (wide_high n h) (high h)

pub wide_value : (n : ℕ) → n < 10 ^ 15 → numeral_from 0 (wide_decimal n) ≡ n
wide_value n h =
    by_form (λ (m : ℕ) (xs : List ℕ). numeral_from 0 xs ≡ m) n (decimal_value n)
    (λ l g.
    let a = decimal_value (n / 100000) (omega arith) in
    rw (numeral_append, a, five_value) (omega arith))
    (λ l.
    let a = decimal_value (n / 10000000000) (omega arith) in
    rw (numeral_append, numeral_append, a, five_value (n / 10000000000) (n / 100000), five_value (100000 * (n / 10000000000) + n / 100000 % 100000) n) (omega arith))

pub wide_digits : (n : ℕ) → every is_digit (wide_decimal n) ≡ true
wide_digits n =
    by_form (λ (m : ℕ) (xs : List ℕ). every is_digit xs ≡ true) n (λ l. digits_decimal n)
    (λ l g. every_both is_digit (decimal (n / 100000)) (five_digits n) (digits_decimal (n / 100000)) (digits_five n))
    (λ l.
    every_both is_digit (decimal (n / 10000000000) ++ five_digits (n / 100000)) (five_digits n)
    (every_both is_digit (decimal (n / 10000000000)) (five_digits (n / 100000)) (digits_decimal (n / 10000000000)) (digits_five (n / 100000)))
    (digits_five n))

-- No zero before them: the first character is another
first_stays : (xs ys : List ℕ) → 49 ≤ get_or xs 0 0 → 49 ≤ get_or (xs ++ ys) 0 0
first_stays [] ys h = absurd (omega arith)
first_stays (x ∷ xs) ys h = h

first_some : (t : Bool) (v : ℕ) (ys : List ℕ) → (t ≡ true → 1 ≤ v % 10) → (t ≡ false → 49 ≤ get_or ys 0 0) → 49 ≤ get_or (cond t (digit v ∷ []) [] ++ ys) 0 0
first_some true v ys h g = omega (arith, h refl)
first_some false v ys h g = g refl

first_leading : (d n : ℕ) (ys : List ℕ) → (d ≤ n → 1 ≤ n / d % 10) → (n < d → 49 ≤ get_or ys 0 0) → 49 ≤ get_or (leading d n ++ ys) 0 0
unfolding leading
first_leading d n ys h g = first_some (leb d n) (n / d) ys (λ e. h (leb-true d n e)) (λ e. g (leb-false d n e))

decimal_apart : (n : ℕ) → decimal n ≡ leading 10000 n ++ (leading 1000 n ++ (leading 100 n ++ (leading 10 n ++ (digit n ∷ []))))
unfolding decimal
decimal_apart n =
    let a = leading 10000 n in
    let b = leading 1000 n in
    let c = leading 100 n in
    append_assoc (a ++ b ++ c) (leading 10 n) (digit n ∷ [])
    ∙ append_assoc (a ++ b) c (leading 10 n ++ (digit n ∷ []))
    ∙ append_assoc a b (c ++ (leading 10 n ++ (digit n ∷ [])))

first_decimal : (n : ℕ) → 1 ≤ n → n < 100000 → 49 ≤ get_or (decimal n) 0 0
first_decimal n h g =
    rw (decimal_apart n)
    (first_leading 10000 n (leading 1000 n ++ (leading 100 n ++ (leading 10 n ++ (digit n ∷ [])))) (λ (l : 10000 ≤ n). omega arith) (λ (l : n < 10000).
    first_leading 1000 n (leading 100 n ++ (leading 10 n ++ (digit n ∷ []))) (λ (l' : 1000 ≤ n). omega arith) (λ (l' : n < 1000).
    first_leading 100 n (leading 10 n ++ (digit n ∷ [])) (λ (l'' : 100 ≤ n). omega arith) (λ (l'' : n < 100).
    first_leading 10 n (digit n ∷ []) (λ (l''' : 10 ≤ n). omega arith) (λ (l''' : n < 10). omega arith)))))

pub wide_first : (n : ℕ) → 1 ≤ n → n < 10 ^ 15 → 49 ≤ get_or (wide_decimal n) 0 0
wide_first n h g =
    by_form (λ (m : ℕ) (xs : List ℕ). 49 ≤ get_or xs 0 0) n (first_decimal n h)
    (λ l k. first_stays (decimal (n / 100000)) (five_digits n) (first_decimal (n / 100000) (omega arith) (omega arith)))
    (λ l. first_stays (decimal (n / 10000000000) ++ five_digits (n / 100000)) (five_digits n) (first_stays (decimal (n / 10000000000)) (five_digits (n / 100000)) (first_decimal (n / 10000000000) (omega arith) (omega arith))))

-- How long it is
length_some : (t : Bool) (v : ℕ) → length (cond t (v ∷ []) []) ≤ 1
length_some true v = omega arith
length_some false v = omega arith

leading_fits : (d n : ℕ) → length (leading d n) ≤ 1
unfolding leading
leading_fits d n = length_some (leb d n) (digit (n / d))

no_leading : (d n : ℕ) → n < d → leading d n ≡ []
unfolding leading
no_leading d n h = rw (lt-leb d n h)

length_five : (n : ℕ) → length (five_digits n) ≡ 5
unfolding five_digits
length_five n = refl

pub decimal_fits : (n : ℕ) → length (decimal n) ≤ 5
unfolding decimal
decimal_fits n =
    let a = leading_fits 10000 n in
    let b = leading_fits 1000 n in
    let c = leading_fits 100 n in
    let d = leading_fits 10 n in
    simp length-append (omega arith)

decimal_fits_4 : (n : ℕ) → n < 10000 → length (decimal n) ≤ 4
unfolding decimal
decimal_fits_4 n h =
    let b = leading_fits 1000 n in
    let c = leading_fits 100 n in
    let d = leading_fits 10 n in
    rw (no_leading 10000 n h) (simp length-append (omega arith))

decimal_fits_1 : (n : ℕ) → n < 10 → length (decimal n) ≤ 1
unfolding decimal
decimal_fits_1 n h =
    let a : n < 10000 = omega arith in
    let b : n < 1000 = omega arith in
    let c : n < 100 = omega arith in
    rw (no_leading 10000 n a, no_leading 1000 n b, no_leading 100 n c, no_leading 10 n h) (omega arith)

pub wide_few_1 : (n : ℕ) → n < 10 → length (wide_decimal n) ≤ 1
wide_few_1 n h =
    let l : n < 100000 = omega arith in
    rw (wide_low n l) (decimal_fits_1 n h)

pub wide_few_4 : (n : ℕ) → n < 10000 → length (wide_decimal n) ≤ 4
wide_few_4 n h =
    let l : n < 100000 = omega arith in
    rw (wide_low n l) (decimal_fits_4 n h)

pub wide_few_10 : (n : ℕ) → n < 10 ^ 10 → length (wide_decimal n) ≤ 10
wide_few_10 n h =
    by_form (λ (m : ℕ) (xs : List ℕ). length xs ≤ 10) n (λ l. let a = decimal_fits n in omega arith)
    (λ l g.
    let a = decimal_fits (n / 100000) in
    let b = length_five n in
    simp length-append (omega arith))
    (λ l. absurd (omega arith))

pub wide_few_14 : (n : ℕ) → n < 10 ^ 14 → length (wide_decimal n) ≤ 14
wide_few_14 n h =
    by_form (λ (m : ℕ) (xs : List ℕ). length xs ≤ 14) n (λ l. let a = decimal_fits n in omega arith)
    (λ l g.
    let a = decimal_fits (n / 100000) in
    let b = length_five n in
    simp length-append (omega arith))
    (λ l.
    let a = decimal_fits_4 (n / 10000000000) (omega arith) in
    let b = length_five (n / 100000) in
    let c = length_five n in
    simp length-append (omega arith))
