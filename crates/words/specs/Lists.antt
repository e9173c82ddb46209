-- Lists, most of bytes, by what stands at each place.
use Rattle.std.specs.Prelude.{ℕ, zero, suc, ◌+◌, ◌-◌, ◌%◌, ◌<◌, List, [], ◌∷◌, ◌++◌, Bool, true, not, cond, length, get_or, take, drop, eqb, ltb}
use Rattle.words.specs.Logic.{◌and◌}

-- f 0, f 1, .., f (n - 1)
abbrev pub up_to : ℕ → (ℕ → ℕ) → List ℕ
up_to zero f = []
up_to (suc n) f = up_to n f ++ (f n ∷ [])

-- byte k of a list that is read from the place at on, past its end from its start again
abbrev pub round : List ℕ → ℕ → ℕ → ℕ
round s at k = get_or s ((at + k) % length s) 0

-- o with the list s, read round and round from the place at on, from o's place from to its end. A list of no bytes leaves o as it is
unfoldable pub driven : List ℕ → ℕ → List ℕ → ℕ → List ℕ
driven s at o from = cond (eqb (length s) 0) o (take from o ++ up_to (length o - from) (round s at))

-- all of the bytes are 0
abbrev pub all_zero : List ℕ → Bool
all_zero [] = true
all_zero (x ∷ xs) = eqb x 0 and all_zero xs

-- every item of a list passes a test
abbrev pub every : {A : Type 0} → (A → Bool) → List A → Bool
every f [] = true
every f (x ∷ xs) = f x and every f xs

-- the sum of the first k numbers of a list
abbrev pub sum_to : List ℕ → ℕ → ℕ
sum_to ns zero = 0
sum_to ns (suc k) = sum_to ns k + get_or ns k 0

-- n bytes of a list from the place at on, and the list with others in their place
abbrev pub between : ℕ → ℕ → List ℕ → List ℕ
between at n xs = take n (drop at xs)

abbrev pub put_between : ℕ → ℕ → List ℕ → List ℕ → List ℕ
put_between at n xs ys = take at xs ++ (ys ++ drop n (drop at xs))

-- the first of the numbers 0, 1, .., n - 1 that passes a test; n where none does
unfoldable pub first_of : ℕ → (ℕ → Bool) → ℕ
first_of zero test = 0
first_of (suc n) test = cond (ltb (first_of n test) n) (first_of n test) (cond (test n) n (suc n))

-- all of them pass it
unfoldable pub all_below : ℕ → (ℕ → Bool) → Bool
all_below zero test = true
all_below (suc n) test = all_below n test and test n

-- bytes, each below 256
abbrev pub AreBytes : List ℕ → Type 0
AreBytes xs = (a : ℕ) → get_or xs a 0 < 256

-- two lists differ at a place
abbrev pub differ_at : List ℕ → List ℕ → ℕ → Bool
differ_at xs ys k = not (eqb (get_or xs k 0) (get_or ys k 0))

-- every item of a list, from the place k on, as f makes it of its place and of what it was
abbrev pub each_from : {A : Type 0} → ℕ → (ℕ → A → A) → List A → List A
each_from k f [] = []
each_from k f (x ∷ xs) = f k x ∷ each_from (suc k) f xs
