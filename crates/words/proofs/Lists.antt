-- Laws of lists by what stands at each place: parts, `up_to`, and sources that are read round and round.
use Prim.Native.Nat.{ℕ, zero, suc, ◌+◌, ◌-◌, ◌%◌, ◌<◌, ◌≤◌, min}
use mathlib.Core.Path.{◌≡◌, refl, sym, ap, ◌∙◌}
use mathlib.Core.Bool.{Bool, true, cond}
use mathlib.Core.List.{List, [], ◌∷◌, ◌++◌, append_assoc, append-nil}
use native.Mathlib.Omega.{arith}
use native.Mathlib.Nat.{add-zero, add-suc, mod-eq_of_lt, mod_self, mod-add-mod}
use native.Mathlib.Numerals.{add-one}
use borrow.Author.Tests.{eq-eqb, ne_eqb, le-leb, lt-leb}
use lib.Dec.{leb}
use lib.ListN.{length, take, drop, get_or, replicate, length-append, length-drop, take-append-drop, replicate-append-replicate}
use lib.Seq.{sets, set_out, take-suc, take_at, drop_at, drop-drop, get_or-drop, length-take-le, take_all, drop-length}
use Rattle.words.specs.Lists.{up_to, round, driven, every, each_from}
use Rattle.words.proofs.Tests.{and_l, and_r, and_in}

-- to take more than there is takes all
pub take_min : (k : ℕ) (l : List ℕ) → take (min k (length l)) l ≡ take k l
take_min zero l = let e : min 0 (length l) ≡ 0 = omega arith in rw e
take_min (suc k) [] = let e : min (suc k) 0 ≡ 0 = omega arith in rw e
take_min (suc k) (x ∷ xs) =
    let e : min (suc k) (suc (length xs)) ≡ suc (min k (length xs)) = omega arith in
    rw e (ap (λ (t : List ℕ). x ∷ t) (take_min k xs))

-- and to drop more drops all
pub drop_min : (k : ℕ) (l : List ℕ) → drop (min k (length l)) l ≡ drop k l
drop_min zero l = let e : min 0 (length l) ≡ 0 = omega arith in rw e
drop_min (suc k) [] = let e : min (suc k) 0 ≡ 0 = omega arith in rw e
drop_min (suc k) (x ∷ xs) =
    let e : min (suc k) (suc (length xs)) ≡ suc (min k (length xs)) = omega arith in
    rw e (drop_min k xs)

-- and to set places past the end sets none
pub sets_out : (o : List ℕ) (at : ℕ) (t : List ℕ) → length o ≤ at → sets o at t ≡ o
sets_out o at [] h = refl
sets_out o at (x ∷ t) h = rw (set_out o at x h) (sets_out o (suc at) t (omega arith))

pub length_up_to : (n : ℕ) (f : ℕ → ℕ) → length (up_to n f) ≡ n
length_up_to zero f = refl
length_up_to (suc n) f = simp (length-append, length_up_to n f) (omega arith)

-- so many places, then some more
pub up_to_add : (k r : ℕ) (f : ℕ → ℕ) → up_to (k + r) f ≡ up_to k f ++ up_to r (λ (j : ℕ). f (k + j))
up_to_add k zero f = rw (add-zero, append-nil)
up_to_add k (suc r) f = rw (add-suc, up_to_add k r f, append_assoc)

-- places that agree with a part of a list are that part
pub up_to_part : (s : List ℕ) (p r : ℕ) (f : ℕ → ℕ) → p + r ≤ length s → ((j : ℕ) → j < r → f j ≡ get_or s (p + j) 0) → up_to r f ≡ take r (drop p s)
up_to_part s p zero f h same = refl
up_to_part s p (suc r) f h same =
    let n : r < length (drop p s) = simp length-drop (omega arith) in
    rw (take-suc (drop p s) r 0 n, get_or-drop, up_to_part s p r f (omega arith) (λ j l. same j (omega arith)), same r (omega arith))

-- places that agree, and places that all hold one byte
pub up_to_same : (n : ℕ) (f g : ℕ → ℕ) → ((j : ℕ) → j < n → f j ≡ g j) → up_to n f ≡ up_to n g
up_to_same zero f g same = refl
up_to_same (suc n) f g same = rw (up_to_same n f g (λ j l. same j (omega arith)), same n (omega arith))

pub up_to_const : (n b : ℕ) → up_to n (λ (j : ℕ). b) ≡ replicate n b
up_to_const zero b = refl
up_to_const (suc n) b = rw (up_to_const n b) (replicate-append-replicate n 1 b ∙ ap (λ (k : ℕ). replicate k b) (add-one n))

-- a list o whose n places from a place on are f's
abbrev pub laid : List ℕ → ℕ → ℕ → (ℕ → ℕ) → List ℕ
laid o from n f = take from o ++ (up_to n f ++ drop (from + n) o)

pub laid_none : (o : List ℕ) (from : ℕ) (f : ℕ → ℕ) → laid o from 0 f ≡ o
laid_none o from f = rw (add-zero, take-append-drop)

module _ (o : List ℕ) (from k : ℕ) (f : ℕ → ℕ) (fits : from + k ≤ length o) where
  front_length : length (take from o ++ up_to k f) ≡ from + k
  front_length = simp (length-append, length_up_to, length-take-le from o (omega arith))

  laid_front : take (from + k) (laid o from k f) ≡ take from o ++ up_to k f
  laid_front = rw (← append_assoc) (take_at (take from o ++ up_to k f) (drop (from + k) o) (from + k) front_length)

  laid_back : drop (from + k) (laid o from k f) ≡ drop (from + k) o
  laid_back = rw (← append_assoc) (drop_at (take from o ++ up_to k f) (drop (from + k) o) (from + k) front_length)

  pub length_laid : length (laid o from k f) ≡ length o
  length_laid = simp (length-append, length_up_to, length-take-le from o (omega arith), length-drop) (omega arith)

-- a run of a source laid behind what is laid already
pub laid_more : (o s : List ℕ) (from k p r : ℕ) (f : ℕ → ℕ) → from + k + r ≤ length o → p + r ≤ length s → ((j : ℕ) → j < r → f (k + j) ≡ get_or s (p + j) 0)
    → take (from + k) (laid o from k f) ++ (take r (drop p s) ++ drop r (drop (from + k) (laid o from k f))) ≡ laid o from (k + r) f
laid_more o s from k p r f fits inside same =
    let e : from + k + r ≡ from + (k + r) = omega arith in
    rw (laid_front o from k f (omega arith), laid_back o from k f (omega arith), drop-drop, e, ← up_to_part s p r (λ (j : ℕ). f (k + j)) inside same, up_to_add, append_assoc, append_assoc)

-- a source of n bytes that is read round and round, k bytes on from the place at, where it is at the place here: up to its end it is read on, and there it begins again
module _ (n at k r here : ℕ) (e : here ≡ (at + k) % n) where
  along : (at + (k + r)) % n ≡ (here + r) % n
  along =
      let a : at + (k + r) ≡ at + k + r = omega arith in
      rw (a, e) (sym (mod-add-mod (at + k) n r))

  pub begins_again : here + r ≡ n → 0 ≡ (at + (k + r)) % n
  begins_again h = sym (along ∙ rw (h, mod_self))

  pub reads_on : here + r < n → (at + (k + r)) % n ≡ here + r
  reads_on h = along ∙ mod-eq_of_lt h

-- a run of a source that is read round and round, laid behind what is laid already
pub round_more : (o s : List ℕ) (at from k here r : ℕ) → from + k + r ≤ length o → here + r ≤ length s → here ≡ (at + k) % length s
    → take (from + k) (laid o from k (round s at)) ++ (take r (drop here s) ++ drop r (drop (from + k) (laid o from k (round s at)))) ≡ laid o from (k + r) (round s at)
round_more o s at from k here r fits inside e =
    laid_more o s from k here r (round s at) fits inside (λ j h. ap (λ (x : ℕ). get_or s x 0) (reads_on (length s) at k j here e (omega arith)))

-- a source of no bytes, or a place past the output's end, drives nothing
pub driven_empty : (s : List ℕ) (at : ℕ) (o : List ℕ) (from : ℕ) → length s ≡ 0 → driven s at o from ≡ o
unfolding driven
driven_empty s at o from h = rw (eq-eqb _ _ h)

module _ (s : List ℕ) (at : ℕ) (o : List ℕ) (from : ℕ) (some : length s ≡ 0 → ⊥) where
  pub driven_past : length o ≤ from → driven s at o from ≡ o
  unfolding driven
  driven_past h =
      let e : length o - from ≡ 0 = omega arith in
      rw (ne_eqb _ _ some, e, take_all from o h) (append-nil o)

  -- all places from a place on are laid
  pub driven_laid : (n : ℕ) → from + n ≡ length o → laid o from n (round s at) ≡ driven s at o from
  unfolding driven
  driven_laid n h =
      let e : length o - from ≡ n = omega arith in
      rw (ne_eqb _ _ some, e, h, drop-length, append-nil)

-- an output whose places before that hold one byte, by places
module _ (s : List ℕ) (at : ℕ) (o : List ℕ) (from b : ℕ) where
  abbrev placed : ℕ → ℕ
  placed j = cond (leb from j) (round s at (j - from)) b

  placed_before : (n : ℕ) → n ≤ from → up_to n placed ≡ replicate n b
  placed_before n h = up_to_same n placed (λ (j : ℕ). b) (λ j l. rw (lt-leb from j (omega arith))) ∙ up_to_const n b

  placed_after : (n k : ℕ) → (0 < n → k ≡ from) → up_to n (λ (j : ℕ). placed (k + j)) ≡ up_to n (round s at)
  placed_after n k h =
      up_to_same n (λ (j : ℕ). placed (k + j)) (round s at)
      (λ j l.
      let e : k ≡ from = h (omega arith) in
      let d : k + j - from ≡ j = omega arith in
      rw (le-leb from (k + j) (omega arith), d))

  pub driven_places : (length s ≡ 0 → ⊥) → take from o ≡ replicate (min from (length o)) b → driven s at o from ≡ up_to (length o) (λ (j : ℕ). cond (leb from j) (round s at (j - from)) b)
  unfolding driven
  driven_places some before =
      let n : length o ≡ min from (length o) + (length o - from) = omega arith in
      rw (ne_eqb _ _ some, before, ← placed_before (min from (length o)) (omega arith), ← placed_after (length o - from) (min from (length o)) (λ h. omega arith))
      (sym (ap (λ (k : ℕ). up_to k placed) n ∙ up_to_add (min from (length o)) (length o - from) placed))

-- items that pass a test, put together and taken apart
pub every_both : {A : Type 0} (test : A → Bool) (xs ys : List A) → every test xs ≡ true → every test ys ≡ true → every test (xs ++ ys) ≡ true
every_both test [] ys h g = g
every_both test (x ∷ xs) ys h g = and_in (and_l _ _ h) (every_both test xs ys (and_r _ _ h) g)

pub every_last : {A : Type 0} (test : A → Bool) (xs ys : List A) → every test (xs ++ ys) ≡ true → every test ys ≡ true
every_last test [] ys h = h
every_last test (x ∷ xs) ys h = every_last test xs ys (and_r _ _ h)

-- each item as f makes it: as many, and at each place what f makes of the place and of what it was
pub length_each : {A : Type 0} (k : ℕ) (f : ℕ → A → A) (xs : List A) → length (each_from k f xs) ≡ length xs
length_each k f [] = refl
length_each k f (x ∷ xs) = ap suc (length_each (suc k) f xs)

pub get_d_each : {A : Type 0} (k : ℕ) (f : ℕ → A → A) (xs : List A) (i : ℕ) (d : A) → i < length xs → get_or (each_from k f xs) i d ≡ f (k + i) (get_or xs i d)
get_d_each k f [] i d h = absurd (omega arith)
get_d_each k f (x ∷ xs) zero d h = ap (λ (j : ℕ). f j x) (sym (add-zero k))
get_d_each k f (x ∷ xs) (suc i) d h =
    let e : suc k + i ≡ k + suc i = omega arith in
    get_d_each (suc k) f xs i d (omega arith) ∙ ap (λ (j : ℕ). f j (get_or xs i d)) e
