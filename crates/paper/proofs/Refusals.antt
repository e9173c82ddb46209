-- Laws of refusals: two results of tests that have one number are equal, and the first test that refuses gives a call's number.
use Rattle.std.specs.Prelude.{◌≡◌, ℕ, Result, Ok, Err, cond, eqb, false}
use Rattle.std.proofs.Common.{refl, ap, sym, ◌∙◌}
use Rattle.types.specs.declared.Refusal.{Refusal}
use Rattle.types.specs.declared.Refusal.TheVariants.{Size, Rows, Input, Output, Record, Ticks, Lists, Unknown, Asleep, Busy, Suspended, Length, OutOfTurn, NotEnabled, NoSuchRow, Protected, Wear, Map, Page, Image}
use borrow.Author.Tests.{ne_eqb}
use Rattle.words.specs.Logic.{◌or_else◌}
use Rattle.words.proofs.Tests.{or_else_first, or_else_on}
use Rattle.paper.specs.Refusals.{number, number_of}

-- what tests that have a number said
abbrev told : ℕ → Result (Unit {0}) Refusal
told n =
    cond (eqb n 1) (Err Size) (
    cond (eqb n 2) (Err Rows) (
    cond (eqb n 3) (Err Input) (
    cond (eqb n 4) (Err Output) (
    cond (eqb n 5) (Err Record) (
    cond (eqb n 6) (Err Ticks) (
    cond (eqb n 7) (Err Lists) (
    cond (eqb n 20) (Err Unknown) (
    cond (eqb n 21) (Err Asleep) (
    cond (eqb n 22) (Err Busy) (
    cond (eqb n 23) (Err Suspended) (
    cond (eqb n 24) (Err Length) (
    cond (eqb n 25) (Err OutOfTurn) (
    cond (eqb n 26) (Err NotEnabled) (
    cond (eqb n 27) (Err NoSuchRow) (
    cond (eqb n 28) (Err Protected) (
    cond (eqb n 35) (Err Wear) (
    cond (eqb n 36) (Err Map) (
    cond (eqb n 37) (Err Page) (
    cond (eqb n 38) (Err Image) (
    Ok tt))))))))))))))))))))

told_again : (r : Result (Unit {0}) Refusal) → told (number_of r) ≡ r
told_again (Ok u) = refl
told_again (Err Size) = refl
told_again (Err Rows) = refl
told_again (Err Input) = refl
told_again (Err Output) = refl
told_again (Err Record) = refl
told_again (Err Ticks) = refl
told_again (Err Lists) = refl
told_again (Err Unknown) = refl
told_again (Err Asleep) = refl
told_again (Err Busy) = refl
told_again (Err Suspended) = refl
told_again (Err Length) = refl
told_again (Err OutOfTurn) = refl
told_again (Err NotEnabled) = refl
told_again (Err NoSuchRow) = refl
told_again (Err Protected) = refl
told_again (Err Wear) = refl
told_again (Err Map) = refl
told_again (Err Page) = refl
told_again (Err Image) = refl

pub same_refusal : {x y : Result (Unit {0}) Refusal} {n : ℕ} → number_of x ≡ n → number_of y ≡ n → x ≡ y
same_refusal {x} {y} p q = sym (told_again x) ∙ ap told (p ∙ sym q) ∙ told_again y

pub some_number : (e : Refusal) → number e ≡ 0 → ⊥
some_number e h = let p : Err e ≡ Ok tt = sym (told_again (Err e)) ∙ ap told h in cc

-- the first test that refuses gives the number
pub refuses : (e : Refusal) (a n : ℕ) → number e ≡ a → (a or_else n) ≡ number e
refuses e a n p = or_else_first a n (λ z. some_number e (p ∙ z)) ∙ sym p

-- and one that passes leaves it to the next
pub passes : (a n : ℕ) → 0 ≡ a → (a or_else n) ≡ n
passes a n p = or_else_on a n (sym p)

-- no refusal's number is 0
pub refused : (e : Refusal) → eqb (number e) 0 ≡ false
refused e = ne_eqb _ _ (some_number e)
