-- Runs on one memory: they keep its length, and are what the ticks of an operation make of it. Those of a sound record lie within it.
use Prim.Native.Nat.{ℕ, zero, suc, ◌+◌, ◌*◌, ◌≤◌, ◌<◌}
use mathlib.Core.Path.{◌≡◌, refl, sym, ap, ◌∙◌}
use mathlib.Core.Bool.{Bool, true, false, cond}
use mathlib.Core.List.{List, [], ◌∷◌, ◌++◌}
use native.Mathlib.Omega.{arith}
use native.Mathlib.Nat.{zero-add, suc-add}
use lib.ListN.{length, get_or, set, take, drop, length-take, length-drop, take-append-drop, get_or-append}
use lib.Seq.{get_or-append-add, set-append_left, length-take-le}
use borrow.Author.Tests.{leb-true, le-leb}
use Rattle.types.specs.declared.Memory.{Memory}
use Rattle.types.specs.declared.Memory.TheVariants.{Array, Rows}
use Rattle.types.specs.declared.EraseUnit.{EraseUnit}
use Rattle.types.specs.declared.Operation.{Operation}
use Rattle.types.specs.declared.Operation.TheVariants.{Program, Erase, Write}
use Rattle.types.specs.declared.Register.{Register}
use Rattle.types.specs.declared.Stored.{Stored}
use Rattle.types.specs.declared.Change.{Change}
use Rattle.types.specs.declared.Waited.{Waited}
use Rattle.paper.specs.Sizes.{same_memory, page_bytes, array_bytes, rows_bytes, memory_bytes}
use Rattle.paper.specs.Program.{page_place, narrowed_byte, narrowed}
use Rattle.paper.specs.Erase.{memory_of, unit_bytes}
use Rattle.paper.specs.Operations.{ticks_left}
use Rattle.paper.specs.Numbers.{tick_number, size_number}
use Rattle.paper.specs.Ticks.{ran}
use Rattle.paper.proofs.Sizes.{size_range, same_self}
use Rattle.paper.proofs.Numbers.{ticks_taken}
use Rattle.paper.proofs.Pages.{erased_length, narrowed_length}
use Rattle.paper.proofs.ManyTicks.{erase_other}
use Rattle.paper.proofs.Soundness.{InOrder}
use Rattle.words.proofs.Tests.{and_l, and_r, and_in, or_else_zero, unless_zero}
use Rattle.ticks.specs.OneMemory.{pages_erased, bytes_narrowed, pick, program_within, erase_within, within, ran_within}

pub pages_length : (k from : ℕ) (xs : List ℕ) → length (pages_erased k from xs) ≡ length xs
pages_length zero from xs = refl
pages_length (suc k) from xs = erased_length (pages_erased k from xs) (from + k * page_bytes) ∙ pages_length k from xs

pub bytes_length : (k base start d : ℕ) (g xs : List ℕ) → length (bytes_narrowed k base start d g xs) ≡ length xs
bytes_length zero base start d g xs = refl
bytes_length (suc k) base start d g xs = narrowed_length _ _ _ ∙ bytes_length k base start d g xs

-- an operation's ticks on the memory that it is of, and on the other
module _ (m : Memory) (g xs : List ℕ) where
  ran_erase : (u : EraseUnit) (b d k : ℕ) → same_memory m (memory_of u) ≡ true → ran m k (Erase u b d) g xs ≡ pages_erased k (b + d * page_bytes) xs
  ran_erase u b d zero e = refl
  ran_erase u b d (suc k) e =
      let a : b + (d + k) * page_bytes ≡ b + d * page_bytes + k * page_bytes = omega arith in
      rw (e, ran_erase u b d k e, a)

  ran_program : (w : Memory) (s b c d k : ℕ) → same_memory m w ≡ true → ran m k (Program w s b c d) g xs ≡ bytes_narrowed k b s d g xs
  ran_program w s b c d zero e = refl
  ran_program w s b c d (suc k) e = rw (e, ran_program w s b c d k e)

  ran_program_not : (w : Memory) (s b c d k : ℕ) → same_memory m w ≡ false → ran m k (Program w s b c d) g xs ≡ xs
  ran_program_not w s b c d zero e = refl
  ran_program_not w s b c d (suc k) e = rw e (ran_program_not w s b c d k e)

  pub ran_write : (r : Register) (v k : ℕ) → ran m k (Write r v) g xs ≡ xs
  ran_write r v zero = refl
  ran_write r v (suc k) = ran_write r v k

-- a test that decides nothing
either_way : (t : Bool) (xs ys : List ℕ) → ys ≡ xs → xs ≡ cond t ys xs
either_way true xs ys e = sym e
either_way false xs ys e = refl

-- the ticks that lie within what is lent, on the memory that the operation is of, and on the other
module _ (m : Memory) (k : ℕ) (g : List ℕ) (a r : ℕ) (xs : List ℕ) where
  pub own_erase : (u : EraseUnit) (b d : ℕ) → memory_of u ≡ m → (ys : List ℕ)
      → ys ≡ cond (erase_within b d k (pick m a r)) (pages_erased k (b + d * page_bytes) xs) xs → ys ≡ ran_within m k (Erase u b d) g a r xs
  own_erase u b d e ys q =
      q ∙ ap (λ (z : List ℕ). cond (erase_within b d k (pick m a r)) z xs) (sym (ran_erase m g xs u b d k (rw e (same_self m))))
      ∙ ap (λ (w : Memory). cond (erase_within b d k (pick w a r)) (ran m k (Erase u b d) g xs) xs) (sym e)

  pub other_erase : (u : EraseUnit) (b d : ℕ) → same_memory m (memory_of u) ≡ false → xs ≡ ran_within m k (Erase u b d) g a r xs
  other_erase u b d e = either_way (erase_within b d k (pick (memory_of u) a r)) xs _ (erase_other k u b d g xs m e)

  pub own_program : (w : Memory) (s b c d : ℕ) → w ≡ m → (ys : List ℕ)
      → ys ≡ cond (program_within b d k (length g) (pick m a r)) (bytes_narrowed k b s d g xs) xs → ys ≡ ran_within m k (Program w s b c d) g a r xs
  own_program w s b c d e ys q =
      q ∙ ap (λ (z : List ℕ). cond (program_within b d k (length g) (pick m a r)) z xs) (sym (ran_program m g xs m s b c d k (same_self m)))
      ∙ ap (λ (v : Memory). ran_within m k (Program v s b c d) g a r xs) (sym e)

  pub other_program : (w : Memory) (s b c d : ℕ) → same_memory m w ≡ false → xs ≡ ran_within m k (Program w s b c d) g a r xs
  other_program w s b c d e = either_way (program_within b d k (length g) (pick w a r)) xs _ (ran_program_not m g xs w s b c d k e)

-- the part of a memory that is lent, of the two
pick_bytes : (m : Memory) (n a r : ℕ) → a ≡ array_bytes n → r ≡ rows_bytes → memory_bytes m n ≡ pick m a r
pick_bytes Array n a r e f = sym e
pick_bytes Rows n a r e f = sym f

-- the ticks that are left to an operation that is in order lie within a part's memory and page data
pub left_within : (o : Operation) (n : ℕ) (s : Stored) (k g a r : ℕ) → InOrder o n s → k ≤ ticks_left o n → g ≡ page_bytes → a ≡ array_bytes n → r ≡ rows_bytes → within o k g a r ≡ true
left_within (Program m s b c d) n t k g a r i h l e f =
    let few : c ≤ page_bytes = leb-true _ _ (and_l _ _ (and_r _ _ i.content)) in
    let w : b + page_bytes ≤ memory_bytes m n = leb-true _ _ i.within in
    and_in (le-leb (d + k) g (omega (arith, i.going))) (le-leb (b + page_bytes) (pick m a r) (omega (arith, pick_bytes m n a r e f)))
left_within (Erase u b d) n s k g a r i h l e f =
    let w : b + unit_bytes u n ≤ memory_bytes (memory_of u) n = leb-true _ _ i.within in
    le-leb (b + (d + k) * page_bytes) (pick (memory_of u) a r) (omega (arith, i.going, pick_bytes (memory_of u) n a r e f))
left_within (Write w v) n s k g a r i h l e f = refl

-- a tick call that is not refused is lent a page of each memory and more
pub lent_pages : (b : ℕ) (s : Bool) (a r n : ℕ) → tick_number b s a r n ≡ 0 → (page_bytes ≤ a) × (page_bytes ≤ r)
unfolding tick_number size_number
lent_pages b s a r n e =
    let t = ticks_taken b s a r n e in
    let known = size_range b (and_l _ _ (unless_zero _ 0 (or_else_zero _ _ e).0)) in
    (omega (arith, t.size, known.0), omega (arith, t.rows))

-- answers that agree in what changes and in the ticks done
pub same_waited : (x y : Change) (d e : ℕ) → x ≡ y → d ≡ e → ◌≡◌ {A = Waited} record { change = x; number = 0; done = d } record { change = y; number = 0; done = e }
same_waited x y d e f g = rw (f, g)

-- a place of a part of a memory narrowed
set_append_add : (xs ys : List ℕ) (n a : ℕ) → set (xs ++ ys) (length xs + n) a ≡ xs ++ set ys n a
set_append_add [] ys n a = ap (λ (k : ℕ). set ys k a) (zero-add n)
set_append_add (x ∷ xs) ys n a = ap (λ (k : ℕ). set (x ∷ (xs ++ ys)) k a) (suc-add (length xs) n) ∙ ap (λ (r : List ℕ). x ∷ r) (set_append_add xs ys n a)

narrowed_in : (xs ys zs : List ℕ) (b at d : ℕ) → length xs ≡ b → at < length ys → narrowed (xs ++ (ys ++ zs)) (b + at) d ≡ xs ++ (narrowed ys at d ++ zs)
unfolding narrowed
narrowed_in xs ys zs b at d e h =
    rw (← e, get_or-append-add, get_or-append ys zs 0 at h)
    (set_append_add xs (ys ++ zs) at (narrowed_byte (get_or ys at 0) d) ∙ ap (λ (r : List ℕ). xs ++ r) (set-append_left ys zs at (narrowed_byte (get_or ys at 0) d) h))

-- kept bytes written to their places in the page that a memory lends
module _ (base start d : ℕ) (g xs : List ℕ) (h : base + page_bytes ≤ length xs) where
  page_narrowed : (k : ℕ) → bytes_narrowed k base start d g xs ≡ take base xs ++ (bytes_narrowed k 0 start d g (take page_bytes (drop base xs)) ++ drop page_bytes (drop base xs))
  unfolding page_place
  page_narrowed zero = sym (ap (λ (r : List ℕ). take base xs ++ r) (take-append-drop page_bytes (drop base xs)) ∙ take-append-drop base xs)
  page_narrowed (suc k) =
      let at = page_place start (d + k) in
      let ys = bytes_narrowed k 0 start d g (take page_bytes (drop base xs)) in
      let l : length ys ≡ page_bytes = bytes_length k 0 start d g (take page_bytes (drop base xs)) ∙ simp (length-take, length-drop) (omega arith) in
      ap (λ (r : List ℕ). narrowed r (base + at) (get_or g (d + k) 0)) (page_narrowed k)
      ∙ narrowed_in (take base xs) ys (drop page_bytes (drop base xs)) base at (get_or g (d + k) 0) (length-take-le base xs (omega arith)) (omega (arith, l))
      ∙ ap (λ (a : ℕ). take base xs ++ (narrowed ys a (get_or g (d + k) 0) ++ drop page_bytes (drop base xs))) (sym (zero-add at))

  pub narrowed_back : (k n : ℕ) → n ≡ page_bytes → (ys : List ℕ) → ys ≡ bytes_narrowed k 0 start d g (take n (drop base xs))
      → take base xs ++ (ys ++ drop n (drop base xs)) ≡ bytes_narrowed k base start d g xs
  narrowed_back k n e ys q = rw (q, e) (sym (page_narrowed k))
