-- What jobs leave of a byte: right jobs leave the wanted one.
use Prim.Native.Nat.{ℕ, ◌+◌, ◌-◌, ◌*◌, ◌/◌, ◌<◌}
use mathlib.Core.Path.{◌≡◌, refl, sym, ap, ◌∙◌}
use mathlib.Core.Bool.{Bool, true, false, not, cond, false≢true}
use mathlib.Core.List.{List, [], ◌∷◌}
use native.Mathlib.Omega.{arith}
use native.Mathlib.Nat.{zero-add, mod-eq_of_lt}
use lib.ListN.{length, get_or}
use lib.Bits.{and_comm, and_mask}
use lib.Dec.{eqb}
use borrow.Author.Tests.{eqb-true, eq-eqb, ne_eqb, not-true, not-false}
use Rattle.words.specs.Logic.{bit}
use Rattle.words.specs.Lists.{every}
use Rattle.words.proofs.Tests.{and_l, and_r, and_in, same_tests}
use Rattle.words.proofs.Bits.{and_again}
use Rattle.words.proofs.Search.{all_at}
use Rattle.paper.specs.Sizes.{down_to, from_on}
use Rattle.paper.specs.Program.{narrowed_byte}
use Rattle.paper.specs.Erase.{erased_byte}
use Rattle.paper.proofs.ByPlace.{from_on_lem, on_from}
use Rattle.acceptance.specs.Flasher.{Job, erases, programs, other, must_rise, sector_bytes, must_erase, still_differs, is_erase, erases_at, programs_at, how_many, erases_first, as_wanted, right_jobs}

-- what a job leaves of the byte x at the address a
abbrev pub byte_by : Job → ℕ → ℕ → ℕ
byte_by (erases b) a x = cond (from_on b sector_bytes a) erased_byte x
byte_by (programs c d) a x = cond (from_on c (length d) a) (narrowed_byte x (get_or d (a - c) 0)) x
byte_by other a x = x

-- and all of them, one after the other
abbrev pub byte_by_all : List Job → ℕ → ℕ → ℕ
byte_by_all [] a x = x
byte_by_all (j ∷ js) a x = byte_by_all js a (byte_by j a x)

-- an erase begins where a sector does
abbrev pub is_aligned : Job → Bool
is_aligned (erases b) = eqb (down_to sector_bytes b) b
is_aligned (programs c d) = true
is_aligned other = true

abbrev no_erase : Job → Bool
no_erase j = not (is_erase j)

-- one more
more_than_none : (k : ℕ) → eqb (1 + k) 0 ≡ false
more_than_none k = ne_eqb (1 + k) 0 (λ e. omega arith)

-- of one address, whose wanted byte is w
module _ (image : List ℕ) (a : ℕ) where
  abbrev wanted : ℕ
  wanted = get_or image a 0

  abbrev sector : ℕ
  sector = down_to sector_bytes a

  -- a program with wanted values narrows its bytes by the wanted ones
  program_as : (c : ℕ) (d : List ℕ) (x : ℕ) (t : Bool) → from_on c (length d) a ≡ t → as_wanted image (programs c d) ≡ true
      → cond t (narrowed_byte x (get_or d (a - c) 0)) x ≡ cond t (narrowed_byte x wanted) x
  program_as c d x true e h =
      let r = on_from c (length d) a e in
      let l : a - c < length d = omega (arith, r) in
      let s : c + (a - c) ≡ a = omega (arith, r) in
      ap (narrowed_byte x) (eqb-true _ _ (all_at (λ (k : ℕ). eqb (get_or d k 0) (get_or image (c + k) 0)) (length d) (a - c) h l) ∙ ap (λ (k : ℕ). get_or image k 0) s)
  program_as c d x false e h = refl

  -- what programs alone leave
  abbrev narrowed_by : ℕ → ℕ → ℕ
  narrowed_by k x = cond (eqb k 0) x (narrowed_byte x wanted)

  narrowed_again : (k x : ℕ) (t : Bool) → eqb k 0 ≡ t → cond t (narrowed_byte x wanted) (narrowed_byte (narrowed_byte x wanted) wanted) ≡ narrowed_byte x wanted
  narrowed_again k x true e = refl
  narrowed_again k x false e = and_again x wanted

  programs_more : (k x : ℕ) (t : Bool) → narrowed_by k (cond t (narrowed_byte x wanted) x) ≡ narrowed_by (bit t + k) x
  programs_more k x true = narrowed_again k x (eqb k 0) refl ∙ rw (more_than_none k) refl
  programs_more k x false = rw (zero-add k) refl

  programs_leave : (js : List Job) (x : ℕ) → every no_erase js ≡ true → every (as_wanted image) js ≡ true → byte_by_all js a x ≡ narrowed_by (how_many (programs_at a) js) x
  programs_leave [] x n h = refl
  programs_leave (erases b ∷ js) x n h = absurd (false≢true (and_l _ _ n))
  programs_leave (programs c d ∷ js) x n h =
      let t = from_on c (length d) a in
      ap (byte_by_all js a) (program_as c d x t refl (and_l _ _ h))
      ∙ programs_leave js (cond t (narrowed_byte x wanted) x) (and_r _ _ n) (and_r _ _ h)
      ∙ programs_more (how_many (programs_at a) js) x t
  programs_leave (other ∷ js) x n h = programs_leave js x (and_r _ _ n) (and_r _ _ h) ∙ rw (zero-add (how_many (programs_at a) js)) refl

  -- programs erase nothing
  none_erased : (js : List Job) → every no_erase js ≡ true → how_many (erases_at sector) js ≡ 0
  none_erased [] n = refl
  none_erased (erases b ∷ js) n = absurd (false≢true (and_l _ _ n))
  none_erased (programs c d ∷ js) n = zero-add (how_many (erases_at sector) js) ∙ none_erased js (and_r _ _ n)
  none_erased (other ∷ js) n = zero-add (how_many (erases_at sector) js) ∙ none_erased js (and_r _ _ n)

  -- an erase of a sector reaches the address if it is that of its sector
  in-sector : (b : ℕ) → is_aligned (erases b) ≡ true → from_on b sector_bytes a ≡ eqb b sector
  in-sector b e =
      let z : down_to sector_bytes b ≡ b = eqb-true _ _ e in
      same_tests (from_on b sector_bytes a) (eqb b sector)
      (λ t. let r = on_from b sector_bytes a t in eq-eqb b sector (omega (arith, r, z)))
      (λ t. let r : b ≡ sector = eqb-true b sector t in from_on_lem b sector_bytes a (omega arith) (omega arith))

  -- what erases leave, and then programs
  abbrev erased_by : ℕ → ℕ → ℕ
  erased_by k x = cond (eqb k 0) x erased_byte

  erases_again : (k : ℕ) (t : Bool) → eqb k 0 ≡ t → cond t erased_byte erased_byte ≡ erased_byte
  erases_again k true e = refl
  erases_again k false e = refl

  erases_more : (k x : ℕ) (t : Bool) → erased_by k (cond t erased_byte x) ≡ erased_by (bit t + k) x
  erases_more k x true = erases_again k (eqb k 0) refl ∙ rw (more_than_none k) refl
  erases_more k x false = rw (zero-add k) refl

  jobs_leave : (js : List Job) (x : ℕ) → erases_first js ≡ true → every is_aligned js ≡ true → every (as_wanted image) js ≡ true
      → byte_by_all js a x ≡ narrowed_by (how_many (programs_at a) js) (erased_by (how_many (erases_at sector) js) x)
  jobs_leave [] x f l h = refl
  jobs_leave (erases b ∷ js) x f l h =
      let t = eqb b sector in
      let k = how_many (programs_at a) js in
      ap (λ (u : Bool). byte_by_all js a (cond u erased_byte x)) (in-sector b (and_l _ _ l))
      ∙ jobs_leave js (cond t erased_byte x) f (and_r _ _ l) (and_r _ _ h)
      ∙ ap (narrowed_by k) (erases_more (how_many (erases_at sector) js) x t)
      ∙ rw (zero-add k) refl
  jobs_leave (programs c d ∷ js) x f l h =
      programs_leave (programs c d ∷ js) x (and_in refl f) h
      ∙ rw (zero-add (how_many (erases_at sector) js), none_erased js f) refl
  jobs_leave (other ∷ js) x f l h =
      programs_leave (other ∷ js) x (and_in refl f) h
      ∙ rw (zero-add (how_many (erases_at sector) js), none_erased js f) refl

  -- a byte that an erase leaves, or that has no bit to raise, is made the wanted one by narrowing it
  module _ (xs : List ℕ) (byte : wanted < 256) where
    narrowed_erased : narrowed_byte erased_byte wanted ≡ wanted
    narrowed_erased = and_comm erased_byte wanted ∙ and_mask wanted 8 ∙ mod-eq_of_lt byte

    narrowed_left : (t : Bool) → must_erase xs image sector ≡ t → narrowed_byte (cond t erased_byte (get_or xs a 0)) wanted ≡ wanted
    narrowed_left true e = narrowed_erased
    narrowed_left false e =
        let l : a - sector < sector_bytes = omega arith in
        let s : sector + (a - sector) ≡ a = omega arith in
        let stays : ℕ → Bool = λ k. not (must_rise (get_or xs (sector + k) 0) (get_or image (sector + k) 0)) in
        let fits = all_at stays sector_bytes (a - sector) (not-false _ e) l in
        eqb-true _ _ (not-false _ (not-true _ (sym (ap (λ (k : ℕ). not (must_rise (get_or xs k 0) (get_or image k 0))) s) ∙ fits)))

    -- right counts leave it
    counted : (t u : Bool) → must_erase xs image sector ≡ t → not (eqb (cond t erased_byte (get_or xs a 0)) wanted) ≡ u
        → narrowed_by (bit u) (erased_by (bit t) (get_or xs a 0)) ≡ wanted
    counted true true e f = narrowed_left true e
    counted true false e f = eqb-true _ _ (not-false _ f)
    counted false true e f = narrowed_left false e
    counted false false e f = eqb-true _ _ (not-false _ f)

    pub wanted_left : (js : List Job) (m : ℕ) → length image ≡ m * sector_bytes → a < length image → every is_aligned js ≡ true → right_jobs xs image js ≡ true → byte_by_all js a (get_or xs a 0) ≡ wanted
    unfolding right_jobs
    wanted_left js m whole below aligned h =
        let first = and_l _ _ h in
        let rest = and_r _ _ (and_r _ _ h) in
        let q = a / sector_bytes in
        let erased : ℕ → Bool = λ k. eqb (how_many (erases_at (k * sector_bytes)) js) (bit (must_erase xs image (k * sector_bytes))) in
        let programmed : ℕ → Bool = λ k. eqb (how_many (programs_at k) js) (bit (still_differs xs image k)) in
        let few : q < length image / sector_bytes = omega arith in
        let e = eqb-true (how_many (erases_at sector) js) (bit (must_erase xs image sector)) (all_at erased (length image / sector_bytes) q (and_l _ _ (and_r _ _ h)) few) in
        let p = eqb-true (how_many (programs_at a) js) (bit (still_differs xs image a)) (all_at programmed (length image) a (and_l _ _ rest) below) in
        jobs_leave js (get_or xs a 0) first aligned (and_r _ _ rest)
        ∙ ap (λ (k : ℕ). narrowed_by k (erased_by (how_many (erases_at sector) js) (get_or xs a 0))) p
        ∙ ap (λ (k : ℕ). narrowed_by (bit (still_differs xs image a)) (erased_by k (get_or xs a 0))) e
        ∙ counted (must_erase xs image sector) (still_differs xs image a) refl refl
