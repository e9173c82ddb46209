-- The jobs of the construction: they are right, and each is one that a part can be sent.
use Prim.Native.Nat.{ℕ, zero, suc, ◌+◌, ◌*◌, ◌/◌, ◌%◌, ◌<◌, ◌≤◌}
use mathlib.Core.Path.{◌≡◌, refl, sym, ap, ◌∙◌}
use mathlib.Core.Bool.{Bool, true, false, not, cond, false≢true}
use mathlib.Core.List.{List, [], ◌∷◌, ◌++◌}
use native.Mathlib.Omega.{arith}
use native.Mathlib.Nat.{zero-add}
use borrow.Author.Tests.{eqb-true, eqb-false, eq-eqb, ne_eqb, not-true}
use lib.Dec.{eqb}
use lib.ListN.{length, get_or}
use Rattle.words.specs.Logic.{◌and◌, bit}
use Rattle.words.specs.Lists.{every}
use Rattle.words.proofs.Tests.{and_l, and_r, and_in, same_tests, fails}
use Rattle.words.proofs.Search.{all_in}
use Rattle.paper.specs.Sizes.{page_bytes, from_on}
use Rattle.paper.proofs.ByPlace.{from_on_lem, on_from}
use Rattle.acceptance.specs.Flasher.{Job, erases, programs, other, sector_bytes, must_erase, still_differs, is_erase, erases_at, programs_at, how_many, erases_first, as_wanted, right_jobs}
use Rattle.acceptance.specs.Construction.{erase_jobs, joined, program_jobs, jobs_for}

-- each of some jobs is as said
abbrev pub Each : (Job → Type 0) → List Job → Type 0
Each P [] = Unit {0}
Each P (j ∷ js) = P j × Each P js

-- of two lists, and of one of two
each_both : (P : Job → Type 0) (xs ys : List Job) → Each P xs → Each P ys → Each P (xs ++ ys)
each_both P [] ys h g = g
each_both P (x ∷ xs) ys h g = (h.0, each_both P xs ys h.1 g)

each_cond : (P : Job → Type 0) (t : Bool) (js ks : List Job) → Each P js → Each P ks → Each P (cond t js ks)
each_cond P true js ks h g = h
each_cond P false js ks h g = g

-- what follows from it, and a test that does
pub each_so : (P Q : Job → Type 0) → ((j : Job) → P j → Q j) → (js : List Job) → Each P js → Each Q js
each_so P Q f [] h = tt
each_so P Q f (j ∷ js) h = (f j h.0, each_so P Q f js h.1)

each_every : (P : Job → Type 0) (test : Job → Bool) → ((j : Job) → P j → test j ≡ true) → (js : List Job) → Each P js → every test js ≡ true
each_every P test f [] h = refl
each_every P test f (j ∷ js) h = and_in (f j h.0) (each_every P test f js h.1)

-- how many jobs of two lists, and of one of which none passes
how_many_both : (test : Job → Bool) (xs ys : List Job) → how_many test (xs ++ ys) ≡ how_many test xs + how_many test ys
how_many_both test [] ys = omega arith
how_many_both test (x ∷ xs) ys = omega (arith, how_many_both test xs ys)

how_many_none : (P : Job → Type 0) (test : Job → Bool) → ((j : Job) → P j → test j ≡ false) → (js : List Job) → Each P js → how_many test js ≡ 0
how_many_none P test f [] h = refl
how_many_none P test f (j ∷ js) h = rw (f j h.0, how_many_none P test f js h.1)

-- what is so of the erases of the first q sectors
erases_each : (P : Job → Type 0) (xs image : List ℕ) (q : ℕ) → ((k : ℕ) → k < q → P (erases (k * sector_bytes))) → Each P (erase_jobs xs image q)
erases_each P xs image zero h = tt
erases_each P xs image (suc q) h =
    each_both P (erase_jobs xs image q) (cond (must_erase xs image (q * sector_bytes)) (erases (q * sector_bytes) ∷ []) [])
    (erases_each P xs image q (λ k l. h k (omega arith)))
    (each_cond P (must_erase xs image (q * sector_bytes)) (erases (q * sector_bytes) ∷ []) [] (h q (omega arith), tt) tt)

-- a byte that joins jobs: it is a program of its own, or the first byte of one that begins at the next address, within the page
module _ (P : Job → Type 0) (a v : ℕ) (alone : P (programs a (v ∷ []))) (before : (d : List ℕ) → (suc a % page_bytes ≡ 0 → ⊥) → P (programs (suc a) d) → P (programs a (v ∷ d))) where
  joined_as : (c : ℕ) (d : List ℕ) (js : List Job) (t : Bool) → (eqb c (suc a) and not (eqb (c % page_bytes) 0)) ≡ t → P (programs c d) → Each P js
      → Each P (cond t (programs a (v ∷ d) ∷ js) (programs a (v ∷ []) ∷ programs c d ∷ js))
  joined_as c d js true e h g =
      let same : c ≡ suc a = eqb-true _ _ (and_l _ _ e) in
      let apart : c % page_bytes ≡ 0 → ⊥ = eqb-false _ _ (not-true _ (and_r _ _ e)) in
      (before d (rw same at apart) (rw same at h), g)
  joined_as c d js false e h g = (alone, (h, g))

  joined_each : (js : List Job) → Each P js → Each P (joined a v js)
  joined_each [] h = (alone, tt)
  joined_each (erases b ∷ js) h = (alone, h)
  joined_each (programs c d ∷ js) h = joined_as c d js _ refl h.0 h.1
  joined_each (other ∷ js) h = (alone, h)

-- what is so of the programs of the bytes below an address
programs_each : (P : Job → Type 0) (xs image : List ℕ) (a : ℕ) → ((k : ℕ) (js : List Job) → k < a → Each P js → Each P (joined k (get_or image k 0) js))
    → (js : List Job) → Each P js → Each P (program_jobs xs image a js)
programs_each P xs image zero f js h = h
programs_each P xs image (suc a) f js h =
    programs_each P xs image a (λ k ks l. f k ks (omega arith)) (cond (still_differs xs image a) (joined a (get_or image a 0) js) js)
    (each_cond P (still_differs xs image a) (joined a (get_or image a 0) js) js (f a js (omega arith) h) h)

-- a place is the first of some, or one of those behind it
first_or_behind : (a n x : ℕ) (t : Bool) → eqb x a ≡ t → bit (from_on a (suc n) x) ≡ bit t + bit (from_on (suc a) n x)
first_or_behind a n x true e =
    let same : x ≡ a = eqb-true _ _ e in
    rw (from_on_lem a (suc n) x (omega arith) (omega arith), fails (from_on (suc a) n x) (λ h. omega (arith, on_from (suc a) n x h)))
first_or_behind a n x false e =
    let apart : x ≡ a → ⊥ = eqb-false _ _ e in
    let same : from_on a (suc n) x ≡ from_on (suc a) n x = same_tests _ _ (λ h. let q = on_from a (suc n) x h in from_on_lem (suc a) n x (omega (arith, q)) (omega (arith, q))) (λ h. let q = on_from (suc a) n x h in from_on_lem a (suc n) x (omega (arith, q)) (omega (arith, q))) in
    rw same (omega arith)

-- so a byte that joins jobs adds its place to those that they program
module _ (x a v : ℕ) where
  alone_one : bit (programs_at x (programs a (v ∷ []))) ≡ bit (eqb x a)
  alone_one =
      let none = fails (from_on (suc a) 0 x) (λ h. omega (arith, on_from (suc a) 0 x h)) in
      first_or_behind a 0 x (eqb x a) refl ∙ rw none (omega arith)

  one_more_as : (c : ℕ) (d : List ℕ) (js : List Job) (t : Bool) → (eqb c (suc a) and not (eqb (c % page_bytes) 0)) ≡ t
      → how_many (programs_at x) (cond t (programs a (v ∷ d) ∷ js) (programs a (v ∷ []) ∷ programs c d ∷ js)) ≡ bit (eqb x a) + how_many (programs_at x) (programs c d ∷ js)
  one_more_as c d js true e =
      let same : c ≡ suc a = eqb-true _ _ (and_l _ _ e) in
      rw same (omega (arith, first_or_behind a (length d) x (eqb x a) refl))
  one_more_as c d js false e = rw alone_one

  one_more : (js : List Job) → how_many (programs_at x) (joined a v js) ≡ bit (eqb x a) + how_many (programs_at x) js
  one_more [] = rw alone_one
  one_more (erases b ∷ js) = rw alone_one
  one_more (programs c d ∷ js) = one_more_as c d js _ refl
  one_more (other ∷ js) = rw alone_one

  -- where it does join: at its place, and at no other
  asked_same : eqb x a ≡ true → (t : Bool) (js : List Job) → how_many (programs_at x) (cond t (joined a v js) js) ≡ bit t + how_many (programs_at x) js
  asked_same e true js = one_more js ∙ rw e
  asked_same e false js = omega arith

  asked_apart : eqb x a ≡ false → (t : Bool) (js : List Job) → how_many (programs_at x) (cond t (joined a v js) js) ≡ how_many (programs_at x) js
  asked_apart e true js = one_more js ∙ rw e (omega arith)
  asked_apart e false js = refl

-- the erase of a sector, where it is there: once, and of no other
erased_once : (t : Bool) (b : ℕ) → how_many (erases_at b) (cond t (erases b ∷ []) []) ≡ bit t
erased_once true b = rw (eq-eqb b b refl)
erased_once false b = refl

erased_apart : (t : Bool) (c b : ℕ) → eqb c b ≡ false → how_many (erases_at b) (cond t (erases c ∷ []) []) ≡ 0
erased_apart true c b e = rw e
erased_apart false c b e = refl

module _ (xs image : List ℕ) where
  -- the programs of the bytes below an address program those alone that still differ, each once
  programs_past : (x a : ℕ) → a ≤ x → (js : List Job) → how_many (programs_at x) (program_jobs xs image a js) ≡ how_many (programs_at x) js
  programs_past x zero l js = refl
  programs_past x (suc a) l js =
      programs_past x a (omega arith) (cond (still_differs xs image a) (joined a (get_or image a 0) js) js)
      ∙ asked_apart x a (get_or image a 0) (ne_eqb x a (omega arith)) (still_differs xs image a) js

  programs_at_as : (x a : ℕ) (t : Bool) → eqb x a ≡ t → x < suc a
      → (x < a → (js : List Job) → how_many (programs_at x) (program_jobs xs image a js) ≡ bit (still_differs xs image x) + how_many (programs_at x) js)
      → (js : List Job) → how_many (programs_at x) (program_jobs xs image (suc a) js) ≡ bit (still_differs xs image x) + how_many (programs_at x) js
  programs_at_as x a true e l below js =
      let same : x ≡ a = eqb-true _ _ e in
      programs_past x a (omega arith) (cond (still_differs xs image a) (joined a (get_or image a 0) js) js)
      ∙ asked_same x a (get_or image a 0) e (still_differs xs image a) js
      ∙ ap (λ (k : ℕ). bit (still_differs xs image k) + how_many (programs_at x) js) (sym same)
  programs_at_as x a false e l below js =
      let apart : x ≡ a → ⊥ = eqb-false _ _ e in
      below (omega arith) (cond (still_differs xs image a) (joined a (get_or image a 0) js) js)
      ∙ ap (λ (k : ℕ). bit (still_differs xs image x) + k) (asked_apart x a (get_or image a 0) e (still_differs xs image a) js)

  programs_at_lem : (x a : ℕ) → x < a → (js : List Job) → how_many (programs_at x) (program_jobs xs image a js) ≡ bit (still_differs xs image x) + how_many (programs_at x) js
  programs_at_lem x zero l js = absurd (omega arith)
  programs_at_lem x (suc a) l js = programs_at_as x a (eqb x a) refl l (programs_at_lem x a) js

  -- and the erases of the first sectors erase those alone where some bit must rise, each once
  erases_past : (q m : ℕ) → m ≤ q → how_many (erases_at (q * sector_bytes)) (erase_jobs xs image m) ≡ 0
  erases_past q m l =
      let Apart : Job → Type 0 = λ j. erases_at (q * sector_bytes) j ≡ false in
      how_many_none Apart (erases_at (q * sector_bytes)) (λ j h. h) (erase_jobs xs image m) (erases_each Apart xs image m (λ k h. ne_eqb (k * sector_bytes) (q * sector_bytes) (omega arith)))

  erases_at_as : (q m : ℕ) (t : Bool) → eqb m q ≡ t → q < suc m
      → (q < m → how_many (erases_at (q * sector_bytes)) (erase_jobs xs image m) ≡ bit (must_erase xs image (q * sector_bytes)))
      → how_many (erases_at (q * sector_bytes)) (erase_jobs xs image (suc m)) ≡ bit (must_erase xs image (q * sector_bytes))
  erases_at_as q m true e l below =
      let same : m ≡ q = eqb-true _ _ e in
      how_many_both (erases_at (q * sector_bytes)) (erase_jobs xs image m) (cond (must_erase xs image (m * sector_bytes)) (erases (m * sector_bytes) ∷ []) [])
      ∙ rw (erases_past q m (omega arith), same, zero-add) (erased_once (must_erase xs image (q * sector_bytes)) (q * sector_bytes))
  erases_at_as q m false e l below =
      let apart : m ≡ q → ⊥ = eqb-false _ _ e in
      how_many_both (erases_at (q * sector_bytes)) (erase_jobs xs image m) (cond (must_erase xs image (m * sector_bytes)) (erases (m * sector_bytes) ∷ []) [])
      ∙ rw (below (omega arith), erased_apart (must_erase xs image (m * sector_bytes)) (m * sector_bytes) (q * sector_bytes) (ne_eqb (m * sector_bytes) (q * sector_bytes) (omega arith))) (omega arith)

  erases_at_lem : (q m : ℕ) → q < m → how_many (erases_at (q * sector_bytes)) (erase_jobs xs image m) ≡ bit (must_erase xs image (q * sector_bytes))
  erases_at_lem q zero l = absurd (omega arith)
  erases_at_lem q (suc m) l = erases_at_as q m (eqb m q) refl l (erases_at_lem q m)

-- an erase and a program, by what they are not
erase_programs_none : (x : ℕ) (j : Job) → is_erase j ≡ true → programs_at x j ≡ false
erase_programs_none x (erases b) h = refl
erase_programs_none x (programs a d) h = absurd (false≢true h)
erase_programs_none x other h = refl

other_erases_none : (b : ℕ) (j : Job) → is_erase j ≡ false → erases_at b j ≡ false
other_erases_none b (erases c) h = absurd (false≢true (sym h))
other_erases_none b (programs a d) h = refl
other_erases_none b other h = refl

-- erases, then programs
programs_alone : (js : List Job) → Each (λ (j : Job). is_erase j ≡ false) js → erases_first js ≡ true
programs_alone [] h = refl
programs_alone (j ∷ js) h =
    rw h.0 (each_every (λ (k : Job). is_erase k ≡ false) (λ (k : Job). not (is_erase k)) (λ k e. rw e) js h.1)

erases_then : (es js : List Job) → Each (λ (j : Job). is_erase j ≡ true) es → Each (λ (j : Job). is_erase j ≡ false) js → erases_first (es ++ js) ≡ true
erases_then [] js h g = programs_alone js g
erases_then (e ∷ es) js h g = rw h.0 (erases_then es js h.1 g)

-- a program that a part can be sent: of one or more bytes, within a page and the image, of the image's bytes
pub record Planned (image : List ℕ) (a : ℕ) (d : List ℕ) : Type 0 where
  pub some : 1 ≤ length d
  pub in-page : a % page_bytes + length d ≤ page_bytes
  pub inside : a + length d ≤ length image
  pub wanted : (k : ℕ) → k < length d → get_or d k 0 ≡ get_or image (a + k) 0

-- a job that a part can be sent: the erase of a sector of the image too
abbrev pub Sendable : List ℕ → Job → Type 0
Sendable image (erases b) = (b % sector_bytes ≡ 0) × (b < length image)
Sendable image (programs a d) = Planned image a d
Sendable image other = ⊥

-- it has the wanted values
sendable_wanted : (image : List ℕ) (j : Job) → Sendable image j → as_wanted image j ≡ true
sendable_wanted image (erases b) h = refl
sendable_wanted image (programs a d) h =
    all_in (λ (k : ℕ). eqb (get_or d k 0) (get_or image (a + k) 0)) (length d) (λ k l. eq-eqb _ _ (h.wanted k l))
sendable_wanted image other h = absurd h

-- a byte of the image before data of it: the wanted values
first_wanted : (image d : List ℕ) (a : ℕ) → ((k : ℕ) → k < length d → get_or d k 0 ≡ get_or image (suc a + k) 0) → (k : ℕ) → k < suc (length d) → get_or (get_or image a 0 ∷ d) k 0 ≡ get_or image (a + k) 0
first_wanted image d a h zero l = ap (λ (i : ℕ). get_or image i 0) (omega arith)
first_wanted image d a h (suc k) l = h k (omega arith) ∙ ap (λ (i : ℕ). get_or image i 0) (omega arith)

-- so it makes a program that can be sent, alone and before one of its page
module _ (image : List ℕ) (a : ℕ) (l : a < length image) where
  planned_alone : Planned image a (get_or image a 0 ∷ [])
  planned_alone =
      record { some = omega arith; in-page = omega arith; inside = omega arith; wanted = first_wanted image [] a (λ k h. absurd (omega arith)) }

  planned_before : (d : List ℕ) → (suc a % page_bytes ≡ 0 → ⊥) → Planned image (suc a) d → Planned image a (get_or image a 0 ∷ d)
  planned_before d apart h =
      record { some = omega arith; in-page = omega (arith, h.in-page); inside = omega (arith, h.inside); wanted = first_wanted image d a h.wanted }

module _ (xs image : List ℕ) where
  -- the sectors, and what is so of all erases and of all programs
  abbrev sectors : ℕ
  sectors = length image / sector_bytes

  abbrev Erasing : Job → Type 0
  Erasing j = is_erase j ≡ true

  abbrev Leaving : Job → Type 0
  Leaving j = is_erase j ≡ false

  all_erase : Each Erasing (erase_jobs xs image sectors)
  all_erase = erases_each Erasing xs image sectors (λ k l. refl)

  all_leave : Each Leaving (program_jobs xs image (length image) [])
  all_leave =
      programs_each Leaving xs image (length image) (λ k js l. joined_each Leaving k (get_or image k 0) refl (λ d e h. refl) js) [] tt

  -- each job of the construction can be sent
  pub all_sendable : Each (Sendable image) (jobs_for xs image)
  unfolding jobs_for
  all_sendable =
      each_both (Sendable image) (erase_jobs xs image sectors) (program_jobs xs image (length image) [])
      (erases_each (Sendable image) xs image sectors (λ k l. (omega arith, omega arith)))
      (programs_each (Sendable image) xs image (length image) (λ k js l. joined_each (Sendable image) k (get_or image k 0) (planned_alone image k l) (planned_before image k l) js) [] tt)

  -- they erase the sectors that must be, and program the bytes that still differ, each once
  right_erases : (q : ℕ) → q < sectors → how_many (erases_at (q * sector_bytes)) (jobs_for xs image) ≡ bit (must_erase xs image (q * sector_bytes))
  unfolding jobs_for
  right_erases q l =
      how_many_both (erases_at (q * sector_bytes)) (erase_jobs xs image sectors) (program_jobs xs image (length image) [])
      ∙ rw (erases_at_lem xs image q sectors l, how_many_none Leaving (erases_at (q * sector_bytes)) (other_erases_none (q * sector_bytes)) (program_jobs xs image (length image) []) all_leave) (omega arith)

  right_programs : (a : ℕ) → a < length image → how_many (programs_at a) (jobs_for xs image) ≡ bit (still_differs xs image a)
  unfolding jobs_for
  right_programs a l =
      how_many_both (programs_at a) (erase_jobs xs image sectors) (program_jobs xs image (length image) [])
      ∙ rw (how_many_none Erasing (programs_at a) (erase_programs_none a) (erase_jobs xs image sectors) all_erase, programs_at_lem xs image a (length image) l []) (omega arith)

  -- first they erase, then they program
  jobs_in_order : erases_first (jobs_for xs image) ≡ true
  unfolding jobs_for
  jobs_in_order = erases_then (erase_jobs xs image sectors) (program_jobs xs image (length image) []) all_erase all_leave

  -- so they are right
  pub jobs_right : right_jobs xs image (jobs_for xs image) ≡ true
  unfolding right_jobs
  jobs_right =
      let js = jobs_for xs image in
      and_in jobs_in_order
      (and_in (all_in (λ (q : ℕ). eqb (how_many (erases_at (q * sector_bytes)) js) (bit (must_erase xs image (q * sector_bytes)))) sectors (λ q l. eq-eqb _ _ (right_erases q l)))
      (and_in (all_in (λ (a : ℕ). eqb (how_many (programs_at a) js) (bit (still_differs xs image a))) (length image) (λ a l. eq-eqb _ _ (right_programs a l)))
      (each_every (Sendable image) (as_wanted image) (sendable_wanted image) js all_sendable)))
