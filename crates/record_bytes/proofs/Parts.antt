-- What bytes hold: when the header is the one that the fields have.
use Prim.Native.Nat.{ℕ, zero, suc, ◌+◌, ◌*◌, ◌/◌, ◌%◌, ◌^◌, ◌<◌, ◌≤◌}
use mathlib.Core.Path.{◌≡◌, refl, sym, ap, ◌∙◌}
use mathlib.Core.Bool.{Bool, true, false, not, cond}
use mathlib.Core.List.{List, [], ◌∷◌, ◌++◌}
use native.Mathlib.Omega.{arith}
use Rattle.std.specs.Prelude.{Option, Some, None}
use lib.Dec.{eqb, leb}
use lib.ListN.{length, take, drop, get_or, length-take, length-drop}
use lib.Seq.{take_all, take-add, drop-drop, get_or-take, get_or-drop}
use borrow.Author.Tests.{eq-eqb, ne_eqb, lt-leb, eqb-true, eqb-false, not-true, not-false}
use Rattle.types.specs.declared.Memory.{Memory}
use Rattle.types.specs.declared.Memory.TheVariants.{Array, Rows}
use Rattle.types.specs.declared.EraseUnit.{EraseUnit}
use Rattle.types.specs.declared.EraseUnit.TheVariants.{Sector, Block32, Block64, Chip, Row}
use Rattle.types.specs.declared.Register.{Register}
use Rattle.types.specs.declared.Register.TheVariants.{Status, Function, Extended}
use Rattle.types.specs.declared.Operation.{Operation}
use Rattle.types.specs.declared.Phase.{Phase}
use Rattle.types.specs.declared.Phase.TheVariants.{Idle}
use Rattle.types.specs.declared.Part.{Part}
use Rattle.words.specs.Logic.{◌and◌, bit}
use Rattle.words.specs.Lists.{up_to, all_zero}
use Rattle.words.proofs.Lists.{up_to_part}
use Rattle.words.proofs.Tests.{and_true}
use Rattle.paper.specs.Sizes.{page_bytes}
use Rattle.paper.specs.Phases.{phase_of}
use Rattle.paper.specs.Soundness.{page_ok, part_sound, sound_of}
use Rattle.paper.proofs.Addresses.{high_first_fits}
use Rattle.paper.proofs.Phases.{phase_runs, phase_halts}
use Rattle.address.specs.Bytes.{high_first_bytes}
use Rattle.cells.specs.declared.Cells.{Cells}
use Rattle.cells.specs.Operations.{cells_of, work_cells, program_in, erase_in, write_in, operation_of, operation_in, work_of, same_cells}
use Rattle.record_bytes.specs.declared.Doing.{Doing}
use Rattle.record_bytes.specs.declared.Found.{Found}
use Rattle.record_bytes.specs.Layout.{wel_at, armed_at, asleep_at, live_at, bank_at, base_at, count_at, done_at, operation_length, running_at, halted_at, identity_at, identity_length, phase_length, header_length, record_length, part_bytes, operation_bytes, works_bytes, phase_bytes, identity_bytes, operation_at}
use Rattle.record_bytes.specs.Read.{number_at, marks_in, same_bytes, cells_in, work_at, stored_of, part_in, phase_in, identity_in, fields_in, own_cells, doing_in, holds, nothing, record_in, found, Fitting}
use Rattle.record_bytes.proofs.Laid.{two_bytes, operation_length_lem, header_front}
use Rattle.record_bytes.proofs.Same.{same_bytes_lem, same_append, same_number}
use Rattle.record_bytes.proofs.Back.{taken}

-- the byte of a mark that a byte is read as is that byte where it is 0 or 1
mark_same : (b : ℕ) → eqb (bit (eqb b 1)) b ≡ leb b 1
mark_same zero = refl
mark_same (suc zero) = refl
mark_same (suc (suc b)) =
    rw (ne_eqb (suc (suc b)) 1 (λ q. omega (arith, q)), ne_eqb 0 (suc (suc b)) (λ q. omega (arith, q)), lt-leb (suc (suc b)) 1 (omega arith))

-- a byte is itself
self : (b : ℕ) → eqb b b ≡ true
self b = eq-eqb b b refl

-- three tests and one more
regroup : (a b c d : Bool) → (a and b and c and d) ≡ ((a and b and c) and d)
unfolding ◌and◌
regroup true true true d = refl
regroup true true false d = refl
regroup true false c d = refl
regroup false b c d = refl

-- a part with its fields in the bytes f 0, f 1, ..
abbrev part_of : (ℕ → ℕ) → Part
part_of f =
    record { blocks = f 0 * 256 + f 1; stored = stored_of f; wel = eqb (f wel_at) 1; armed = eqb (f armed_at) 1; asleep = eqb (f asleep_at) 1; live = f live_at; bank = f bank_at }

-- an operation compared with bytes: its cells are with theirs
module _ (xs : List ℕ) (l : length xs ≡ operation_length) (low : (j : ℕ) → get_or xs j 0 < 256) where
  -- eight bytes at a place
  abbrev eight : ℕ → List ℕ
  eight at = take 8 (drop at xs)

  number_same : (n at : ℕ) → at + 8 ≤ operation_length → n < 2 ^ 64 → same_bytes (high_first_bytes 8 n) (eight at) ≡ eqb n (number_at xs at 8)
  number_same n at h f = same_number (drop at xs) (λ j. rw get_or-drop (low (at + j))) 8 n (simp length-drop (omega arith)) f

  more_same : (n at : ℕ) (us vs : List ℕ) → at + 8 ≤ operation_length → n < 2 ^ 64 → same_bytes (high_first_bytes 8 n ++ us) (eight at ++ vs) ≡ (eqb n (number_at xs at 8) and same_bytes us vs)
  more_same n at us vs h f =
      let l8 : 8 ≡ length (eight at) = sym (simp (length-take, length-drop) (omega arith)) in
      same_append (high_first_bytes 8 n) (eight at) us vs l8 ∙ ap (λ (t : Bool). t and same_bytes us vs) (number_same n at h f)

  -- the bytes are kind, value and the three numbers
  in_order : xs ≡ (get_or xs 0 0 ∷ get_or xs 1 0 ∷ []) ++ (eight base_at ++ (eight count_at ++ eight done_at))
  in_order =
      let d : drop 8 (drop base_at xs) ≡ drop count_at xs = drop-drop 8 base_at xs in
      let e : drop 8 (drop count_at xs) ≡ drop done_at xs = drop-drop 8 count_at xs in
      let f : up_to base_at (λ j. get_or xs j 0) ≡ take base_at xs = up_to_part xs 0 base_at (λ j. get_or xs j 0) (omega arith) (λ j h. let q : j ≡ 0 + j = omega arith in ap (λ (k : ℕ). get_or xs k 0) q) in
      sym (take_all operation_length xs (omega arith))
      ∙ take-add base_at 24 xs
      ∙ ap (λ (x : List ℕ). x ++ take 24 (drop base_at xs)) (sym f)
      ∙ ap (λ (x : List ℕ). up_to base_at (λ j. get_or xs j 0) ++ x)
      (take-add 8 16 (drop base_at xs)
      ∙ ap (λ (x : List ℕ). eight base_at ++ x) (ap (take 16) d ∙ take-add 8 8 (drop count_at xs) ∙ ap (λ (x : List ℕ). eight count_at ++ take 8 x) e))

  pub operation_same : (s : Cells) → Fitting s → same_bytes (operation_bytes s) xs ≡ same_cells s (cells_in xs)
  unfolding operation_bytes same_cells cells_in
  operation_same s h =
      ap (same_bytes (operation_bytes s)) in_order
      ∙ ap (λ (t : Bool). eqb s.kind (get_or xs 0 0) and eqb s.value (get_or xs 1 0) and t)
      (more_same s.base base_at (high_first_bytes 8 s.count ++ high_first_bytes 8 s.done) (eight count_at ++ eight done_at) (omega arith) h.base
      ∙ ap (λ (t : Bool). eqb s.base (number_at xs base_at 8) and t) (more_same s.count count_at (high_first_bytes 8 s.done) (eight done_at) (omega arith) h.count
      ∙ ap (λ (t : Bool). eqb s.count (number_at xs count_at 8) and t) (number_same s.done done_at (omega arith) h.done)))

  -- and the numbers of cells that are read fit their fields
  pub cells_fit : Fitting (cells_in xs)
  unfolding cells_in
  cells_fit =
      let fits : (at : ℕ) → at + 8 ≤ operation_length → number_at xs at 8 < 2 ^ 64 = λ at h. high_first_fits (drop at xs) (λ j. rw get_or-drop (low (at + j))) 8 (simp length-drop (omega arith)) in
      record { base = fits base_at (omega arith); count = fits count_at (omega arith); done = fits done_at (omega arith) }

-- so do those of the operation that cells are read as
either_fits : (b : Bool) (x y : Operation) → Fitting (cells_of x) → Fitting (cells_of y) → Fitting (cells_of (cond b x y))
either_fits true x y f g = f
either_fits false x y f g = g

module _ (c : Cells) (h : Fitting c) where
  program_fits : (m : Memory) → Fitting (cells_of (program_in m c))
  program_fits m = record { base = h.base; count = h.count; done = h.done }

  erase_fits : (u : EraseUnit) → Fitting (cells_of (erase_in u c))
  erase_fits u = record { base = h.base; count = omega arith; done = h.done }

  write_fits : (r : Register) → Fitting (cells_of (write_in r c))
  write_fits r = record { base = omega arith; count = omega arith; done = omega arith }

  operation_fits : Fitting (cells_of (operation_in c))
  unfolding operation_of
  operation_fits =
      let k = c.kind in
      either_fits (eqb k 1) _ _ (program_fits Array)
      (either_fits (eqb k 2) _ _ (program_fits Rows)
      (either_fits (eqb k 3) _ _ (erase_fits Sector)
      (either_fits (eqb k 4) _ _ (erase_fits Block32)
      (either_fits (eqb k 5) _ _ (erase_fits Block64)
      (either_fits (eqb k 6) _ _ (erase_fits Chip)
      (either_fits (eqb k 7) _ _ (erase_fits Row)
      (either_fits (eqb k 8) _ _ (write_fits Status) (either_fits (eqb k 9) _ _ (write_fits Function) (write_fits Extended)))))))))

  or_none_fits : (b : Bool) → Fitting (work_cells (cond b None (Some (operation_in c))))
  or_none_fits true = record { base = omega arith; count = omega arith; done = omega arith }
  or_none_fits false = operation_fits

  pub work_fits : Fitting (work_cells (work_of c))
  work_fits = or_none_fits (eqb c.kind 0)

-- what cells are read as: none where the kind is 0, else an operation
pub no_work : (c : Cells) → c.kind ≡ 0 → None ≡ work_of c
no_work c e = rw (eq-eqb c.kind 0 e)

pub some_work : (c : Cells) (o : Operation) → (c.kind ≡ 0 → ⊥) → o ≡ operation_in c → Some o ≡ work_of c
some_work c o n e = rw (ne_eqb c.kind 0 n, e)

-- bytes that are taken from others are bytes
taken_low : (xs : List ℕ) → ((j : ℕ) → get_or xs j 0 < 256) → (n j : ℕ) → get_or (take n xs) j 0 < 256
taken_low xs low zero j = omega arith
taken_low [] low (suc n) j = omega arith
taken_low (x ∷ xs) low (suc n) zero = low 0
taken_low (x ∷ xs) low (suc n) (suc j) = taken_low xs (λ k. low (suc k)) n j

-- the front of a header compared with bytes, of which the fields of one byte agree but for the marks
same_front : (f : ℕ → ℕ) (us rest : List ℕ) → f 0 < 256 → f 1 < 256
    → same_bytes (part_bytes (part_of f) ++ us) (up_to running_at f ++ rest) ≡ ((leb (f wel_at) 1 and leb (f armed_at) 1 and leb (f asleep_at) 1) and same_bytes us rest)
unfolding part_bytes ◌and◌
same_front f us rest h l =
    rw (eq-eqb ((f 0 * 256 + f 1) / 256 % 256) (f 0) (omega arith), eq-eqb ((f 0 * 256 + f 1) % 256) (f 1) (omega arith), mark_same (f wel_at), mark_same (f armed_at), mark_same (f asleep_at))
    (simp self (regroup (leb (f wel_at) 1) (leb (f armed_at) 1) (leb (f asleep_at) 1) _))

-- bytes of a record's length
module _ (bs : List ℕ) (l : length bs ≡ record_length) (low : (j : ℕ) → get_or bs j 0 < 256) where
  abbrev byte : ℕ → ℕ
  byte j = get_or bs j 0

  -- those of what runs and of what is suspended, of both, and of the identity
  abbrev ran : List ℕ
  ran = operation_at bs running_at

  abbrev stood : List ℕ
  stood = operation_at bs halted_at

  abbrev doing : List ℕ
  doing = take phase_length (drop running_at bs)

  abbrev sign : List ℕ
  sign = take identity_length (drop identity_at bs)

  at_length : (at : ℕ) → at + operation_length ≤ record_length → length (operation_at bs at) ≡ operation_length
  at_length at h = simp (length-take, length-drop) (omega arith)

  at_low : (at j : ℕ) → get_or (operation_at bs at) j 0 < 256
  at_low at j = taken_low (drop at bs) (λ k. rw get_or-drop (low (at + k))) operation_length j

  doing_as : doing ≡ ran ++ stood
  doing_as =
      let d : drop operation_length (drop running_at bs) ≡ drop halted_at bs = drop-drop operation_length running_at bs in
      take-add operation_length operation_length (drop running_at bs) ∙ ap (λ (x : List ℕ). ran ++ take operation_length x) d

  sign_as : identity_bytes (identity_in bs) ≡ sign
  sign_as = up_to_part bs identity_at identity_length (λ j. byte (identity_at + j)) (omega arith) (λ j h. refl)

  front_bytes : take identity_at bs ≡ up_to running_at byte ++ doing
  front_bytes =
      let f : up_to running_at byte ≡ take running_at bs = up_to_part bs 0 running_at byte (omega arith) (λ j h. let q : j ≡ 0 + j = omega arith in ap byte q) in
      take-add running_at phase_length bs ∙ ap (λ (x : List ℕ). x ++ doing) (sym f)

  part_bytes_lem : part_of byte ≡ part_in bs
  unfolding part_in
  part_bytes_lem = rw (two_bytes bs (omega arith))

  -- the identity agrees whatever it is
  but_identity : (p : Part) (f : Phase)
      → same_bytes ((part_bytes p ++ phase_bytes f) ++ identity_bytes (identity_in bs)) (take header_length bs) ≡ same_bytes (part_bytes p ++ phase_bytes f) (take identity_at bs)
  but_identity p f =
      let n : identity_at ≡ length (take identity_at bs) = sym (simp length-take (omega arith)) in
      ap (same_bytes ((part_bytes p ++ phase_bytes f) ++ identity_bytes (identity_in bs))) (take-add identity_at identity_length bs)
      ∙ same_append (part_bytes p ++ phase_bytes f) (take identity_at bs) (identity_bytes (identity_in bs)) sign (header_front p f ∙ n)
      ∙ ap (λ (t : Bool). same_bytes (part_bytes p ++ phase_bytes f) (take identity_at bs) and t) (ap (same_bytes (identity_bytes (identity_in bs))) (sym sign_as) ∙ same_bytes_lem (identity_bytes (identity_in bs)))
      ∙ and_true _

  -- bytes hold a record where the marks are 0 or 1, and the bytes of the phase are those of the phase that they are read as
  holds_as : holds bs ≡ (marks_in bs and same_bytes (phase_bytes (phase_in bs)) doing)
  unfolding holds marks_in ◌and◌
  holds_as =
      let f = phase_in bs in
      rw (eq-eqb _ _ l)
      (but_identity (part_in bs) f
      ∙ ap (λ (x : Part). same_bytes (part_bytes x ++ phase_bytes f) (take identity_at bs)) (sym part_bytes_lem)
      ∙ ap (same_bytes (part_bytes (part_of byte) ++ phase_bytes f)) front_bytes
      ∙ same_front byte (phase_bytes f) doing (low 0) (low 1))

  -- those are the bytes of an operation, or of none, where the cells are its own
  own_same : (at : ℕ) → at + operation_length ≤ record_length → same_bytes (operation_bytes (work_cells (work_at bs at))) (operation_at bs at) ≡ own_cells bs at
  unfolding own_cells
  own_same at h =
      let xs = operation_at bs at in
      operation_same xs (at_length at h) (at_low at) (work_cells (work_at bs at)) (work_fits (cells_in xs) (cells_fit xs (at_length at h) (at_low at)))

  phase_same : same_bytes (phase_bytes (phase_in bs)) doing ≡ (own_cells bs running_at and own_cells bs halted_at)
  unfolding works_bytes
  phase_same =
      let w = work_at bs running_at in
      let h = work_at bs halted_at in
      let n : operation_length ≡ length ran = sym (at_length running_at (omega arith)) in
      let s : works_bytes w h ≡ phase_bytes (phase_in bs) = rw (phase_runs w h, phase_halts w h) in
      ap (λ (x : List ℕ). same_bytes x doing) (sym s)
      ∙ ap (same_bytes (works_bytes w h)) doing_as
      ∙ same_append (operation_bytes (work_cells w)) ran (operation_bytes (work_cells h)) stood (operation_length_lem (work_cells w) ∙ n)
      ∙ ap (λ (t : Bool). t and same_bytes (operation_bytes (work_cells h)) stood) (own_same running_at (omega arith))
      ∙ ap (λ (t : Bool). own_cells bs running_at and t) (own_same halted_at (omega arith))

  holds_own : holds bs ≡ (marks_in bs and (own_cells bs running_at and own_cells bs halted_at))
  holds_own = holds_as ∙ ap (λ (t : Bool). marks_in bs and t) phase_same

  -- what runs, or is suspended, goes by its kind
  kind_at : (at : ℕ) → (cells_in (operation_at bs at)).kind ≡ byte at
  unfolding cells_in
  kind_at at = get_or-take operation_length (drop at bs) 0 0 (omega arith) ∙ get_or-drop at bs 0 0 ∙ let q : at + 0 ≡ at = omega arith in ap byte q

  none_at : (at : ℕ) → byte at ≡ 0 → None ≡ work_at bs at
  none_at at e = no_work (cells_in (operation_at bs at)) (kind_at at ∙ e)

  pub idle_phase : byte running_at ≡ 0 → byte halted_at ≡ 0 → Idle ≡ phase_in bs
  idle_phase r h = rw (← none_at running_at r, ← none_at halted_at h)

  -- bytes in which a mark is none hold no record
  pub unmarked : marks_in bs ≡ false → holds bs ≡ false
  unfolding ◌and◌
  unmarked e = holds_own ∙ rw e

  module _ (m : marks_in bs ≡ true) where
    -- of what is told by the cells
    pub held_doing : (d : Doing) → d ≡ doing_in bs → holds bs ≡ d.ok
    unfolding doing_in ◌and◌
    held_doing d e = holds_own ∙ rw (m, e)

    -- of an idle part: that the cells are those of no operation
    module _ (r : byte running_at ≡ 0) (h : byte halted_at ≡ 0) where
      own_none : (at : ℕ) → byte at ≡ 0 → (c : Cells) → c ≡ cells_in (operation_at bs at) → (t : Bool) → t ≡ same_cells (work_cells None) c → own_cells bs at ≡ t
      unfolding own_cells
      own_none at e c ec t et = rw (← none_at at e, ← ec, et)

      pub idle_held : (c d : Cells) → c ≡ cells_in ran → d ≡ cells_in stood → (t u : Bool) → t ≡ same_cells (work_cells None) c → u ≡ same_cells (work_cells None) d → holds bs ≡ (t and u)
      unfolding ◌and◌
      idle_held c d ec ed t u et eu = holds_own ∙ rw (m, own_none running_at r c ec t et, own_none halted_at h d ed u eu)

  -- what the bytes say that a part does, by the cells of what runs and of what is suspended
  module _ (c d : Cells) (ec : c ≡ cells_in ran) (ed : d ≡ cells_in stood) where
    pub doing_told : (w h : Option Operation) (f : Phase) (t u k : Bool) → w ≡ work_of c → h ≡ work_of d → f ≡ phase_of w h → t ≡ same_cells (work_cells w) c → u ≡ same_cells (work_cells h) d → k ≡ (t and u)
        → ◌≡◌ {A = Doing} record { ok = k; phase = f } (doing_in bs)
    unfolding doing_in own_cells
    doing_told w h f t u k ew eh ef et eu ek = rw (ek, et, eu, ef, ew, eh, ec, ed)

  pub doing_phase : (d : Doing) → d ≡ doing_in bs → d.phase ≡ phase_in bs
  unfolding doing_in
  doing_phase d e = ap (λ (x : Doing). x.phase) e

  -- page data as it is lent
  pub lent_page : take page_bytes (drop header_length bs) ≡ drop header_length bs
  lent_page = take_all page_bytes (drop header_length bs) (simp length-drop (omega arith))

-- a kind is 0, or is not, as the code tests it
pub none_there : (b : ℕ) → not (not (eqb b 0)) ≡ true → b ≡ 0
none_there b e = eqb-true b 0 (not-false _ (not-true _ e))

pub some_there : (b : ℕ) → not (not (eqb b 0)) ≡ false → b ≡ 0 → ⊥
some_there b e = eqb-false b 0 (not-true _ (not-false _ e))

-- of two tests that do not hold both, one that does
pub left_fails : (a b : Bool) → (a and b) ≡ false → b ≡ true → a ≡ false
left_fails a b e h = sym (and_true a) ∙ rw h at e

-- an idle part is sound by fewer tests
pub idle_judged : (p : Part) (g g' : List ℕ) (e s : Bool) → g ≡ g' → e ≡ all_zero (drop 0 g) → s ≡ (part_sound p Idle and e) → s ≡ sound_of p Idle g'
unfolding sound_of page_ok
idle_judged p g g' e s eg ee es = es ∙ rw (ee, eg)

-- what was found: part and phase of the fields, and whether they are sound
pub found_some : (bs : List ℕ) (p : Part) (f : Phase) (s : Bool) → holds bs ≡ true → p ≡ part_in bs → f ≡ phase_in bs → s ≡ sound_of p f (drop header_length bs)
    → ◌≡◌ {A = Option Found} (Some record { sound = s; part = p; phase = f }) (found (record_in bs))
unfolding fields_in
found_some bs p f s e ep ef es = rw (es, ep, ef, taken bs e)

-- or none
pub found_none : (bs : List ℕ) → holds bs ≡ false → ◌≡◌ {A = Option Found} None (found (record_in bs))
unfolding record_in nothing
found_none bs e = rw e

pub holds_not : (bs : List ℕ) → (length bs ≡ record_length → ⊥) → holds bs ≡ false
unfolding holds ◌and◌
holds_not bs l = rw (ne_eqb _ _ l)
