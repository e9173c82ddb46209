-- A record's bytes are read as that record, and bytes that are read as a record are its bytes.
use Prim.Native.Nat.{ℕ}
use mathlib.Core.Path.{◌≡◌, refl, sym, ap, ◌∙◌}
use mathlib.Core.Bool.{Bool, true, false, false≢true}
use mathlib.Core.List.{List, ◌++◌}
use lib.Dec.{eqb}
use native.Mathlib.Omega.{arith}
use lib.ListN.{length, take, drop, length-append, length-take, length-drop, take-append-drop}
use lib.Seq.{take_all, take_at}
use borrow.Author.Tests.{eq-eqb, eqb-true}
use Rattle.types.specs.declared.Stored.{Stored}
use Rattle.types.specs.declared.Part.{Part}
use Rattle.types.specs.declared.Phase.{Phase}
use Rattle.types.specs.declared.Record.{Record}
use Rattle.words.specs.Logic.{bit}
use Rattle.words.proofs.Tests.{and_l, and_r, and_in}
use Rattle.words.proofs.Allowed.{agree}
use Rattle.paper.specs.Sizes.{page_bytes}
use Rattle.paper.specs.Phases.{running, halted}
use Rattle.paper.proofs.Phases.{phase_works}
use Rattle.address.proofs.Bytes.{number_back}
use Rattle.cells.specs.declared.Cells.{Cells}
use Rattle.cells.specs.Operations.{work_cells, work_of}
use Rattle.cells.proofs.Back.{work_back, same_cells_lem}
use Rattle.record_bytes.specs.Layout.{running_at, halted_at, header_length, record_length, part_bytes, operation_bytes, works_bytes, header, record_bytes, written}
use Rattle.record_bytes.specs.Read.{cells_in, work_at, part_in, phase_in, identity_in, fields_in, same_bytes, holds, Held, nothing, held, record_in, on_held, Fitting, Fits}
use Rattle.record_bytes.proofs.Laid.{header_length_lem}
use Rattle.record_bytes.proofs.Same.{same_bytes_lem, one_list}

-- a mark comes back from its byte
mark_back : (m : Bool) → eqb (bit m) 1 ≡ m
mark_back true = refl
mark_back false = refl

same_fields : (b b' : ℕ) (s : Stored) (w w' a a' z z' : Bool) (v k : ℕ) → b ≡ b' → w ≡ w' → a ≡ a' → z ≡ z'
    → ◌≡◌ {A = Part} record { blocks = b; stored = s; wel = w; armed = a; asleep = z; live = v; bank = k } record { blocks = b'; stored = s; wel = w'; armed = a'; asleep = z'; live = v; bank = k }
same_fields b b' s w w' a a' z z' v k eb ew ea ez = rw (eb, ew, ea, ez)

page_back : (p : Record) → drop header_length (record_bytes p) ≡ p.page
unfolding record_bytes part_bytes works_bytes operation_bytes
page_back p = refl

-- cells come back from their bytes
cells_back : (s : Cells) → Fitting s → cells_in (operation_bytes s) ≡ s
unfolding cells_in operation_bytes
cells_back s h =
    same_cells_lem s.kind s.value _ _ _ _ _ _ (number_back 8 s.base h.base) (number_back 8 s.count h.count) (number_back 8 s.done h.done)

module _ (p : Record) (h : Fits p) where
  running_back : work_at (record_bytes p) running_at ≡ running p.phase
  unfolding record_bytes part_bytes works_bytes operation_bytes
  running_back = ap work_of (cells_back (work_cells (running p.phase)) h.runs) ∙ work_back (running p.phase)

  halted_back : work_at (record_bytes p) halted_at ≡ halted p.phase
  unfolding record_bytes part_bytes works_bytes operation_bytes
  halted_back = ap work_of (cells_back (work_cells (halted p.phase)) h.suspended) ∙ work_back (halted p.phase)

  part_back : part_in (record_bytes p) ≡ p.part
  unfolding part_in record_bytes part_bytes works_bytes operation_bytes
  part_back =
      same_fields _ _ p.part.stored _ _ _ _ _ _ p.part.live p.part.bank (number_back 2 p.part.blocks h.blocks) (mark_back p.part.wel) (mark_back p.part.armed) (mark_back p.part.asleep)

  phase_in_back : phase_in (record_bytes p) ≡ p.phase
  phase_in_back = rw (running_back, halted_back) (phase_works p.phase)

  identity_back : identity_in (record_bytes p) ≡ p.identity
  unfolding record_bytes part_bytes works_bytes operation_bytes
  identity_back = refl

  fields_back : fields_in (record_bytes p) ≡ p
  unfolding fields_in
  fields_back = rw (part_back, phase_in_back, identity_back, page_back p)

front : (p : Record) → take header_length (record_bytes p) ≡ header p.part p.phase p.identity
unfolding record_bytes
front p =
    take_at (header p.part p.phase p.identity) p.page header_length (header_length_lem p.part p.phase p.identity)

record_length_lem : (p : Record) → length p.page ≡ page_bytes → length (record_bytes p) ≡ record_length
unfolding record_bytes
record_length_lem p h =
    length-append (header p.part p.phase p.identity) p.page ∙ simp (header_length_lem p.part p.phase p.identity, h)

holds_back : (p : Record) → Fits p → holds (record_bytes p) ≡ true
unfolding holds
holds_back p h =
    let b = record_bytes p in
    let e : header (part_in b) (phase_in b) (identity_in b) ≡ header p.part p.phase p.identity =
    ap (λ (x : Part). header x (phase_in b) (identity_in b)) (part_back p h)
    ∙ ap (λ (x : Phase). header p.part x (identity_in b)) (phase_in_back p h)
    ∙ ap (header p.part p.phase) (identity_back p h) in
    and_in (eq-eqb _ _ (record_length_lem p h.page))
    (ap (λ (x : List ℕ). same_bytes x (take header_length b)) e
    ∙ ap (same_bytes (header p.part p.phase p.identity)) (front p)
    ∙ same_bytes_lem (header p.part p.phase p.identity))

-- a buffer of a record's length is written
pub written_in : (p : Record) (bs : List ℕ) → length bs ≡ record_length → written p bs ≡ record_bytes p
unfolding written
written_in p bs l = rw (eq-eqb _ _ l)

-- a record's bytes are read as that record
pub read_back : (p : Record) → Fits p → record_in (record_bytes p) ≡ held p
unfolding record_in
read_back p h = rw (holds_back p h, fields_back p h)

pub taken : (bs : List ℕ) → holds bs ≡ true → record_in bs ≡ held (fields_in bs)
unfolding record_in
taken bs e = rw e

ok_as : (bs : List ℕ) (t : Bool) → holds bs ≡ t → (record_in bs).ok ≡ t
unfolding record_in nothing
ok_as bs true e = rw e
ok_as bs false e = rw e

-- bytes that hold a record are those of their fields
pub own_bytes : (bs : List ℕ) → holds bs ≡ true → record_bytes (fields_in bs) ≡ bs
unfolding holds record_bytes fields_in
own_bytes bs e =
    ap (λ (x : List ℕ). x ++ drop header_length bs) (one_list (header (part_in bs) (phase_in bs) (identity_in bs)) (take header_length bs) (and_r _ _ e))
    ∙ take-append-drop header_length bs

exact_as : (bs : List ℕ) (p : Record) (t : Bool) → holds bs ≡ t → record_in bs ≡ held p → bs ≡ record_bytes p
exact_as bs p true e h = sym (own_bytes bs e) ∙ ap (λ (x : Held). record_bytes x.state) (sym (taken bs e) ∙ h)
exact_as bs p false e h = absurd (false≢true (sym (ok_as bs false e) ∙ ap (λ (x : Held). x.ok) h))

-- bytes that are read as a record are its bytes
pub exact : (bs : List ℕ) (p : Record) → record_in bs ≡ held p → bs ≡ record_bytes p
exact bs p h = exact_as bs p (holds bs) refl h

-- no two strings of bytes hold one record
pub one_image : (xs ys : List ℕ) (p : Record) → record_in xs ≡ held p → record_in ys ≡ held p → xs ≡ ys
one_image xs ys p h k = agree (exact xs p h) (exact ys p k)

-- bytes that hold a record are as many as it has, and its own
module _ (bs : List ℕ) (h : (record_in bs).ok ≡ true) where
  pub holding : holds bs ≡ true
  holding = sym (ok_as bs (holds bs) refl) ∙ h

  pub held_length : length bs ≡ record_length
  unfolding holds
  held_length = eqb-true _ _ (and_l _ _ holding)

  pub held_bytes : record_bytes (record_in bs).state ≡ bs
  held_bytes = ap (λ (x : Held). record_bytes x.state) (taken bs holding) ∙ own_bytes bs holding

  -- page data as it is lent
  pub lent_length : length (take page_bytes (drop header_length bs)) ≡ page_bytes
  lent_length = simp (length-take, length-drop) (omega (arith, held_length))

  pub held_page : take page_bytes (drop header_length bs) ≡ (record_in bs).state.page
  unfolding fields_in
  held_page =
      let d : take page_bytes (drop header_length bs) ≡ drop header_length bs = take_all page_bytes (drop header_length bs) (simp length-drop (omega (arith, held_length))) in
      rw (taken bs holding, d)

  -- and the identity in its place
  pub held_identity : identity_in bs ≡ (record_in bs).state.identity
  unfolding fields_in
  held_identity = rw (taken bs holding)

-- what a call makes of bytes that hold none, and of bytes that hold a record
pub on_none : {A : Type 0} (h : Held) (call : Record → A) (none : A) → h.ok ≡ false → on_held h call none ≡ none
unfolding on_held
on_none h call none e = rw e refl

pub on_held_lem : {A : Type 0} (h : Held) (call : Record → A) (none : A) → h.ok ≡ true → on_held h call none ≡ call h.state
unfolding on_held
on_held_lem h call none e = rw e refl
