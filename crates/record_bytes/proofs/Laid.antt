-- Bytes that are laid at their places in a record, and read from there.
use Rattle.types.specs.declared.Operation.{Operation}
use Rattle.std.specs.Prelude.{None, Option}
use Prim.Native.Nat.{ℕ, suc, ◌+◌, ◌*◌, ◌/◌, ◌%◌, ◌<◌, ◌≤◌}
use mathlib.Core.Path.{◌≡◌, refl, sym, ap, ◌∙◌}
use mathlib.Core.List.{List, [], ◌∷◌, ◌++◌, append-nil, append_assoc}
use native.Mathlib.Omega.{arith}
use lib.ListN.{length, take, drop, get_or, replicate, set, length-set, length-append, length-take, length-drop, drop_of_length-le, take-append-drop}
use lib.Seq.{take_all, take_at, drop_at, drop-drop, drop-set-add}
use Rattle.types.specs.declared.Phase.{Phase}
use Rattle.types.specs.declared.Phase.TheVariants.{Idle}
use Rattle.types.specs.declared.Identity.{Identity}
use Rattle.types.specs.declared.Part.{Part}
use Rattle.words.specs.Logic.{bit}
use Rattle.paper.specs.Sizes.{page_bytes}
use Rattle.paper.specs.Program.{no_data}
use Rattle.paper.specs.Address.{high_first}
use Rattle.paper.proofs.Addresses.{high_first_none, high_first_more}
use Rattle.address.specs.Bytes.{high_first_bytes}
use Rattle.cells.specs.declared.Cells.{Cells}
use Rattle.cells.specs.Operations.{work_cells}
use Rattle.record_bytes.specs.Layout.{base_at, count_at, done_at, operation_length, running_at, halted_at, identity_at, identity_length, part_length, phase_length, header_length, record_length, stored_bytes, part_bytes, operation_bytes, works_bytes, phase_bytes, identity_bytes, header, header_running, works_laid, header_idle}

-- the number that two bytes are
pub two_bytes : (bs : List ℕ) → 2 ≤ length bs → get_or bs 0 0 * 256 + get_or bs 1 0 ≡ high_first (take 2 bs)
two_bytes bs h = omega (arith, high_first_more bs 1 (omega arith), high_first_more bs 0 (omega arith), high_first_none bs)

-- and the one that eight are
pub eight_bytes : (bs : List ℕ) → length bs ≡ 8
    → get_or bs 0 0 * 72057594037927936 + get_or bs 1 0 * 281474976710656 + get_or bs 2 0 * 1099511627776 + get_or bs 3 0 * 4294967296 + get_or bs 4 0 * 16777216 + get_or bs 5 0 * 65536 + get_or bs 6 0 * 256 + get_or bs 7 0
    ≡ high_first bs
eight_bytes bs h =
    let m : (i : ℕ) → i < length bs → high_first (take (suc i) bs) ≡ high_first (take i bs) * 256 + get_or bs i 0 = high_first_more bs in
    let e : get_or bs 0 0 * 72057594037927936 + get_or bs 1 0 * 281474976710656 + get_or bs 2 0 * 1099511627776 + get_or bs 3 0 * 4294967296 + get_or bs 4 0 * 16777216 + get_or bs 5 0 * 65536 + get_or bs 6 0 * 256 + get_or bs 7 0 ≡ high_first (take 8 bs) =
    omega (arith, high_first_none bs, m 0 (omega arith), m 1 (omega arith), m 2 (omega arith), m 3 (omega arith), m 4 (omega arith), m 5 (omega arith), m 6 (omega arith), m 7 (omega arith)) in
    e ∙ ap high_first (take_all 8 bs (omega arith))

-- x is bs with a written over its first n bytes
module _ (bs a : List ℕ) (n m : ℕ) (x : List ℕ) (la : length a ≡ n) (e : x ≡ a ++ drop n bs) (l : n + m ≤ length bs) where
  behind : drop n x ≡ drop n bs
  behind = ap (drop n) e ∙ drop_at a (drop n bs) n la

  -- the m bytes behind are there as they were
  pub there : take m (drop n x) ≡ take m (drop n bs)
  there = ap (take m) behind

  pub room : length (take m (drop n x)) ≡ m
  room = ap length there ∙ simp (length-take, length-drop) (omega arith)

  -- and z in their place
  pub laid : (y z : List ℕ) → y ≡ z → take n x ++ (y ++ drop m (drop n x)) ≡ (a ++ z) ++ drop (n + m) bs
  laid y z h =
      rw (h, behind, drop-drop) (ap (λ (t : List ℕ). t ++ (z ++ drop (n + m) bs)) (ap (take n) e ∙ take_at a (drop n bs) n la) ∙ sym (append_assoc a z (drop (n + m) bs)))

pub part_length_lem : (p : Part) → length (part_bytes p) ≡ part_length
unfolding part_bytes
part_length_lem p = refl

pub operation_length_lem : (s : Cells) → length (operation_bytes s) ≡ operation_length
unfolding operation_bytes
operation_length_lem s = refl

pub header_length_lem : (p : Part) (f : Phase) (d : Identity) → length (header p f d) ≡ header_length
unfolding part_bytes works_bytes operation_bytes
header_length_lem p f d = refl

pub header_front : (p : Part) (f : Phase) → length (part_bytes p ++ phase_bytes f) ≡ identity_at
unfolding part_bytes works_bytes operation_bytes
header_front p f = refl

-- a record's bytes with what a part does written in its place, and then what it is before
module _ (bs : List ℕ) (l : length bs ≡ record_length) where
  pub phase_room : length (take phase_length (drop part_length bs)) ≡ phase_length
  phase_room = simp (length-take, length-drop) (omega arith)

  module _ (f : Phase) (y : List ℕ) (e : y ≡ phase_bytes f) where
    abbrev doing : List ℕ
    doing = take part_length bs ++ (y ++ drop phase_length (drop part_length bs))

    pub part_laid : (p : Part) → part_bytes p ++ drop part_length doing ≡ (part_bytes p ++ phase_bytes f) ++ drop identity_at bs
    part_laid p =
        let t : length (take part_length bs) ≡ part_length = simp length-take (omega arith) in
        ap (λ (x : List ℕ). part_bytes p ++ x) (drop_at (take part_length bs) (y ++ drop phase_length (drop part_length bs)) part_length t ∙ rw (e, drop-drop) refl)
        ∙ sym (append_assoc (part_bytes p) (phase_bytes f) (drop identity_at bs))

  -- of a part that does nothing: the header, with the identity that was there, and page data behind it
  pub idle_laid : (p : Part) → (part_bytes p ++ phase_bytes Idle) ++ drop identity_at bs ≡ header_idle p bs ++ drop header_length bs
  idle_laid p =
      let d : drop identity_length (drop identity_at bs) ≡ drop header_length bs = drop-drop identity_length identity_at bs in
      ap (λ (x : List ℕ). (part_bytes p ++ phase_bytes Idle) ++ x) (sym (take-append-drop identity_length (drop identity_at bs)))
      ∙ sym (append_assoc (part_bytes p ++ phase_bytes Idle) (take identity_length (drop identity_at bs)) (drop identity_length (drop identity_at bs)))
      ∙ ap (λ (x : List ℕ). header_idle p bs ++ x) d

  pub idle_header_length : (p : Part) → length (header_idle p bs) ≡ header_length
  idle_header_length p =
      length-append (part_bytes p ++ phase_bytes Idle) (take identity_length (drop identity_at bs))
      ∙ rw (header_front p Idle) (simp (length-take, length-drop) (omega arith))

  -- the same of what runs alone, where what is suspended stays
  abbrev kept : List ℕ
  kept = take (operation_length + identity_length) (drop halted_at bs)

  running_rest : drop operation_length (drop part_length bs) ≡ kept ++ drop header_length bs
  running_rest =
      drop-drop operation_length part_length bs
      ∙ sym (take-append-drop (operation_length + identity_length) (drop halted_at bs))
      ∙ ap (λ (x : List ℕ). kept ++ x) (drop-drop (operation_length + identity_length) halted_at bs)

  pub kept_length : length kept ≡ operation_length + identity_length
  kept_length = simp (length-take, length-drop) (omega arith)

  module _ (w : Option Operation) (y : List ℕ) (e : y ≡ operation_bytes (work_cells w)) where
    abbrev going : List ℕ
    going = take part_length bs ++ (y ++ drop operation_length (drop part_length bs))

    pub part_kept : (p : Part) → part_bytes p ++ drop part_length going ≡ header_running p w bs ++ drop header_length bs
    part_kept p =
        let t : length (take part_length bs) ≡ part_length = simp length-take (omega arith) in
        let b = operation_bytes (work_cells w) in
        ap (λ (x : List ℕ). part_bytes p ++ x)
        (drop_at (take part_length bs) (y ++ drop operation_length (drop part_length bs)) part_length t ∙ rw (e, running_rest) (sym (append_assoc b kept (drop header_length bs))))
        ∙ sym (append_assoc (part_bytes p) (b ++ kept) (drop header_length bs))

  pub running_header_length : (p : Part) (w : Option Operation) → length (header_running p w bs) ≡ header_length
  running_header_length p w =
      length-append (part_bytes p) (operation_bytes (work_cells w) ++ kept)
      ∙ simp length-append (omega (arith, part_length_lem p, operation_length_lem (work_cells w), kept_length))

-- x is a record's bytes with a header h written over them
module _ (bs h x : List ℕ) (lh : length h ≡ header_length) (l : length bs ≡ record_length) (e : x ≡ h ++ drop header_length bs) where
  pub page_room : length (take page_bytes (drop header_length x)) ≡ page_bytes
  page_room = room bs h header_length page_bytes x lh e (omega arith)

  -- page data is there as it was
  pub page_there : take page_bytes (drop header_length x) ≡ drop header_length bs
  page_there =
      there bs h header_length page_bytes x lh e (omega arith) ∙ take_all page_bytes (drop header_length bs) (simp length-drop (omega arith))

  -- and other page data in its place
  pub page_laid : (y z : List ℕ) → y ≡ z → take header_length x ++ (y ++ drop page_bytes (drop header_length x)) ≡ h ++ z
  page_laid y z q =
      let m : length bs ≤ record_length = omega arith in
      let n : drop record_length bs ≡ [] = drop_of_length-le bs m in
      laid bs h header_length page_bytes x lh e (omega arith) y z q ∙ ap (λ (t : List ℕ). (h ++ z) ++ t) n ∙ append-nil (h ++ z)

-- the bytes of no operation
pub none_bytes : replicate operation_length 0 ≡ operation_bytes (work_cells None)
unfolding operation_bytes
none_bytes = refl

-- a part, byte by byte
pub part_as : (p : Part) (w a z : ℕ) → w ≡ bit p.wel → a ≡ bit p.armed → z ≡ bit p.asleep
    → p.blocks / 256 % 256 ∷ p.blocks % 256
    ∷ (stored_bytes p.stored ++ (w ∷ a ∷ z ∷ p.live ∷ p.bank ∷ []))
    ≡ part_bytes p
unfolding part_bytes
part_as p w a z ew ea ez = rw (ew, ea, ez)

-- bytes with others written at a place
abbrev more : ℕ → ℕ → List ℕ → List ℕ → List ℕ
more at k xs n = take at xs ++ (n ++ drop k (drop at xs))

-- a record's bytes with others where what runs stands, then where what is suspended does, and then the part before
module _ (bs : List ℕ) (l : length bs ≡ record_length) (a y : List ℕ) (la : length a ≡ operation_length) (ey : y ≡ a) where
  abbrev put : List ℕ
  put = more running_at operation_length bs y

  part_there : length (take part_length bs) ≡ part_length
  part_there = simp length-take (omega arith)

  put_as : put ≡ (take part_length bs ++ a) ++ drop halted_at bs
  put_as = laid bs (take part_length bs) part_length operation_length bs part_there (sym (take-append-drop part_length bs)) (omega arith) y a ey

  front_length : length (take part_length bs ++ a) ≡ halted_at
  front_length = length-append (take part_length bs) a ∙ rw (part_there, la) refl

  pub works_put : (b z : List ℕ) → z ≡ b → (q : Part) → part_bytes q ++ drop part_length (more halted_at operation_length put z) ≡ works_laid q a b bs
  works_put b z ez q =
      let t = take part_length bs in
      ap (λ (x : List ℕ). part_bytes q ++ x)
      (ap (drop part_length)
      (laid bs (t ++ a) halted_at operation_length put front_length put_as (omega arith) z b ez
      ∙ append_assoc (t ++ a) b (drop identity_at bs)
      ∙ append_assoc t a (b ++ drop identity_at bs))
      ∙ drop_at t (a ++ (b ++ drop identity_at bs)) part_length part_there)

-- the bytes of a part that does nothing, and of no page data
pub idle_bytes : replicate phase_length 0 ≡ phase_bytes Idle
unfolding works_bytes operation_bytes
idle_bytes = refl

pub no_data_bytes : replicate page_bytes 0 ≡ no_data
unfolding no_data
no_data_bytes = refl

-- four bytes written one by one
four_set : (ys : List ℕ) (m k c d : ℕ) → 4 ≤ length ys → take 4 (set (set (set (set ys 0 m) 1 k) 2 c) 3 d) ≡ m ∷ k ∷ c ∷ d ∷ []
four_set [] m k c d h = absurd (let b : ⊥ = omega arith in b)
four_set (x ∷ []) m k c d h = absurd (let b : ⊥ = omega arith in b)
four_set (x ∷ y ∷ []) m k c d h = absurd (let b : ⊥ = omega arith in b)
four_set (x ∷ y ∷ z ∷ []) m k c d h = absurd (let b : ⊥ = omega arith in b)
four_set (x ∷ y ∷ z ∷ w ∷ ys) m k c d h = refl

-- a record's bytes with an identity written in its place, byte by byte
module _ (bs : List ℕ) (d : Identity) where
  abbrev signed : List ℕ
  signed = set (set (set (set bs identity_at d.maker) (identity_at + 1) d.kind) (identity_at + 2) d.capacity) (identity_at + 3) d.device

  pub signed_length : length signed ≡ length bs
  signed_length = simp length-set

  pub signed_as : length bs ≡ record_length → take identity_length (drop identity_at signed) ≡ identity_bytes d
  signed_as l =
      let a = set bs identity_at d.maker in
      let b = set a (identity_at + 1) d.kind in
      let c = set b (identity_at + 2) d.capacity in
      let e0 : drop identity_at a ≡ set (drop identity_at bs) 0 d.maker = drop-set-add identity_at bs 0 d.maker in
      let e1 = drop-set-add identity_at a 1 d.kind ∙ ap (λ (x : List ℕ). set x 1 d.kind) e0 in
      let e2 = drop-set-add identity_at b 2 d.capacity ∙ ap (λ (x : List ℕ). set x 2 d.capacity) e1 in
      let e3 = drop-set-add identity_at c 3 d.device ∙ ap (λ (x : List ℕ). set x 3 d.device) e2 in
      ap (take identity_length) e3
      ∙ four_set (drop identity_at bs) d.maker d.kind d.capacity d.device (simp length-drop (omega arith))

-- zeros with the kind and the value written in their places, and then the numbers
module _ (s : Cells) (z : List ℕ) (ez : z ≡ replicate operation_length 0) where
  abbrev one : List ℕ
  one = set z 0 s.kind

  abbrev first : List ℕ
  first = set one 1 s.value

  module _ (b : List ℕ) (eb : b ≡ high_first_bytes 8 s.base) where
    module _ (k : List ℕ) (ek : k ≡ high_first_bytes 8 s.count) where
      pub cells_laid : (d : List ℕ) → d ≡ high_first_bytes 8 s.done → more done_at 8 (more count_at 8 (more base_at 8 first b) k) d ≡ operation_bytes s
      unfolding operation_bytes
      cells_laid d ed = rw (ez, eb, ek, ed)
