-- Steps in twos are whole writes, of an erase of a sector or a program within a page; each leaves of a byte what its job leaves.
use Rattle.types.specs.declared.Operation.{Operation}
use Rattle.std.specs.Prelude.{None, Option, Some}
use Prim.Native.Nat.{ℕ, ◌+◌, ◌-◌, ◌/◌, ◌%◌, ◌≤◌, ◌<◌}
use mathlib.Core.Path.{◌≡◌, refl, sym, ap, ◌∙◌, subst}
use mathlib.Core.Bool.{Bool, true, false, not, cond, false≢true}
use mathlib.Core.List.{List, [], ◌∷◌, ◌++◌}
use mathlib.Core.Logic.{◌⊎◌, inl, inr}
use native.Mathlib.Omega.{arith}
use lib.ListN.{length, get_or, drop, length-drop}
use lib.Dec.{leb, ltb}
use borrow.Author.Tests.{eqb-true, eq-eqb, leb-true, le-leb, ltb-true, lt-ltb}
use Rattle.types.specs.declared.Memory.TheVariants.{Array, Rows}
use Rattle.types.specs.declared.EraseUnit.TheVariants.{Sector, Block32, Block64, Chip, Row}
use Rattle.types.specs.declared.Addressing.{Addressing}
use Rattle.types.specs.declared.Addressing.TheVariants.{Three, Four}
use Rattle.types.specs.declared.Effect.{Effect}
use Rattle.types.specs.declared.Effect.TheVariants.{Looks, Enables, Disables, Programs, Erases, Writes, Suspends, Resumes, Sleeps, Wakes, Arms, Resets, SetsLive, ClearsErrors, SetsBank, SetsFar}
use Rattle.types.specs.declared.Named.{Named}
use Rattle.types.specs.declared.Named.TheVariants.{Bare, Place, Far, InRow}
use Rattle.types.specs.declared.Length.{Length}
use Rattle.types.specs.declared.Length.TheVariants.{Exactly, AtLeast}
use Rattle.types.specs.declared.Command.{Command}
use Rattle.types.specs.declared.Record.{Record}
use Rattle.words.specs.Logic.{◌and◌, unless}
use Rattle.words.specs.Lists.{every}
use Rattle.words.proofs.Tests.{and_l, and_r, and_in, same_tests}
use Rattle.paper.specs.Sizes.{block_bytes, page_bytes, transaction_limit, tick_limit, down_to, from_on}
use Rattle.paper.specs.Address.{address_count}
use Rattle.paper.specs.Program.{page_base, page_place, passed_count, program_of, narrowed_byte}
use Rattle.paper.specs.Erase.{unit_base, erase_of}
use Rattle.paper.specs.Registers.{write_of}
use Rattle.paper.specs.Protection.{whole_code}
use Rattle.paper.specs.Operations.{ticks_in_all, free, target_free}
use Rattle.paper.specs.Table.{decoded, columns, addressing_on, length_ok}
use Rattle.paper.specs.Commands.{begins}
use Rattle.paper.specs.Numbers.{length_number, ticks_number, address_ok}
use Rattle.paper.specs.ByPlace.{byte_for}
use Rattle.paper.specs.History.{transaction, ticks}
use Rattle.paper.proofs.Table.{of_decoded}
use Rattle.paper.proofs.ByPlace.{from_on_lem, on_from}
use Rattle.paper.proofs.Protected.{none_protected}
use Rattle.laws.specs.Writes.{Kind, program, erase, effect_of, Write, steps, sent_as, begun_by, OfKind, Fitting, Whole, place_of, data_of, in_page_of, byte_programmed, byte_written}
use Rattle.laws.proofs.Commanded.{begun_as_lem}
use Rattle.laws.proofs.Together.{short_program}
use Rattle.acceptance.specs.Flasher.{unprotected, Sending, begun_as, length_as, command_of, work_of, Job, erases, programs, work_job, job_of, sets_enable, within_page, allows_ticks, right_command, in_twos, jobs_in, sector_bytes}
use Rattle.acceptance.proofs.Bytes.{byte_by, is_aligned}
use Rattle.acceptance.proofs.Steps.{calls_of, may_be_sent}

-- what the command table says of a command that programs the array or erases a sector: its address names a place of the array, and its length is some
abbrev names_place : Named → Bool
names_place Bare = false
names_place Place = true
names_place Far = true
names_place InRow = false

abbrev is_some : Length → Bool
is_some (Exactly l) = leb 1 l
is_some (AtLeast l) = leb 1 l

abbrev is_few : Length → Bool
is_few (Exactly l) = leb l transaction_limit
is_few (AtLeast l) = false

abbrev table_says : Effect → Named → Length → Bool
table_says Looks a l = true
table_says Enables a l = true
table_says Disables a l = true
table_says (Programs Array) a l = names_place a and is_some l
table_says (Programs Rows) a l = true
table_says (Erases Sector) a l = names_place a and is_some l and is_few l
table_says (Erases Block32) a l = true
table_says (Erases Block64) a l = true
table_says (Erases Chip) a l = true
table_says (Erases Row) a l = true
table_says (Writes r) a l = true
table_says Suspends a l = true
table_says Resumes a l = true
table_says Sleeps a l = true
table_says Wakes a l = true
table_says Arms a l = true
table_says Resets a l = true
table_says SetsLive a l = true
table_says ClearsErrors a l = true
table_says SetsBank a l = true
table_says (SetsFar far) a l = true

table_says_lem : (n bank c : ℕ) (k : Command) → decoded n bank c ≡ Some k → table_says (columns k).effect (columns k).named (columns k).length ≡ true
unfolding ◌and◌
table_says_lem n bank c k e =
    of_decoded (λ (j : Command). table_says (columns j).effect (columns j).named (columns j).length) refl refl refl n bank c k e

place_ok : (a : Named) (g : Addressing) (i : List ℕ) → names_place a ≡ true → address_ok a g i ≡ true
place_ok Bare g i h = absurd (false≢true h)
place_ok Place g i h = refl
place_ok Far g i h = refl
place_ok InRow g i h = absurd (false≢true h)

some_bytes : (l : Length) (n : ℕ) → is_some l ≡ true → length_ok l n ≡ true → 1 ≤ n
some_bytes (Exactly l) n h e =
    let x : 1 ≤ l = leb-true _ _ h in
    let y : n ≡ l = eqb-true _ _ e in
    omega arith
some_bytes (AtLeast l) n h e =
    let x : 1 ≤ l = leb-true _ _ h in
    let y : l ≤ n = leb-true _ _ e in
    omega arith

few_bytes : (l : Length) (n : ℕ) → is_few l ≡ true → length_ok l n ≡ true → n ≤ transaction_limit
few_bytes (Exactly l) n h e =
    let x : l ≤ transaction_limit = leb-true _ _ h in
    let y : n ≡ l = eqb-true _ _ e in
    omega arith
few_bytes (AtLeast l) n h e = absurd (false≢true h)

-- nothing else than these has a job within a page
kind_of : (e : Effect) (g : Addressing) (n : ℕ) (i d : List ℕ) → within_page (work_job (begins e g n i) d) ≡ true → (e ≡ Programs Array) ⊎ (e ≡ Erases Sector)
unfolding program_of erase_of write_of
kind_of Looks g n i d h = absurd (false≢true h)
kind_of Enables g n i d h = absurd (false≢true h)
kind_of Disables g n i d h = absurd (false≢true h)
kind_of (Programs Array) g n i d h = inl refl
kind_of (Programs Rows) g n i d h = absurd (false≢true h)
kind_of (Erases Sector) g n i d h = inr refl
kind_of (Erases Block32) g n i d h = absurd (false≢true h)
kind_of (Erases Block64) g n i d h = absurd (false≢true h)
kind_of (Erases Chip) g n i d h = absurd (false≢true h)
kind_of (Erases Row) g n i d h = absurd (false≢true h)
kind_of (Writes r) g n i d h = absurd (false≢true h)
kind_of Suspends g n i d h = absurd (false≢true h)
kind_of Resumes g n i d h = absurd (false≢true h)
kind_of Sleeps g n i d h = absurd (false≢true h)
kind_of Wakes g n i d h = absurd (false≢true h)
kind_of Arms g n i d h = absurd (false≢true h)
kind_of Resets g n i d h = absurd (false≢true h)
kind_of SetsLive g n i d h = absurd (false≢true h)
kind_of ClearsErrors g n i d h = absurd (false≢true h)
kind_of SetsBank g n i d h = absurd (false≢true h)
kind_of (SetsFar far) g n i d h = absurd (false≢true h)

-- a program within a page writes its bytes from its address on
module _ (c : ℕ) (d : List ℕ) (fits : c % page_bytes + length d ≤ page_bytes) (a x : ℕ) where
  abbrev byte : ℕ
  byte = byte_for (page_place c 0) (a - page_base c)

  reached : from_on c (length d) a ≡ true → (in_page_of Array c Array a ≡ true) × (byte ≡ a - c)
  unfolding page_place
  reached t =
      let r = on_from c (length d) a t in
      (and_in refl (from_on_lem (page_base c) page_bytes a (omega (arith, r)) (omega (arith, r))), omega (arith, r))

  reaches : in_page_of Array c Array a ≡ true → ltb byte (length d) ≡ true → from_on c (length d) a ≡ true
  unfolding page_place
  reaches p l =
      let r = on_from (page_base c) page_bytes a (and_r _ _ p) in
      let z : byte < length d = ltb-true _ _ l in
      from_on_lem c (length d) a (omega (arith, r, z)) (omega (arith, r, z))

  same_reach : (in_page_of Array c Array a and ltb byte (length d)) ≡ from_on c (length d) a
  same_reach =
      same_tests (in_page_of Array c Array a and ltb byte (length d)) (from_on c (length d) a)
      (λ t. reaches (and_l _ _ t) (and_r _ _ t))
      (λ t.
      let r = reached t in
      let s = on_from c (length d) a t in
      and_in r.0 (lt-ltb byte (length d) (omega (arith, r.1, s))))

  program_does_as : (t : Bool) → from_on c (length d) a ≡ t → cond t (narrowed_byte x (get_or d byte 0)) x ≡ cond t (narrowed_byte x (get_or d (a - c) 0)) x
  program_does_as true e = ap (λ (k : ℕ). narrowed_byte x (get_or d k 0)) (reached e).1
  program_does_as false e = refl

  program_does : byte_programmed Array c d Array a x ≡ byte_by (programs c d) a x
  program_does =
      short_program Array c d Array a x (omega arith)
      ∙ ap (λ (t : Bool). cond t (narrowed_byte x (get_or d byte 0)) x) same_reach
      ∙ program_does_as (from_on c (length d) a) refl

address_few : (g : Addressing) → address_count g ≤ 4
address_few (Three upper) = omega arith
address_few Four = omega arith

-- a step that is right is told to be a write of a kind, with what it leaves of a byte of the array
pub record RightWrite (p : Record) (i : List ℕ) : Type 0 where
  pub kind : Kind
  pub fitting : Fitting p kind i
  pub work : work_of p i ≡ Some (begun_by p kind i)
  pub does : (a x : ℕ) → byte_written p kind i Array a x ≡ byte_by (job_of p i) a x
  pub aligned : is_aligned (job_of p i) ≡ true

-- the write of two steps: 06h with its ticks, and the command with its own
abbrev pub write_in : Bool → Sending → Sending → Write
write_in wp e w =
    record { enabled_at = wp; checks = ticks e.ticks ∷ []; sent_at = wp; input = w.sent; wait = ticks w.ticks ∷ [] }

module _ (p : Record) (open_part : unprotected p ≡ true) where
  abbrev blocks : ℕ
  blocks = p.part.blocks

  free_at : (b : ℕ) → free Array b blocks p.part.stored ≡ true
  free_at b = ap not (none_protected (whole_code p.part.stored) blocks (b / block_bytes) (eqb-true _ _ open_part))

  module _ (i : List ℕ) (k : Command) (known : command_of p i ≡ Some k) (within : within_page (job_of p i) ≡ true) (long : length_as (command_of p i) (length i) ≡ true) where
    abbrev data_of_lem : List ℕ
    data_of_lem = data_of p i

    abbrev place : ℕ
    place = place_of p Array i

    right_length : length_ok (columns k).length (length i) ≡ true
    right_length = sym (ap (λ (c : Option Command). length_as c (length i)) known) ∙ long

    -- the table's line of the command, of whose effect it is known that it is e
    said : (e : Effect) → (columns k).effect ≡ e → table_says e (columns k).named (columns k).length ≡ true
    said e does = subst (λ (x : Effect). table_says x (columns k).named (columns k).length ≡ true) does (table_says_lem blocks p.part.bank (get_or i 0 0) k known)

    module _ (d : Kind) (does : (columns k).effect ≡ effect_of d) where
      abbrev code : OfKind blocks p.part.bank d i
      code = record { command = k; known = known; does = does }

      work_is_lem : work_of p i ≡ Some (begun_by p d i)
      work_is_lem = ap (λ (c : Option Command). begun_as c p.part i) known ∙ begun_as_lem p d i code

      job_is : job_of p i ≡ work_job (Some (begun_by p d i)) data_of_lem
      job_is = ap (λ (w : Option Operation). work_job w data_of_lem) work_is_lem

    -- a program
    module _ (does : (columns k).effect ≡ Programs Array) where
      job_somewhere : job_of p i ≡ programs (page_base place + page_place place (passed_count data_of_lem)) data_of_lem
      unfolding program_of
      job_somewhere = job_is (program Array) does

      within_somewhere : (page_base place + page_place place (passed_count data_of_lem)) % page_bytes + length data_of_lem ≤ page_bytes
      within_somewhere = leb-true _ _ (sym (ap within_page job_somewhere) ∙ within)

      here : page_base place + page_place place (passed_count data_of_lem) ≡ place
      unfolding page_place
      here =
          let short : length data_of_lem ≤ page_bytes = omega (arith, within_somewhere) in
          let z : passed_count data_of_lem ≡ 0 = omega arith in
          rw z (omega arith)

      job_here : job_of p i ≡ programs place data_of_lem
      job_here = job_somewhere ∙ ap (λ (a : ℕ). programs a data_of_lem) here

      within_page_lem : place % page_bytes + length data_of_lem ≤ page_bytes
      within_page_lem = subst (λ (a : ℕ). a % page_bytes + length data_of_lem ≤ page_bytes) here within_somewhere

      few_sent : length i ≤ transaction_limit
      few_sent =
          let g = sent_as p i in
          let z : length (drop (1 + address_count g) i) ≡ length i - (1 + address_count g) = length-drop (1 + address_count g) i in
          omega (arith, z, address_few g, within_page_lem)

      program_free : target_free (begun_by p (program Array) i) blocks p.part.stored ≡ true
      unfolding program_of
      program_free = free_at (page_base place)

      program_right : RightWrite p i
      program_right =
          let s = said (Programs Array) does in
          record {
            kind = program Array;
            fitting = record { code = code (program Array) does; some = some_bytes (columns k).length (length i) (and_r _ _ s) right_length; most = few_sent; right_length = right_length; right_address = place_ok (columns k).named (sent_as p i) i (and_l _ _ s); free_target = program_free };
            work = work_is_lem (program Array) does;
            does = λ a x. program_does place data_of_lem within_page_lem a x ∙ ap (λ (j : Job). byte_by j a x) (sym job_here);
            aligned = ap is_aligned job_here;
          }

    -- an erase
    module _ (does : (columns k).effect ≡ Erases Sector) where
      abbrev base : ℕ
      base = unit_base Sector blocks place

      job_erases : job_of p i ≡ erases base
      unfolding erase_of
      job_erases = job_is (erase Sector) does

      erase_free : target_free (begun_by p (erase Sector) i) blocks p.part.stored ≡ true
      unfolding erase_of
      erase_free = free_at base

      erase_does : (a x : ℕ) → byte_written p (erase Sector) i Array a x ≡ byte_by (erases base) a x
      unfolding ◌and◌
      erase_does a x = refl

      base_aligned : is_aligned (erases base) ≡ true
      base_aligned = eq-eqb (down_to sector_bytes base) base (omega arith)

      erase_right : RightWrite p i
      erase_right =
          let s = said (Erases Sector) does in
          record {
            kind = erase Sector;
            fitting = record { code = code (erase Sector) does; some = some_bytes (columns k).length (length i) (and_l _ _ (and_r _ _ s)) right_length; most = few_bytes (columns k).length (length i) (and_r _ _ (and_r _ _ s)) right_length; right_length = right_length; right_address = place_ok (columns k).named (sent_as p i) i (and_l _ _ s); free_target = erase_free };
            work = work_is_lem (erase Sector) does;
            does = λ a x. erase_does a x ∙ ap (λ (j : Job). byte_by j a x) (sym job_erases);
            aligned = ap is_aligned job_erases ∙ base_aligned;
          }

    either_right : ((columns k).effect ≡ Programs Array) ⊎ ((columns k).effect ≡ Erases Sector) → RightWrite p i
    either_right (inl e) = program_right e
    either_right (inr e) = erase_right e

    known_right : RightWrite p i
    known_right =
        either_right (kind_of (columns k).effect (addressing_on (columns k) p.part) blocks i data_of_lem (sym (ap (λ (c : Option Command). within_page (work_job (begun_as c p.part i) data_of_lem)) known) ∙ within))

  right_as : (i : List ℕ) (c : Option Command) → command_of p i ≡ c → within_page (job_of p i) ≡ true → length_as (command_of p i) (length i) ≡ true → RightWrite p i
  right_as i (Some k) e w l = known_right i k e w l
  right_as i None e w l = absurd (false≢true (sym (ap (λ (c : Option Command). length_as c (length i)) e) ∙ l))

  pub right_write : (w : Sending) → right_command p w ≡ true → RightWrite p w.sent
  right_write w h = right_as w.sent (command_of p w.sent) refl (and_l _ _ h) (and_l _ _ (and_r _ _ h))

  -- its ticks are enough, and no more than a call may ask
  right_ticks : (w : Sending) (h : right_command p w ≡ true) → (leb (ticks_in_all (begun_by p (right_write w h).kind w.sent) blocks) w.ticks and leb w.ticks (tick_limit blocks)) ≡ true
  right_ticks w h = sym (ap (λ (v : Option Operation). allows_ticks v blocks w.ticks) (right_write w h).work) ∙ and_r _ _ (and_r _ _ h)

  -- the write that two steps are
  pub write_whole : (wp : Bool) (e w : Sending) (h : right_command p w ≡ true) → Whole p (right_write w h).kind (write_in wp e w)
  write_whole wp e w h =
      let r = right_write w h in
      let t = right_ticks w h in
      let enough : ticks_in_all (begun_by p r.kind w.sent) blocks ≤ w.ticks = leb-true _ _ (and_l _ _ t) in
      record { begun = record { fitting = r.fitting; checks_wait = and_in refl refl }; wait_waits = and_in refl refl; enough = rw (and_r _ _ t) (omega arith) }

  pub all_aligned : (es : List Sending) → in_twos p es ≡ true → every is_aligned (jobs_in p es) ≡ true
  all_aligned [] h = refl
  all_aligned (e ∷ []) h = refl
  all_aligned (e ∷ w ∷ ss) h = and_in (right_write w (and_l _ _ (and_r _ _ h))).aligned (all_aligned ss (and_r _ _ (and_r _ _ h)))

  -- no step is stopped
  in-limits : (e : Sending) → 1 ≤ length e.sent → length e.sent ≤ transaction_limit → leb e.ticks (tick_limit blocks) ≡ true → may_be_sent blocks e ≡ true
  unfolding length_number ticks_number unless ◌and◌
  in-limits e l m t = rw (le-leb 1 (length e.sent) l, le-leb (length e.sent) transaction_limit m, t) refl

  enable_sent : (e : Sending) → sets_enable p e ≡ true → may_be_sent blocks e ≡ true
  enable_sent e h =
      let one : length e.sent ≡ 1 = eqb-true _ _ (and_l _ _ h) in
      in-limits e (omega arith) (omega arith) (and_r _ _ (and_r _ _ h))

  pub all_may : (es : List Sending) → in_twos p es ≡ true → every (may_be_sent blocks) es ≡ true
  all_may [] h = refl
  all_may (e ∷ []) h = absurd (false≢true h)
  all_may (e ∷ w ∷ ss) h =
      let c = and_l _ _ (and_r _ _ h) in
      let f = (right_write w c).fitting in
      and_in (enable_sent e (and_l _ _ h)) (and_in (in-limits w f.some f.most (and_r _ _ (right_ticks w c))) (all_may ss (and_r _ _ (and_r _ _ h))))

  -- 06h
  enable_is : (xs : List ℕ) → length xs ≡ 1 → get_or xs 0 0 ≡ 0x06 → xs ≡ 0x06 ∷ []
  enable_is [] l e = absurd (omega arith)
  enable_is (x ∷ []) l e = ap (λ (c : ℕ). c ∷ []) e
  enable_is (x ∷ y ∷ ys) l e = absurd (omega arith)

  -- two steps make the calls of their write
  pub calls_written : (wp : Bool) (e w : Sending) → sets_enable p e ≡ true → calls_of wp e ++ calls_of wp w ≡ steps (write_in wp e w)
  calls_written wp e w h =
      ap (λ (i : List ℕ). transaction wp i (length i) ∷ ticks e.ticks ∷ calls_of wp w)
      (enable_is e.sent (eqb-true _ _ (and_l _ _ h)) (eqb-true _ _ (and_l _ _ (and_r _ _ h))))
