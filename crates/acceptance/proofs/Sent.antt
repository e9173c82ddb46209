-- What is sent for a job: the part reads back the job from it, and takes it with its ticks.
use Rattle.std.specs.Prelude.{Option, Some}
use Prim.Native.Nat.{ℕ, zero, suc, ◌+◌, ◌-◌, ◌*◌, ◌/◌, ◌%◌, ◌^◌, ◌<◌, ◌≤◌, min}
use mathlib.Core.Path.{◌≡◌, refl, sym, ap, ◌∙◌, subst⁻¹}
use mathlib.Core.Bool.{Bool, true, false, cond}
use mathlib.Core.List.{List, [], ◌∷◌, ◌++◌, append-nil}
use native.Mathlib.Omega.{arith}
use native.Mathlib.Nat.{mod-eq_of_lt, zero-add}
use native.Mathlib.Numerals.{one-add}
use borrow.Author.Tests.{eq-eqb, le-leb, ltb-true, ltb-false}
use lib.Dec.{ltb}
use lib.ListN.{length, get_or, length-append, get_or-eq_default}
use lib.Seq.{take_at, drop_at}
use lib.Pow.{pow-add}
use Rattle.types.specs.declared.Memory.TheVariants.{Array}
use Rattle.types.specs.declared.EraseUnit.TheVariants.{Sector}
use Rattle.types.specs.declared.Addressing.{Addressing}
use Rattle.types.specs.declared.Addressing.TheVariants.{Three, Four}
use Rattle.types.specs.declared.Length.{Length}
use Rattle.types.specs.declared.Length.TheVariants.{Exactly, AtLeast}
use Rattle.types.specs.declared.Effect.{Effect}
use Rattle.types.specs.declared.Effect.TheVariants.{Programs, Erases}
use Rattle.types.specs.declared.Command.{Command}
use Rattle.types.specs.declared.Command.TheVariants.{PageProgram, SectorErase, FarPageProgramAtRest, FarSectorErase}
use Rattle.types.specs.declared.Operation.{Operation}
use Rattle.types.specs.declared.Operation.TheVariants.{Program, Erase}
use Rattle.types.specs.declared.Record.{Record}
use Rattle.words.proofs.Tests.{and_in}
use Rattle.words.specs.Lists.{AreBytes}
use Rattle.paper.specs.Sizes.{is_large, size_ok, array_bytes, page_bytes, tick_limit}
use Rattle.paper.specs.Address.{high_first, address_count, bank_base, address_in}
use Rattle.paper.specs.Program.{page_base, page_place, data_sent, kept_count, passed_count, program_of}
use Rattle.paper.specs.Erase.{erase_of}
use Rattle.paper.specs.Operations.{ticks_in_all}
use Rattle.paper.specs.Soundness.{sound}
use Rattle.paper.specs.Table.{decoded, columns, addressing, length_ok}
use Rattle.paper.specs.Commands.{begins}
use Rattle.paper.proofs.Addresses.{high_first_none, high_first_snoc}
use Rattle.paper.proofs.Sizes.{by_size, limit_range}
use Rattle.paper.proofs.Table.{answered}
use Rattle.paper.proofs.Soundness.{sound_parts, without_large}
use Rattle.laws.specs.Writes.{addressing_by, data_of}
use Rattle.acceptance.specs.Flasher.{Sending, Job, erases, programs, other, sector_bytes, begun_as, length_as, command_of, work_of, work_job, job_of, within_page, allows_ticks, right_command}
use Rattle.acceptance.specs.Construction.{address_for, addressed, sent_for, ticks_for}
use Rattle.acceptance.proofs.Plan.{Planned, Sendable}

-- two lists of bytes make one, and one byte does
pub bytes_both : (xs ys : List ℕ) → AreBytes xs → AreBytes ys → AreBytes (xs ++ ys)
bytes_both [] ys h g k = g k
bytes_both (x ∷ xs) ys h g zero = h zero
bytes_both (x ∷ xs) ys h g (suc k) = bytes_both xs ys (λ j. h (suc j)) g k

pub bytes_one : (b : ℕ) → b < 256 → AreBytes (b ∷ [])
bytes_one b h zero = h
bytes_one b h (suc k) = omega arith

-- the bytes of an address: so many, and bytes, that are the address
length_address : (k a : ℕ) → length (address_for k a) ≡ k
length_address zero a = refl
length_address (suc k) a = length-append (address_for k (a / 256)) (a % 256 ∷ []) ∙ rw (length_address k (a / 256)) (omega arith)

address_bytes_lem : (k a : ℕ) → AreBytes (address_for k a)
address_bytes_lem zero a j = omega arith
address_bytes_lem (suc k) a j = bytes_both (address_for k (a / 256)) (a % 256 ∷ []) (address_bytes_lem k (a / 256)) (bytes_one (a % 256) (omega arith)) j

address_back : (k a : ℕ) → a < 256 ^ k → high_first (address_for k a) ≡ a
address_back zero a h = high_first_none [] ∙ omega arith
address_back (suc k) a h =
    let e : suc k ≡ k + 1 = omega arith in
    let q : 256 ^ suc k ≡ 256 ^ k * 256 = rw (e, pow-add) in
    high_first_snoc (address_for k (a / 256)) (a % 256) ∙ rw (address_back k (a / 256) (omega (arith, q))) (omega arith)

-- so an input of a code, an address and data is read back
module _ (g : Addressing) (c a : ℕ) (d : List ℕ) where
  abbrev input : List ℕ
  input = c ∷ (address_for (address_count g) a ++ d)

  address_read : (n : ℕ) → bank_base g ≡ 0 → a < 256 ^ address_count g → a < array_bytes n → address_in g n input ≡ a
  unfolding address_in
  address_read n base fits inside =
      rw (base, take_at (address_for (address_count g) a) d (address_count g) (length_address (address_count g) a), address_back (address_count g) a fits, zero-add)
      (mod-eq_of_lt inside)

  data_read : data_sent g input ≡ d
  data_read = rw one-add (drop_at (address_for (address_count g) a) d (address_count g) (length_address (address_count g) a))

-- how addresses are sent to the large part, and to the others
abbrev way : Bool → Addressing
way true = Four
way false = Three false

-- they are places of the whole array
way_base : (large : Bool) → bank_base (way large) ≡ 0
way_base true = refl
way_base false = refl

-- all of it can be reached
way_reaches : (n : ℕ) → size_ok n ≡ true → array_bytes n ≤ 256 ^ address_count (way (is_large n))
way_reaches =
    by_size (λ (n : ℕ). array_bytes n ≤ 256 ^ address_count (way (is_large n))) (omega arith) (omega arith) (omega arith) (omega arith) (omega arith)

-- by at most four bytes
way_few : (large : Bool) → address_count (way large) ≤ 4
way_few true = omega arith
way_few false = omega arith

-- a code of a command that does, takes its address and has a length as said
record Coded (n bank : ℕ) (large : Bool) (c : ℕ) (e : Effect) (l : Length) : Type 0 where
  command : Command
  known : decoded n bank c ≡ Some command
  does : (columns command).effect ≡ e
  names : addressing (columns command).named bank ≡ way large
  asks : (columns command).length ≡ l

-- 21h and 20h, 12h and 02h
module _ (n bank : ℕ) where
  sector_code : (large : Bool) → is_large n ≡ large → (large ≡ false → bank ≡ 0) → Coded n bank large (cond large 0x21 0x20) (Erases Sector) (Exactly (1 + address_count (way large)))
  sector_code true e h = record { command = FarSectorErase; known = answered n bank 0x21 ∙ rw e; does = refl; names = refl; asks = refl }
  sector_code false e h = record { command = SectorErase; known = answered n bank 0x20 ∙ rw (h refl); does = refl; names = rw (h refl); asks = refl }

  page_code : (large : Bool) → is_large n ≡ large → (large ≡ false → bank ≡ 0) → Coded n bank large (cond large 0x12 0x02) (Programs Array) (AtLeast (2 + address_count (way large)))
  page_code true e h = record { command = FarPageProgramAtRest; known = answered n bank 0x12 ∙ rw e; does = refl; names = refl; asks = refl }
  page_code false e h = record { command = PageProgram; known = answered n bank 0x02 ∙ rw (h refl); does = refl; names = rw (h refl); asks = refl }

-- what an input with such a code begins, which data it sends, and which lengths it may have
module _ (p : Record) {large : Bool} {c : ℕ} {e : Effect} {l : Length} (k : Coded p.part.blocks p.part.bank large c e l) (r : List ℕ) where
  coded_work : work_of p (c ∷ r) ≡ begins e (way large) p.part.blocks (c ∷ r)
  coded_work =
      ap (λ (x : Option Command). begun_as x p.part (c ∷ r)) k.known
      ∙ ap (λ (x : Effect). begins x (addressing (columns k.command).named p.part.bank) p.part.blocks (c ∷ r)) k.does
      ∙ ap (λ (g : Addressing). begins e g p.part.blocks (c ∷ r)) k.names

  coded_data : data_of p (c ∷ r) ≡ data_sent (way large) (c ∷ r)
  coded_data =
      ap (λ (x : Option Command). data_sent (addressing_by x p.part.bank) (c ∷ r)) k.known
      ∙ ap (λ (g : Addressing). data_sent g (c ∷ r)) k.names

  coded_length : (m : ℕ) → length_as (command_of p (c ∷ r)) m ≡ length_ok l m
  coded_length m = ap (λ (x : Option Command). length_as x m) k.known ∙ ap (λ (x : Length). length_ok x m) k.asks

-- an address to the large part or to another, and data behind it
sent_as_lem : (large : Bool) (near far a : ℕ) (d : List ℕ) → cond large (far ∷ address_for 4 a) (near ∷ address_for 3 a) ++ d ≡ cond large far near ∷ (address_for (address_count (way large)) a ++ d)
sent_as_lem true near far a d = refl
sent_as_lem false near far a d = refl

-- one of two codes is a byte
code_byte : (large : Bool) (near far : ℕ) → near < 256 → far < 256 → cond large far near < 256
code_byte true near far h g = g
code_byte false near far h g = h

-- a step that is right for a job; its length and its ticks are 16-bit numbers
pub record Sent (p : Record) (j : Job) (e : Sending) : Type 0 where
  pub job : job_of p e.sent ≡ j
  pub right : right_command p e ≡ true
  pub bytes : AreBytes e.sent
  pub few : length e.sent < 2 ^ 16
  pub ticks_few : e.ticks < 2 ^ 16

module _ (p : Record) (s : sound p ≡ true) where
  abbrev n : ℕ
  n = p.part.blocks

  abbrev large : Bool
  large = is_large n

  abbrev g : Addressing
  g = way large

  -- the bank register of the others is 0
  no_bank : large ≡ false → p.part.bank ≡ 0
  no_bank e = (without_large p s e).1

  -- so it has these codes
  sector_coded : Coded n p.part.bank large (cond large 0x21 0x20) (Erases Sector) (Exactly (1 + address_count g))
  sector_coded = sector_code n p.part.bank large refl no_bank

  page_coded : Coded n p.part.bank large (cond large 0x12 0x02) (Programs Array) (AtLeast (2 + address_count g))
  page_coded = page_code n p.part.bank large refl no_bank

  -- a code, an address of the array, and data
  abbrev sending : ℕ → ℕ → ℕ → List ℕ → List ℕ
  sending near far a d = cond large far near ∷ (address_for (address_count g) a ++ d)

  -- its address is read back; its length; and its bytes
  module _ (near far a : ℕ) (d : List ℕ) where
    address_in_lem : a < array_bytes n → address_in g n (sending near far a d) ≡ a
    address_in_lem inside = address_read g (cond large far near) a d n (way_base large) (omega (arith, way_reaches n (sound_parts p s).size)) inside

    sending_length : length (sending near far a d) ≡ 1 + address_count g + length d
    sending_length = simp (length-append, length_address (address_count g) a) (omega arith)

    sending_bytes : near < 256 → far < 256 → AreBytes d → AreBytes (sending near far a d)
    sending_bytes h k b =
        bytes_both (cond large far near ∷ []) (address_for (address_count g) a ++ d) (bytes_one (cond large far near) (code_byte large near far h k))
        (bytes_both (address_for (address_count g) a) d (address_bytes_lem (address_count g) a) b)

  -- a step is right that begins an operation and has its ticks; any part may be asked 4,096
  sent_right : (j : Job) (i : List ℕ) (t : ℕ) (o : Operation) → job_of p i ≡ j → within_page j ≡ true → length_as (command_of p i) (length i) ≡ true → work_of p i ≡ Some o → ticks_in_all o n ≤ t → t ≤ 4096
      → right_command p (record { sent = i; ticks = t }) ≡ true
  sent_right j i t o job page len work enough few =
      and_in (ap within_page job ∙ page)
      (and_in len
      (ap (λ (w : Option Operation). allows_ticks w n t) work ∙ and_in (le-leb _ _ enough) (le-leb t (tick_limit n) (omega (arith, limit_range n)))))

  -- an erase
  module _ (b : ℕ) (first : b % sector_bytes ≡ 0) (inside : b < array_bytes n) where
    abbrev erasing : List ℕ
    erasing = sending 0x20 0x21 b []

    erase_work : work_of p erasing ≡ Some (Erase Sector b 0)
    unfolding erase_of
    erase_work =
        let base : b / sector_bytes * sector_bytes ≡ b = omega arith in
        coded_work p sector_coded (address_for (address_count g) b ++ [])
        ∙ ap (λ (a : ℕ). Some (Erase Sector (a / sector_bytes * sector_bytes) 0)) (address_in_lem 0x20 0x21 b [] inside)
        ∙ ap (λ (a : ℕ). Some (Erase Sector a 0)) base

    erase_length : length_as (command_of p erasing) (length erasing) ≡ true
    erase_length =
        coded_length p sector_coded (address_for (address_count g) b ++ []) (length erasing)
        ∙ eq-eqb _ _ (sending_length 0x20 0x21 b [] ∙ omega arith)

    erase_job_lem : job_of p erasing ≡ erases b
    erase_job_lem = ap (λ (w : Option Operation). work_job w (data_of p erasing)) erase_work

    erase_sent : Sent p (erases b) (record { sent = erasing; ticks = 16 })
    erase_sent =
        record {
          job = erase_job_lem;
          right = sent_right (erases b) erasing 16 (Erase Sector b 0) erase_job_lem refl erase_length erase_work (omega arith) (omega arith);
          bytes = sending_bytes 0x20 0x21 b [] (omega arith) (omega arith) (λ k. omega arith);
          few = omega (arith, sending_length 0x20 0x21 b [], way_few large);
          ticks_few = omega arith;
        }

  -- a program
  module _ (image : List ℕ) (own : length image ≡ array_bytes n) (byte : AreBytes image) (a : ℕ) (d : List ℕ) (h : Planned image a d) where
    abbrev programming : List ℕ
    programming = sending 0x02 0x12 a d

    program_data : data_of p programming ≡ d
    program_data =
        coded_data p page_coded (address_for (address_count g) a ++ d)
        ∙ data_read g (cond large 0x12 0x02) a d

    program_work : work_of p programming ≡ Some (Program Array (a % page_bytes) (page_base a) (length d) 0)
    unfolding program_of page_place
    program_work =
        let kept : min (length d) page_bytes ≡ length d = omega (arith, h.in-page) in
        let place : (a + (length d - length d)) % page_bytes ≡ a % page_bytes = omega arith in
        coded_work p page_coded (address_for (address_count g) a ++ d)
        ∙ ap (λ (x : ℕ). Some (Program Array (page_place x (passed_count (data_sent g programming))) (page_base x) (kept_count (data_sent g programming)) 0)) (address_in_lem 0x02 0x12 a d (omega (arith, own, h.some, h.inside)))
        ∙ ap (λ (x : List ℕ). Some (Program Array (page_place a (passed_count x)) (page_base a) (kept_count x) 0)) (data_read g (cond large 0x12 0x02) a d)
        ∙ rw (kept, place) refl

    program_length : length_as (command_of p programming) (length programming) ≡ true
    program_length =
        coded_length p page_coded (address_for (address_count g) a ++ d) (length programming)
        ∙ le-leb (2 + address_count g) (length programming) (omega (arith, sending_length 0x02 0x12 a d, h.some))

    program_job_lem : job_of p programming ≡ programs a d
    program_job_lem =
        let whole : page_base a + a % page_bytes ≡ a = omega arith in
        ap (λ (w : Option Operation). work_job w (data_of p programming)) program_work ∙ rw (whole, program_data)

    program_bytes : (k : ℕ) (t : Bool) → ltb k (length d) ≡ t → get_or d k 0 < 256
    program_bytes k true e = rw (h.wanted k (ltb-true _ _ e)) (byte (a + k))
    program_bytes k false e = rw (get_or-eq_default d 0 (ltb-false _ _ e)) (omega arith)

    program_sent : Sent p (programs a d) (record { sent = programming; ticks = length d })
    program_sent =
        record {
          job = program_job_lem;
          right = sent_right (programs a d) programming (length d) (Program Array (a % page_bytes) (page_base a) (length d) 0) program_job_lem (le-leb _ _ h.in-page) program_length program_work (omega arith) (omega (arith, h.in-page));
          bytes = sending_bytes 0x02 0x12 a d (omega arith) (omega arith) (λ k. program_bytes k (ltb k (length d)) refl);
          few = omega (arith, sending_length 0x02 0x12 a d, way_few large, h.in-page);
          ticks_few = omega (arith, h.in-page);
        }

  -- so what is sent for a job is right, for each that can be
  pub job_sent : (image : List ℕ) → length image ≡ array_bytes n → AreBytes image → (j : Job) → Sendable image j → Sent p j (record { sent = sent_for n j; ticks = ticks_for j })
  job_sent image own byte (erases b) h =
      subst⁻¹ (λ (i : List ℕ). Sent p (erases b) (record { sent = i; ticks = 16 })) (sym (append-nil (addressed n 0x20 0x21 b)) ∙ sent_as_lem large 0x20 0x21 b []) (erase_sent b h.0 (omega (arith, own, h.1)))
  job_sent image own byte (programs a d) h =
      subst⁻¹ (λ (i : List ℕ). Sent p (programs a d) (record { sent = i; ticks = length d })) (sent_as_lem large 0x02 0x12 a d) (program_sent image own byte a d h)
  job_sent image own byte other h = absurd h
