-- What ticks leave of each page of the array: one that an erase reached is blank, and one that was not reached is as it was.
use Rattle.std.specs.Prelude.{None, Option, Some}
use Prim.Native.Nat.{ℕ, ◌+◌, ◌-◌, ◌*◌, ◌/◌, ◌≤◌, ◌<◌, min}
use mathlib.Core.Path.{◌≡◌, refl, sym, ap, ◌∙◌}
use mathlib.Core.Bool.{Bool, true, false, cond, false≢true}
use mathlib.Core.List.{List}
use native.Mathlib.Omega.{arith}
use lib.Dec.{eqb}
use lib.ListN.{length, get_or}
use borrow.Author.Tests.{eqb-true, leb-true, eq-eqb}
use Rattle.types.specs.declared.Memory.{Memory}
use Rattle.types.specs.declared.Memory.TheVariants.{Array, Rows}
use Rattle.types.specs.declared.EraseUnit.{EraseUnit}
use Rattle.types.specs.declared.Operation.{Operation}
use Rattle.types.specs.declared.Operation.TheVariants.{Program, Erase, Write}
use Rattle.types.specs.declared.Stored.{Stored}
use Rattle.types.specs.declared.Record.{Record}
use Rattle.types.specs.declared.Ticked.{Ticked}
use Rattle.words.specs.Logic.{◌and◌}
use Rattle.words.proofs.Tests.{and_l, and_r, and_in, fails}
use Rattle.words.proofs.Search.{all_at, all_in, all_same}
use Rattle.paper.specs.Sizes.{same_memory, from_on, page_bytes, array_bytes, array_pages, memory_bytes}
use Rattle.paper.specs.Program.{narrowed_byte}
use Rattle.paper.specs.Erase.{memory_of, unit_bytes, erased_byte}
use Rattle.paper.specs.Phases.{running}
use Rattle.paper.specs.Soundness.{sound}
use Rattle.paper.specs.Numbers.{tick_number}
use Rattle.paper.specs.Ticks.{record_after, memory_after, working_ticks}
use Rattle.paper.specs.Calls.{ticked, ticked_memory}
use Rattle.paper.specs.Reached.{reached, first_page, pages_by, reaches_page}
use Rattle.paper.specs.ByPlace.{byte_for, byte_ran}
use Rattle.paper.specs.Map.{blank_page}
use Rattle.paper.proofs.Soundness.{InOrder, running_in_order}
use Rattle.paper.proofs.ManyTicks.{rest_memory}
use Rattle.paper.proofs.ByPlace.{from_on_lem, on_from}
use Rattle.paper.proofs.Touches.{memory_at}
use Rattle.paper.proofs.Reached.{working_fits, working_bytes, none_reached, program_based, erase_based}

-- a page is blank exactly if its bytes are all FFh; and pages with the same bytes are both blank, or both not
pub page_blank : (xs : List ℕ) (q : ℕ) → ((i : ℕ) → i < page_bytes → get_or xs (q * page_bytes + i) 0 ≡ erased_byte) → blank_page xs q ≡ true
unfolding blank_page
page_blank xs q h = all_in (λ i. eqb (get_or xs (q * page_bytes + i) 0) erased_byte) page_bytes (λ i l. eq-eqb _ _ (h i l))

pub blank_bytes : (xs : List ℕ) (q : ℕ) → blank_page xs q ≡ true → (i : ℕ) → i < page_bytes → get_or xs (q * page_bytes + i) 0 ≡ erased_byte
unfolding blank_page
blank_bytes xs q h i l = eqb-true _ _ (all_at (λ i. eqb (get_or xs (q * page_bytes + i) 0) erased_byte) page_bytes i h l)

same_page : (xs ys : List ℕ) (q : ℕ) → ((i : ℕ) → i < page_bytes → get_or xs (q * page_bytes + i) 0 ≡ get_or ys (q * page_bytes + i) 0) → blank_page xs q ≡ blank_page ys q
unfolding blank_page
same_page xs ys q h =
    all_same (λ i. eqb (get_or xs (q * page_bytes + i) 0) erased_byte) (λ i. eqb (get_or ys (q * page_bytes + i) 0) erased_byte) page_bytes (λ i l. ap (λ (x : ℕ). eqb x erased_byte) (h i l))

-- place i of page q, which ticks of a program or an erase of the array reached, or did not
module _ (q i : ℕ) (l : i < page_bytes) where
  program_misses : (t : Bool) (b d k y : ℕ) → b / page_bytes * page_bytes ≡ b → from_on (b / page_bytes) (cond t (min k 1) 0) q ≡ false
      → (t and from_on b page_bytes (q * page_bytes + i) and from_on d k y) ≡ false
  program_misses true b d k y e f =
      fails _
      (λ h.
      let u = on_from b page_bytes (q * page_bytes + i) (and_l _ _ (and_r _ _ h)) in
      let v = on_from d k y (and_r _ _ (and_r _ _ h)) in
      false≢true (sym f ∙ from_on_lem (b / page_bytes) (min k 1) q (omega (arith, u)) (omega (arith, u, v))))
  program_misses false b d k y e f = fails _ (λ h. false≢true (and_l _ _ h))

  erase_misses : (t : Bool) (b d k : ℕ) → b / page_bytes * page_bytes ≡ b → from_on (b / page_bytes + d) (cond t k 0) q ≡ false
      → (t and from_on (b + d * page_bytes) (k * page_bytes) (q * page_bytes + i)) ≡ false
  erase_misses true b d k e f =
      fails _
      (λ h.
      let u = on_from (b + d * page_bytes) (k * page_bytes) (q * page_bytes + i) (and_r _ _ h) in
      false≢true (sym f ∙ from_on_lem (b / page_bytes + d) k q (omega (arith, u)) (omega (arith, u))))
  erase_misses false b d k e f = fails _ (λ h. false≢true (and_l _ _ h))

  erase_hits : (w : Memory) (b d k : ℕ) → b / page_bytes * page_bytes ≡ b → from_on (b / page_bytes + d) (cond (same_memory Array w) k 0) q ≡ true
      → ((same_memory Array w and from_on (b + d * page_bytes) (k * page_bytes) (q * page_bytes + i)) ≡ true)
      × ((n : ℕ) → b + (d + k) * page_bytes ≤ memory_bytes w n → q * page_bytes + i < array_bytes n)
  erase_hits Array b d k e f =
      let u = on_from (b / page_bytes + d) k q f in
      (and_in refl (from_on_lem (b + d * page_bytes) (k * page_bytes) (q * page_bytes + i) (omega (arith, u)) (omega (arith, u))), λ n h. omega (arith, u, h))
  erase_hits Rows b d k e f = absurd (omega (arith, on_from (b / page_bytes + d) 0 q f))

  -- a place of a page that was not reached is as it was
  missed : (o : Operation) (n : ℕ) (r : Stored) (g : List ℕ) (k x : ℕ) → InOrder o n r → from_on (first_page o) (pages_by o k) q ≡ false → byte_ran k o g Array (q * page_bytes + i) x ≡ x
  missed (Program w c b a d) n r g k x s f =
      let y = byte_for c (q * page_bytes + i - b) in
      ap (λ (t : Bool). cond t (narrowed_byte x (get_or g y 0)) x) (program_misses (same_memory Array w) b d k y (program_based w c b a d n r s) f)
  missed (Erase u b d) n r g k x s f =
      ap (λ (t : Bool). cond t erased_byte x) (erase_misses (same_memory Array (memory_of u)) b d k (erase_based u b d n r s) f)
  missed (Write a v) n r g k x s f = refl

-- n ticks of a sound part, on its own array
module _ (p : Record) (s : sound p ≡ true) (xs : List ℕ) (own : length xs ≡ array_bytes p.part.blocks) (n : ℕ) where
  after_working : (o : Operation) → running p.phase ≡ Some o → (at : ℕ) → at < length xs → get_or (memory_after Array n p xs) at 0 ≡ byte_ran (working_ticks n p) o p.page Array at (get_or xs at 0)
  after_working o e at l = memory_at Array n p xs at s own l ∙ working_bytes p o e s Array at (get_or xs at 0) n

  -- a page that an erase reached is blank
  pub erased_blank : (u : EraseUnit) (b d : ℕ) → running p.phase ≡ Some (Erase u b d) → (q : ℕ) → reaches_page (record { work = Some (Erase u b d); count = working_ticks n p }) q ≡ true
      → blank_page (memory_after Array n p xs) q ≡ true
  erased_blank u b d e q f =
      let o = Erase u b d in
      let k = working_ticks n p in
      let ok = running_in_order p o e s in
      let within : b + unit_bytes u p.part.blocks ≤ memory_bytes (memory_of u) p.part.blocks = leb-true _ _ ok.within in
      page_blank (memory_after Array n p xs) q
      (λ i l.
      let h = erase_hits q i l (memory_of u) b d k (erase_based u b d p.part.blocks p.part.stored ok) f in
      after_working o e (q * page_bytes + i) (rw own (h.1 p.part.blocks (omega (arith, within, working_fits p o e s n))))
      ∙ ap (λ (t : Bool). cond t erased_byte (get_or xs (q * page_bytes + i) 0)) h.0)

  same_at : (w : Option Operation) → running p.phase ≡ w → (q : ℕ) → q < array_pages p.part.blocks → reaches_page (record { work = w; count = working_ticks n p }) q ≡ false
      → blank_page (memory_after Array n p xs) q ≡ blank_page xs q
  same_at None e q l f = ap (λ (ys : List ℕ). blank_page ys q) (rest_memory p e Array xs n)
  same_at (Some o) e q l f =
      same_page (memory_after Array n p xs) xs q
      (λ i m. after_working o e (q * page_bytes + i) (omega arith)
      ∙ missed q i m o p.part.blocks p.part.stored p.page (working_ticks n p) (get_or xs (q * page_bytes + i) 0) (running_in_order p o e s) f)

  -- one that was not reached is as it was
  pub else_same : (q : ℕ) → q < array_pages p.part.blocks → reaches_page (record { work = running p.phase; count = working_ticks n p }) q ≡ false
      → blank_page (memory_after Array n p xs) q ≡ blank_page xs q
  else_same = same_at (running p.phase) refl

-- what holds of n ticks that did so many of them work, and of none, holds of a tick call, refused or not
module _ (p : Record) (n : ℕ) (m : Memory) (xs : List ℕ) (P : ℕ → List ℕ → Type 0) (ran : P (working_ticks n p) (memory_after m n p xs)) (same : P 0 xs) (a r : ℕ) where
  call_as : (t : Bool) → eqb (tick_number p.part.blocks (sound p) a r n) 0 ≡ t
      → P (cond {A = Ticked} t (record { next = record_after n p; number = 0; done = working_ticks n p }) (record { next = p; number = tick_number p.part.blocks (sound p) a r n; done = 0 })).done (cond t (memory_after m n p xs) xs)
  call_as true e = ran
  call_as false e = same

  pub of_tick_call : P (ticked p a r n).done (ticked_memory m p a r n xs)
  unfolding ticked ticked_memory
  of_tick_call = call_as (eqb (tick_number p.part.blocks (sound p) a r n) 0) refl

module _ (p : Record) (s : sound p ≡ true) (xs : List ℕ) (own : length xs ≡ array_bytes p.part.blocks) (n a r : ℕ) where
  pub call_blank : (u : EraseUnit) (b d : ℕ) → running p.phase ≡ Some (Erase u b d) → (q : ℕ) → reaches_page (record { work = Some (Erase u b d); count = (ticked p a r n).done }) q ≡ true
      → blank_page (ticked_memory Array p a r n xs) q ≡ true
  call_blank u b d e q =
      of_tick_call p n Array xs (λ (k : ℕ) (ys : List ℕ). reaches_page (record { work = Some (Erase u b d); count = k }) q ≡ true → blank_page ys q ≡ true)
      (erased_blank p s xs own n u b d e q)
      (λ f. absurd (false≢true (sym (none_reached (Some (Erase u b d)) q) ∙ f)))
      a r

  pub call_same : (q : ℕ) → q < array_pages p.part.blocks → reaches_page (reached p (ticked p a r n)) q ≡ false
      → blank_page (ticked_memory Array p a r n xs) q ≡ blank_page xs q
  call_same q l =
      of_tick_call p n Array xs (λ (k : ℕ) (ys : List ℕ). reaches_page (record { work = running p.phase; count = k }) q ≡ false → blank_page ys q ≡ blank_page xs q)
      (else_same p s xs own n q l)
      (λ f. refl)
      a r
