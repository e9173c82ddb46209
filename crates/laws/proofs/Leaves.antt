-- What a whole program or a whole erase leaves, place by place, in terms of what was sent.
use Prim.Native.Nat.{ℕ, ◌+◌, ◌-◌, ◌*◌, ◌<◌}
use mathlib.Core.Path.{◌≡◌, refl, ap, ◌∙◌}
use mathlib.Core.Bool.{Bool, true, false, cond}
use mathlib.Core.List.{List}
use native.Mathlib.Omega.{arith}
use lib.ListN.{get_or}
use lib.Dec.{ltb}
use borrow.Author.Tests.{ltb-true, lt-ltb}
use Rattle.types.specs.declared.Memory.{Memory}
use Rattle.types.specs.declared.EraseUnit.{EraseUnit}
use Rattle.types.specs.declared.Addressing.{Addressing}
use Rattle.types.specs.declared.Record.{Record}
use Rattle.words.specs.Logic.{◌and◌}
use Rattle.words.proofs.Tests.{and_assoc, and_false, same_tests}
use Rattle.paper.specs.Sizes.{page_bytes, same_memory, from_on}
use Rattle.paper.specs.Address.{place_in}
use Rattle.paper.specs.Program.{page_base, data_sent, kept_count, passed_count, page_data, program_of, narrowed_byte}
use Rattle.paper.specs.Erase.{memory_of, unit_pages, unit_bytes, unit_base, erased_byte, erase_of}
use Rattle.paper.specs.ByPlace.{byte_ended}
use Rattle.paper.proofs.KeptBytes.{kept_byte}
use Rattle.paper.proofs.ByPlace.{from_on_lem, on_from}
use Rattle.laws.specs.Writes.{Kind, program, erase, sent_as, begun_by, byte_to, byte_programmed, byte_erased, byte_written}
use Rattle.laws.proofs.Commanded.{kept_for}

-- a byte of the data that counts
module _ (d : List ℕ) (k x : ℕ) (s f : Bool) where
  counts : from_on 0 (kept_count d - 0) k ≡ ltb k (kept_count d)
  counts =
      same_tests (from_on 0 (kept_count d - 0) k) (ltb k (kept_count d))
      (λ h. let r = on_from 0 (kept_count d - 0) k h in lt-ltb k (kept_count d) (omega (arith, r)))
      (λ h. let r : k < kept_count d = ltb-true _ _ h in from_on_lem 0 (kept_count d - 0) k (omega arith) (omega arith))

  byte_sent : (t : Bool) → ltb k (kept_count d) ≡ t
      → cond (s and f and t) (narrowed_byte x (get_or (page_data d) k 0)) x ≡ cond (s and f and t) (narrowed_byte x (get_or d (passed_count d + k) 0)) x
  byte_sent true e = ap (λ (y : ℕ). cond (s and f and true) (narrowed_byte x y) x) (kept_byte d k (ltb-true _ _ e))
  byte_sent false e =
      let z : (s and f and false) ≡ false = ap (λ (t : Bool). s and t) (and_false f) ∙ and_false s in
      rw z refl

  kept_or_sent : cond (s and f and from_on 0 (kept_count d - 0) k) (narrowed_byte x (get_or (page_data d) k 0)) x ≡ cond (s and f and ltb k (kept_count d)) (narrowed_byte x (get_or d (passed_count d + k) 0)) x
  kept_or_sent =
      ap (λ (t : Bool). cond (s and f and t) (narrowed_byte x (get_or (page_data d) k 0)) x) counts ∙ byte_sent (ltb k (kept_count d)) refl

module _ (m : Memory) (at x : ℕ) where
  program_leaves : (w : Memory) (g : Addressing) (n : ℕ) (i : List ℕ)
      → byte_ended (program_of w g n i) n (page_data (data_sent g i)) m at x ≡ byte_programmed w (place_in w g n i) (data_sent g i) m at x
  unfolding program_of
  program_leaves w g n i =
      let a = place_in w g n i in
      let d = data_sent g i in
      kept_or_sent d (byte_to a d at) x (same_memory m w) (from_on (page_base a) page_bytes at)
      ∙ ap (λ (t : Bool). cond t (narrowed_byte x (get_or d (passed_count d + byte_to a d at) 0)) x) (and_assoc (same_memory m w) (from_on (page_base a) page_bytes at) (ltb (byte_to a d at) (kept_count d)))

  erase_leaves : (u : EraseUnit) (g : Addressing) (n : ℕ) (i page : List ℕ)
      → byte_ended (erase_of u g n i) n page m at x ≡ byte_erased u n (place_in (memory_of u) g n i) m at x
  unfolding erase_of
  erase_leaves u g n i page =
      let b = unit_base u n (place_in (memory_of u) g n i) in
      let e : b + 0 * page_bytes ≡ b = omega arith in
      let f : (unit_pages u n - 0) * page_bytes ≡ unit_bytes u n = omega arith in
      ap (λ (c : ℕ). cond (same_memory m (memory_of u) and from_on c ((unit_pages u n - 0) * page_bytes) at) erased_byte x) e
      ∙ ap (λ (c : ℕ). cond (same_memory m (memory_of u) and from_on b c at) erased_byte x) f

  pub kind_leaves : (p : Record) (d : Kind) (i page : List ℕ)
      → byte_ended (begun_by p d i) p.part.blocks (kept_for d (sent_as p i) i page) m at x ≡ byte_written p d i m at x
  kind_leaves p (program w) i page = program_leaves w (sent_as p i) p.part.blocks i
  kind_leaves p (erase u) i page = erase_leaves u (sent_as p i) p.part.blocks i page
