-- A sound record whose page data is a page fits its bytes, so that it is read back from them; and so is a sound record after a change.
use Rattle.std.specs.Prelude.{None, Option, Some}
use Prim.Native.Nat.{ℕ, ◌+◌, ◌^◌, ◌≤◌}
use mathlib.Core.Path.{◌≡◌, refl, sym, ap, ◌∙◌}
use mathlib.Core.Bool.{true}
use mathlib.Core.List.{List}
use native.Mathlib.Omega.{arith}
use lib.ListN.{length}
use borrow.Author.Tests.{leb-true}
use Rattle.types.specs.declared.Memory.{Memory}
use Rattle.types.specs.declared.Memory.TheVariants.{Array, Rows}
use Rattle.types.specs.declared.Operation.{Operation}
use Rattle.types.specs.declared.Operation.TheVariants.{Program, Erase, Write}
use Rattle.types.specs.declared.Stored.{Stored}
use Rattle.types.specs.declared.Change.{Change}
use Rattle.types.specs.declared.Record.{Record}
use Rattle.words.proofs.Tests.{and_l, and_r}
use Rattle.paper.specs.Sizes.{memory_bytes, page_bytes}
use Rattle.paper.specs.Erase.{memory_of, unit_bytes}
use Rattle.paper.specs.Phases.{running, halted}
use Rattle.paper.specs.Soundness.{sound}
use Rattle.paper.specs.Commands.{data_after, changed}
use Rattle.paper.proofs.Sizes.{size_range}
use Rattle.paper.proofs.Pages.{unit_pages_le}
use Rattle.paper.proofs.KeptBytes.{after_page}
use Rattle.paper.proofs.Soundness.{InOrder, sound_parts, running_in_order, halted_in_order}
use Rattle.cells.specs.Operations.{cells_of, work_cells}
use Rattle.record_bytes.specs.Layout.{change_written}
use Rattle.record_bytes.specs.Read.{held, record_in, Fitting, Fits}
use Rattle.record_bytes.proofs.Back.{read_back, lent_length, held_page}
use Rattle.record_bytes.proofs.Changed.{held_changed}

memory_few : (m : Memory) (n : ℕ) → n ≤ 512 → memory_bytes m n ≤ 2 ^ 25
memory_few Array n h = omega arith
memory_few Rows n h = omega arith

-- an operation that is in order on a part of at most 512 blocks
operation_fits : (n : ℕ) (g : Stored) (o : Operation) → n ≤ 512 → InOrder o n g → Fitting (cells_of o)
operation_fits n g (Program m s b k d) few i =
    let inside : b + page_bytes ≤ memory_bytes m n = leb-true _ _ i.within in
    let kept : k ≤ page_bytes = leb-true _ _ (and_l _ _ (and_r _ _ i.content)) in
    record { base = omega (arith, memory_few m n few); count = omega arith; done = omega (arith, i.going) }
operation_fits n g (Erase u b d) few i =
    let inside : b + unit_bytes u n ≤ memory_bytes (memory_of u) n = leb-true _ _ i.within in
    record { base = omega (arith, memory_few (memory_of u) n few); count = omega arith; done = omega (arith, i.going, unit_pages_le u n (omega arith)) }
operation_fits n g (Write r v) few i = record { base = omega arith; count = omega arith; done = omega arith }

-- what runs or is suspended, where it is in order if it is an operation
work_fits : (n : ℕ) (g : Stored) (w : Option Operation) → n ≤ 512 → ((o : Operation) → w ≡ Some o → InOrder o n g) → Fitting (work_cells w)
work_fits n g None few h = record { base = omega arith; count = omega arith; done = omega arith }
work_fits n g (Some o) few h = operation_fits n g o few (h o refl)

pub sound_fits : (p : Record) → sound p ≡ true → length p.page ≡ page_bytes → Fits p
sound_fits p s h =
    let few : p.part.blocks ≤ 512 = (size_range p.part.blocks (sound_parts p s).size).1 in
    let n = p.part.blocks in
    let g = p.part.stored in
    record { blocks = omega arith; runs = work_fits n g (running p.phase) few (λ o e. running_in_order p o e s); suspended = work_fits n g (halted p.phase) few (λ o e. halted_in_order p o e s); page = h }

-- the page data of a record that bytes hold is a page
pub held_page_length : (bs : List ℕ) → (record_in bs).ok ≡ true → length (record_in bs).state.page ≡ page_bytes
held_page_length bs h = ap length (sym (held_page bs h)) ∙ lent_length bs h

-- after a change that leaves it sound, bytes hold the changed record
pub changed_held : (c : Change) (i bs : List ℕ) → (record_in bs).ok ≡ true → sound (changed c i (record_in bs).state) ≡ true → record_in (change_written c i bs) ≡ held (changed c i (record_in bs).state)
changed_held c i bs h s =
    let p = (record_in bs).state in
    let page = after_page (data_after c) i p.page (held_page_length bs h) in
    ap record_in (held_changed c i bs h) ∙ read_back (changed c i p) (sound_fits (changed c i p) s page)
