-- A program within a suspended erase: what the registers show, and how it begins and goes on.
use Rattle.std.specs.Prelude.{Some}
use Prim.Native.Nat.{ℕ, ◌+◌, ◌<◌}
use mathlib.Core.Path.{◌≡◌, refl, ap, ◌∙◌, subst}
use mathlib.Core.Bool.{Bool, true, false≢true}
use mathlib.Core.List.{List}
use lib.ListN.{get_or}
use Rattle.types.specs.declared.Memory.TheVariants.{Array}
use Rattle.types.specs.declared.Operation.{Operation}
use Rattle.types.specs.declared.Operation.TheVariants.{Program, Erase, Write}
use Rattle.types.specs.declared.Phase.{Phase}
use Rattle.types.specs.declared.Phase.TheVariants.{Suspended, Nested}
use Rattle.types.specs.declared.Command.{Command}
use Rattle.types.specs.declared.Effect.{Effect}
use Rattle.types.specs.declared.Effect.TheVariants.{Programs}
use Rattle.types.specs.declared.Stored.{Stored}
use Rattle.types.specs.declared.Record.{Record}
use Rattle.types.specs.declared.Answer.{Answer}
use Rattle.words.specs.Logic.{bit}
use Rattle.words.proofs.Tests.{and_l}
use Rattle.paper.specs.Program.{data_sent, page_data, program_of}
use Rattle.paper.specs.Phases.{running, is_program, is_erase, working_on}
use Rattle.paper.specs.Records.{wip, esus, psus}
use Rattle.paper.specs.Registers.{WEL, WIP, ESUS, PSUS}
use Rattle.paper.specs.Operations.{ticks_in_all, ticks_done, advanced_by}
use Rattle.paper.specs.Soundness.{sound}
use Rattle.paper.specs.Table.{decoded, columns, addressing_on}
use Rattle.paper.specs.Commands.{changed, begins, change_by}
use Rattle.paper.specs.Calls.{transacted}
use Rattle.paper.specs.Ticks.{record_after}
use Rattle.paper.proofs.Soundness.{record_of, sound_parts, sound_in, in-nest}
use Rattle.paper.proofs.Bits.{bits_parts}
use Rattle.paper.proofs.ManyTicks.{run_record}
use Rattle.paper.proofs.Answers.{executed_so}

-- what registers show
pub record Showing (s : Stored) (wip wel esus psus : ℕ) : Type 0 where
  pub wip_shown : WIP s.status ≡ wip
  pub wel_shown : WEL s.status ≡ wel
  pub esus_shown : ESUS s.function ≡ esus
  pub psus_shown : PSUS s.function ≡ psus

-- those of a sound record show its phase and its latch
pub sound_shows : (p : Record) → sound p ≡ true → Showing p.part.stored (wip p.phase) (bit p.part.wel) (esus p.phase) (psus p.phase)
sound_shows p s =
    let a = bits_parts p.phase p.part.wel p.part.stored (sound_parts p s).bits in
    record { wip_shown = a.wip_bit; wel_shown = a.wel_bit; esus_shown = a.esus_bit; psus_shown = a.psus_bit }

-- while a program runs within a suspended erase WEL is 1
pub nested_latch : (p : Record) (e o : Operation) → p.phase ≡ Nested o e → sound p ≡ true → p.part.wel ≡ true
nested_latch p e o f s = (sound_in p (Nested o e) f s).latch

erase_bits : (e : Operation) → is_erase e ≡ true → (bit (is_erase e) ≡ 1) × (bit (is_program e) ≡ 0)
erase_bits (Program m s b k d) h = absurd (false≢true h)
erase_bits (Erase u b d) h = (refl, refl)
erase_bits (Write r v) h = absurd (false≢true h)

shows_in : (p : Record) (f : Phase) → p.phase ≡ f → sound p ≡ true → Showing p.part.stored (wip f) (bit p.part.wel) (esus f) (psus f)
shows_in p f e s = subst (λ (g : Phase). Showing p.part.stored (wip g) (bit p.part.wel) (esus g) (psus g)) e (sound_shows p s)

-- and the registers show WIP, WEL and ESUS 1 and PSUS 0
pub nested_shows : (p : Record) (e o : Operation) → p.phase ≡ Nested o e → sound p ≡ true → Showing p.part.stored 1 1 1 0
nested_shows p e o f s =
    let q = shows_in p (Nested o e) f s in
    let b = erase_bits e (in-nest e o p.part.blocks (and_l _ _ (sound_in p (Nested o e) f s).phase_ok_lem)).erases in
    record { wip_shown = q.wip_shown; wel_shown = q.wel_shown ∙ ap bit (nested_latch p e o f s); esus_shown = q.esus_shown ∙ b.0; psus_shown = q.psus_shown ∙ b.1 }

-- while an erase is suspended and nothing runs they show WIP 0, ESUS 1 and PSUS 0; WEL is 0 or 1
pub suspended_shows : (p : Record) (e : Operation) → p.phase ≡ Suspended e → is_erase e ≡ true → sound p ≡ true → Showing p.part.stored 0 (bit p.part.wel) 1 0
suspended_shows p e f h s =
    let q = shows_in p (Suspended e) f s in
    let b = erase_bits e h in
    record { wip_shown = q.wip_shown; wel_shown = q.wel_shown; esus_shown = q.esus_shown ∙ b.0; psus_shown = q.psus_shown ∙ b.1 }

-- a 02h that is executed on a part that is suspended from e begins a program within it, with three address bytes or with four; WEL is 1 still, and the bytes that count are kept
pub program_nests : (p : Record) (e : Operation) (a r : ℕ) (wp : Bool) (i : List ℕ) (o : ℕ) (k : Command) → p.phase ≡ Suspended e → decoded p.part.blocks p.part.bank (get_or i 0 0) ≡ Some k
    → (columns k).effect ≡ Programs Array → (transacted p a r wp i o).number ≡ 0
    → let q = (transacted p a r wp i o).next in
    let w = addressing_on (columns k) p.part in
    (q.phase ≡ Nested (program_of Array w p.part.blocks i) e) × (q.part.wel ≡ true) × (q.page ≡ page_data (data_sent w i))
program_nests p e a r wp i o k f d c z =
    let w = addressing_on (columns k) p.part in
    let q = ap (λ (t : Answer). t.next) (executed_so p a r wp i o k d z) ∙ ap (λ (x : Effect). changed (change_by x w (begins x w p.part.blocks i) p.part p.phase i) i p) c in
    (ap (λ (t : Record). t.phase) q ∙ ap (λ (g : Phase). working_on g (program_of Array w p.part.blocks i)) f, ap (λ (t : Record). t.part.wel) q, ap (λ (t : Record). t.page) q)

-- its ticks that are not the last go on with it
pub nested_goes_on : (p : Record) (e o : Operation) (n : ℕ) → p.phase ≡ Nested o e → ticks_done o + n < ticks_in_all o p.part.blocks → record_after n p ≡ record_of p.identity p.part (Nested (advanced_by n o) e) p.page
nested_goes_on p e o n f h =
    run_record p o (ap running f) n h ∙ ap (λ (g : Phase). record_of p.identity p.part (working_on g (advanced_by n o)) p.page) f
