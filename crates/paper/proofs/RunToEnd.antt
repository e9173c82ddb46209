-- Run to the end: an operation that runs on a sound part ends with the ticks that are left, and ticks past them change nothing. The part is then idle, or suspended again from the erase that the operation ran within; WEL is 0, page data is zero, and every byte is as the whole operation leaves it.
use Rattle.std.specs.Prelude.{Some}
use Prim.Native.Nat.{ℕ, suc, ◌+◌, ◌-◌, ◌≤◌}
use mathlib.Core.Path.{◌≡◌, ap, ◌∙◌, subst⁻¹}
use mathlib.Core.Bool.{true, false}
use native.Mathlib.Omega.{arith}
use borrow.Author.Tests.{leb-true}
use Rattle.types.specs.declared.Memory.{Memory}
use Rattle.types.specs.declared.EraseUnit.{EraseUnit}
use Rattle.types.specs.declared.EraseUnit.TheVariants.{Sector, Block32, Block64, Chip, Row}
use Rattle.types.specs.declared.Operation.{Operation}
use Rattle.types.specs.declared.Operation.TheVariants.{Program, Erase, Write}
use Rattle.types.specs.declared.Phase.{Phase}
use Rattle.types.specs.declared.Stored.{Stored}
use Rattle.types.specs.declared.Record.{Record}
use Rattle.types.specs.declared.Ticked.{Ticked}
use Rattle.words.proofs.Tests.{and_l, and_r}
use Rattle.paper.specs.Sizes.{size_ok, page_bytes, tick_limit}
use Rattle.paper.specs.Program.{no_data}
use Rattle.paper.specs.Erase.{unit_pages}
use Rattle.paper.specs.Phases.{running, rest_of}
use Rattle.paper.specs.Soundness.{sound}
use Rattle.paper.specs.Ticks.{finished, record_after}
use Rattle.paper.specs.Operations.{ticks_in_all, ticks_left}
use Rattle.paper.specs.History.{ticks, record_after_call, tick_touches, byte_after_all}
use Rattle.paper.specs.ByPlace.{byte_ended}
use Rattle.paper.proofs.Soundness.{InOrder, running_in_order}
use Rattle.paper.proofs.ManyTicks.{run_past}
use Rattle.paper.proofs.Sizes.{limit_range, chip_few}
use Rattle.paper.proofs.Answers.{ticks_run}
use Rattle.paper.proofs.ByPlace.{ended_bytes}

-- a part that rests after an operation, in the phase f
pub record Rests (f : Phase) (q : Record) : Type 0 where
  pub phase_is : q.phase ≡ f
  pub latch : q.part.wel ≡ false
  pub page_data_lem : q.page ≡ no_data

module _ (p : Record) (o : Operation) (e : running p.phase ≡ Some o) (s : sound p ≡ true) (n : ℕ) (l : ticks_left o p.part.blocks ≤ n) where
  in-order-now : InOrder o p.part.blocks p.part.stored
  in-order-now = running_in_order p o e s

  pub run_ends : record_after n p ≡ finished p o
  run_ends =
      let k = ticks_left o p.part.blocks - 1 in
      let z : n ≡ suc k + (n - suc k) = omega (arith, in-order-now.going) in
      ap (λ (j : ℕ). record_after j p) z ∙ run_past p o e k (n - suc k) (omega (arith, in-order-now.going))

  pub run_rests : (f : Phase) → p.phase ≡ f → Rests (rest_of f) (record_after n p)
  run_rests f h =
      record { phase_is = ap (λ (q : Record). q.phase) run_ends ∙ ap rest_of h; latch = ap (λ (q : Record). q.part.wel) run_ends; page_data_lem = ap (λ (q : Record). q.page) run_ends }

  pub run_leaves : (m : Memory) (at x : ℕ) → byte_after_all m at (tick_touches n p) x ≡ byte_ended o p.part.blocks p.page m at x
  run_leaves m at x = ended_bytes p o e in-order-now m at x n l

  -- in one call
  pub call_rests : n ≤ tick_limit p.part.blocks → (f : Phase) → p.phase ≡ f → Rests (rest_of f) (record_after_call (ticks n) p)
  call_rests few f h = subst⁻¹ (Rests (rest_of f)) (ap (λ (t : Ticked). t.next) (ticks_run p s n few)) (run_rests f h)

-- which may ask as many ticks as the operation takes
pub pages_few : (u : EraseUnit) (n : ℕ) → size_ok n ≡ true → unit_pages u n ≤ tick_limit n
pages_few Sector n h = omega (arith, (limit_range n).0)
pages_few Block32 n h = omega (arith, (limit_range n).0)
pages_few Block64 n h = omega (arith, (limit_range n).0)
pages_few Chip n h = chip_few n h
pages_few Row n h = omega (arith, (limit_range n).0)

pub ticks_few : (o : Operation) (n : ℕ) (g : Stored) → size_ok n ≡ true → InOrder o n g → ticks_in_all o n ≤ tick_limit n
ticks_few (Program m s b k d) n g h i =
    let c : k ≤ page_bytes = leb-true _ _ (and_l _ _ (and_r _ _ i.content)) in
    omega (arith, (limit_range n).0)
ticks_few (Erase u b d) n g h i = pages_few u n h
ticks_few (Write r v) n g h i = omega (arith, (limit_range n).0)
