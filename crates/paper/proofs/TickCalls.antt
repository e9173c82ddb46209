-- A tick call is so many ticks: as many as it asks, or none where it asks too many.
use Prim.Native.Nat.{ℕ}
use mathlib.Core.Path.{◌≡◌, refl, ap}
use mathlib.Core.Bool.{Bool, true, false, cond}
use lib.Dec.{leb}
use borrow.Author.Tests.{leb-true}
use Rattle.types.specs.declared.Record.{Record}
use Rattle.types.specs.declared.Ticked.{Ticked}
use Rattle.paper.specs.Sizes.{tick_limit}
use Rattle.paper.specs.Soundness.{sound}
use Rattle.paper.specs.Ticks.{record_after}
use Rattle.paper.specs.History.{ticks, record_after_call, ticks_by, tick_touches, reached_by, call_touches}
use Rattle.paper.proofs.Answers.{ticks_run, ticks_refused}

-- a call of n ticks is k ticks
pub record Passes (p : Record) (n k : ℕ) : Type 0 where
  pub next : record_after_call (ticks n) p ≡ record_after k p
  pub reached : call_touches (ticks n) p ≡ tick_touches k p

module _ (p : Record) (s : sound p ≡ true) (n : ℕ) where
  passes_as : (t : Bool) → leb n (tick_limit p.part.blocks) ≡ t → Passes p n (cond t n 0)
  passes_as true e =
      let z = ticks_run p s n (leb-true _ _ e) in
      record { next = ap (λ (t : Ticked). t.next) z; reached = ap (λ (t : Ticked). reached_by t.number n p) z }
  passes_as false e =
      let z = ticks_refused p s n e in
      record { next = ap (λ (t : Ticked). t.next) z; reached = ap (λ (t : Ticked). reached_by t.number n p) z }

  pub ticks_pass : Passes p n (ticks_by p.part.blocks (ticks n))
  ticks_pass = passes_as (leb n (tick_limit p.part.blocks)) refl
