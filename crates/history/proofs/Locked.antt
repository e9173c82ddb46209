-- A locked row stays locked, from every record and over any calls: each call keeps the IRL bit. So a row that is locked at first is locked throughout, and holds its starting values.
use Prim.Native.Nat.{ℕ, ◌/◌, ◌<◌}
use mathlib.Core.Path.{◌≡◌, refl, sym, ap, ◌∙◌}
use mathlib.Core.Bool.{Bool, true, false, not}
use mathlib.Core.List.{List, [], ◌∷◌}
use lib.ListN.{length, get_or}
use Rattle.types.specs.declared.Memory.TheVariants.{Rows}
use Rattle.types.specs.declared.Record.{Record}
use Rattle.words.proofs.Tests.{and_in}
use Rattle.paper.specs.Sizes.{array_bytes, rows_bytes, page_bytes}
use Rattle.paper.specs.Protection.{locked}
use Rattle.paper.specs.Soundness.{sound}
use Rattle.paper.specs.History.{Call, record_after_call, record_after_calls, shielded, shielded_throughout}
use Rattle.paper.proofs.LocksKept.{call_locked}
use Rattle.history.specs.Run.{Run}
use Rattle.history.proofs.Told.{run_told}
use Rattle.history.proofs.Shielded.{locked_kept}

-- row k's IRL bit
pub locks_stay : (cs : List Call) (k : ℕ) (p : Record) → locked p.part.stored.function k ≡ true → locked (record_after_calls cs p).part.stored.function k ≡ true
locks_stay [] k p h = h
locks_stay (c ∷ cs) k p h = locks_stay cs k (record_after_call c p) (call_locked c k p h)

twice : (b : Bool) → not (not b) ≡ b
twice true = refl
twice false = refl

-- the place at of the rows is one of a locked row
module _ (at : ℕ) where
  pub row_stays_locked : (cs : List Call) (p : Record) → shielded Rows at p ≡ true → shielded Rows at (record_after_calls cs p) ≡ true
  row_stays_locked cs p h =
      ap (λ (b : Bool). not (not b)) (locks_stay cs (at / page_bytes) p (sym (twice (locked p.part.stored.function (at / page_bytes))) ∙ h))

  pub locked_throughout : (cs : List Call) (p : Record) → shielded Rows at p ≡ true → shielded_throughout Rows at cs p ≡ true
  locked_throughout [] p h = h
  locked_throughout (c ∷ cs) p h = and_in h (locked_throughout cs (record_after_call c p) (row_stays_locked (c ∷ []) p h))

-- a run of calls from a sound record over the part's own memory
module _ {cs : List Call} {p q : Record} {xs rs ys ts : List ℕ} (run : Run p xs rs cs q ys ts) (s : sound p ≡ true) (a : length xs ≡ array_bytes p.part.blocks) (r : length rs ≡ rows_bytes) where
  pub locked_row_kept : (at : ℕ) → at < length rs → shielded Rows at p ≡ true → (shielded Rows at q ≡ true) × (get_or ts at 0 ≡ get_or rs at 0)
  locked_row_kept at l h =
      (ap (shielded Rows at) (run_told run s a r).next ∙ row_stays_locked at cs p h, locked_kept run s a r at l (locked_throughout at cs p h))
