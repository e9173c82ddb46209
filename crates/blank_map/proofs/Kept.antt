-- A map that is kept without a look at the pages of an erase is the one that the paper says: they are blank.
use Rattle.std.specs.Prelude.{None, Option, Some}
use Prim.Native.Nat.{ℕ, ◌+◌}
use mathlib.Core.Path.{◌≡◌, refl, sym}
use mathlib.Core.Bool.{true}
use mathlib.Core.List.{List}
use native.Mathlib.Omega.{arith}
use lib.ListN.{length}
use Rattle.types.specs.declared.Memory.TheVariants.{Array}
use Rattle.types.specs.declared.Operation.{Operation}
use Rattle.types.specs.declared.Operation.TheVariants.{Program, Erase, Write}
use Rattle.types.specs.declared.Record.{Record}
use Rattle.words.proofs.BitLists.{puts_same}
use Rattle.paper.specs.Sizes.{array_bytes}
use Rattle.paper.specs.Phases.{running}
use Rattle.paper.specs.Soundness.{sound}
use Rattle.paper.specs.Calls.{ticked, ticked_memory}
use Rattle.paper.specs.Reached.{reached, first_page, pages_by}
use Rattle.paper.specs.Map.{blank_page, kept}
use Rattle.paper.proofs.ByPlace.{from_on_lem}
use Rattle.paper.proofs.BlankPages.{call_blank}
use Rattle.blank_map.specs.Marked.{marked_by, marked}

-- a tick call of a sound part, on its own array
module _ (p : Record) (s : sound p ≡ true) (xs : List ℕ) (own : length xs ≡ array_bytes p.part.blocks) (a r n : ℕ) (m : List ℕ) where
  abbrev done : ℕ
  done = (ticked p a r n).done

  abbrev left : List ℕ
  left = ticked_memory Array p a r n xs

  marked_by_lem : (o : Operation) → running p.phase ≡ Some o → marked_by o done left m ≡ kept (record { work = Some o; count = done }) left m
  unfolding kept
  marked_by_lem (Program w c b k d) e = refl
  marked_by_lem (Erase u b d) e =
      let f = first_page (Erase u b d) in
      let k = pages_by (Erase u b d) done in
      puts_same (λ q. true) (blank_page left) k f m
      (λ i l. sym (call_blank p s xs own n a r u b d e (f + i) (from_on_lem f k (f + i) (omega arith) (omega arith))))
  marked_by_lem (Write q v) e = refl

  marked_in_lem : (w : Option Operation) → running p.phase ≡ w → marked (record { work = w; count = done }) left m ≡ kept (record { work = w; count = done }) left m
  unfolding marked kept
  marked_in_lem None e = refl
  marked_in_lem (Some o) e = marked_by_lem o e

  pub marked_kept : marked (reached p (ticked p a r n)) (ticked_memory Array p a r n xs) m ≡ kept (reached p (ticked p a r n)) (ticked_memory Array p a r n xs) m
  marked_kept = marked_in_lem (running p.phase) refl
