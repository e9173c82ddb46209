-- Touches, place by place: what a touch, the touches of so many ticks, and a tick call leave at each place of a memory is what the history says of its byte.
use Rattle.std.specs.Prelude.{None, Option, Some}
use Prim.Native.Nat.{ℕ, zero, suc, ◌+◌, ◌≤◌, ◌<◌}
use mathlib.Core.Path.{◌≡◌, refl, sym, ap, ◌∙◌}
use mathlib.Core.Bool.{Bool, true, false, cond}
use mathlib.Core.List.{List, [], ◌∷◌}
use native.Mathlib.Omega.{arith}
use lib.ListN.{length, get_or}
use lib.Seq.{get_or-set_same, get_or-set_other}
use lib.Dec.{eqb}
use borrow.Author.Tests.{eqb-true, eqb-false, leb-true, le-leb}
use Rattle.types.specs.declared.Memory.{Memory}
use Rattle.types.specs.declared.Memory.TheVariants.{Array, Rows}
use Rattle.types.specs.declared.Operation.{Operation}
use Rattle.types.specs.declared.Operation.TheVariants.{Program, Erase, Write}
use Rattle.types.specs.declared.Stored.{Stored}
use Rattle.types.specs.declared.Record.{Record}
use Rattle.words.specs.Logic.{◌and◌}
use Rattle.paper.specs.Sizes.{memory_bytes, page_bytes, from_on}
use Rattle.paper.specs.Program.{narrowed_byte, narrowed}
use Rattle.paper.specs.Erase.{memory_of, unit_bytes, erased_byte, page_erased}
use Rattle.paper.specs.Phases.{running}
use Rattle.paper.specs.Operations.{Touch, none, blank, narrow, next_touch, touched}
use Rattle.paper.specs.Soundness.{sound}
use Rattle.paper.specs.Ticks.{record_after, touch_at, touch_of, memory_after}
use Rattle.paper.specs.Numbers.{tick_number}
use Rattle.paper.specs.Calls.{ticked_memory}
use Rattle.paper.specs.History.{tick_touches, byte_after, byte_after_all}
use Rattle.paper.proofs.Pages.{erased_length, narrowed_length, stretch_at}
use Rattle.paper.proofs.Soundness.{InOrder, running_in_order}
use Rattle.paper.proofs.Kept.{run_sound, run_size}
use Rattle.paper.proofs.Histories.{bytes_append}

-- a place of a memory after a page of it was set to FFh
page_at_lem : (xs : List ℕ) (b at : ℕ) → b + page_bytes ≤ length xs → get_or (page_erased xs b) at 0 ≡ cond (from_on b page_bytes at) erased_byte (get_or xs at 0)
unfolding page_erased
page_at_lem xs b at h = rw (le-leb _ _ h) (stretch_at xs b page_bytes at h)

-- a place of a memory after a place of it was narrowed
module _ (xs : List ℕ) (a d at : ℕ) (l : at < length xs) where
  narrowed_as : (t : Bool) → eqb at a ≡ t → get_or (narrowed xs a d) at 0 ≡ cond t (narrowed_byte (get_or xs at 0) d) (get_or xs at 0)
  unfolding narrowed
  narrowed_as true e =
      let s : at ≡ a = eqb-true _ _ e in
      rw (← s) (get_or-set_same xs at (narrowed_byte (get_or xs at 0) d) 0 l)
  narrowed_as false e = get_or-set_other xs a at (narrowed_byte (get_or xs a 0) d) 0 (eqb-false _ _ e)

  narrowed_at : get_or (narrowed xs a d) at 0 ≡ cond (eqb at a) (narrowed_byte (get_or xs at 0) d) (get_or xs at 0)
  narrowed_at = narrowed_as (eqb at a) refl

-- a touch whose page, if it is one, lies in its memory, on a part of n blocks
abbrev Fits : Touch → ℕ → Type 0
Fits none n = 0 ≤ n
Fits (blank w b) n = b + page_bytes ≤ memory_bytes w n
Fits (narrow w a d) n = 0 ≤ n

touched_at : (m : Memory) (t : Touch) (n : ℕ) (xs : List ℕ) (at : ℕ) → Fits t n → length xs ≡ memory_bytes m n → at < length xs → get_or (touched m t xs) at 0 ≡ byte_after m at t (get_or xs at 0)
unfolding ◌and◌
touched_at m none n xs at f e l = refl
touched_at Array (blank Array b) n xs at f e l = page_at_lem xs b at (omega (arith, f, e))
touched_at Array (blank Rows b) n xs at f e l = refl
touched_at Rows (blank Array b) n xs at f e l = refl
touched_at Rows (blank Rows b) n xs at f e l = page_at_lem xs b at (omega (arith, f, e))
touched_at Array (narrow Array a d) n xs at f e l = narrowed_at xs a d at l
touched_at Array (narrow Rows a d) n xs at f e l = refl
touched_at Rows (narrow Array a d) n xs at f e l = refl
touched_at Rows (narrow Rows a d) n xs at f e l = narrowed_at xs a d at l

touched_length : (m : Memory) (t : Touch) (xs : List ℕ) → length (touched m t xs) ≡ length xs
touched_length m none xs = refl
touched_length Array (blank Array b) xs = erased_length xs b
touched_length Array (blank Rows b) xs = refl
touched_length Rows (blank Array b) xs = refl
touched_length Rows (blank Rows b) xs = erased_length xs b
touched_length Array (narrow Array a d) xs = narrowed_length xs a d
touched_length Array (narrow Rows a d) xs = refl
touched_length Rows (narrow Array a d) xs = refl
touched_length Rows (narrow Rows a d) xs = narrowed_length xs a d

-- what the next tick of a sound record reaches
next_fits : (o : Operation) (g : List ℕ) (n : ℕ) (s : Stored) → InOrder o n s → Fits (next_touch o g) n
next_fits (Program m c b k d) g n s i = omega arith
next_fits (Erase u b d) g n s i =
    let w : b + unit_bytes u n ≤ memory_bytes (memory_of u) n = leb-true _ _ i.within in
    omega (arith, i.going, w)
next_fits (Write r v) g n s i = omega arith

module _ (p : Record) (s : sound p ≡ true) where
  fits_at : (w : Option Operation) → running p.phase ≡ w → Fits (touch_at w p.page) p.part.blocks
  fits_at None e = omega arith
  fits_at (Some o) e = next_fits o p.page p.part.blocks p.part.stored (running_in_order p o e s)

  touch_fits : Fits (touch_of p) p.part.blocks
  touch_fits = fits_at (running p.phase) refl

-- a memory after n ticks
pub memory_length : (m : Memory) (n : ℕ) (p : Record) (xs : List ℕ) → length (memory_after m n p xs) ≡ length xs
memory_length m zero p xs = refl
memory_length m (suc n) p xs = touched_length m (touch_of (record_after n p)) (memory_after m n p xs) ∙ memory_length m n p xs

-- and after a tick call, refused or not
module _ (m : Memory) (p : Record) (a r n : ℕ) (xs : List ℕ) where
  length_as_lem : (t : Bool) → eqb (tick_number p.part.blocks (sound p) a r n) 0 ≡ t → length (ticked_memory m p a r n xs) ≡ length xs
  unfolding ticked_memory
  length_as_lem true e = rw e (memory_length m n p xs)
  length_as_lem false e = rw e refl

  pub ticked_length : length (ticked_memory m p a r n xs) ≡ length xs
  ticked_length = length_as_lem (eqb (tick_number p.part.blocks (sound p) a r n) 0) refl

pub memory_at : (m : Memory) (n : ℕ) (p : Record) (xs : List ℕ) (at : ℕ) → sound p ≡ true → length xs ≡ memory_bytes m p.part.blocks → at < length xs
    → get_or (memory_after m n p xs) at 0 ≡ byte_after_all m at (tick_touches n p) (get_or xs at 0)
memory_at m zero p xs at s e l = refl
memory_at m (suc n) p xs at s e l =
    let q = record_after n p in
    let z = memory_length m n p xs in
    touched_at m (touch_of q) q.part.blocks (memory_after m n p xs) at (touch_fits q (run_sound n p s)) (z ∙ e ∙ ap (memory_bytes m) (sym (run_size n p))) (rw z l)
    ∙ ap (byte_after m at (touch_of q)) (memory_at m n p xs at s e l)
    ∙ sym (bytes_append m at (tick_touches n p) (touch_of q ∷ []) (get_or xs at 0))
