-- The laws of wear: each is one of the definitions', or follows from what calls count of each sector.
use Prim.Native.Nat.{ℕ, suc, ◌%◌, ◌≤◌, ◌<◌}
use mathlib.Core.Path.{◌≡◌, refl, sym, ap, ◌∙◌}
use mathlib.Core.Bool.{Bool, true, false}
use mathlib.Core.List.{List}
use native.Mathlib.Omega.{arith}
use lib.Dec.{ltb}
use lib.ListN.{length, get_or, length-replicate, get_or-replicate, get_or-eq_default}
use lib.Seq.{ext_get_or}
use borrow.Author.Tests.{eq-eqb, ne_eqb, ltb-true, ltb-false}
use Rattle.types.specs.declared.Wear.{Wear}
use Rattle.words.specs.Logic.{◌and◌}
use Rattle.paper.specs.Sizes.{array_sectors, sector_pages}
use Rattle.paper.specs.History.{Call}
use Rattle.paper.specs.Board.{Board, Own}
use Rattle.paper.specs.Wear.{unworn, full_count, Count, history_counts, erases_of, programs_of, wear_after_calls}
use Rattle.paper.proofs.Soundness.{sound_parts}
use Rattle.paper.proofs.Wear.{erasing, programming, erases_count, programs_count, calls_length, calls_field}
use Rattle.wear_text.specs.TextLaws.{AreCounts, erases_in, programs_in, sum_of}
use Rattle.wear_text.proofs.TextLaws.{text_laws}
use Rattle.wear_laws.specs.WearLaws.{EraseCounts, ProgramCounts, RowsCountNothing, Counted, CallsCount, Fixed, NoneFull, AsCounted, zeroed, SinceZeroed, WearLaws}
use Rattle.wear_laws.proofs.Totals.{history_inside, sum_same, sum_erases, sum_programs}
use Rattle.wear_laws.proofs.Stands.{ticks_stand, scripts_stand}

-- what the next tick counts
erase_counts : EraseCounts
unfolding ◌and◌
erase_counts u b d m = (λ z. rw (m, eq-eqb (suc d % sector_pages) 0 z) refl, λ h. rw (m, ne_eqb (suc d % sector_pages) 0 h) refl)

program_counts : ProgramCounts
unfolding ◌and◌
program_counts s b k d = (λ z. rw (eq-eqb (suc d) k z) refl, λ h. rw (ne_eqb (suc d) k h) refl)

rows_count_nothing : RowsCountNothing
unfolding ◌and◌
rows_count_nothing u s b k d r v = (λ m. rw m refl, refl, refl)

-- what calls count
calls_count : CallsCount
calls_count cs b ws own counts =
    record {
      size = calls_length cs b ws;
      erases = λ q l. calls_field erasing erases_count cs b own ws q l (counts q).0;
      programs = λ q l. calls_field programming programs_count cs b own ws q l (counts q).1;
    }

-- and that fixes the records
fixed : Fixed
fixed cs ws vs us v u =
    ext_get_or unworn vs us (v.size ∙ sym u.size)
    (λ q l.
    let in-range : q < length ws = omega (arith, l, v.size) in
    ap (λ (n : ℕ). record { erases = n; programs = (get_or vs q unworn).programs }) (v.erases q in-range ∙ sym (u.erases q in-range))
    ∙ ap (λ (n : ℕ). record { erases = (get_or us q unworn).erases; programs = n }) (v.programs q in-range ∙ sym (u.programs q in-range)))

-- from zeroed records on
module _ (cs : List Call) (b : Board) (own : Own b) where
  abbrev n : ℕ
  n = b.state.part.blocks

  abbrev after : List Wear
  after = wear_after_calls cs b (zeroed n)

  abbrev told : List Count
  told = history_counts cs b.state

  zero_at : (q : ℕ) → get_or (zeroed n) q unworn ≡ unworn
  zero_at q = by_test (ltb q (array_sectors n)) refl
    where
      by_test : (t : Bool) → ltb q (array_sectors n) ≡ t → get_or (zeroed n) q unworn ≡ unworn
      by_test true e = get_or-replicate (array_sectors n) q unworn unworn (ltb-true q (array_sectors n) e)
      by_test false e = get_or-eq_default (zeroed n) unworn (omega (arith, ltb-false q (array_sectors n) e, length-replicate (array_sectors n) unworn))

  zero_counts : AreCounts (zeroed n)
  zero_counts q = rw (zero_at q) (omega arith, omega arith)

  counted : Counted told (zeroed n) after
  counted = calls_count cs b (zeroed n) own zero_counts

  sized : length after ≡ array_sectors n
  sized = counted.size ∙ length-replicate (array_sectors n) unworn

  module _ (none : NoneFull after) (q : ℕ) (l : q < array_sectors n) where
    there : q < length (zeroed n)
    there = omega (arith, l, length-replicate (array_sectors n) unworn)

    same_erases : erases_in after q ≡ erases_of q told
    same_erases =
        let e = rw (zero_at q) at (counted.erases q there) in
        let f = (none q (omega (arith, l, sized))).0 in
        omega (arith, e, f)

    same_programs : programs_in after q ≡ programs_of q told
    same_programs =
        let e = rw (zero_at q) at (counted.programs q there) in
        let f = (none q (omega (arith, l, sized))).1 in
        omega (arith, e, f)

  after_counts : AreCounts after
  after_counts q = by_test (ltb q (length after)) refl
    where
      by_test : (t : Bool) → ltb q (length after) ≡ t → (erases_in after q ≤ full_count) × (programs_in after q ≤ full_count)
      by_test true e =
          let l : q < length (zeroed n) = omega (arith, ltb-true q (length after) e, counted.size) in
          (omega (arith, counted.erases q l), omega (arith, counted.programs q l))
      by_test false e =
          let z = get_or-eq_default after unworn (ltb-false q (length after) e) in
          (omega (arith, ap (λ (w : Wear). w.erases) z), omega (arith, ap (λ (w : Wear). w.programs) z))

  as_counted : NoneFull after → AsCounted n told after
  as_counted none =
      let sums = text_laws.sums n after (sound_parts b.state own.is_sound).size sized after_counts in
      record {
        size = sized;
        erases = same_erases none;
        programs = same_programs none;
        erases_in_all = sums.total_erases ∙ ap (sum_of (erases_in after)) sized ∙ sum_same (array_sectors n) (erases_in after) (λ (q : ℕ). erases_of q told) (same_erases none) ∙ sum_erases (array_sectors n) told (history_inside cs b.state own.is_sound);
        programs_in_all = sums.total_programs ∙ ap (sum_of (programs_in after)) sized ∙ sum_same (array_sectors n) (programs_in after) (λ (q : ℕ). programs_of q told) (same_programs none) ∙ sum_programs (array_sectors n) told (history_inside cs b.state own.is_sound);
      }

since_zeroed : SinceZeroed
since_zeroed cs b own none = as_counted cs b own none

pub wear_laws : WearLaws
wear_laws =
    record {
      erase_counts = erase_counts;
      program_counts = program_counts;
      rows_count_nothing = rows_count_nothing;
      calls_count = calls_count;
      fixed = fixed;
      since_zeroed = since_zeroed;
      ticks_stand = ticks_stand;
      scripts_stand = scripts_stand;
    }
