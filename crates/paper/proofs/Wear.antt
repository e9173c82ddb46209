-- Wear: the tally of a call counts for each sector what its ticks count one by one, and a record goes with them up to the largest value of a count; so it is over calls, whatever memory holds.
use Rattle.std.specs.Prelude.{None, Option, Some}
use Prim.Native.Nat.{ℕ, zero, suc, ◌+◌, ◌-◌, ◌/◌, ◌%◌, ◌≤◌, ◌<◌, min}
use mathlib.Core.Path.{◌≡◌, refl, sym, ap, ◌∙◌}
use mathlib.Core.Bool.{Bool, true, false, cond}
use mathlib.Core.List.{List, [], ◌∷◌, ◌++◌, append-nil, append_assoc}
use native.Mathlib.Omega.{arith}
use native.Mathlib.Nat.{add-zero, add-suc, zero-add}
use native.Mathlib.Numerals.{add-one}
use lib.Dec.{eqb, ltb, leb}
use lib.ListN.{length, get_or, replicate, replicate-append-replicate}
use borrow.Author.Tests.{eqb-true, eqb-false, leb-true, ltb-true, ltb-false}
use Rattle.types.specs.declared.Memory.{Memory}
use Rattle.types.specs.declared.Memory.TheVariants.{Array}
use Rattle.types.specs.declared.EraseUnit.{EraseUnit}
use Rattle.types.specs.declared.Register.{Register}
use Rattle.types.specs.declared.Operation.{Operation}
use Rattle.types.specs.declared.Operation.TheVariants.{Program, Erase, Write}
use Rattle.types.specs.declared.Record.{Record}
use Rattle.types.specs.declared.Ticked.{Ticked}
use Rattle.types.specs.declared.Wear.{Wear}
use Rattle.types.specs.declared.Tally.{Tally}
use Rattle.words.specs.Logic.{◌and◌, ◌or◌, bit, when_zero}
use Rattle.words.specs.Lists.{each_from}
use Rattle.words.proofs.Tests.{and_r, and_false, or_true, or_false, same_tests, fails}
use Rattle.words.proofs.Lists.{length_each, get_d_each}
use Rattle.paper.specs.Sizes.{same_memory, from_on, sector_bytes, sector_pages, array_bytes, rows_bytes, tick_limit}
use Rattle.paper.specs.Erase.{memory_of}
use Rattle.paper.specs.Phases.{running}
use Rattle.paper.specs.Operations.{ticks_in_all, ticks_done, ticks_left, advanced_by}
use Rattle.paper.specs.Soundness.{sound}
use Rattle.paper.specs.Ticks.{record_after, working_ticks}
use Rattle.paper.specs.Calls.{ticked}
use Rattle.paper.specs.Reached.{reached}
use Rattle.paper.specs.History.{Call, transaction, ticks, record_after_call}
use Rattle.paper.specs.Board.{Board, Own, waited, after_call}
use Rattle.paper.specs.Wear.{unworn, full_count, one_more, Count, no_count, erase, program, next_count, work_count, tick_counts, call_counts, history_counts, erases_of, programs_of, tally_by, tally_in, tally_of, worn_by, worn, wear_after_call, wear_after_calls}
use Rattle.paper.proofs.Soundness.{running_in_order}
use Rattle.paper.proofs.ManyTicks.{run_runs, run_past, past_runs, rest_record, rest_works}
use Rattle.paper.proofs.Answers.{ticks_run, ticks_refused}
use Rattle.paper.proofs.ByPlace.{from_on_lem, on_from}
use Rattle.paper.proofs.Boards.{call_own, own_state}
use Rattle.paper.proofs.Reached.{working_is}

-- records with a tally, place by place
pub worn_length : (t : Tally) (ws : List Wear) → length (worn t ws) ≡ length ws
unfolding worn
worn_length t ws = length_each 0 (worn_by t) ws

pub worn_at : (t : Tally) (ws : List Wear) (q : ℕ) → q < length ws → get_or (worn t ws) q unworn ≡ worn_by t q (get_or ws q unworn)
unfolding worn
worn_at t ws q h = get_d_each 0 (worn_by t) ws q unworn h ∙ ap (λ (j : ℕ). worn_by t j (get_or ws q unworn)) (zero-add q)

-- nothing lies within a stretch of no places
pub none_on : (b a : ℕ) → from_on b 0 a ≡ false
none_on b a = fails _ (λ h. let q = on_from b 0 a h in omega (arith, q))

-- a tally that counts nothing: no sector that an erase finished, and none of a program that ended
pub record Empty (t : Tally) : Type 0 where
  pub erases : t.erases ≡ 0
  pub programs : t.programmed ≡ false

module _ (t : Tally) (e : Empty t) where
  left_by : (q : ℕ) (w : Wear) → worn_by t q w ≡ w
  unfolding ◌and◌
  left_by q w =
      let none : from_on t.first t.erases q ≡ false = ap (λ (n : ℕ). from_on t.first n q) e.erases ∙ none_on t.first q in
      rw (none, e.programs) refl

  left_from : (k : ℕ) (ws : List Wear) → each_from k (worn_by t) ws ≡ ws
  left_from k [] = refl
  left_from k (w ∷ ws) =
      ap (λ (v : Wear). v ∷ each_from (suc k) (worn_by t) ws) (left_by k w) ∙ ap (λ (vs : List Wear). w ∷ vs) (left_from (suc k) ws)

  -- it leaves the records
  pub empty_worn : (ws : List Wear) → worn t ws ≡ ws
  unfolding worn
  empty_worn ws = left_from 0 ws

-- where no tick did work, nothing is counted
none_erased : (t : Bool) (d : ℕ) → cond t ((d + 0) / sector_pages - d / sector_pages) 0 ≡ 0
none_erased true d = omega arith
none_erased false d = refl

pub none_tallied : (w : Option Operation) → Empty (tally_of (record { work = w; count = 0 }))
unfolding tally_of
none_tallied None = record { erases = refl; programs = refl }
none_tallied (Some (Program m s b k d)) =
    record { erases = refl; programs = ap (λ (t : Bool). same_memory Array m and t) (none_on (suc d) k) ∙ and_false (same_memory Array m) }
none_tallied (Some (Erase u b d)) = record { erases = none_erased (same_memory Array (memory_of u)) d; programs = refl }
none_tallied (Some (Write r v)) = record { erases = refl; programs = refl }

-- so many ticks that count nothing, and one more
none_more : (k : ℕ) → replicate k no_count ++ (no_count ∷ []) ≡ replicate (suc k) no_count
none_more k = replicate-append-replicate k 1 no_count ∙ ap (λ (j : ℕ). replicate j no_count) (add-one k)

-- counts, some behind others
pub erases_append : (q : ℕ) (cs ds : List Count) → erases_of q (cs ++ ds) ≡ erases_of q cs + erases_of q ds
erases_append q [] ds = sym (zero-add (erases_of q ds))
erases_append q (c ∷ cs) ds = let e = erases_append q cs ds in omega (arith, e)

pub programs_append : (q : ℕ) (cs ds : List Count) → programs_of q (cs ++ ds) ≡ programs_of q cs + programs_of q ds
programs_append q [] ds = sym (zero-add (programs_of q ds))
programs_append q (c ∷ cs) ds = let e = programs_append q cs ds in omega (arith, e)

-- 1 for either of two tests, of which not both pass
bit_or : (s t u : Bool) → (s ≡ true → u ≡ true) → (t ≡ true → u ≡ true) → (s ≡ true → t ≡ true → ⊥) → (u ≡ true → (s or t) ≡ true) → bit s + bit t ≡ bit u
unfolding ◌or◌
bit_or true true u su tu not_both one = absurd (not_both refl refl)
bit_or true false u su tu not_both one = ap bit (sym (su refl))
bit_or false true u su tu not_both one = ap bit (sym (tu refl))
bit_or false false true su tu not_both one = ap bit (one refl)
bit_or false false false su tu not_both one = refl

-- what the next k ticks of an operation count, in order
abbrev pub next_counts : Operation → ℕ → List Count
next_counts o zero = []
next_counts o (suc k) = next_counts o k ++ (next_count (advanced_by k o) ∷ [])

-- an erase: after d ticks, k more finish e sectors
module _ (f : ℕ) (d k q : ℕ) where
  abbrev sectors : ℕ → ℕ
  sectors j = (d + j) / sector_pages - d / sector_pages

  finishes : suc (d + k) % sector_pages ≡ 0 → bit (from_on (f + d / sector_pages) (sectors k) q) + bit (eqb (f + (d + k) / sector_pages) q) ≡ bit (from_on (f + d / sector_pages) (sectors (suc k)) q)
  finishes h =
      bit_or (from_on (f + d / sector_pages) (sectors k) q) (eqb (f + (d + k) / sector_pages) q) (from_on (f + d / sector_pages) (sectors (suc k)) q)
      (λ e. let p = on_from (f + d / sector_pages) (sectors k) q e in from_on_lem (f + d / sector_pages) (sectors (suc k)) q p.0 (omega (arith, p.0, p.1, h)))
      (λ e. let p = eqb-true (f + (d + k) / sector_pages) q e in from_on_lem (f + d / sector_pages) (sectors (suc k)) q (omega (arith, p)) (omega (arith, p, h)))
      (λ e g. let p = on_from (f + d / sector_pages) (sectors k) q e in let r = eqb-true (f + (d + k) / sector_pages) q g in omega (arith, p.0, p.1, r))
      (one_of (eqb (f + (d + k) / sector_pages) q) refl)
    where
      one_of : (t : Bool) → eqb (f + (d + k) / sector_pages) q ≡ t → from_on (f + d / sector_pages) (sectors (suc k)) q ≡ true → (from_on (f + d / sector_pages) (sectors k) q or t) ≡ true
      one_of true e u = or_true (from_on (f + d / sector_pages) (sectors k) q)
      one_of false e u =
          let p = on_from (f + d / sector_pages) (sectors (suc k)) q u in
          let n = eqb-false (f + (d + k) / sector_pages) q e in
          or_false _ ∙ from_on_lem (f + d / sector_pages) (sectors k) q p.0 (omega (arith, p.0, p.1, h, n))

  goes_on : (suc (d + k) % sector_pages ≡ 0 → ⊥) → bit (from_on (f + d / sector_pages) (sectors k) q) ≡ bit (from_on (f + d / sector_pages) (sectors (suc k)) q)
  goes_on h = let e : sectors k ≡ sectors (suc k) = omega (arith, h) in ap (λ (j : ℕ). bit (from_on (f + d / sector_pages) j q)) e

erase_counts : (u : EraseUnit) (b d q k : ℕ) → erases_of q (next_counts (Erase u b d) k) ≡ bit (from_on (tally_by (Erase u b d) k).first (tally_by (Erase u b d) k).erases q)
unfolding ◌and◌
erase_counts u b d q zero = sym (ap bit (counted (same_memory Array (memory_of u))))
  where
    counted : (t : Bool) → from_on (b / sector_bytes + d / sector_pages) (cond t ((d + 0) / sector_pages - d / sector_pages) 0) q ≡ false
    counted true = let e : (d + 0) / sector_pages - d / sector_pages ≡ 0 = omega arith in ap (λ (j : ℕ). from_on (b / sector_bytes + d / sector_pages) j q) e ∙ none_on (b / sector_bytes + d / sector_pages) q
    counted false = none_on (b / sector_bytes + d / sector_pages) q
erase_counts u b d q (suc k) =
    erases_append q (next_counts (Erase u b d) k) (next_count (Erase u b (d + k)) ∷ [])
    ∙ ap (λ (j : ℕ). j + erases_of q (next_count (Erase u b (d + k)) ∷ [])) (erase_counts u b d q k)
    ∙ one_more_lem (same_memory Array (memory_of u)) (eqb (suc (d + k) % sector_pages) 0) refl
  where
    one_more_lem : (t e : Bool) → eqb (suc (d + k) % sector_pages) 0 ≡ e
        → bit (from_on (b / sector_bytes + d / sector_pages) (cond t ((d + k) / sector_pages - d / sector_pages) 0) q) + erases_of q (cond (t and e) (erase (b / sector_bytes + (d + k) / sector_pages)) no_count ∷ [])
        ≡ bit (from_on (b / sector_bytes + d / sector_pages) (cond t ((d + suc k) / sector_pages - d / sector_pages) 0) q)
    one_more_lem true true h = let e = finishes (b / sector_bytes) d k q (eqb-true (suc (d + k) % sector_pages) 0 h) in omega (arith, e)
    one_more_lem true false h = let e = goes_on (b / sector_bytes) d k q (eqb-false (suc (d + k) % sector_pages) 0 h) in omega (arith, e)
    one_more_lem false e h = omega arith

-- it counts no program
erase_programs : (u : EraseUnit) (b d q k : ℕ) → programs_of q (next_counts (Erase u b d) k) ≡ 0
erase_programs u b d q zero = refl
erase_programs u b d q (suc k) =
    programs_append q (next_counts (Erase u b d) k) (next_count (Erase u b (d + k)) ∷ [])
    ∙ ap (λ (j : ℕ). j + programs_of q (next_count (Erase u b (d + k)) ∷ [])) (erase_programs u b d q k)
    ∙ none_more (same_memory Array (memory_of u) and eqb (suc (d + k) % sector_pages) 0)
  where
    none_more : (t : Bool) → 0 + programs_of q (cond t (erase (b / sector_bytes + (d + k) / sector_pages)) no_count ∷ []) ≡ 0
    none_more true = refl
    none_more false = refl

-- a program: one at its last tick, and no erase
program_counts : (m : Memory) (s b c d q k : ℕ) → programs_of q (next_counts (Program m s b c d) k) ≡ bit ((tally_by (Program m s b c d) k).programmed and eqb (tally_by (Program m s b c d) k).at q)
unfolding ◌and◌
program_counts m s b c d q zero =
    sym (ap (λ (t : Bool). bit (t and eqb (b / sector_bytes) q)) (fails (same_memory Array m and from_on (suc d) 0 c) (λ e. let h = on_from (suc d) 0 c (and_r (same_memory Array m) (from_on (suc d) 0 c) e) in omega (arith, h.0, h.1))))
program_counts m s b c d q (suc k) =
    programs_append q (next_counts (Program m s b c d) k) (next_count (Program m s b c (d + k)) ∷ [])
    ∙ ap (λ (j : ℕ). j + programs_of q (next_count (Program m s b c (d + k)) ∷ [])) (program_counts m s b c d q k)
    ∙ one_more_lem (same_memory Array m) (eqb (suc (d + k)) c) refl
  where
    same_before : eqb (suc (d + k)) c ≡ false → from_on (suc d) k c ≡ from_on (suc d) (suc k) c
    same_before h =
        let n = eqb-false (suc (d + k)) c h in
        same_tests (from_on (suc d) k c) (from_on (suc d) (suc k) c)
        (λ e. let p = on_from (suc d) k c e in from_on_lem (suc d) (suc k) c p.0 (omega (arith, p.1)))
        (λ e. let p = on_from (suc d) (suc k) c e in from_on_lem (suc d) k c p.0 (omega (arith, p.1, n)))

    one_more_lem : (t e : Bool) → eqb (suc (d + k)) c ≡ e
        → bit ((t and from_on (suc d) k c) and eqb (b / sector_bytes) q) + programs_of q (cond (t and e) (program (b / sector_bytes)) no_count ∷ [])
        ≡ bit ((t and from_on (suc d) (suc k) c) and eqb (b / sector_bytes) q)
    one_more_lem true true h =
        let p = eqb-true (suc (d + k)) c h in
        let before : from_on (suc d) k c ≡ false = fails (from_on (suc d) k c) (λ e. let r = on_from (suc d) k c e in omega (arith, p, r.1)) in
        let now : from_on (suc d) (suc k) c ≡ true = from_on_lem (suc d) (suc k) c (omega (arith, p)) (omega (arith, p)) in
        rw (before, now) (omega arith)
    one_more_lem true false h = rw (same_before h) (omega arith)
    one_more_lem false e h = refl

program_erases : (m : Memory) (s b c d q k : ℕ) → erases_of q (next_counts (Program m s b c d) k) ≡ 0
program_erases m s b c d q zero = refl
program_erases m s b c d q (suc k) =
    erases_append q (next_counts (Program m s b c d) k) (next_count (Program m s b c (d + k)) ∷ [])
    ∙ ap (λ (j : ℕ). j + erases_of q (next_count (Program m s b c (d + k)) ∷ [])) (program_erases m s b c d q k)
    ∙ none_more (same_memory Array m and eqb (suc (d + k)) c)
  where
    none_more : (t : Bool) → 0 + erases_of q (cond t (program (b / sector_bytes)) no_count ∷ []) ≡ 0
    none_more true = refl
    none_more false = refl

-- a register write counts nothing
write_none : (r : Register) (v k : ℕ) → next_counts (Write r v) k ≡ replicate k no_count
write_none r v zero = refl
write_none r v (suc k) = ap (λ (cs : List Count). cs ++ (no_count ∷ [])) (write_none r v k) ∙ none_more k

none_erases : (q k : ℕ) → erases_of q (replicate k no_count) ≡ 0
none_erases q zero = refl
none_erases q (suc k) = zero-add (erases_of q (replicate k no_count)) ∙ none_erases q k

none_programs : (q k : ℕ) → programs_of q (replicate k no_count) ≡ 0
none_programs q zero = refl
none_programs q (suc k) = zero-add (programs_of q (replicate k no_count)) ∙ none_programs q k

-- the next k ticks of any operation count of each sector what their tally says
op_erases : (o : Operation) (q k : ℕ) → erases_of q (next_counts o k) ≡ bit (from_on (tally_by o k).first (tally_by o k).erases q)
op_erases (Program m s b c d) q k = program_erases m s b c d q k ∙ sym (ap bit (none_on 0 q))
op_erases (Erase u b d) q k = erase_counts u b d q k
op_erases (Write r v) q k = ap (erases_of q) (write_none r v k) ∙ none_erases q k ∙ sym (ap bit (none_on 0 q))

op_programs : (o : Operation) (q k : ℕ) → programs_of q (next_counts o k) ≡ bit ((tally_by o k).programmed and eqb (tally_by o k).at q)
unfolding ◌and◌
op_programs (Program m s b c d) q k = program_counts m s b c d q k
op_programs (Erase u b d) q k = erase_programs u b d q k
op_programs (Write r v) q k = ap (programs_of q) (write_none r v k) ∙ none_programs q k

-- the ticks of a part that works on an operation
module _ (p : Record) (o : Operation) (e : running p.phase ≡ Some o) where
  run_counts : (k : ℕ) → ticks_done o + k ≤ ticks_in_all o p.part.blocks → tick_counts k p ≡ next_counts o k
  run_counts zero h = refl
  run_counts (suc k) h =
      ap (λ (cs : List Count). cs ++ (work_count (running (record_after k p).phase) ∷ [])) (run_counts k (omega arith))
      ∙ ap (λ (w : Option Operation). next_counts o k ++ (work_count w ∷ [])) (run_runs p o e k (omega arith))

  past_counts : (k j : ℕ) → ticks_done o + suc k ≡ ticks_in_all o p.part.blocks → tick_counts (suc k + j) p ≡ next_counts o (suc k) ++ replicate j no_count
  past_counts k zero h = rw add-zero (run_counts (suc k) (omega arith)) ∙ sym (append-nil (next_counts o (suc k)))
  past_counts k (suc j) h =
      rw add-suc
      (ap (λ (w : Option Operation). tick_counts (suc k + j) p ++ (work_count w ∷ [])) (ap (λ (q : Record). running q.phase) (run_past p o e k j h) ∙ past_runs p o e)
      ∙ ap (λ (cs : List Count). cs ++ (no_count ∷ [])) (past_counts k j h)
      ∙ append_assoc (next_counts o (suc k)) (replicate j no_count) (no_count ∷ [])
      ∙ ap (λ (cs : List Count). next_counts o (suc k) ++ cs) (none_more j))

  module _ (s : sound p ≡ true) where
    abbrev left : ℕ
    left = ticks_left o p.part.blocks

    going : ticks_done o < ticks_in_all o p.part.blocks
    going = (running_in_order p o e s).going

    counts_as : (n k : ℕ) (t : Bool) → ltb n left ≡ t → k ≡ min n left → tick_counts n p ≡ next_counts o k ++ replicate (n - k) no_count
    counts_as n k true q h =
        let l : n < left = ltb-true _ _ q in
        let w : n ≡ k = omega arith in
        let z : n - k ≡ 0 = omega arith in
        rw z (ap (λ (j : ℕ). tick_counts j p) w ∙ run_counts k (omega arith) ∙ sym (append-nil (next_counts o k)))
    counts_as n k false q h =
        let l : left ≤ n = ltb-false _ _ q in
        let w : n ≡ suc (k - 1) + (n - k) = omega (arith, going) in
        let z : suc (k - 1) ≡ k = omega (arith, going) in
        ap (λ (j : ℕ). tick_counts j p) w
        ∙ past_counts (k - 1) (n - k) (omega (arith, going))
        ∙ ap (λ (j : ℕ). next_counts o j ++ replicate (n - k) no_count) z

    working_counts : (n : ℕ) → tick_counts n p ≡ next_counts o (working_ticks n p) ++ replicate (n - working_ticks n p) no_count
    working_counts n = counts_as n (working_ticks n p) (ltb n left) refl (working_is p o e s n)

-- the ticks of a part on which nothing runs
rest_counts : (p : Record) → running p.phase ≡ None → (n : ℕ) → tick_counts n p ≡ replicate n no_count
rest_counts p e zero = refl
rest_counts p e (suc n) =
    ap (λ (q : Record). tick_counts n p ++ (work_count (running q.phase) ∷ [])) (rest_record p e n)
    ∙ ap (λ (w : Option Operation). tick_counts n p ++ (work_count w ∷ [])) e
    ∙ ap (λ (cs : List Count). cs ++ (no_count ∷ [])) (rest_counts p e n)
    ∙ none_more n

-- what n ticks of a sound part count: what the working ones do, and nothing after them
abbrev pub work_counts : Option Operation → ℕ → List Count
work_counts None k = []
work_counts (Some o) k = next_counts o k

module _ (p : Record) (s : sound p ≡ true) (n : ℕ) where
  pub counts_at : (w : Option Operation) → running p.phase ≡ w → tick_counts n p ≡ work_counts w (working_ticks n p) ++ replicate (n - working_ticks n p) no_count
  counts_at None e =
      let z : n - working_ticks n p ≡ n = omega (arith, rest_works p e n) in
      rest_counts p e n ∙ ap (λ (j : ℕ). replicate j no_count) (sym z)
  counts_at (Some o) e = working_counts p o e s n

  -- of each sector, as the tally says of the working ones
  tick_erases : (q : ℕ) (w : Option Operation) → running p.phase ≡ w → erases_of q (tick_counts n p) ≡ bit (from_on (tally_in w (working_ticks n p)).first (tally_in w (working_ticks n p)).erases q)
  tick_erases q w e =
      ap (erases_of q) (counts_at w e)
      ∙ erases_append q (work_counts w (working_ticks n p)) (replicate (n - working_ticks n p) no_count)
      ∙ ap (λ (j : ℕ). erases_of q (work_counts w (working_ticks n p)) + j) (none_erases q (n - working_ticks n p))
      ∙ add-zero (erases_of q (work_counts w (working_ticks n p)))
      ∙ by_work w
    where
      by_work : (v : Option Operation) → erases_of q (work_counts v (working_ticks n p)) ≡ bit (from_on (tally_in v (working_ticks n p)).first (tally_in v (working_ticks n p)).erases q)
      by_work None = sym (ap bit (none_on 0 q))
      by_work (Some o) = op_erases o q (working_ticks n p)

  tick_programs : (q : ℕ) (w : Option Operation) → running p.phase ≡ w → programs_of q (tick_counts n p) ≡ bit ((tally_in w (working_ticks n p)).programmed and eqb (tally_in w (working_ticks n p)).at q)
  unfolding ◌and◌
  tick_programs q w e =
      ap (programs_of q) (counts_at w e)
      ∙ programs_append q (work_counts w (working_ticks n p)) (replicate (n - working_ticks n p) no_count)
      ∙ ap (λ (j : ℕ). programs_of q (work_counts w (working_ticks n p)) + j) (none_programs q (n - working_ticks n p))
      ∙ add-zero (programs_of q (work_counts w (working_ticks n p)))
      ∙ by_work w
    where
      by_work : (v : Option Operation) → programs_of q (work_counts v (working_ticks n p)) ≡ bit ((tally_in v (working_ticks n p)).programmed and eqb (tally_in v (working_ticks n p)).at q)
      by_work None = refl
      by_work (Some o) = op_programs o q (working_ticks n p)

-- Erases and programs alike: a count of a record, how many counts of a sector a list has, and the test whether a tally has one
pub record Kind : Type 0 where
  pub field : Wear → ℕ
  pub of : ℕ → List Count → ℕ
  pub test : Tally → ℕ → Bool

abbrev pub erasing : Kind
erasing = record { field = λ w. w.erases; of = erases_of; test = λ t q. from_on t.first t.erases q }

abbrev pub programming : Kind
programming = record { field = λ w. w.programs; of = programs_of; test = λ t q. t.programmed and eqb t.at q }

-- what is used of either
pub record Counts (k : Kind) : Type 0 where
  pub none : (q : ℕ) → k.of q [] ≡ 0
  pub append : (q : ℕ) (cs ds : List Count) → k.of q (cs ++ ds) ≡ k.of q cs + k.of q ds
  pub ticked_so : (p : Record) → sound p ≡ true → (n q : ℕ) → k.of q (tick_counts n p) ≡ bit (k.test (tally_in (running p.phase) (working_ticks n p)) q)
  pub nothing_so : (p : Record) (q : ℕ) → k.test (tally_in (running p.phase) 0) q ≡ false
  pub worn_so : (t : Tally) (q : ℕ) (w : Wear) → k.field (worn_by t q w) ≡ cond (k.test t q) (one_more (k.field w)) (k.field w)

none_erases_of : (w : Option Operation) (q : ℕ) → from_on (tally_in w 0).first (tally_in w 0).erases q ≡ false
unfolding tally_of
none_erases_of w q = ap (λ (n : ℕ). from_on (tally_in w 0).first n q) (none_tallied w).erases ∙ none_on (tally_in w 0).first q

pub erases_count : Counts erasing
erases_count =
    record {
      none = λ q. refl;
      append = erases_append;
      ticked_so = λ p s n q. tick_erases p s n q (running p.phase) refl;
      nothing_so = λ p q. none_erases_of (running p.phase) q;
      worn_so = λ t q w. refl;
    }

pub programs_count : Counts programming
unfolding ◌and◌ tally_of
programs_count =
    record {
      none = λ q. refl;
      append = programs_append;
      ticked_so = λ p s n q. tick_programs p s n q (running p.phase) refl;
      nothing_so = λ p q. ap (λ (t : Bool). t and eqb (tally_in (running p.phase) 0).at q) (none_tallied (running p.phase)).programs;
      worn_so = λ t q w. refl;
    }

-- one more, as far as the largest value goes
more_is : (e : ℕ) (t : Bool) → e ≤ full_count → cond t (one_more e) e ≡ min full_count (e + bit t)
unfolding one_more
more_is e false h = omega arith
more_is e true h = by_test (ltb e full_count) refl
  where
    by_test : (t : Bool) → ltb e full_count ≡ t → cond t (e + 1) e ≡ min full_count (e + 1)
    by_test true l = let g = ltb-true e full_count l in omega (arith, g)
    by_test false l = let g = ltb-false e full_count l in omega (arith, g)

-- what a tick call on the part's own memory counts of a sector is what its tally says of it
module _ (k : Kind) (c : Counts k) (p : Record) (s : sound p ≡ true) (q : ℕ) where
  abbrev answer : ℕ → Ticked
  answer n = ticked p (array_bytes p.part.blocks) rows_bytes n

  call_as : (n : ℕ) (t : Bool) → leb n (tick_limit p.part.blocks) ≡ t → k.of q (call_counts (ticks n) p) ≡ bit (k.test (tally_of (reached p (answer n))) q)
  unfolding tally_of
  call_as n true l =
      let e = ticks_run p s n (leb-true _ _ l) in
      ap (λ (a : Ticked). k.of q (when_zero a.number (tick_counts n p) [])) e
      ∙ c.ticked_so p s n q
      ∙ sym (ap (λ (a : Ticked). bit (k.test (tally_in (running p.phase) a.done) q)) e)
  call_as n false l =
      let e = ticks_refused p s n l in
      ap (λ (a : Ticked). k.of q (when_zero a.number (tick_counts n p) [])) e
      ∙ c.none q
      ∙ sym (ap (λ (a : Ticked). bit (k.test (tally_in (running p.phase) a.done) q)) e ∙ ap bit (c.nothing_so p q))

  pub call_counts_lem : (n : ℕ) → k.of q (call_counts (ticks n) p) ≡ bit (k.test (tally_of (reached p (answer n))) q)
  call_counts_lem n = call_as n (leb n (tick_limit p.part.blocks)) refl

-- records over calls
call_length : (c : Call) (b : Board) (ws : List Wear) → length (wear_after_call c b ws) ≡ length ws
call_length (transaction wp i o) b ws = refl
call_length (ticks n) b ws = worn_length (tally_of (reached b.state (waited b n))) ws

pub calls_length : (cs : List Call) (b : Board) (ws : List Wear) → length (wear_after_calls cs b ws) ≡ length ws
calls_length [] b ws = refl
calls_length (c ∷ cs) b ws = calls_length cs (after_call c b) (wear_after_call c b ws) ∙ call_length c b ws

module _ (k : Kind) (c : Counts k) where
  -- a count of sector q after a call: what the call counts is added, as far as the largest value goes
  call_field : (a : Call) (b : Board) → Own b → (ws : List Wear) (q : ℕ) → q < length ws → k.field (get_or ws q unworn) ≤ full_count
      → k.field (get_or (wear_after_call a b ws) q unworn) ≡ min full_count (k.field (get_or ws q unworn) + k.of q (call_counts a b.state))
  call_field (transaction wp i o) b own ws q l h = let z = c.none q in omega (arith, z, h)
  call_field (ticks n) b own ws q l h =
      let t = tally_of (reached b.state (waited b n)) in
      let w = get_or ws q unworn in
      ap k.field (worn_at t ws q l)
      ∙ c.worn_so t q w
      ∙ more_is (k.field w) (k.test t q) h
      ∙ ap (λ (j : ℕ). min full_count (k.field w + j)) (own_counts n b own q)
    where
      own_counts : (n : ℕ) (b : Board) → Own b → (q : ℕ) → bit (k.test (tally_of (reached b.state (waited b n))) q) ≡ k.of q (call_counts (ticks n) b.state)
      own_counts n b own q =
          ap (λ (a : ℕ). bit (k.test (tally_of (reached b.state (ticked b.state a (length b.rows) n))) q)) own.own_array
          ∙ ap (λ (r : ℕ). bit (k.test (tally_of (reached b.state (ticked b.state (array_bytes b.state.part.blocks) r n))) q)) own.own_rows
          ∙ sym (call_counts_lem k c b.state own.is_sound q n)

  -- and after a list of calls
  pub calls_field : (cs : List Call) (b : Board) → Own b → (ws : List Wear) (q : ℕ) → q < length ws → k.field (get_or ws q unworn) ≤ full_count
      → k.field (get_or (wear_after_calls cs b ws) q unworn) ≡ min full_count (k.field (get_or ws q unworn) + k.of q (history_counts cs b.state))
  calls_field [] b own ws q l h = let z = c.none q in omega (arith, z, h)
  calls_field (a ∷ cs) b own ws q l h =
      let d = after_call a b in
      let e = call_field a b own ws q l h in
      let f = calls_field cs d (call_own a b own) (wear_after_call a b ws) q (omega (arith, l, call_length a b ws)) (omega (arith, e)) in
      let g = c.append q (call_counts a b.state) (history_counts cs (record_after_call a b.state)) in
      let r : k.of q (history_counts cs d.state) ≡ k.of q (history_counts cs (record_after_call a b.state)) = ap (λ (p : Record). k.of q (history_counts cs p)) (own_state a b own) in
      omega (arith, e, f, g, r)
