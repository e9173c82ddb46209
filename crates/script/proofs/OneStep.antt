-- One step on a record in its bytes: what its transaction and its ticks write there is what the calls make of the record. They leave the bytes of a sound record, and its own memory.
use Rattle.std.specs.Prelude.{None, Option, Some}
use Prim.Native.Nat.{ℕ, zero, suc, ◌≤◌, min}
use mathlib.Core.Path.{◌≡◌, refl, sym, ap, subst, ◌∙◌}
use mathlib.Core.Bool.{Bool, true, false, cond}
use mathlib.Core.List.{List, []}
use native.Mathlib.Omega.{arith}
use borrow.Author.Tests.{eq-eqb, ne_eqb, le-leb}
use lib.Dec.{eqb}
use lib.ListN.{length, take, drop}
use Rattle.types.specs.declared.Memory.{Memory}
use Rattle.types.specs.declared.Memory.TheVariants.{Array, Rows}
use Rattle.types.specs.declared.Change.{Change}
use Rattle.types.specs.declared.Change.TheVariants.{Same, Runs}
use Rattle.types.specs.declared.Data.TheVariants.{Kept, Zero}
use Rattle.types.specs.declared.Operation.{Operation}
use Rattle.types.specs.declared.Identity.{Identity}
use Rattle.types.specs.declared.Part.{Part}
use Rattle.types.specs.declared.Phase.{Phase}
use Rattle.types.specs.declared.Record.{Record}
use Rattle.types.specs.declared.Outcome.{Outcome}
use Rattle.types.specs.declared.Waited.{Waited}
use Rattle.types.specs.declared.Worked.{Worked}
use Rattle.types.specs.declared.Answer.{Answer}
use Rattle.types.specs.declared.Ticked.{Ticked}
use Rattle.types.specs.declared.Reached.{Reached}
use Rattle.words.specs.Logic.{unless, ◌or_else◌}
use Rattle.words.proofs.Tests.{or_else_on, or_else_first}
use Rattle.paper.specs.Sizes.{page_bytes, array_bytes, rows_bytes}
use Rattle.paper.specs.Soundness.{sound}
use Rattle.paper.specs.Phases.{running}
use Rattle.paper.specs.Operations.{ticks_left, advanced_by}
use Rattle.paper.specs.Commands.{changed}
use Rattle.paper.specs.Numbers.{size_number, rows_number, sound_number, ticks_number, tick_number}
use Rattle.paper.specs.Ticks.{finished_part, record_after, working_ticks}
use Rattle.paper.specs.Reached.{nothing, reached}
use Rattle.paper.specs.Calls.{outcome_of, answered, transacted, output_after, transacted_output, ticked, ticked_memory}
use Rattle.paper.specs.Board.{Board, board_of}
use Rattle.paper.specs.Script.{stopping, step_calls, made}
use Rattle.paper.specs.Map.{kept}
use Rattle.paper.specs.Wear.{tally_of, worn}
use Rattle.paper.proofs.Map.{none_kept}
use Rattle.paper.proofs.Wear.{empty_worn, none_tallied}
use Rattle.paper.proofs.Kept.{run_sound, run_size}
use Rattle.paper.proofs.TransactionKept.{transaction_sound, transaction_size, transaction_identity}
use Rattle.paper.proofs.CallKept.{after_tick_call, done_at_most}
use Rattle.paper.proofs.Answers.{ticks_run, ticks_memory}
use Rattle.blank_map.specs.Marked.{marked}
use Rattle.blank_map.proofs.Kept.{marked_kept}
use Rattle.record_bytes.specs.Layout.{header_length, record_length, change_written}
use Rattle.record_bytes.specs.Read.{Held, held, record_in, part_again, phase_again}
use Rattle.record_bytes.proofs.Back.{held_page}
use Rattle.record_bytes.proofs.Again.{again_part, again_phase}
use Rattle.record_bytes.proofs.Fits.{held_page_length, changed_held}
use Rattle.ticks.specs.Waited.{tick_change, waited_of, waited_memory, ticked_by}
use Rattle.ticks.proofs.Waited.{ticked_told, memory_told}
use Rattle.script.specs.Steps.{OnlyRuns, Ready, worked_of, made_of, Marks, Wears}

-- ticks can give only 1, 2, 5 and 6, and each of these stops a script
unless_le : (b : Bool) (n : ℕ) → n ≤ 6 → unless b n ≤ 6
unfolding unless
unless_le true n h = omega arith
unless_le false n h = h

or_else_le : (m n : ℕ) → m ≤ 6 → n ≤ 6 → (m or_else n) ≤ 6
unfolding ◌or_else◌
or_else_le zero n h l = l
or_else_le (suc m) n h l = h

tick_number_le : (n : ℕ) (s : Bool) (a r t : ℕ) → tick_number n s a r t ≤ 6
unfolding tick_number size_number rows_number sound_number ticks_number
tick_number_le n s a r t =
    or_else_le _ _ (unless_le _ 1 (omega arith)) (or_else_le _ _ (unless_le _ 2 (omega arith)) (or_else_le _ _ (unless_le _ 5 (omega arith)) (unless_le _ 6 (omega arith))))

ticked_number_as : (p : Record) (a r t : ℕ) (b : Bool) → (cond {A = Ticked} b (record { next = record_after t p; number = 0; done = working_ticks t p }) (record { next = p; number = tick_number p.part.blocks (sound p) a r t; done = 0 })).number ≤ 6
ticked_number_as p a r t true = omega arith
ticked_number_as p a r t false = tick_number_le p.part.blocks (sound p) a r t

ticked_number_le : (p : Record) (a r t : ℕ) → (ticked p a r t).number ≤ 6
unfolding ticked
ticked_number_le p a r t = ticked_number_as p a r t (eqb (tick_number p.part.blocks (sound p) a r t) 0)

-- ticks change nothing, or what runs
runs_as : (k : ℕ) (o : Operation) (p : Part) (f : Phase) (t : Bool)
    → OnlyRuns (cond {A = Change} t (Runs (finished_part p f o) Zero None) (Runs p Kept (Some (advanced_by k o))))
runs_as k o p f true = tt
runs_as k o p f false = tt

runs_in : (n : ℕ) (w : Option Operation) (p : Part) (f : Phase) → OnlyRuns (tick_change n w p f)
runs_in n None p f = tt
runs_in n (Some o) p f =
    let k = min n (ticks_left o p.blocks) in
    runs_as k o p f (eqb k (ticks_left o p.blocks))

module _ (p : Part) (f : Phase) (s : Bool) (a r n : ℕ) where
  told_runs : (t : Bool) (d m : ℕ) → OnlyRuns (cond {A = Waited} t (record { change = tick_change n (running f) p f; number = 0; done = d }) (record { change = Same; number = m; done = 0 })).change
  told_runs true d m = runs_in n (running f) p f
  told_runs false d m = tt

  pub only_runs : (u : Waited) → u ≡ waited_of p f s a r n → OnlyRuns u.change
  unfolding waited_of
  only_runs u e =
      subst (λ (x : Waited). OnlyRuns x.change) (sym e) (told_runs (eqb (tick_number p.blocks s a r n) 0) _ _)

-- they keep the identity
ticked_identity : (p : Record) (a r t : ℕ) → (ticked p a r t).next.identity ≡ p.identity
ticked_identity p a r t = ap (λ (x : Ticked). x.next.identity) (sym (ticked_told p a r t))

-- a test between the same and the same
same_as : {A : Type 0} (x : A) (t : Bool) → cond t x x ≡ x
same_as x true = refl
same_as x false = refl

-- a change that is the same leaves the bytes
pub same_written : (bs : List ℕ) → bs ≡ change_written Same [] bs
unfolding change_written
same_written bs = sym (same_as bs (eqb (length bs) record_length))

-- bytes that hold a sound record: its part and its phase, read again, and its page data as it is lent
module _ (bs xs rs : List ℕ) (h : Ready bs (length xs) (length rs)) where
  abbrev before : Record
  before = (record_in bs).state

  abbrev lent : List ℕ
  lent = take page_bytes (drop header_length bs)

  module _ (p : Part) (f : Phase) (ep : p ≡ part_again bs) (ef : f ≡ phase_again bs) where
    part_is : p ≡ before.part
    part_is = ep ∙ again_part bs h.ok

    phase_is : f ≡ before.phase
    phase_is = ef ∙ again_phase bs h.ok

    -- ticks
    module _ (t : ℕ) where
      abbrev waits : Ticked
      waits = ticked before (length xs) (length rs) t

      module _ (u : Waited) (eu : u ≡ waited_of p f true (length xs) (length rs) t) where
        waited_is : ticked_by u before ≡ waits
        waited_is =
            ap (λ (x : Waited). ticked_by x before)
            (eu
            ∙ ap (λ (q : Part). waited_of q f true (length xs) (length rs) t) part_is
            ∙ ap (λ (g : Phase). waited_of before.part g true (length xs) (length rs) t) phase_is
            ∙ ap (λ (s : Bool). waited_of before.part before.phase s (length xs) (length rs) t) (sym h.is_sound))
            ∙ ticked_told before (length xs) (length rs) t

        pub waits_told : (w : Option Operation) → w ≡ running f → ◌≡◌ {A = Worked} record { number = u.number; reached = record { work = w; count = u.done } } (worked_of before (length xs) (length rs) t)
        waits_told w ew =
            ap (λ (v : Option Operation). record { number = u.number; reached = record { work = v; count = u.done } }) (ew ∙ ap running phase_is)
            ∙ ap (λ (x : Ticked). record { number = x.number; reached = reached before x }) waited_is

        pub waits_held : (bs' : List ℕ) → bs' ≡ change_written u.change [] bs → record_in bs' ≡ held waits.next
        waits_held bs' eb =
            let e : changed u.change [] before ≡ waits.next = ap (λ (x : Ticked). x.next) waited_is in
            let s : sound waits.next ≡ true = after_tick_call (λ (x : Record). sound x ≡ true) before t h.is_sound (run_sound t before h.is_sound) (length xs) (length rs) in
            ap record_in eb ∙ changed_held u.change [] bs h.ok (ap sound e ∙ s) ∙ ap held e

      pub waits_memory : (m : Memory) (ys zs : List ℕ) → zs ≡ waited_memory m p f true lent (length xs) (length rs) t ys → zs ≡ ticked_memory m before (length xs) (length rs) t ys
      waits_memory m ys zs e =
          let l = held_page_length bs h.ok in
          e
          ∙ ap (λ (q : Part). waited_memory m q f true lent (length xs) (length rs) t ys) part_is
          ∙ ap (λ (g : Phase). waited_memory m before.part g true lent (length xs) (length rs) t ys) phase_is
          ∙ ap (λ (s : Bool). waited_memory m before.part before.phase s lent (length xs) (length rs) t ys) (sym h.is_sound)
          ∙ ap (λ (g : List ℕ). waited_memory m before.part before.phase (sound before) g (length xs) (length rs) t ys) (held_page bs h.ok)
          ∙ memory_told before (length xs) (length rs) t m ys l

    -- a transaction
    module _ (id : Identity) (eid : id ≡ before.identity) (wp : Bool) (i : List ℕ) (t : ℕ) (o : List ℕ) where
      abbrev board : Board
      board = board_of before xs rs

      abbrev sent : Answer
      sent = transacted before (length xs) (length rs) wp i (length o)

      module _ (u : Outcome) (eu : u ≡ outcome_of p f true (length xs) (length rs) wp i (length o)) where
        answer_is : answered u i before ≡ sent
        unfolding transacted
        answer_is =
            ap (λ (x : Outcome). answered x i before)
            (eu
            ∙ ap (λ (q : Part). outcome_of q f true (length xs) (length rs) wp i (length o)) part_is
            ∙ ap (λ (g : Phase). outcome_of before.part g true (length xs) (length rs) wp i (length o)) phase_is
            ∙ ap (λ (s : Bool). outcome_of before.part before.phase s (length xs) (length rs) wp i (length o)) (sym h.is_sound))

        number_is : u.number ≡ sent.number
        number_is = ap (λ (x : Answer). x.number) answer_is

        module _ (bs' o' : List ℕ) (eb : bs' ≡ change_written u.change i bs) (eo : o' ≡ output_after id p f true xs rs wp i o) where
          sent_sound : sound sent.next ≡ true
          sent_sound = transaction_sound before (length xs) (length rs) wp i (length o) h.is_sound

          sent_held : record_in bs' ≡ held sent.next
          sent_held =
              let e : changed u.change i before ≡ sent.next = ap (λ (x : Answer). x.next) answer_is in
              ap record_in eb ∙ changed_held u.change i bs h.ok (ap sound e ∙ sent_sound) ∙ ap held e

          sent_is : (record_in bs').state ≡ sent.next
          sent_is = ap (λ (x : Held). x.state) sent_held

          own_array : length xs ≡ array_bytes sent.next.part.blocks
          own_array = h.array ∙ ap array_bytes (sym (transaction_size before i (length xs) (length rs) wp (length o)))

          output_is : o' ≡ transacted_output before xs rs wp i o
          output_is =
              eo
              ∙ ap (λ (d : Identity). output_after d p f true xs rs wp i o) eid
              ∙ ap (λ (q : Part). output_after before.identity q f true xs rs wp i o) part_is
              ∙ ap (λ (g : Phase). output_after before.identity before.part g true xs rs wp i o) phase_is
              ∙ ap (λ (s : Bool). output_after before.identity before.part before.phase s xs rs wp i o) (sym h.is_sound)

          pub sent_ready : Ready bs' (length xs) (length rs)
          sent_ready =
              record { ok = ap (λ (x : Held). x.ok) sent_held; is_sound = ap sound sent_is ∙ sent_sound; array = own_array ∙ ap (λ (q : Record). array_bytes q.part.blocks) (sym sent_is); rows = h.rows }

          pub sent_identity : id ≡ (record_in bs').state.identity
          sent_identity =
              eid ∙ sym (ap (λ (q : Record). q.identity) sent_is ∙ transaction_identity before i (length xs) (length rs) wp (length o))

          -- it stops the script
          pub stopped_made : (k : ℕ) → k ≡ stopping u.number → (k ≡ 0 → ⊥) → made_of (record { answer = u.number; number = k; reached = nothing }) bs' xs rs o' ≡ made wp i t board o
          unfolding made
          stopped_made k ek stop =
              let e : k ≡ stopping sent.number = ek ∙ ap stopping number_is in
              let off : stopping sent.number ≡ 0 → ⊥ = λ z. stop (e ∙ z) in
              rw (sent_is, output_is, number_is, e, ne_eqb _ _ off, or_else_first _ (stopping (ticked sent.next (length xs) (length rs) t).number) off)

          pub stopped_marks : (k : ℕ) → k ≡ stopping u.number → (k ≡ 0 → ⊥) → Marks nothing xs (step_calls wp i board (length o) t) board
          unfolding marked
          stopped_marks k ek stop m =
              let off : stopping sent.number ≡ 0 → ⊥ = λ z. stop (ek ∙ ap stopping number_is ∙ z) in
              rw (ne_eqb _ _ off) refl

          pub stopped_wears : (k : ℕ) → k ≡ stopping u.number → (k ≡ 0 → ⊥) → Wears nothing (step_calls wp i board (length o) t) board
          stopped_wears k ek stop ws =
              let off : stopping sent.number ≡ 0 → ⊥ = λ z. stop (ek ∙ ap stopping number_is ∙ z) in
              rw (ne_eqb _ _ off) (empty_worn (tally_of nothing) (none_tallied None) ws)

          -- it does not: then what its ticks give is the step's
          module _ (go : stopping u.number ≡ 0) (w : Worked) (bs'' xs' rs' : List ℕ) (ew : w ≡ worked_of (record_in bs').state (length xs) (length rs) t) (eh : record_in bs'' ≡ held (ticked (record_in bs').state (length xs) (length rs) t).next)
              (ex : xs' ≡ ticked_memory Array (record_in bs').state (length xs) (length rs) t xs) (er : rs' ≡ ticked_memory Rows (record_in bs').state (length xs) (length rs) t rs) where
            abbrev last : Ticked
            last = ticked sent.next (length xs) (length rs) t

            last_held : record_in bs'' ≡ held last.next
            last_held = eh ∙ ap (λ (q : Record). held (ticked q (length xs) (length rs) t).next) sent_is

            last_is : (record_in bs'').state ≡ last.next
            last_is = ap (λ (x : Held). x.state) last_held

            worked_is : w ≡ worked_of sent.next (length xs) (length rs) t
            worked_is = ew ∙ ap (λ (q : Record). worked_of q (length xs) (length rs) t) sent_is

            array_is : xs' ≡ ticked_memory Array sent.next (length xs) (length rs) t xs
            array_is = ex ∙ ap (λ (q : Record). ticked_memory Array q (length xs) (length rs) t xs) sent_is

            rows_is : rs' ≡ ticked_memory Rows sent.next (length xs) (length rs) t rs
            rows_is = er ∙ ap (λ (q : Record). ticked_memory Rows q (length xs) (length rs) t rs) sent_is

            pub ran_made : made_of (record { answer = u.number; number = w.number; reached = w.reached }) bs'' xs' rs' o' ≡ made wp i t board o
            unfolding made
            ran_made =
                let z : stopping sent.number ≡ 0 = ap stopping (sym number_is) ∙ go in
                let done : w.reached.count ≡ last.done = ap (λ (x : Worked). x.reached.count) worked_is in
                let number : w.number ≡ last.number = ap (λ (x : Worked). x.number) worked_is in
                let stops : stopping last.number ≡ last.number = rw (le-leb _ _ (ticked_number_le sent.next (length xs) (length rs) t)) refl in
                rw (last_is, array_is, rows_is, output_is, number_is, done, number, eq-eqb _ _ z, or_else_on _ (stopping last.number) z, stops)

            pub ran_marks : Marks w.reached xs' (step_calls wp i board (length o) t) board
            ran_marks m =
                let z : stopping sent.number ≡ 0 = ap stopping (sym number_is) ∙ go in
                ap (λ (x : Worked). marked x.reached xs' m) worked_is
                ∙ ap (λ (ys : List ℕ). marked (reached sent.next last) ys m) array_is
                ∙ marked_kept sent.next sent_sound xs own_array (length xs) (length rs) t m
                ∙ rw (eq-eqb _ _ z) refl

            pub ran_wears : Wears w.reached (step_calls wp i board (length o) t) board
            ran_wears ws =
                let z : stopping sent.number ≡ 0 = ap stopping (sym number_is) ∙ go in
                ap (λ (x : Worked). worn (tally_of x.reached) ws) worked_is ∙ rw (eq-eqb _ _ z) refl

            pub ran_ready : Ready bs'' (length xs) (length rs)
            ran_ready =
                let q = sent.next in
                record {
                  ok = ap (λ (x : Held). x.ok) last_held;
                  is_sound = ap sound last_is ∙ after_tick_call (λ (x : Record). sound x ≡ true) q t sent_sound (run_sound t q sent_sound) (length xs) (length rs);
                  array = own_array ∙ ap array_bytes (sym (ap (λ (x : Record). x.part.blocks) last_is ∙ after_tick_call (λ (x : Record). x.part.blocks ≡ q.part.blocks) q t refl (run_size t q) (length xs) (length rs)));
                  rows = h.rows;
                }

            pub ran_identity : id ≡ (record_in bs'').state.identity
            ran_identity =
                let q = sent.next in
                eid ∙ sym (ap (λ (x : Record). x.identity) last_is ∙ ticked_identity q (length xs) (length rs) t ∙ transaction_identity before i (length xs) (length rs) wp (length o))

            pub ran_done : w.reached.count ≤ t
            ran_done = omega (arith, ap (λ (x : Worked). x.reached.count) worked_is, (done_at_most sent.next (length xs) (length rs) t).0)

          -- where it asks for no ticks, none are the same as a call of 0
          module _ (go : stopping u.number ≡ 0) (ez : t ≡ 0) where
            none : ticked (record_in bs').state (length xs) (length rs) t ≡ record { next = (record_in bs').state; number = 0; done = 0 }
            none =
                let q = (record_in bs').state in
                ap (λ (a : ℕ). ticked q a (length rs) t) sent_ready.array
                ∙ ap (λ (r : ℕ). ticked q (array_bytes q.part.blocks) r t) sent_ready.rows
                ∙ ap (ticked q (array_bytes q.part.blocks) rows_bytes) ez
                ∙ ticks_run q sent_ready.is_sound 0 (omega arith)

            none_memory : (m : Memory) (ys : List ℕ) → ticked_memory m (record_in bs').state (length xs) (length rs) t ys ≡ ys
            none_memory m ys =
                let q = (record_in bs').state in
                ap (λ (r : ℕ). ticked_memory m q (length xs) r t ys) sent_ready.rows
                ∙ ap (λ (k : ℕ). ticked_memory m q (length xs) rows_bytes k ys) ez
                ∙ ticks_memory q sent_ready.is_sound m (length xs) 0 ys sent_ready.array (omega arith)

            pub none_made : made_of (record { answer = u.number; number = 0; reached = nothing }) bs' xs rs o' ≡ made wp i t board o
            none_made =
                let w : Worked = record { number = 0; reached = record { work = running (record_in bs').state.phase; count = 0 } } in
                let e : w ≡ worked_of (record_in bs').state (length xs) (length rs) t = ap (λ (x : Ticked). record { number = x.number; reached = reached (record_in bs').state x }) (sym none) in
                let f : record_in bs' ≡ held (ticked (record_in bs').state (length xs) (length rs) t).next = sent_held ∙ ap held (sym sent_is ∙ sym (ap (λ (x : Ticked). x.next) none)) in
                ran_made go w bs' xs rs e f (sym (none_memory Array xs)) (sym (none_memory Rows rs))

            pub none_marks : Marks nothing xs (step_calls wp i board (length o) t) board
            unfolding marked
            none_marks m =
                let z : stopping sent.number ≡ 0 = ap stopping (sym number_is) ∙ go in
                let q = sent.next in
                let e : (ticked q (length xs) (length rs) t).done ≡ 0 = ap (λ (y : Record). (ticked y (length xs) (length rs) t).done) (sym sent_is) ∙ ap (λ (x : Ticked). x.done) none in
                let ys = ticked_memory Array q (length xs) (length rs) t xs in
                rw (eq-eqb _ _ z) (sym (ap (λ (d : ℕ). kept (record { work = running q.phase; count = d }) ys m) e ∙ none_kept (running q.phase) ys m))

            pub none_wears : Wears nothing (step_calls wp i board (length o) t) board
            none_wears ws =
                let z : stopping sent.number ≡ 0 = ap stopping (sym number_is) ∙ go in
                let q = sent.next in
                let e : (ticked q (length xs) (length rs) t).done ≡ 0 = ap (λ (y : Record). (ticked y (length xs) (length rs) t).done) (sym sent_is) ∙ ap (λ (x : Ticked). x.done) none in
                let same : (r : Reached) → r.count ≡ 0 → worn (tally_of r) ws ≡ ws = λ r c. ap (λ (d : ℕ). worn (tally_of (record { work = r.work; count = d })) ws) c ∙ empty_worn _ (none_tallied r.work) ws in
                rw (eq-eqb _ _ z) (same nothing refl ∙ sym (same (reached q (ticked q (length xs) (length rs) t)) e))
