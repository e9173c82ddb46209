-- What the definitions for ticks and a script with a map come to on bytes: a map of another length, and the plain call with the map kept.
use Rattle.types.specs.declared.Operation.{Operation}
use Rattle.std.specs.Prelude.{None, Option, Some}
use Prim.Native.Nat.{ℕ, ◌+◌, ◌/◌}
use mathlib.Core.Path.{◌≡◌, refl, sym, ap, ◌∙◌}
use mathlib.Core.Bool.{Bool, true, false}
use mathlib.Core.List.{List}
use native.Mathlib.Nat.{suc-ne-zero}
use lib.Dec.{eqb, leb}
use lib.ListN.{length}
use borrow.Author.Tests.{eqb-true, ne_eqb}
use Rattle.types.specs.declared.Memory.{Memory}
use Rattle.types.specs.declared.Memory.TheVariants.{Array, Rows}
use Rattle.types.specs.declared.Operation.TheVariants.{Program, Erase, Write}
use Rattle.types.specs.declared.Record.{Record}
use Rattle.types.specs.declared.Ticked.{Ticked}
use Rattle.types.specs.declared.Worked.{Worked}
use Rattle.words.specs.Logic.{◌and◌, ◌or_else◌}
use Rattle.words.proofs.BitLists.{puts_none}
use Rattle.paper.specs.Sizes.{same_memory, page_bytes}
use Rattle.paper.specs.Erase.{memory_of}
use Rattle.paper.specs.Phases.{running}
use Rattle.paper.specs.Soundness.{sound}
use Rattle.paper.specs.Numbers.{size_number, rows_number, sound_number, ticks_number, tick_number, later_script_refusal, script_refusal, map_tick_number, map_script_refusal}
use Rattle.paper.specs.Calls.{ticked, ticked_memory}
use Rattle.paper.specs.Reached.{nothing, reached}
use Rattle.paper.specs.Board.{Board, board_of}
use Rattle.paper.specs.Script.{Script, unstepped, refusal_of, scripted}
use Rattle.paper.specs.Map.{blank_page, MapTicked, map_ticked, script_map, map_refusal_of, map_scripted}
use Rattle.paper.proofs.Numbers.{ticks_taken}
use Rattle.record_bytes.specs.Layout.{record_bytes}
use Rattle.record_bytes.specs.Read.{Held, record_in}
use Rattle.record_bytes.proofs.Back.{on_none, on_held_lem}
use Rattle.ticks.specs.InBytes.{held_ticks, held_reached, held_worked, tick_bytes, tick_memory}
use Rattle.ticks.proofs.InBytes.{reached_count}
use Rattle.blank_map.specs.Marked.{marked}
use Rattle.blank_map.proofs.Kept.{marked_kept}
use Rattle.script.specs.InBytes.{held_script, held_map}
use Rattle.mapped.specs.declared.Kept.{Kept}
use Rattle.beside.specs.Beside.{board_bytes}
use Rattle.beside.proofs.Told.{refused_told, passed_fits}
use Rattle.mapped.specs.InBytes.{held_map_ticked, held_map_scripted, map_refusal}
use Rattle.mapped.proofs.Judged.{passes, judged}

-- ticks that reached nothing leave the map
marked_none : (w : Option Operation) (xs m : List ℕ) → marked (record { work = w; count = 0 }) xs m ≡ m
unfolding marked
marked_none None xs m = refl
marked_none (Some (Program w s b c d)) xs m = puts_none (same_memory Array w) (b / page_bytes) (blank_page xs) m
marked_none (Some (Erase u b d)) xs m = puts_none (same_memory Array (memory_of u)) (b / page_bytes + d) (λ q. true) m
marked_none (Some (Write r v)) xs m = refl

-- what ticks on bytes answer, and what they reached
module _ (h : Held) (a r n : ℕ) (w : Worked) (ew : w ≡ held_worked h a r n) where
  pub worked_kept : ◌≡◌ {A = Kept} record { number = w.number; done = w.reached.count } record { number = (held_ticks h a r n).number; done = (held_ticks h a r n).done }
  unfolding held_worked
  worked_kept =
      ap (λ (v : Worked). record { number = v.number; done = v.reached.count }) ew
      ∙ ap (λ (d : ℕ). record { number = (held_ticks h a r n).number; done = d }) (reached_count h a r n)

  pub marked_so : (ys zs m : List ℕ) → ys ≡ zs → marked w.reached ys m ≡ marked (held_reached h a r n) zs m
  unfolding held_worked
  marked_so ys zs m e = ap (λ (v : Worked). marked v.reached ys m) ew ∙ ap (λ (l : List ℕ). marked (held_reached h a r n) l m) e

-- a tick call that is taken answers 0; one that is not leaves record and memory
module _ (p : Record) (a r n : ℕ) where
  taken_number : eqb (tick_number p.part.blocks (sound p) a r n) 0 ≡ true → (ticked p a r n).number ≡ 0
  unfolding ticked
  taken_number z = rw z refl

  module _ (z : eqb (tick_number p.part.blocks (sound p) a r n) 0 ≡ false) where
    untaken : ticked p a r n ≡ record { next = p; number = tick_number p.part.blocks (sound p) a r n; done = 0 }
    unfolding ticked
    untaken = rw z refl

    untaken_memory : (w : Memory) (xs : List ℕ) → ticked_memory w p a r n xs ≡ xs
    unfolding ticked_memory
    untaken_memory w xs = rw z refl

-- a script that is refused
module _ (fit : Bool) (s : Script) (b : Board) (o n d m : List ℕ) (z : eqb (refusal_of fit s b o n d) 0 ≡ false) where
  unscripted : scripted fit s b o n d ≡ unstepped (refusal_of fit s b o n d) b o n d
  unfolding scripted
  unscripted = rw z refl

  unscripted_map : script_map fit s b o n d m ≡ m
  unfolding script_map
  unscripted_map = rw z refl

module _ (bs : List ℕ) (xs rs m : List ℕ) where
  abbrev here : Held
  here = record_in bs

  abbrev state : Record
  state = here.state

  -- a map whose length doesn't fit the array: a record is held, and the number is 1 or 36
  module _ (k : ℕ) (ek : k ≡ map_refusal here (length xs) (length m)) where
    abbrev fits : Bool
    fits = eqb (length m) (length xs / 2048)

    refused_so : (k ≡ 0 → ⊥) → (fits ≡ false) × (here.ok ≡ true) × (k ≡ (size_number state.part.blocks (length xs) or_else 36))
    unfolding map_refusal
    refused_so = refused_told here fits (length xs) 36 k ek

    module _ (stop : k ≡ 0 → ⊥) where
      pub refused_ticks : (n : ℕ) → held_map_ticked here xs rs n m ≡ record { board = board_of state xs rs; map = m; number = k; done = 0 }
      unfolding held_map_ticked map_ticked map_tick_number
      refused_ticks n =
          let t = refused_so stop in
          let number = judged state.part.blocks (length xs) (length m) (rows_number (length rs) or_else sound_number (sound state) or_else ticks_number state.part.blocks n) t.0 ∙ sym t.2 in
          on_held_lem here (λ p. map_ticked (board_of p xs rs) n m) _ t.1
          ∙ rw (number, ne_eqb k 0 stop) refl

      pub refused_script : (wp : ℕ) (s : Script) (o n d : List ℕ) → held_map_scripted here wp s xs rs o n d m ≡ record { run = unstepped k (board_of state xs rs) o n d; map = m }
      unfolding held_map_scripted map_scripted map_script_refusal
      refused_script wp s o n d =
          let t = refused_so stop in
          let number = judged state.part.blocks (length xs) (length m) (later_script_refusal (sound state and leb wp 1) (length rs) s.lengths (length s.ticks) (length n) (length d) (length s.input) (length o)) t.0 ∙ sym t.2 in
          on_held_lem here (λ p. map_scripted (sound p and leb wp 1) s (board_of p xs rs) o n d m) _ t.1
          ∙ rw (number, ne_eqb k 0 stop) refl

    -- one whose length fits, or there is no record: the plain call, and the map kept
    module _ (pass : k ≡ 0) where
      fitting : here.ok ≡ true → fits ≡ true
      unfolding map_refusal
      fitting = passed_fits here fits (length xs) 36 k ek pass (λ z. suc-ne-zero 35 z)

      -- ticks
      module _ (n : ℕ) where
        abbrev answer : Ticked
        answer = held_ticks here (length xs) (length rs) n

        abbrev left : List ℕ
        left = tick_memory Array here (length xs) (length rs) n xs

        abbrev plain : MapTicked
        plain =
            record { board = board_of answer.next left (tick_memory Rows here (length xs) (length rs) n rs); map = marked (held_reached here (length xs) (length rs) n) left m; number = answer.number; done = answer.done }

        number_is : here.ok ≡ true → map_tick_number state.part.blocks (sound state) (length xs) (length rs) (length m) n ≡ tick_number state.part.blocks (sound state) (length xs) (length rs) n
        unfolding map_tick_number tick_number
        number_is e = passes state.part.blocks (length xs) (length m) (rows_number (length rs) or_else sound_number (sound state) or_else ticks_number state.part.blocks n) (fitting e)

        -- what plain ticks of the record give
        abbrev given : Ticked → List ℕ → List ℕ → MapTicked
        given t ys zs =
            record { board = board_of t.next ys zs; map = marked (reached state t) ys m; number = t.number; done = t.done }

        plain_as : (t : Bool) → eqb (tick_number state.part.blocks (sound state) (length xs) (length rs) n) 0 ≡ t → here.ok ≡ true
            → map_ticked (board_of state xs rs) n m ≡ given (ticked state (length xs) (length rs) n) (ticked_memory Array state (length xs) (length rs) n xs) (ticked_memory Rows state (length xs) (length rs) n rs)
        unfolding map_ticked
        plain_as true z e =
            let t = ticked state (length xs) (length rs) n in
            let ys = ticked_memory Array state (length xs) (length rs) n xs in
            let zs = ticked_memory Rows state (length xs) (length rs) n rs in
            let taken = ticks_taken state.part.blocks (sound state) (length xs) (length rs) n (eqb-true _ 0 z) in
            rw (number_is e, z)
            (ap (λ (l : List ℕ). record { board = board_of t.next ys zs; map = l; number = 0; done = t.done }) (sym (marked_kept state taken.is_sound xs taken.size (length xs) (length rs) n m))
            ∙ ap (λ (j : ℕ). record { board = board_of t.next ys zs; map = marked (reached state t) ys m; number = j; done = t.done }) (sym (taken_number state (length xs) (length rs) n z)))
        plain_as false z e =
            rw (number_is e, z)
            (rw (untaken state (length xs) (length rs) n z, untaken_memory state (length xs) (length rs) n z Array xs, untaken_memory state (length xs) (length rs) n z Rows rs, marked_none (running state.phase) xs m) refl)

        passed_as : (t : Bool) → here.ok ≡ t → held_map_ticked here xs rs n m ≡ plain
        unfolding held_map_ticked tick_memory
        passed_as true e =
            on_held_lem here (λ p. map_ticked (board_of p xs rs) n m) _ e
            ∙ plain_as (eqb (tick_number state.part.blocks (sound state) (length xs) (length rs) n) 0) refl e
            ∙ sym (rw (on_held_lem here (λ p. ticked p (length xs) (length rs) n) (record { next = state; number = rows_number (length rs) or_else sound_number false; done = 0 }) e, on_held_lem here (λ p. reached p (ticked p (length xs) (length rs) n)) nothing e, on_held_lem here (λ p. ticked_memory Array p (length xs) (length rs) n xs) xs e, on_held_lem here (λ p. ticked_memory Rows p (length xs) (length rs) n rs) rs e) refl)
        passed_as false e =
            on_none here (λ p. map_ticked (board_of p xs rs) n m) _ e
            ∙ sym (rw (on_none here (λ p. ticked p (length xs) (length rs) n) (record { next = state; number = rows_number (length rs) or_else sound_number false; done = 0 }) e, on_none here (λ p. reached p (ticked p (length xs) (length rs) n)) nothing e, on_none here (λ p. ticked_memory Array p (length xs) (length rs) n xs) xs e, on_none here (λ p. ticked_memory Rows p (length xs) (length rs) n rs) rs e, marked_none None xs m) refl)

        pub passed_ticks : held_map_ticked here xs rs n m ≡ plain
        passed_ticks = passed_as here.ok refl

        bytes_as : (t : Bool) → here.ok ≡ t → tick_bytes here (length xs) (length rs) n bs ≡ board_bytes here plain.board bs
        unfolding tick_bytes
        bytes_as true e =
            on_held_lem here (λ p. record_bytes (ticked p (length xs) (length rs) n).next) bs e
            ∙ sym (on_held_lem here (λ p. record_bytes answer.next) bs e ∙ ap (λ (t : Ticked). record_bytes t.next) (on_held_lem here (λ p. ticked p (length xs) (length rs) n) _ e))
        bytes_as false e =
            on_none here (λ p. record_bytes (ticked p (length xs) (length rs) n).next) bs e ∙ sym (on_none here (λ p. record_bytes answer.next) bs e)

        pub passed_bytes : tick_bytes here (length xs) (length rs) n bs ≡ board_bytes here plain.board bs
        passed_bytes = bytes_as here.ok refl

      -- a script
      module _ (wp : ℕ) (s : Script) (o n d : List ℕ) where
        abbrev fit : Bool
        fit = sound state and leb wp 1

        refusal_is : here.ok ≡ true → map_refusal_of fit s (board_of state xs rs) o n d m ≡ refusal_of fit s (board_of state xs rs) o n d
        unfolding map_script_refusal script_refusal
        refusal_is e = passes state.part.blocks (length xs) (length m) (later_script_refusal fit (length rs) s.lengths (length s.ticks) (length n) (length d) (length s.input) (length o)) (fitting e)

        script_as : (t : Bool) → eqb (refusal_of fit s (board_of state xs rs) o n d) 0 ≡ t → here.ok ≡ true
            → map_scripted fit s (board_of state xs rs) o n d m ≡ record { run = scripted fit s (board_of state xs rs) o n d; map = script_map fit s (board_of state xs rs) o n d m }
        unfolding map_scripted
        script_as true z e = rw (refusal_is e, z) refl
        script_as false z e =
            rw (refusal_is e, z) (sym (rw (unscripted fit s (board_of state xs rs) o n d m z, unscripted_map fit s (board_of state xs rs) o n d m z) refl))

        ran_as : (t : Bool) → here.ok ≡ t → held_map_scripted here wp s xs rs o n d m ≡ record { run = held_script here wp s xs rs o n d; map = held_map here wp s xs rs o n d m }
        unfolding held_map_scripted held_script held_map
        ran_as true e =
            on_held_lem here (λ p. map_scripted (sound p and leb wp 1) s (board_of p xs rs) o n d m) _ e
            ∙ script_as (eqb (refusal_of fit s (board_of state xs rs) o n d) 0) refl e
            ∙ sym (rw (on_held_lem here (λ p. scripted (sound p and leb wp 1) s (board_of p xs rs) o n d) (unstepped (later_script_refusal false (length rs) s.lengths (length s.ticks) (length n) (length d) (length s.input) (length o)) (board_of state xs rs) o n d) e, on_held_lem here (λ p. script_map (sound p and leb wp 1) s (board_of p xs rs) o n d m) m e) refl)
        ran_as false e =
            on_none here (λ p. map_scripted (sound p and leb wp 1) s (board_of p xs rs) o n d m) _ e
            ∙ sym (rw (on_none here (λ p. scripted (sound p and leb wp 1) s (board_of p xs rs) o n d) (unstepped (later_script_refusal false (length rs) s.lengths (length s.ticks) (length n) (length d) (length s.input) (length o)) (board_of state xs rs) o n d) e, on_none here (λ p. script_map (sound p and leb wp 1) s (board_of p xs rs) o n d m) m e) refl)

        pub passed_script : held_map_scripted here wp s xs rs o n d m ≡ record { run = held_script here wp s xs rs o n d; map = held_map here wp s xs rs o n d m }
        passed_script = ran_as here.ok refl
