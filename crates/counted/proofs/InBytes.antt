-- What the definitions for ticks with wear records come to on bytes: another number of records, and the plain call with what it counts.
use Prim.Native.Nat.{ℕ, ◌/◌}
use mathlib.Core.Path.{◌≡◌, refl, sym, ap, ◌∙◌}
use mathlib.Core.Bool.{Bool, true, false, cond}
use mathlib.Core.List.{List}
use native.Mathlib.Nat.{suc-ne-zero}
use lib.Dec.{eqb}
use lib.ListN.{length}
use borrow.Author.Tests.{ne_eqb}
use Rattle.types.specs.declared.Memory.TheVariants.{Array, Rows}
use Rattle.types.specs.declared.Record.{Record}
use Rattle.types.specs.declared.Tally.{Tally}
use Rattle.types.specs.declared.Ticked.{Ticked}
use Rattle.types.specs.declared.Worked.{Worked}
use Rattle.words.specs.Logic.{◌or_else◌, when_zero}
use Rattle.paper.specs.Soundness.{sound}
use Rattle.paper.specs.Numbers.{size_number, rows_number, sound_number, ticks_number, tick_number, wear_tick_number}
use Rattle.paper.specs.Calls.{ticked, ticked_memory}
use Rattle.paper.specs.Reached.{nothing, reached}
use Rattle.paper.specs.Board.{board_of}
use Rattle.paper.specs.Wear.{no_tally, tally_of, WearTicked, wear_ticked}
use Rattle.paper.proofs.Answers.{taken_number, untaken, untaken_memory}
use Rattle.record_bytes.specs.Read.{Held, record_in}
use Rattle.record_bytes.proofs.Back.{on_none, on_held_lem}
use Rattle.beside.specs.Beside.{board_bytes}
use Rattle.beside.proofs.Told.{refused_told, passed_fits}
use Rattle.ticks.specs.InBytes.{held_ticks, held_reached, held_worked, tick_bytes, tick_memory}
use Rattle.ticks.proofs.InBytes.{reached_count, next_bytes}
use Rattle.counted.specs.declared.Counted.{Counted}
use Rattle.counted.specs.InBytes.{held_wear_ticked, wear_refusal}
use Rattle.beside.proofs.Records.{passes, judged}

-- what ticks on bytes answer, and what they count
module _ (h : Held) (a r n : ℕ) (v : Worked) (ev : v ≡ held_worked h a r n) (t : Tally) (et : t ≡ when_zero v.number (tally_of v.reached) no_tally) where
  pub worked_counted : ◌≡◌ {A = Counted} record { number = v.number; done = v.reached.count; tally = t } record { number = (held_ticks h a r n).number; done = (held_ticks h a r n).done; tally = when_zero (held_ticks h a r n).number (tally_of (held_reached h a r n)) no_tally }
  unfolding held_worked
  worked_counted =
      ap (λ (u : Tally). record { number = v.number; done = v.reached.count; tally = u }) et
      ∙ ap (λ (x : Worked). record { number = x.number; done = x.reached.count; tally = when_zero x.number (tally_of x.reached) no_tally }) ev
      ∙ ap (λ (d : ℕ). record { number = (held_ticks h a r n).number; done = d; tally = when_zero (held_ticks h a r n).number (tally_of (held_reached h a r n)) no_tally }) (reached_count h a r n)

-- without a record nothing is reached, and nothing is counted
none_counted : (t : Bool) → cond t (tally_of nothing) no_tally ≡ no_tally
unfolding tally_of
none_counted true = refl
none_counted false = refl

module _ (bs xs rs : List ℕ) (w : ℕ) where
  abbrev here : Held
  here = record_in bs

  abbrev state : Record
  state = here.state

  module _ (k : ℕ) (ek : k ≡ wear_refusal here (length xs) w) where
    abbrev fits : Bool
    fits = eqb w (length xs / 4096)

    -- another number of records than sectors: a record is held, and the number is 1 or 35
    module _ (stop : k ≡ 0 → ⊥) where
      refused_so : (fits ≡ false) × (here.ok ≡ true) × (k ≡ (size_number state.part.blocks (length xs) or_else 35))
      unfolding wear_refusal
      refused_so = refused_told here fits (length xs) 35 k ek stop

      pub refused_ticks : (n : ℕ) → held_wear_ticked here xs rs n w ≡ record { board = board_of state xs rs; tally = no_tally; number = k; done = 0 }
      unfolding held_wear_ticked wear_ticked wear_tick_number
      refused_ticks n =
          let t = refused_so in
          let number = judged state.part.blocks (length xs) w (rows_number (length rs) or_else sound_number (sound state) or_else ticks_number state.part.blocks n) t.0 ∙ sym t.2 in
          on_held_lem here (λ p. wear_ticked (board_of p xs rs) n w) _ t.1
          ∙ rw (number, ne_eqb k 0 stop) refl

    -- as many, or there is no record: the plain call, and what it counts
    module _ (pass : k ≡ 0) (n : ℕ) where
      fitting : here.ok ≡ true → fits ≡ true
      unfolding wear_refusal
      fitting = passed_fits here fits (length xs) 35 k ek pass (λ z. suc-ne-zero 34 z)

      abbrev answer : Ticked
      answer = held_ticks here (length xs) (length rs) n

      abbrev plain : WearTicked
      plain =
          record { board = board_of answer.next (tick_memory Array here (length xs) (length rs) n xs) (tick_memory Rows here (length xs) (length rs) n rs); tally = when_zero answer.number (tally_of (held_reached here (length xs) (length rs) n)) no_tally; number = answer.number; done = answer.done }

      number_is : here.ok ≡ true → wear_tick_number state.part.blocks (sound state) (length xs) (length rs) w n ≡ tick_number state.part.blocks (sound state) (length xs) (length rs) n
      unfolding wear_tick_number tick_number
      number_is e = passes state.part.blocks (length xs) w (rows_number (length rs) or_else sound_number (sound state) or_else ticks_number state.part.blocks n) (fitting e)

      -- what plain ticks of the record give
      abbrev given : Ticked → List ℕ → List ℕ → WearTicked
      given t ys zs =
          record { board = board_of t.next ys zs; tally = when_zero t.number (tally_of (reached state t)) no_tally; number = t.number; done = t.done }

      plain_as : (t : Bool) → eqb (tick_number state.part.blocks (sound state) (length xs) (length rs) n) 0 ≡ t → here.ok ≡ true
          → wear_ticked (board_of state xs rs) n w ≡ given (ticked state (length xs) (length rs) n) (ticked_memory Array state (length xs) (length rs) n xs) (ticked_memory Rows state (length xs) (length rs) n rs)
      unfolding wear_ticked
      plain_as true z e =
          let t = ticked state (length xs) (length rs) n in
          let ys = ticked_memory Array state (length xs) (length rs) n xs in
          let zs = ticked_memory Rows state (length xs) (length rs) n rs in
          rw (number_is e, z)
          (ap (λ (j : ℕ). record { board = board_of t.next ys zs; tally = when_zero j (tally_of (reached state t)) no_tally; number = j; done = t.done }) (sym (taken_number state (length xs) (length rs) n z)))
      plain_as false z e =
          rw (number_is e, z)
          (rw (untaken state (length xs) (length rs) n z, untaken_memory state (length xs) (length rs) n z Array xs, untaken_memory state (length xs) (length rs) n z Rows rs, z) refl)

      passed_as : (t : Bool) → here.ok ≡ t → held_wear_ticked here xs rs n w ≡ plain
      unfolding held_wear_ticked tick_memory
      passed_as true e =
          on_held_lem here (λ p. wear_ticked (board_of p xs rs) n w) _ e
          ∙ plain_as (eqb (tick_number state.part.blocks (sound state) (length xs) (length rs) n) 0) refl e
          ∙ sym (rw (on_held_lem here (λ p. ticked p (length xs) (length rs) n) (record { next = state; number = rows_number (length rs) or_else sound_number false; done = 0 }) e, on_held_lem here (λ p. reached p (ticked p (length xs) (length rs) n)) nothing e, on_held_lem here (λ p. ticked_memory Array p (length xs) (length rs) n xs) xs e, on_held_lem here (λ p. ticked_memory Rows p (length xs) (length rs) n rs) rs e) refl)
      passed_as false e =
          on_none here (λ p. wear_ticked (board_of p xs rs) n w) _ e
          ∙ sym (rw (on_none here (λ p. ticked p (length xs) (length rs) n) (record { next = state; number = rows_number (length rs) or_else sound_number false; done = 0 }) e, on_none here (λ p. reached p (ticked p (length xs) (length rs) n)) nothing e, on_none here (λ p. ticked_memory Array p (length xs) (length rs) n xs) xs e, on_none here (λ p. ticked_memory Rows p (length xs) (length rs) n rs) rs e) (ap (λ (t : Tally). record { board = board_of state xs rs; tally = t; number = rows_number (length rs) or_else sound_number false; done = 0 }) (none_counted (eqb (rows_number (length rs) or_else sound_number false) 0))))

      pub passed_ticks : held_wear_ticked here xs rs n w ≡ plain
      passed_ticks = passed_as here.ok refl

      pub passed_bytes : tick_bytes here (length xs) (length rs) n bs ≡ board_bytes here plain.board bs
      passed_bytes = next_bytes here (length xs) (length rs) n bs
