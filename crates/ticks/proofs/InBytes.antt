-- What the definitions for a tick call on bytes come to: no record held, and the call itself.
use Rattle.types.specs.declared.Operation.{Operation}
use Rattle.std.specs.Prelude.{Option}
use Prim.Native.Nat.{ℕ}
use mathlib.Core.Path.{◌≡◌, refl, sym, ap, ◌∙◌}
use mathlib.Core.Bool.{Bool, true, false, cond}
use mathlib.Core.List.{List, []}
use lib.ListN.{length, take, drop}
use Rattle.types.specs.declared.Memory.{Memory}
use Rattle.types.specs.declared.Record.{Record}
use Rattle.types.specs.declared.Ticked.{Ticked}
use Rattle.types.specs.declared.Waited.{Waited}
use Rattle.types.specs.declared.Worked.{Worked}
use Rattle.words.specs.Logic.{unless, ◌or_else◌}
use Rattle.paper.specs.Sizes.{page_bytes}
use Rattle.paper.specs.Phases.{running}
use Rattle.paper.specs.Numbers.{rows_number, sound_number}
use Rattle.paper.specs.Reached.{nothing, reached}
use Rattle.paper.specs.Calls.{ticked}
use Rattle.record_bytes.specs.declared.Found.{Found}
use Rattle.record_bytes.specs.Layout.{header_length, record_bytes, change_written}
use Rattle.record_bytes.specs.Read.{Held, record_in, on_held, found_of}
use Rattle.record_bytes.proofs.Back.{lent_length, held_page, on_none, on_held_lem}
use Rattle.record_bytes.proofs.Changed.{held_changed}
use Rattle.ticks.specs.Waited.{waited_of, waited_memory, ticked_by}
use Rattle.ticks.specs.InBytes.{held_ticks, held_reached, held_worked, tick_bytes, tick_memory}
use Rattle.ticks.proofs.Waited.{ticked_told, memory_told}

-- what they reached has as many ticks as did work
count_as : (p : Record) (y : Ticked) (k : ℕ) (t : Bool) → (cond t (reached p y) nothing).count ≡ (cond {A = Ticked} t y (record { next = p; number = k; done = 0 })).done
count_as p y k true = refl
count_as p y k false = refl

pub reached_count : (h : Held) (a r n : ℕ) → (held_reached h a r n).count ≡ (held_ticks h a r n).done
unfolding on_held
reached_count h a r n = count_as h.state (ticked h.state a r n) _ h.ok

-- no record held
module _ (h : Held) (e : h.ok ≡ false) (a r n : ℕ) where
  pub unheld_worked : (k : ℕ) → k ≡ (rows_number r or_else 5) → ◌≡◌ {A = Worked} record { number = k; reached = nothing } (held_worked h a r n)
  unfolding held_worked sound_number unless
  unheld_worked k ek =
      ap (λ (j : ℕ). record { number = j; reached = nothing }) ek
      ∙ rw (on_none h (λ p. ticked p a r n) (record { next = h.state; number = rows_number r or_else 5; done = 0 }) e, on_none h (λ p. reached p (ticked p a r n)) nothing e)

  pub unheld_tick_bytes : (bs : List ℕ) → bs ≡ tick_bytes h a r n bs
  unfolding tick_bytes
  unheld_tick_bytes bs = sym (on_none h _ bs e)

  pub unheld_memory : (m : Memory) (xs : List ℕ) → xs ≡ tick_memory m h a r n xs
  unfolding tick_memory
  unheld_memory m xs = sym (on_none h _ xs e)

-- a record held: what was found, and its page data as it is lent
module _ (bs : List ℕ) (e : (record_in bs).ok ≡ true) (x : Found) (ex : x ≡ found_of (record_in bs).state) where
  abbrev held : Record
  held = (record_in bs).state

  abbrev lent : List ℕ
  lent = take page_bytes (drop header_length bs)

  module _ (a r n : ℕ) where
    module _ (u : Waited) (eu : u ≡ waited_of x.part x.phase x.sound a r n) where
      ticks_told : ticked_by u held ≡ ticked held a r n
      ticks_told = ap (λ (y : Waited). ticked_by y held) eu ∙ rw ex (ticked_told held a r n)

      pub told_worked : (w : Option Operation) → w ≡ running x.phase → ◌≡◌ {A = Worked} record { number = u.number; reached = record { work = w; count = u.done } } (held_worked (record_in bs) a r n)
      unfolding held_worked
      told_worked w ew =
          ap (λ (v : Option Operation). record { number = u.number; reached = record { work = v; count = u.done } }) (ew ∙ ap (λ (y : Found). running y.phase) ex)
          ∙ ap (λ (y : Ticked). record { number = y.number; reached = reached held y }) ticks_told
          ∙ sym (rw (on_held_lem (record_in bs) (λ p. ticked p a r n) (record { next = held; number = rows_number r or_else sound_number false; done = 0 }) e, on_held_lem (record_in bs) (λ p. reached p (ticked p a r n)) nothing e) refl)

      pub told_bytes : change_written u.change [] bs ≡ tick_bytes (record_in bs) a r n bs
      unfolding tick_bytes
      told_bytes =
          held_changed u.change [] bs e ∙ ap (λ (y : Ticked). record_bytes y.next) ticks_told ∙ sym (on_held_lem (record_in bs) _ bs e)

    pub told_memory : (m : Memory) (xs y : List ℕ) → y ≡ waited_memory m x.part x.phase x.sound lent a r n xs → y ≡ tick_memory m (record_in bs) a r n xs
    unfolding tick_memory
    told_memory m xs y ey =
        ey ∙ rw (ex, held_page bs e) (memory_told held a r n m xs (ap (λ (g : List ℕ). length g) (sym (held_page bs e)) ∙ lent_length bs e)) ∙ sym (on_held_lem (record_in bs) _ xs e)

-- the bytes after ticks are those of the record that they answer
module _ (h : Held) (a r n : ℕ) (bs : List ℕ) where
  next_as : (t : Bool) → h.ok ≡ t → tick_bytes h a r n bs ≡ on_held h (λ p. record_bytes (held_ticks h a r n).next) bs
  unfolding tick_bytes
  next_as true e =
      on_held_lem h (λ p. record_bytes (ticked p a r n).next) bs e
      ∙ sym (on_held_lem h (λ p. record_bytes (held_ticks h a r n).next) bs e ∙ ap (λ (t : Ticked). record_bytes t.next) (on_held_lem h (λ p. ticked p a r n) _ e))
  next_as false e =
      on_none h (λ p. record_bytes (ticked p a r n).next) bs e ∙ sym (on_none h (λ p. record_bytes (held_ticks h a r n).next) bs e)

  pub next_bytes : tick_bytes h a r n bs ≡ on_held h (λ p. record_bytes (held_ticks h a r n).next) bs
  next_bytes = next_as h.ok refl
