-- What happens to a part over calls and power-ups, told: the record after, and of each stored byte what the history says.
use Prim.Native.Nat.{ℕ, ◌<◌}
use mathlib.Core.Path.{◌≡◌, refl, sym, ap, ◌∙◌, subst⁻¹}
use mathlib.Core.List.{List}
use lib.ListN.{length, get_or}
use Rattle.types.specs.declared.Memory.{Memory}
use Rattle.types.specs.declared.Memory.TheVariants.{Array, Rows}
use Rattle.types.specs.declared.Stored.{Stored}
use Rattle.types.specs.declared.Record.{Record}
use Rattle.paper.specs.Sizes.{array_bytes}
use Rattle.paper.specs.History.{record_after_calls, history, byte_after_all}
use Rattle.paper.specs.Board.{Board, Own}
use Rattle.paper.proofs.Kept.{power_up_sound, powered_fresh}
use Rattle.paper.proofs.Histories.{bytes_append}
use Rattle.laws.specs.Writes.{memory_in}
use Rattle.laws.proofs.Boards.{made_told, made_own, told_length, told_bytes}
use Rattle.restart.specs.Cuts.{up_again, powered_again, Event, Lives, over, sent, up, record_after_events, history_through}

-- a power-up that is not refused
pub up_size : (g : Stored) (p : Record) → (up_again g p).number ≡ 0 → (up_again g p).next.part.blocks ≡ p.part.blocks
up_size g p z = ap (λ (q : Record). q.part.blocks) (powered_fresh p.part.blocks p.identity g z)

pub up_own : (b : Board) (g : Stored) → Own b → (up_again g b.state).number ≡ 0 → Own (powered_again g b)
up_own b g o z =
    record { is_sound = power_up_sound b.state.part.blocks b.state.identity g; own_array = o.own_array ∙ sym (ap array_bytes (up_size g b.state z)); own_rows = o.own_rows }

-- what events leave
pub record LivesTold (es : List Event) (b e : Board) : Type 0 where
  pub next : e.state ≡ record_after_events es b.state
  pub size : e.state.part.blocks ≡ b.state.part.blocks
  pub lengths : (m : Memory) → length (memory_in m e) ≡ length (memory_in m b)
  pub bytes : (m : Memory) (at : ℕ) → at < length (memory_in m b) → get_or (memory_in m e) at 0 ≡ byte_after_all m at (history_through es b.state) (get_or (memory_in m b) at 0)

pub memory_again : (m : Memory) (g : Stored) (b : Board) → memory_in m (powered_again g b) ≡ memory_in m b
memory_again Array g b = refl
memory_again Rows g b = refl

pub lives_told : {b e : Board} {es : List Event} → Own b → Lives b es e → LivesTold es b e
lives_told o over = record { next = refl; size = refl; lengths = λ m. refl; bytes = λ m at l. refl }
lives_told {b} {e} o (sent {c = c} {cs = cs} {es = es} run rest) =
    let t = made_told o run in
    let on = lives_told (made_own o run) rest in
    record {
      next = on.next ∙ ap (record_after_events es) t.next;
      size = on.size ∙ t.size;
      lengths = λ m. on.lengths m ∙ told_length t m;
      bytes = λ m at l.
          on.bytes m at (subst⁻¹ (λ (k : ℕ). at < k) (told_length t m) l)
          ∙ ap (λ (p : Record). byte_after_all m at (history_through es p) (get_or (memory_in m c) at 0)) t.next
          ∙ ap (byte_after_all m at (history_through es (record_after_calls cs b.state))) (told_bytes t m at l)
          ∙ sym (bytes_append m at (history cs b.state) (history_through es (record_after_calls cs b.state)) (get_or (memory_in m b) at 0));
    }
lives_told {b} {e} o (up {g = g} {es = es} z rest) =
    let on = lives_told (up_own b g o z) rest in
    let same : (m : Memory) → length (memory_in m (powered_again g b)) ≡ length (memory_in m b) = λ m. ap (λ (xs : List ℕ). length xs) (memory_again m g b) in
    record {
      next = on.next;
      size = on.size ∙ up_size g b.state z;
      lengths = λ m. on.lengths m ∙ same m;
      bytes = λ m at l.
          on.bytes m at (subst⁻¹ (λ (k : ℕ). at < k) (same m) l)
          ∙ ap (λ (xs : List ℕ). byte_after_all m at (history_through es (up_again g b.state).next) (get_or xs at 0)) (memory_again m g b);
    }
