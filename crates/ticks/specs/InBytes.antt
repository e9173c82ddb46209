-- A tick call on the record that bytes hold.
use Rattle.std.specs.Prelude.{ℕ, List, false}
use Rattle.types.specs.declared.Memory.{Memory}
use Rattle.types.specs.declared.Reached.{Reached}
use Rattle.types.specs.declared.Ticked.{Ticked}
use Rattle.types.specs.declared.Worked.{Worked}
use Rattle.words.specs.Logic.{◌or_else◌}
use Rattle.paper.specs.Numbers.{rows_number, sound_number}
use Rattle.paper.specs.Reached.{nothing, reached}
use Rattle.paper.specs.Calls.{ticked, ticked_memory}
use Rattle.record_bytes.specs.Layout.{record_bytes}
use Rattle.record_bytes.specs.Read.{Held, on_held}

-- where they hold no record there is no size for 1 to judge, and it is 2 or 5
abbrev pub held_ticks : Held → ℕ → ℕ → ℕ → Ticked
held_ticks h a r n =
    on_held h (λ p. ticked p a r n)
    (record { next = h.state; number = rows_number r or_else sound_number false; done = 0 })

-- what they reached: without a record nothing
abbrev pub held_reached : Held → ℕ → ℕ → ℕ → Reached
held_reached h a r n = on_held h (λ p. reached p (ticked p a r n)) nothing

-- the number, and what they reached
unfoldable pub held_worked : Held → ℕ → ℕ → ℕ → Worked
held_worked h a r n = record { number = (held_ticks h a r n).number; reached = held_reached h a r n }

-- the record's bytes after them: the next record's; where none was held, as they were
unfoldable pub tick_bytes : Held → ℕ → ℕ → ℕ → List ℕ → List ℕ
tick_bytes h a r n bs = on_held h (λ p. record_bytes (ticked p a r n).next) bs

-- a memory's bytes after them: a refusal writes nothing
unfoldable pub tick_memory : Memory → Held → ℕ → ℕ → ℕ → List ℕ → List ℕ
tick_memory m h a r n xs = on_held h (λ p. ticked_memory m p a r n xs) xs
