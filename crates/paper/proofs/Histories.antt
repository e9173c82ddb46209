-- Touches that are put together: a byte after some and then others, and those of ticks and then more.
use Rattle.types.specs.declared.Operation.{Operation}
use Rattle.std.specs.Prelude.{None, Option}
use Prim.Native.Nat.{ℕ, zero, suc, ◌+◌}
use mathlib.Core.Path.{◌≡◌, refl, sym, ap, ◌∙◌}
use mathlib.Core.List.{List, [], ◌∷◌, ◌++◌, append-nil, append_assoc}
use native.Mathlib.Nat.{add-zero, add-suc}
use Rattle.types.specs.declared.Memory.{Memory}
use Rattle.types.specs.declared.Record.{Record}
use Rattle.paper.specs.Phases.{running}
use Rattle.paper.specs.Operations.{Touch}
use Rattle.paper.specs.Ticks.{record_after, touch_at, touch_of}
use Rattle.paper.specs.History.{tick_touches, byte_after, byte_after_all}
use Rattle.paper.proofs.ManyTicks.{ticks_more, rest_record}

pub bytes_append : (m : Memory) (at : ℕ) (ts us : List Touch) (x : ℕ) → byte_after_all m at (ts ++ us) x ≡ byte_after_all m at us (byte_after_all m at ts x)
bytes_append m at [] us x = refl
bytes_append m at (t ∷ ts) us x = bytes_append m at ts us (byte_after m at t x)

pub touches_more : (a b : ℕ) (p : Record) → tick_touches (a + b) p ≡ tick_touches a p ++ tick_touches b (record_after a p)
touches_more a zero p = rw add-zero (sym (append-nil (tick_touches a p)))
touches_more a (suc b) p =
    rw add-suc
    (ap (λ (q : Record). tick_touches (a + b) p ++ (touch_of q ∷ [])) (ticks_more a b p)
    ∙ ap (λ (ts : List Touch). ts ++ (touch_of (record_after b (record_after a p)) ∷ [])) (touches_more a b p)
    ∙ append_assoc (tick_touches a p) (tick_touches b (record_after a p)) (touch_of (record_after b (record_after a p)) ∷ []))

-- a part on which nothing runs: ticks reach nothing
pub rest_bytes : (m : Memory) (at n : ℕ) (p : Record) (x : ℕ) → running p.phase ≡ None → byte_after_all m at (tick_touches n p) x ≡ x
rest_bytes m at zero p x e = refl
rest_bytes m at (suc n) p x e =
    bytes_append m at (tick_touches n p) (touch_of (record_after n p) ∷ []) x
    ∙ ap (λ (q : Record). byte_after m at (touch_of q) (byte_after_all m at (tick_touches n p) x)) (rest_record p e n)
    ∙ ap (λ (w : Option Operation). byte_after m at (touch_at w p.page) (byte_after_all m at (tick_touches n p) x)) e
    ∙ rest_bytes m at n p x e
