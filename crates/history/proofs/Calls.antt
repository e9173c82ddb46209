-- Lists of calls: what they keep, and some calls and then others.
use Prim.Native.Nat.{ℕ}
use mathlib.Core.Path.{◌≡◌, refl, sym, ap, ◌∙◌}
use mathlib.Core.Bool.{true}
use mathlib.Core.List.{List, [], ◌∷◌, ◌++◌, append_assoc}
use Rattle.types.specs.declared.Memory.{Memory}
use Rattle.types.specs.declared.Record.{Record}
use Rattle.paper.specs.Operations.{Touch}
use Rattle.paper.specs.Soundness.{sound}
use Rattle.paper.specs.History.{Call, record_after_call, record_after_calls, call_touches, history, byte_after_all}
use Rattle.paper.proofs.CallKept.{call_sound, call_size}
use Rattle.paper.proofs.Histories.{bytes_append}

-- a sound record stays sound, and a part keeps its size
pub calls_sound : (cs : List Call) (p : Record) → sound p ≡ true → sound (record_after_calls cs p) ≡ true
calls_sound [] p s = s
calls_sound (c ∷ cs) p s = calls_sound cs (record_after_call c p) (call_sound c p s)

pub calls_size : (cs : List Call) (p : Record) → (record_after_calls cs p).part.blocks ≡ p.part.blocks
calls_size [] p = refl
calls_size (c ∷ cs) p = calls_size cs (record_after_call c p) ∙ call_size c p

-- some calls, then others
pub calls_append : (cs ds : List Call) (p : Record) → record_after_calls (cs ++ ds) p ≡ record_after_calls ds (record_after_calls cs p)
calls_append [] ds p = refl
calls_append (c ∷ cs) ds p = calls_append cs ds (record_after_call c p)

pub history_append : (cs ds : List Call) (p : Record) → history (cs ++ ds) p ≡ history cs p ++ history ds (record_after_calls cs p)
history_append [] ds p = refl
history_append (c ∷ cs) ds p =
    ap (λ (ts : List Touch). call_touches c p ++ ts) (history_append cs ds (record_after_call c p))
    ∙ sym (append_assoc (call_touches c p) (history cs (record_after_call c p)) (history ds (record_after_calls cs (record_after_call c p))))

-- a byte after some calls and then others
pub bytes_joined : (m : Memory) (at : ℕ) (cs ds : List Call) (p : Record) (x : ℕ) → byte_after_all m at (history (cs ++ ds) p) x ≡ byte_after_all m at (history ds (record_after_calls cs p)) (byte_after_all m at (history cs p) x)
bytes_joined m at cs ds p x =
    ap (λ (ts : List Touch). byte_after_all m at ts x) (history_append cs ds p)
    ∙ bytes_append m at (history cs p) (history ds (record_after_calls cs p)) x
