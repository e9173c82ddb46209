-- 66h on an awake part arms it, and calls that stand aside leave it so. And what a power-up with a sound record's stored register bits gives.
use mathlib.Core.Path.{◌≡◌, ap, ◌∙◌}
use mathlib.Core.Bool.{Bool, true, false}
use mathlib.Core.List.{List, ◌∷◌}
use Rattle.types.specs.declared.Answer.{Answer}
use Rattle.types.specs.declared.Record.{Record}
use Rattle.paper.specs.Records.{fresh}
use Rattle.paper.specs.Soundness.{sound}
use Rattle.paper.specs.History.{Call, record_after_call, record_after_calls}
use Rattle.paper.proofs.Soundness.{sound_parts}
use Rattle.paper.proofs.Kept.{unbanked}
use Rattle.history.proofs.Calls.{calls_sound}
use Rattle.reset.specs.Closing.{arm, all_aside, powered_as}
use Rattle.reset.proofs.Aside.{all_aside_alike}
use Rattle.reset.proofs.Steps.{armed_now, powered_as_lem}

-- a part that is awake and armed, and that 99h may be sent to
pub record Armed (q : Record) : Type 0 where
  pub is_sound : sound q ≡ true
  pub awake : q.part.asleep ≡ false
  pub is_armed : q.part.armed ≡ true

pub armed_after : (p : Record) (w : Bool) (cs : List Call) → sound p ≡ true → p.part.asleep ≡ false → all_aside cs (record_after_call (arm w) p) ≡ true → Armed (record_after_calls (arm w ∷ cs) p)
armed_after p w cs s awake aside =
    let now = ap (λ (t : Answer). t.next) (armed_now p s w awake) in
    let like = all_aside_alike cs (record_after_call (arm w) p) aside in
    record {
      is_sound = calls_sound (arm w ∷ cs) p s;
      awake = like.asleep ∙ ap (λ (q : Record). q.part.asleep) now ∙ awake;
      is_armed = like.armed ∙ ap (λ (q : Record). q.part.armed) now;
    }

pub sound_powered : (q : Record) → sound q ≡ true → powered_as q.part.blocks q.identity q ≡ record { next = fresh q.part.blocks q.identity q.part.stored; number = 0 }
sound_powered q s =
    powered_as_lem q.part.blocks q.identity q.part.stored (sound_parts q s).size (unbanked q.part.blocks q.part.stored.function q.part.bank (sound_parts q s).large)
