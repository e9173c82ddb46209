-- Demand 3's last sentences: a part that was woken, armed and reset equals one freshly powered, from every sound record and after every history.
use Prim.Native.Nat.{ℕ}
use mathlib.Core.Path.{◌≡◌, refl, sym, ap, ◌∙◌, subst, subst⁻¹}
use mathlib.Core.Bool.{Bool, true, false}
use mathlib.Core.List.{List, [], ◌∷◌, ◌++◌, append-nil}
use Rattle.types.specs.declared.Identity.{Identity}
use Rattle.types.specs.declared.Stored.{Stored}
use Rattle.types.specs.declared.PoweredUp.{PoweredUp}
use Rattle.types.specs.declared.Answer.{Answer}
use Rattle.types.specs.declared.Record.{Record}
use Rattle.paper.specs.Operations.{Touch}
use Rattle.paper.specs.Records.{fresh}
use Rattle.paper.specs.Soundness.{sound}
use Rattle.paper.specs.Calls.{powered_up}
use Rattle.paper.specs.History.{Call, record_after_call, record_after_calls, history}
use Rattle.paper.proofs.Kept.{power_up_sound, powered_fresh}
use Rattle.history.proofs.Calls.{calls_sound, calls_size, calls_append, history_append}
use Rattle.reset.specs.Closing.{wake, arm, reset, all_aside, until_armed, until_reset, closing, powered_as, answer_to_reset, FreshAfter}
use Rattle.reset.proofs.Aside.{calls_identity, all_aside_alike}
use Rattle.reset.proofs.Steps.{woken, reset_now}
use Rattle.reset.proofs.Armed.{Armed, armed_after, sound_powered}

module _ (w1 w2 w3 : Bool) (b c : List Call) (p : Record) where
  abbrev at_arm : Record
  at_arm = record_after_calls b (record_after_call (wake w1) p)

  abbrev at_reset : Record
  at_reset = record_after_calls (until_reset w1 w2 b c) p

  -- the part freshly powered, with the size, identity and stored register bits that it has just before 99h
  abbrev freshened : Record
  freshened = fresh at_reset.part.blocks at_reset.identity at_reset.part.stored

  armed_here : record_after_calls (until_armed w1 w2 b) p ≡ record_after_call (arm w2) at_arm
  armed_here = calls_append b (arm w2 ∷ []) (record_after_call (wake w1) p)

  closed_here : record_after_calls (closing w1 w2 w3 b c) p ≡ (answer_to_reset w3 at_reset).next
  closed_here =
      calls_append b (arm w2 ∷ (c ++ (reset w3 ∷ []))) (record_after_call (wake w1) p)
      ∙ calls_append c (reset w3 ∷ []) (record_after_call (arm w2) at_arm)
      ∙ ap (record_after_call (reset w3)) (sym (calls_append b (arm w2 ∷ c) (record_after_call (wake w1) p)))

  -- ABh, 66h and 99h reach no stored byte
  only_between : history (closing w1 w2 w3 b c) p ≡ history b (record_after_call (wake w1) p) ++ history c (record_after_calls (until_armed w1 w2 b) p)
  only_between =
      history_append b (arm w2 ∷ (c ++ (reset w3 ∷ []))) (record_after_call (wake w1) p)
      ∙ ap (λ (ts : List Touch). history b (record_after_call (wake w1) p) ++ ts)
      (history_append c (reset w3 ∷ []) (record_after_call (arm w2) at_arm) ∙ append-nil (history c (record_after_call (arm w2) at_arm)) ∙ ap (history c) (sym armed_here))

  module _ (s : sound p ≡ true) (hb : all_aside b (record_after_call (wake w1) p) ≡ true) (hc : all_aside c (record_after_calls (until_armed w1 w2 b) p) ≡ true) where
    arm_sound : sound at_arm ≡ true
    arm_sound = calls_sound (wake w1 ∷ b) p s

    arm_awake : at_arm.part.asleep ≡ false
    arm_awake = (all_aside_alike b (record_after_call (wake w1) p) hb).asleep ∙ woken p s w1

    ready : Armed at_reset
    ready =
        subst⁻¹ Armed (calls_append b (arm w2 ∷ c) (record_after_call (wake w1) p)) (armed_after at_arm w2 c arm_sound arm_awake (subst (λ (q : Record). all_aside c q ≡ true) armed_here hc))

    answer : answer_to_reset w3 at_reset ≡ record { next = freshened; number = 0; first = 1 }
    answer = reset_now at_reset ready.is_sound w3 ready.awake ready.is_armed

    powered : (n : ℕ) (id : Identity) → p.part.blocks ≡ n → p.identity ≡ id → powered_as n id at_reset ≡ record { next = freshened; number = 0 }
    powered n id en ei =
        let m : at_reset.part.blocks ≡ n = calls_size (until_reset w1 w2 b c) p ∙ en in
        let i : at_reset.identity ≡ id = calls_identity (until_reset w1 w2 b c) p ∙ ei in
        ap (λ (k : ℕ). powered_as k id at_reset) (sym m)
        ∙ ap (λ (j : Identity). powered_as at_reset.part.blocks j at_reset) (sym i)
        ∙ sound_powered at_reset ready.is_sound

    fresh_as : (n : ℕ) (id : Identity) → p.part.blocks ≡ n → p.identity ≡ id → FreshAfter n id w1 w2 w3 b c p
    fresh_as n id en ei =
        record {
          executed = ap (λ (t : Answer). t.number) answer;
          unrefused = ap (λ (t : PoweredUp). t.number) (powered n id en ei);
          equal = closed_here ∙ ap (λ (t : Answer). t.next) answer ∙ sym (ap (λ (t : PoweredUp). t.next) (powered n id en ei));
          reached = only_between;
        }

-- from every sound record, whatever its phase, asleep or awake
pub wake_arm_reset : (p : Record) (w1 w2 w3 : Bool) (b c : List Call) → sound p ≡ true
    → all_aside b (record_after_call (wake w1) p) ≡ true → all_aside c (record_after_calls (until_armed w1 w2 b) p) ≡ true
    → FreshAfter p.part.blocks p.identity w1 w2 w3 b c p
wake_arm_reset p w1 w2 w3 b c s hb hc = fresh_as w1 w2 w3 b c p s hb hc p.part.blocks p.identity refl refl

-- from a power-up that was not refused on
module _ (n : ℕ) (id : Identity) (g : Stored) where
  -- after every list of calls a
  pub reset_after_history : (a : List Call) (w1 w2 w3 : Bool) (b c : List Call) → (powered_up n id g).number ≡ 0
      → let p = record_after_calls a (powered_up n id g).next in
      all_aside b (record_after_call (wake w1) p) ≡ true → all_aside c (record_after_calls (until_armed w1 w2 b) p) ≡ true
      → FreshAfter n id w1 w2 w3 b c p
  reset_after_history a w1 w2 w3 b c h hb hc =
      let o = (powered_up n id g).next in
      fresh_as w1 w2 w3 b c (record_after_calls a o) (calls_sound a o (power_up_sound n id g)) hb hc n id
      (calls_size a o ∙ ap (λ (q : Record). q.part.blocks) (powered_fresh n id g h))
      (calls_identity a o ∙ ap (λ (q : Record). q.identity) (powered_fresh n id g h))
