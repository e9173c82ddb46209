-- Demand 3: the history is that of a run from a sound record, and a part that was woken, armed and reset is one freshly powered after every list of calls.
use Prim.Native.Nat.{ℕ}
use mathlib.Core.Path.{◌≡◌, refl, sym, ap, subst, ◌∙◌}
use mathlib.Core.Bool.{Bool}
use mathlib.Core.List.{List, [], ◌∷◌, ◌++◌, append_assoc}
use lib.ListN.{length}
use Rattle.types.specs.declared.Identity.{Identity}
use Rattle.types.specs.declared.Stored.{Stored}
use Rattle.types.specs.declared.Record.{Record}
use Rattle.paper.specs.Sizes.{array_bytes}
use Rattle.paper.specs.Calls.{powered_up}
use Rattle.paper.specs.History.{Call, record_after_calls}
use Rattle.paper.proofs.Kept.{power_up_sound, powered_fresh}
use Rattle.history.specs.Run.{Run, done, sends}
use Rattle.history.proofs.Calls.{calls_size, calls_append}
use Rattle.history.proofs.Told.{run_told}
use Rattle.history.proofs.Shielded.{protected_kept, locked_kept}
use Rattle.history.proofs.Joined.{run_parted}
use Rattle.reset.specs.Closing.{wake, arm, reset, until_reset, closing, powered_as, answer_to_reset}
use Rattle.reset.specs.Demand3.{PoweredAndSent, FromPowerUp, Closes, FreshRun, Demand3}
use Rattle.reset.proofs.Theorem.{reset_after_history}

-- 99h comes last
pub reset_last : (a : List Call) (w1 w2 w3 : Bool) (b c : List Call) → a ++ closing w1 w2 w3 b c ≡ (a ++ until_reset w1 w2 b c) ++ (reset w3 ∷ [])
reset_last a w1 w2 w3 b c =
    ap (λ (cs : List Call). a ++ (wake w1 ∷ cs)) (sym (append_assoc b (arm w2 ∷ c) (reset w3 ∷ [])))
    ∙ sym (append_assoc a (until_reset w1 w2 b c) (reset w3 ∷ []))

-- and reaches no stored byte
reset_keeps : {p q : Record} {xs rs ys ts : List ℕ} {wp : Bool} → Run p xs rs (reset wp ∷ []) q ys ts → (ys ≡ xs) × (ts ≡ rs)
reset_keeps (sends a h done) = (refl, refl)

module _ (n : ℕ) (id : Identity) (g : Stored) where
  pub history_told : {cs : List Call} {xs rs : List ℕ} {q : Record} {ys ts : List ℕ} → PoweredAndSent n id g cs xs rs q ys ts → FromPowerUp n id g cs xs rs q ys ts
  history_told {cs} {xs} {rs} {q} {ys} {ts} sent =
      let s = power_up_sound n id g in
      let b : length xs ≡ array_bytes (powered_up n id g).next.part.blocks = rw (powered_fresh n id g sent.unrefused) sent.own_array in
      let t = run_told sent.run s b sent.own_rows in
      record { next = t.next; next_sound = t.next_sound; array_length = t.array_length; rows_length = t.rows_length; array = t.array; rows = t.rows; protected_kept = protected_kept sent.run s b sent.own_rows; locked_kept = locked_kept sent.run s b sent.own_rows }

  pub reset_after_run : (a : List Call) (w1 w2 w3 : Bool) (b c : List Call) {xs rs : List ℕ} {q : Record} {ys ts : List ℕ}
      → PoweredAndSent n id g (a ++ closing w1 w2 w3 b c) xs rs q ys ts → Closes n id g a w1 w2 b c → FreshRun n id g a w1 w2 w3 b c xs rs q ys ts
  reset_after_run a w1 w2 w3 b c {xs} {rs} {q} {ys} {ts} sent closes =
      let o = (powered_up n id g).next in
      let p = record_after_calls a o in
      let l = run_parted (a ++ until_reset w1 w2 b c) (reset w3 ∷ []) (subst (λ (cs : List Call). Run o xs rs cs q ys ts) (reset_last a w1 w2 w3 b c) sent.run) in
      let until = history_told (record { unrefused = sent.unrefused; own_array = sent.own_array; own_rows = sent.own_rows; run = l.before }) in
      let told = history_told sent in
      let here : l.between ≡ record_after_calls (until_reset w1 w2 b c) p = until.next ∙ calls_append a (until_reset w1 w2 b c) o in
      let size : l.between.part.blocks ≡ n = ap (λ (r : Record). r.part.blocks) until.next ∙ calls_size (a ++ until_reset w1 w2 b c) o ∙ ap (λ (r : Record). r.part.blocks) (powered_fresh n id g sent.unrefused) in
      let f = reset_after_history n id g a w1 w2 w3 b c sent.unrefused closes.between closes.armed in
      record {
        before = l.between;
        array = l.array;
        rows = l.rows;
        until_reset_lem = l.before;
        executed = rw (until.array_length ∙ sent.own_array ∙ ap array_bytes (sym size), until.rows_length ∙ sent.own_rows) (ap (λ (r : Record). (answer_to_reset w3 r).number) here ∙ f.executed);
        array_kept = (reset_keeps l.after).0;
        rows_kept = (reset_keeps l.after).1;
        unrefused = ap (λ (r : Record). (powered_as n id r).number) here ∙ f.unrefused;
        equal = told.next ∙ calls_append a (closing w1 w2 w3 b c) o ∙ f.equal ∙ sym (ap (λ (r : Record). (powered_as n id r).next) here);
        told = told;
      }

pub demand_3 : Demand3
demand_3 = record { told = history_told; fresh = reset_after_run }
