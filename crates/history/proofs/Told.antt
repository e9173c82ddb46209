-- For every run of calls from a sound record: the record after is the one that the calls tell, it is sound and of the same size, and every stored byte is what the history says.
use Prim.Native.Nat.{ℕ, ◌<◌}
use mathlib.Core.Path.{◌≡◌, refl, sym, ap, subst, ◌∙◌}
use mathlib.Core.Bool.{Bool, true, false}
use mathlib.Core.List.{List, ◌∷◌}
use lib.ListN.{length, get_or}
use lib.Dec.{eqb}
use Rattle.types.specs.declared.Memory.{Memory}
use Rattle.types.specs.declared.Memory.TheVariants.{Array, Rows}
use Rattle.types.specs.declared.Record.{Record}
use Rattle.types.specs.declared.Answer.{Answer}
use Rattle.types.specs.declared.Ticked.{Ticked}
use Rattle.paper.specs.Sizes.{array_bytes, rows_bytes, memory_bytes}
use Rattle.paper.specs.Soundness.{sound}
use Rattle.paper.specs.Numbers.{tick_number}
use Rattle.paper.specs.Calls.{ticked, ticked_memory}
use Rattle.paper.specs.History.{Call, transaction, ticks, record_after_call, record_after_calls, call_touches, history, byte_after_all}
use Rattle.paper.proofs.CallKept.{call_sound, call_size}
use Rattle.paper.proofs.Histories.{bytes_append}
use Rattle.history.specs.Run.{Run, done, sends, waits}
use Rattle.paper.proofs.Touches.{memory_at, ticked_length}

-- a tick call on a part's own memory, refused or not
module _ (p : Record) (n : ℕ) where
  abbrev after_ticks_lem : Memory → List ℕ → List ℕ
  after_ticks_lem m xs = ticked_memory m p (array_bytes p.part.blocks) rows_bytes n xs

  module _ (m : Memory) where
    ticks_at_lem : (xs : List ℕ) (t : Bool) → eqb (tick_number p.part.blocks (sound p) (array_bytes p.part.blocks) rows_bytes n) 0 ≡ t → sound p ≡ true → length xs ≡ memory_bytes m p.part.blocks → (at : ℕ) → at < length xs
        → get_or (after_ticks_lem m xs) at 0 ≡ byte_after_all m at (call_touches (ticks n) p) (get_or xs at 0)
    unfolding ticked ticked_memory
    ticks_at_lem xs true e s z at l = rw e (memory_at m n p xs at s z l)
    ticks_at_lem xs false e s z at l = rw (e, e) refl

    -- and calls after it
    one_more : (cs : List Call) (xs ys zs : List ℕ) → ys ≡ after_ticks_lem m xs → sound p ≡ true → length xs ≡ memory_bytes m p.part.blocks → length ys ≡ length xs
        → ((at : ℕ) → at < length ys → get_or zs at 0 ≡ byte_after_all m at (history cs (record_after_call (ticks n) p)) (get_or ys at 0))
        → (at : ℕ) → at < length xs → get_or zs at 0 ≡ byte_after_all m at (history (ticks n ∷ cs) p) (get_or xs at 0)
    one_more cs xs ys zs e s z k told at l =
        told at (rw k l)
        ∙ ap (byte_after_all m at (history cs (record_after_call (ticks n) p))) (ap (λ (b : List ℕ). get_or b at 0) e ∙ ticks_at_lem xs _ refl s z at l)
        ∙ sym (bytes_append m at (call_touches (ticks n) p) (history cs (record_after_call (ticks n) p)) (get_or xs at 0))

-- what a run of calls leaves
pub record Told (cs : List Call) (p : Record) (xs rs : List ℕ) (q : Record) (ys ts : List ℕ) : Type 0 where
  pub next : q ≡ record_after_calls cs p
  pub next_sound : sound q ≡ true
  pub size : q.part.blocks ≡ p.part.blocks
  pub array_length : length ys ≡ length xs
  pub rows_length : length ts ≡ length rs
  pub array : (at : ℕ) → at < length xs → get_or ys at 0 ≡ byte_after_all Array at (history cs p) (get_or xs at 0)
  pub rows : (at : ℕ) → at < length rs → get_or ts at 0 ≡ byte_after_all Rows at (history cs p) (get_or rs at 0)

-- the record that a call left, in the place of the one that the calls tell
moved : {cs : List Call} {p p' : Record} {xs rs : List ℕ} {q : Record} {ys ts : List ℕ} → p ≡ p' → Told cs p xs rs q ys ts → Told cs p' xs rs q ys ts
moved {cs} {p} {p'} {xs} {rs} {q} {ys} {ts} e t = subst (λ (r : Record). Told cs r xs rs q ys ts) e t

pub run_told : {cs : List Call} {p q : Record} {xs rs ys ts : List ℕ} → Run p xs rs cs q ys ts → sound p ≡ true → length xs ≡ array_bytes p.part.blocks → length rs ≡ rows_bytes → Told cs p xs rs q ys ts
run_told done s a r =
    record { next = refl; next_sound = s; size = refl; array_length = refl; rows_length = refl; array = λ at l. refl; rows = λ at l. refl }
run_told (sends {p} {q} {xs} {rs} {ys} {ts} {wp} {i} {o} {cs} w h run) s a r =
    let e : w.next ≡ record_after_call (transaction wp i o) p = rw (a, r) at (ap (λ (b : Answer). b.next) h) in
    let z : w.next.part.blocks ≡ p.part.blocks = ap (λ (b : Record). b.part.blocks) e ∙ call_size (transaction wp i o) p in
    let k : sound w.next ≡ true = ap sound e ∙ call_sound (transaction wp i o) p s in
    let t = moved e (run_told run k (rw z a) r) in
    record { next = t.next; next_sound = t.next_sound; size = t.size ∙ call_size (transaction wp i o) p; array_length = t.array_length; rows_length = t.rows_length; array = t.array; rows = t.rows }
run_told (waits {p} {q} {xs} {rs} {xs'} {rs'} {ys} {ts} {n} {cs} w h hx hr run) s a r =
    let e : w.next ≡ record_after_call (ticks n) p = rw (a, r) at (ap (λ (b : Ticked). b.next) h) in
    let x : xs' ≡ after_ticks_lem p n Array xs = rw (a, r) at hx in
    let y : rs' ≡ after_ticks_lem p n Rows rs = rw (a, r) at hr in
    let z : w.next.part.blocks ≡ p.part.blocks = ap (λ (b : Record). b.part.blocks) e ∙ call_size (ticks n) p in
    let k : sound w.next ≡ true = ap sound e ∙ call_sound (ticks n) p s in
    let lx : length xs' ≡ length xs = ap (λ (l : List ℕ). length l) x ∙ ticked_length Array p (array_bytes p.part.blocks) rows_bytes n xs in
    let lr : length rs' ≡ length rs = ap (λ (l : List ℕ). length l) y ∙ ticked_length Rows p (array_bytes p.part.blocks) rows_bytes n rs in
    let t = moved e (run_told run k (lx ∙ rw z a) (lr ∙ r)) in
    record {
      next = t.next;
      next_sound = t.next_sound;
      size = t.size ∙ call_size (ticks n) p;
      array_length = t.array_length ∙ lx;
      rows_length = t.rows_length ∙ lr;
      array = one_more p n Array cs xs xs' ys x s a lx t.array;
      rows = one_more p n Rows cs rs rs' ts y s r lr t.rows;
    }
