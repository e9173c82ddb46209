-- Demand 3's last sentences from C: a part that was powered up, driven by any calls, woken, armed and reset is one freshly powered, and 99h answers 0.
use Prim.Native.Nat.{ℕ, ◌≤◌}
use mathlib.Core.Path.{◌≡◌, refl, sym, ap, subst, subst⁻¹, ◌∙◌}
use mathlib.Core.Bool.{Bool, cond}
use mathlib.Core.List.{List, [], ◌∷◌, ◌++◌, append_assoc, append-nil}
use lib.Dec.{eqb}
use lib.ListN.{length}
use borrow.Author.Tests.{le-leb}
use Rattle.types.specs.declared.Answer.{Answer}
use Rattle.types.specs.declared.Record.{Record}
use Rattle.paper.specs.Sizes.{array_bytes, rows_bytes}
use Rattle.paper.specs.Calls.{transacted}
use Rattle.paper.specs.History.{Call, transaction, record_after_call, record_after_calls}
use Rattle.record_bytes.specs.Layout.{record_bytes}
use Rattle.yawlspar.specs.Face.{packed, Asked, identity_of, registers_of, up_of, power_up_answer, power_up_bytes}
use Rattle.history.specs.Run.{Run}
use Rattle.history.proofs.Calls.{calls_append}
use Rattle.history.proofs.Joined.{run_one}
use Rattle.reset.specs.Closing.{wake, arm, reset, until_reset, closing}
use Rattle.reset.specs.Demand3.{PoweredAndSent, Closes}
use Rattle.reset.proofs.Demand3.{reset_last, reset_after_run}
use Rattle.from_c.specs.Driven.{Lent, lent, CCall, transact, gives, call_of, heard_of, calls_of, Driven, ended, calls, heard, until_from_c, closing_from_c}
use Rattle.from_c.specs.FromC.{EndsExecuted, FreshFromC, after_wake, after_arm, Demand3FromC}
use Rattle.from_c.specs.Holding.{Holding}
use Rattle.from_c.proofs.Held.{held_answer}
use Rattle.from_c.proofs.Holding.{in_bytes}
use Rattle.from_c.proofs.Chained.{driven_run}
use Rattle.from_c.proofs.FromC.{up_holds, driven_told}

-- some calls from C, then others
calls_of_append : (a b : List CCall) (p : Record) → calls_of (a ++ b) p ≡ calls_of a p ++ calls_of b (record_after_calls (calls_of a p) p)
calls_of_append [] b p = refl
calls_of_append (c ∷ cs) b p =
    let q = record_after_calls (call_of c p) p in
    ap (λ (ds : List Call). call_of c p ++ ds) (calls_of_append cs b q)
    ∙ sym (append_assoc (call_of c p) (calls_of cs q) (calls_of b (record_after_calls (calls_of cs q) q)))
    ∙ ap (λ (r : Record). (call_of c p ++ calls_of cs q) ++ calls_of b r) (sym (calls_append (call_of c p) (calls_of cs q) p))

-- a one-byte transaction with a level that is one, and calls from C after it
pub sent_of : (wp code x : ℕ) (cs : List CCall) (p : Record) → wp ≤ 1 → let c = transaction (eqb wp 1) (code ∷ []) 1 in calls_of (transact wp (code ∷ []) (x ∷ []) ∷ cs) p ≡ c ∷ calls_of cs (record_after_call c p)
sent_of wp code x cs p h = rw (le-leb wp 1 h) refl

-- the calls until 99h stand for those until the reset
until_of : (l1 l2 x y : ℕ) (b c : List CCall) → l1 ≤ 1 → l2 ≤ 1 → (p : Record)
    → calls_of (until_from_c l1 l2 x y b c) p ≡ until_reset (eqb l1 1) (eqb l2 1) (after_wake l1 b p) (after_arm l1 l2 b c p)
until_of l1 l2 x y b c h1 h2 p =
    let woken = record_after_call (wake (eqb l1 1)) p in
    let arming = record_after_calls (after_wake l1 b p) woken in
    sent_of l1 0xAB x (b ++ (transact l2 (0x66 ∷ []) (y ∷ []) ∷ c)) p h1
    ∙ ap (λ (ds : List Call). wake (eqb l1 1) ∷ ds) (calls_of_append b (transact l2 (0x66 ∷ []) (y ∷ []) ∷ c) woken
    ∙ ap (λ (ds : List Call). after_wake l1 b p ++ ds) (sent_of l2 0x66 y c arming h2
    ∙ ap (λ (q : Record). arm (eqb l2 1) ∷ calls_of c q) (sym (calls_append (after_wake l1 b p) (arm (eqb l2 1) ∷ []) woken))))

-- what C hears last, after the calls cs, is heard of the call c
record Lastly (l : Lent) (cs : List CCall) (c : CCall) (answers : List ℕ) : Type 0 where
  before : Lent
  chain : Driven l cs before
  last : answers ≡ heard chain ++ heard_of c (gives c before)

heard_last : {l m : Lent} (cs : List CCall) (c : CCall) (chain : Driven l (cs ++ (c ∷ [])) m) → Lastly l cs c (heard chain)
heard_last {l} [] c (calls g e ended) = record { before = l; chain = ended; last = append-nil (heard_of c g) ∙ ap (heard_of c) e }
heard_last (d ∷ cs) c (calls g e rest) =
    let r = heard_last cs c rest in
    record { before = r.before; chain = calls g e r.chain; last = ap (λ (ks : List ℕ). heard_of d g ++ ks) r.last ∙ sym (append_assoc (heard_of d g) (heard r.chain) (heard_of c (gives c r.before))) }

-- 99h comes last, with a level that is one, on a part with the record p, and is executed
module _ (l : Lent) (p : Record) (h : Holding l p) (wp z : ℕ) (level : wp ≤ 1) where
  abbrev answered : Answer
  answered = transacted p (length l.array) (length l.rows) (eqb wp 1) (0x99 ∷ []) 1

  abbrev last_call : CCall
  last_call = transact wp (0x99 ∷ []) (z ∷ [])

  level_heard : heard_of last_call (gives last_call l) ≡ (gives last_call l).answer ∷ []
  level_heard = ap (λ (t : Bool). cond t ((gives last_call l).answer ∷ []) []) (le-leb wp 1 level)

  reset_heard_last : answered.number ≡ 0 → heard_of last_call (gives last_call l) ≡ packed 0 answered.first ∷ []
  reset_heard_last e =
      level_heard
      ∙ ap (λ (k : ℕ). k ∷ []) (held_answer l p (in_bytes h) wp (0x99 ∷ []) (z ∷ []) (le-leb wp 1 level) ∙ ap (λ (k : ℕ). packed k answered.first) e)

-- the numbers that yawlspar_power_up was given, and the buffer that it was lent
module _ (q : Asked) (bs : List ℕ) where
  abbrev start : Record
  start = (up_of q).next

  module _ (a : List CCall) (l1 l2 l3 x y w : ℕ) (b c : List CCall) (h1 : l1 ≤ 1) (h2 : l2 ≤ 1) (h3 : l3 ≤ 1) where
    -- the calls that they stand for
    abbrev early : List Call
    early = calls_of a start

    abbrev at_wake : Record
    at_wake = record_after_calls early start

    abbrev woken : List Call
    woken = after_wake l1 b at_wake

    abbrev armed : List Call
    armed = after_arm l1 l2 b c at_wake

    abbrev until_last_lem : List Call
    until_last_lem = early ++ until_reset (eqb l1 1) (eqb l2 1) woken armed

    abbrev until_last : List CCall
    until_last = a ++ until_from_c l1 l2 x y b c

    abbrev last : CCall
    last = transact l3 (0x99 ∷ []) (w ∷ [])

    closing_last : a ++ closing_from_c l1 l2 l3 x y w b c ≡ until_last ++ (last ∷ [])
    closing_last =
        ap (λ (cs : List CCall). a ++ (transact l1 (0xAB ∷ []) (x ∷ []) ∷ cs)) (sym (append_assoc b (transact l2 (0x66 ∷ []) (y ∷ []) ∷ c) (last ∷ [])))
        ∙ sym (append_assoc a (until_from_c l1 l2 x y b c) (last ∷ []))

    stand_until : calls_of until_last start ≡ until_last_lem
    stand_until =
        calls_of_append a (until_from_c l1 l2 x y b c) start ∙ ap (λ (ds : List Call). early ++ ds) (until_of l1 l2 x y b c h1 h2 at_wake)

    stand_for : calls_of (a ++ closing_from_c l1 l2 l3 x y w b c) start ≡ early ++ closing (eqb l1 1) (eqb l2 1) (eqb l3 1) woken armed
    stand_for =
        ap (λ (cs : List CCall). calls_of cs start) closing_last
        ∙ calls_of_append until_last (last ∷ []) start
        ∙ ap (λ (ds : List Call). calls_of until_last start ++ ds) (sent_of l3 0x99 w [] (record_after_calls (calls_of until_last start) start) h3)
        ∙ ap (λ (ds : List Call). ds ++ (reset (eqb l3 1) ∷ [])) stand_until
        ∙ sym (reset_last early (eqb l1 1) (eqb l2 1) (eqb l3 1) woken armed)

    -- 99h is executed on the record, the array and the rows that the calls until then lead to
    ends_executed : {xs rs ys ts : List ℕ} {at : Record} → Holding (lent (power_up_bytes q bs) xs rs) start → Run start xs rs until_last_lem at ys ts
        → (transacted at (length ys) (length ts) (eqb l3 1) (0x99 ∷ []) 1).number ≡ 0 → {answers : List ℕ} → Lastly (lent (power_up_bytes q bs) xs rs) until_last last answers → EndsExecuted answers
    ends_executed {xs} {rs} h run e r =
        let k = driven_run r.chain start h in
        let same = run_one (subst (λ (ds : List Call). Run start xs rs ds k.next r.before.array r.before.rows) stand_until k.run) run in
        let z : (transacted k.next (length r.before.array) (length r.before.rows) (eqb l3 1) (0x99 ∷ []) 1).number ≡ 0 = rw (same.0, same.1, same.2) e in
        record {
          earlier = heard r.chain;
          first = (answered r.before k.next k.holding l3 w h3).first;
          last = r.last ∙ ap (λ (ks : List ℕ). heard r.chain ++ ks) (reset_heard_last r.before k.next k.holding l3 w h3 z);
        }

    last_in : {l m : Lent} (chain : Driven l (a ++ closing_from_c l1 l2 l3 x y w b c) m) → Lastly l until_last last (heard chain)
    last_in {l} {m} chain = subst⁻¹ (λ (cs : List CCall). (d : Driven l cs m) → Lastly l until_last last (heard d)) closing_last (heard_last until_last last) chain

    pub reset_from_c : {xs rs : List ℕ} {m : Lent} → power_up_answer (length bs) q ≡ 0 → length xs ≡ array_bytes q.blocks → length rs ≡ rows_bytes
        → Closes q.blocks (identity_of q) (registers_of q) early (eqb l1 1) (eqb l2 1) woken armed
        → (chain : Driven (lent (power_up_bytes q bs) xs rs) (a ++ closing_from_c l1 l2 l3 x y w b c) m)
        → FreshFromC q bs early (eqb l1 1) (eqb l2 1) (eqb l3 1) woken armed chain
    reset_from_c {xs} {rs} {m} z lx lr closes chain =
        let l = driven_told q bs z lx lr chain in
        let sent : PoweredAndSent q.blocks (identity_of q) (registers_of q) (early ++ closing (eqb l1 1) (eqb l2 1) (eqb l3 1) woken armed) xs rs l.next m.array m.rows = record { unrefused = l.sent.unrefused; own_array = lx; own_rows = lr; run = subst (λ (ds : List Call). Run start xs rs ds l.next m.array m.rows) stand_for l.sent.run } in
        let f = reset_after_run q.blocks (identity_of q) (registers_of q) early (eqb l1 1) (eqb l2 1) (eqb l3 1) woken armed sent closes in
        record { from_c = l; fresh_run = f; bytes = l.bytes ∙ ap record_bytes f.equal; executed = ends_executed (up_holds q bs z xs rs lx lr) f.until_reset_lem f.executed (last_in chain) }

pub demand_3_from_c : Demand3FromC
demand_3_from_c = record { told = driven_told; fresh = reset_from_c }
