-- A map of blank pages from C: chained calls make of it what the calls make that they stand for, so that a right map is right at the end.
use Prim.Native.Nat.{ℕ}
use mathlib.Core.Path.{◌≡◌, refl, sym, ap, subst, subst⁻¹, ◌∙◌}
use mathlib.Core.Bool.{Bool, true, false}
use mathlib.Core.List.{List, [], ◌∷◌, ◌++◌}
use lib.Dec.{leb}
use lib.ListN.{length, get_or, replicate}
use borrow.Author.Tests.{eq-eqb}
use Rattle.types.specs.declared.Record.{Record}
use Rattle.words.specs.Logic.{bit, ◌and◌, unless}
use Rattle.words.specs.Lists.{AreBytes}
use Rattle.words.proofs.Tests.{or_else_on}
use Rattle.paper.specs.Sizes.{array_bytes, map_bytes, rows_bytes}
use Rattle.paper.specs.Soundness.{sound}
use Rattle.paper.specs.Numbers.{map_number, rebuild_number}
use Rattle.paper.specs.History.{Call, transaction, ticks, history, record_after_calls}
use Rattle.paper.specs.Board.{Board, after_calls}
use Rattle.paper.specs.Map.{Right, rebuilt, map_after_calls}
use Rattle.paper.proofs.Kept.{powered_fresh}
use Rattle.paper.proofs.Map.{calls_length, maps_append}
use Rattle.history.proofs.Told.{run_told}
use Rattle.history.proofs.Joined.{run_folded}
use Rattle.script.specs.InBytes.{script_of}
use Rattle.yawlspar.specs.Face.{Asked, identity_of, registers_of, up_of, power_up_answer, power_up_bytes}
use Rattle.map_laws.specs.MapLaws.{Framed}
use Rattle.history.proofs.Beside.{own_size}
use Rattle.map_laws.proofs.Stands.{ticks_stand, scripts_stand}
use Rattle.map_laws.proofs.MapLaws.{laws}
use Rattle.from_c.specs.Driven.{Lent, lent, CCall, transact, tick, script, check, tick_map, script_map, Given, gives, call_of, calls_of, Driven, ended, calls}
use Rattle.from_c.specs.Holding.{Holding}
use Rattle.from_c.specs.LawsFromC.{board_in}
use Rattle.from_c.specs.MapFromC.{LendsMap, map_left, KeepsMap, DrivesMap, MapFromC}
use Rattle.from_c.proofs.Held.{held_script_map, held_tick_map}
use Rattle.from_c.proofs.Holding.{in_bytes, holding_own}
use Rattle.from_c.proofs.Leads.{Leads, leads_told}
use Rattle.from_c.proofs.Stands.{stands}
use Rattle.from_c.proofs.Chained.{driven_run}
use Rattle.from_c.proofs.FromC.{up_unrefused, up_holds}
use Rattle.from_c.proofs.LawsFromC.{level_call}

-- one call
module _ (l : Lent) (p : Record) (h : Holding l p) where
  transact_map : (wp : ℕ) (i o k : List ℕ) (t : Bool) → leb wp 1 ≡ t → k ≡ map_after_calls (call_of (transact wp i o) p) (board_in l p) k
  transact_map wp i o k true e = rw e refl
  transact_map wp i o k false e = rw e refl

  kind_map : (c : CCall) (k : List ℕ) → LendsMap c k → map_left c (gives c l) k ≡ map_after_calls (call_of c p) (board_in l p) k
  kind_map (transact wp i o) k u = transact_map wp i o k (leb wp 1) refl
  kind_map (tick n) k u = absurd u
  kind_map (script wp i ls ts o n d) k u = absurd u
  kind_map (check wp i ls ts o n d image) k u = absurd u
  kind_map (tick_map n m) k u =
      ap (λ (g : Given). get_or g.buffers 0 []) (held_tick_map l p (in_bytes h) n m)
      ∙ (ticks_stand n (board_in l p) m (holding_own h)).map
      ∙ ap (map_after_calls (call_of (tick_map n m) p) (board_in l p)) u
  kind_map (script_map wp i ls ts o n d m) k u =
      ap (λ (g : Given). get_or g.buffers 3 []) (held_script_map l p (in_bytes h) wp i ls ts o n d m)
      ∙ (scripts_stand (sound p and leb wp 1) (script_of wp i ls ts) (board_in l p) o n d m (holding_own h)).map
      ∙ ap (map_after_calls (call_of (script_map wp i ls ts o n d m) p) (board_in l p)) u

-- and those after it
map_exact : {l m : Lent} {cs : List CCall} (chain : Driven l cs m) (p : Record) → Holding l p → (k j : List ℕ) → KeepsMap chain k j → j ≡ map_after_calls (calls_of cs p) (board_in l p) k
map_exact ended p h k j u = u
map_exact (calls {l} {m} {c} {cs} g e rest) p h k j u =
    let s = (stands l p h c g e).leads in
    let q = record_after_calls (call_of c p) p in
    map_exact rest s.next s.holding (map_left c g k) j u.1
    ∙ ap (λ (r : Record). map_after_calls (calls_of cs r) (board_in g.left s.next) (map_left c g k)) (leads_told s h)
    ∙ ap (λ (b : Board). map_after_calls (calls_of cs q) b (map_left c g k)) (run_folded s.run)
    ∙ ap (map_after_calls (calls_of cs q) (after_calls (call_of c p) (board_in l p))) (ap (λ (x : Given). map_left c x k) e ∙ kind_map l p h c k u.0)
    ∙ sym (maps_append (call_of c p) (calls_of cs q) (board_in l p) k)

-- a call from C that stands for one call and keeps the map, and those after it
module _ (l : Lent) (p : Record) (h : Holding l p) (c : CCall) (d : Call) (one : call_of c p ≡ d ∷ []) (k : List ℕ) (u : LendsMap c k) where
  first : Leads l p (call_of c p) (gives c l).left
  first = (stands l p h c (gives c l) refl).leads

  still_fits : length k ≡ map_bytes p.part.blocks → length (map_left c (gives c l) k) ≡ map_bytes first.next.part.blocks
  still_fits e =
      ap (λ (x : List ℕ). length x) (kind_map l p h c k u)
      ∙ calls_length (call_of c p) (board_in l p) k
      ∙ e
      ∙ ap map_bytes (sym (run_told first.run h.is_sound h.array h.rows).size)

  drives_on : (cs : List Call) → DrivesMap (gives c l).left first.next cs (map_left c (gives c l) k) → DrivesMap l p (d ∷ cs) k
  drives_on cs t =
      record {
        made = c ∷ t.made;
        stands = ap (λ (q : Record). call_of c p ++ calls_of t.made q) (sym (leads_told first h)) ∙ ap (λ (ds : List Call). call_of c p ++ ds) t.stands ∙ ap (λ (ds : List Call). ds ++ cs) one;
        after = t.after;
        chain = calls (gives c l) refl t.chain;
        last = t.last;
        keeps = (u, t.keeps);
      }

fitting_ticks : (n : ℕ) (p : Record) (k : List ℕ) → length k ≡ map_bytes p.part.blocks → call_of (tick_map n k) p ≡ ticks n ∷ []
unfolding map_number unless
fitting_ticks n p k e = rw (eq-eqb _ _ e) refl

map_driven : (cs : List Call) (l : Lent) (p : Record) (k : List ℕ) → Holding l p → length k ≡ map_bytes p.part.blocks → DrivesMap l p cs k
map_driven [] l p k h e = record { made = []; stands = refl; after = l; chain = ended; last = k; keeps = refl }
map_driven (transaction wp i o ∷ cs) l p k h e =
    let c = transact (bit wp) i (replicate o 0) in
    let one = level_call wp i o p in
    let s = first l p h c (transaction wp i o) one k tt in
    drives_on l p h c (transaction wp i o) one k tt cs (map_driven cs (gives c l).left s.next k s.holding (still_fits l p h c (transaction wp i o) one k tt e))
map_driven (ticks n ∷ cs) l p k h e =
    let c = tick_map n k in
    let one = fitting_ticks n p k e in
    let s = first l p h c (ticks n) one k refl in
    drives_on l p h c (ticks n) one k refl cs (map_driven cs (gives c l).left s.next (map_left c (gives c l) k) s.holding (still_fits l p h c (ticks n) one k refl e))

module _ (l m : Lent) (p : Record) (cs : List CCall) (k j : List ℕ) (h : Holding l p) (chain : Driven l cs m) (keeps : KeepsMap chain k j) where
  array_is : m.array ≡ (after_calls (calls_of cs p) (board_in l p)).array
  array_is = ap (λ (b : Board). b.array) (run_folded (driven_run chain p h).run)

  -- what holds of the calls' map and array holds of those that are left
  so_left : (P : List ℕ → List ℕ → Type 0) → P (map_after_calls (calls_of cs p) (board_in l p) k) (after_calls (calls_of cs p) (board_in l p)).array → P j m.array
  so_left P x = subst⁻¹ (λ (y : List ℕ). P y m.array) (map_exact chain p h k j keeps) (subst⁻¹ (P (map_after_calls (calls_of cs p) (board_in l p) k)) array_is x)

  map_right : Right k l.array → Right j m.array
  map_right r = so_left Right (laws.calls_right (calls_of cs p) (board_in l p) k (holding_own h) r)

  map_frame : length k ≡ map_bytes p.part.blocks → AreBytes k → Framed p.part.blocks (history (calls_of cs p) p) m.array k j
  map_frame e bytes = so_left (λ y xs. Framed p.part.blocks (history (calls_of cs p) p) xs k y) (laws.frame (calls_of cs p) (board_in l p) k (holding_own h) e bytes)

module _ (l : Lent) (p : Record) (k : List ℕ) (h : Holding l p) (e : length k ≡ map_bytes p.part.blocks) where
  unrefused : rebuild_number p.part.blocks (length l.array) (length k) ≡ 0
  unfolding rebuild_number map_number unless
  unrefused = or_else_on _ _ (own_size (board_in l p) (holding_own h)) ∙ rw (eq-eqb _ _ e) refl

  map_begins : (rebuild_number p.part.blocks (length l.array) (length k) ≡ 0) × Right (rebuilt p.part.blocks l.array k) l.array
  map_begins = (unrefused, (laws.rebuild p.part.blocks l.array k).0 unrefused)

map_powered : (q : Asked) (bs xs rs : List ℕ) (m : Lent) (cs : List CCall) (k j : List ℕ) → power_up_answer (length bs) q ≡ 0 → length xs ≡ array_bytes q.blocks → length rs ≡ rows_bytes → length k ≡ map_bytes q.blocks
    → (chain : Driven (lent (power_up_bytes q bs) xs rs) cs m) → KeepsMap chain (rebuilt q.blocks xs k) j → Right j m.array
map_powered q bs xs rs m cs k j z lx lr lk chain keeps =
    let l = lent (power_up_bytes q bs) xs rs in
    let p = (up_of q).next in
    let h = up_holds q bs z xs rs lx lr in
    let size : p.part.blocks ≡ q.blocks = ap (λ (r : Record). r.part.blocks) (powered_fresh q.blocks (identity_of q) (registers_of q) (up_unrefused q bs z)) in
    map_right l m p cs (rebuilt q.blocks xs k) j h chain keeps
    (subst (λ (n : ℕ). Right (rebuilt n xs k) xs) size (map_begins l p k h (lk ∙ ap map_bytes (sym size))).1)

pub map_from_c : MapFromC
map_from_c =
    record { driven = λ l p cs k h e. map_driven cs l p k h e; exact = λ l m p cs k j h chain keeps. map_exact chain p h k j keeps; right = map_right; frame = map_frame; begins = map_begins; powered = map_powered }
