-- Where nothing runs but the erase of a unit and register writes, nothing else is written: each tick sets a page of the unit to FFh, or reaches nothing.
use Rattle.std.specs.Prelude.{None, Option, Some}
use Prim.Native.Nat.{ℕ, zero, suc, ◌+◌, ◌-◌, ◌*◌, ◌≤◌, ◌<◌}
use mathlib.Core.Path.{◌≡◌, refl, sym, ap, ◌∙◌, subst, subst⁻¹}
use mathlib.Core.Bool.{Bool, true, false}
use mathlib.Core.List.{List, [], ◌∷◌, ◌++◌}
use native.Mathlib.Omega.{arith}
use lib.Dec.{ltb}
use borrow.Author.Tests.{ltb-true, ltb-false}
use Rattle.types.specs.declared.EraseUnit.{EraseUnit}
use Rattle.types.specs.declared.Operation.{Operation}
use Rattle.types.specs.declared.Operation.TheVariants.{Program, Erase, Write}
use Rattle.types.specs.declared.Record.{Record}
use Rattle.words.proofs.Tests.{and_l, and_r, and_in}
use Rattle.words.proofs.Lists.{every_both}
use Rattle.paper.specs.Sizes.{page_bytes}
use Rattle.paper.specs.Erase.{memory_of, unit_pages, unit_base}
use Rattle.paper.specs.Phases.{running}
use Rattle.paper.specs.Operations.{Touch, none, blank, ticks_in_all, ticks_done, advanced_by, next_touch}
use Rattle.paper.specs.Soundness.{sound}
use Rattle.paper.specs.Ticks.{record_after, touch_at, touch_of}
use Rattle.paper.specs.History.{Call, transaction, ticks, record_after_call, record_after_calls, ticks_by, tick_touches, call_touches, history}
use Rattle.paper.proofs.Sizes.{same_self}
use Rattle.paper.proofs.ManyTicks.{rest_record, run_touch, past_touch}
use Rattle.paper.proofs.CallKept.{call_sound, call_size}
use Rattle.paper.proofs.TickCalls.{ticks_pass}
use Rattle.paper.proofs.ByPlace.{from_on_lem}
use Rattle.paper.proofs.RunToEnd.{run_ends}
use Rattle.paper.specs.Board.{Board, Own}
use Rattle.laws.proofs.Boards.{rested_own, made_told, made_own}
use Rattle.restart.specs.Cuts.{up_again, powered_again, Event, calls, power, Lives, over, sent, up, history_through, within, blanks, nothing_else, NoOther, RunsAlone, AloneThrough}
use Rattle.restart.specs.Restart.{NothingElse, NothingElseThrough}
use Rattle.restart.proofs.Lives.{up_size, up_own}

-- nothing else is written by nothing, nor by some touches and then others
pub alone_none : (u : EraseUnit) (n a : ℕ) → nothing_else u n a [] ≡ true
alone_none u n a = and_in refl refl

pub alone_both : (u : EraseUnit) (n a : ℕ) (ts us : List Touch) → nothing_else u n a ts ≡ true → nothing_else u n a us ≡ true → nothing_else u n a (ts ++ us) ≡ true
alone_both u n a ts us h g =
    and_in (every_both (within u n a) ts us (and_l _ _ h) (and_l _ _ g)) (every_both blanks ts us (and_r _ _ h) (and_r _ _ g))

-- nor by the erase of a page of the unit
page_alone : (u : EraseUnit) (n a k : ℕ) → k < unit_pages u n → nothing_else u n a (blank (memory_of u) (unit_base u n a + k * page_bytes) ∷ []) ≡ true
page_alone u n a k l =
    let b = unit_base u n a in
    let p = unit_pages u n in
    let first = from_on_lem b (p * page_bytes) (b + k * page_bytes) (omega arith) (omega arith) in
    let last = from_on_lem b (p * page_bytes) (b + k * page_bytes + (page_bytes - 1)) (omega arith) (omega arith) in
    and_in (and_in (and_in (and_in (same_self (memory_of u)) first) (and_in (same_self (memory_of u)) last)) refl) (and_in refl refl)

none_alone : (u : EraseUnit) (n a : ℕ) (t : Touch) → t ≡ none → nothing_else u n a (t ∷ []) ≡ true
none_alone u n a t e = ap (λ (z : Touch). nothing_else u n a (z ∷ [])) e ∙ and_in (and_in refl refl) (and_in refl refl)

-- a sound part, and the unit that holds a
module _ (u : EraseUnit) (a : ℕ) (p : Record) (s : sound p ≡ true) where
  abbrev n : ℕ
  n = p.part.blocks

  abbrev base : ℕ
  base = unit_base u n a

  -- the tick of an operation after k
  next_alone : (o : Operation) → NoOther u base (Some o) → (k : ℕ) (g : List ℕ) → ticks_done o + k < ticks_in_all o n → nothing_else u n a (next_touch (advanced_by k o) g ∷ []) ≡ true
  next_alone (Program m c b j d) h k g l = absurd h
  next_alone (Erase v c d) h k g l =
      ap (λ (o : Operation). nothing_else u n a (next_touch (advanced_by k o) g ∷ [])) h
      ∙ page_alone u n a (d + k) (subst (λ (o : Operation). d + k < ticks_in_all o n) h l)
  next_alone (Write r v) h k g l = none_alone u n a none refl

  ran_alone : (o : Operation) → running p.phase ≡ Some o → NoOther u base (Some o) → (k : ℕ) (t : Bool) → ltb (ticks_done o + k) (ticks_in_all o n) ≡ t → nothing_else u n a (touch_of (record_after k p) ∷ []) ≡ true
  ran_alone o e h k true f =
      ap (λ (t : Touch). nothing_else u n a (t ∷ [])) (run_touch p o e k (ltb-true _ _ f)) ∙ next_alone o h k p.page (ltb-true _ _ f)
  ran_alone o e h k false f =
      let l : ticks_in_all o n ≤ ticks_done o + k = ltb-false _ _ f in
      none_alone u n a (touch_of (record_after k p)) (ap touch_of (run_ends p o e s k (omega (arith, l))) ∙ past_touch p o e)

  touch_alone : (w : Option Operation) → running p.phase ≡ w → NoOther u base w → (k : ℕ) → nothing_else u n a (touch_of (record_after k p) ∷ []) ≡ true
  touch_alone None e h k =
      none_alone u n a (touch_of (record_after k p)) (ap touch_of (rest_record p e k) ∙ ap (λ (w : Option Operation). touch_at w p.page) e)
  touch_alone (Some o) e h k = ran_alone o e h k (ltb (ticks_done o + k) (ticks_in_all o n)) refl

  ticks_alone : NoOther u base (running p.phase) → (k : ℕ) → nothing_else u n a (tick_touches k p) ≡ true
  ticks_alone h zero = alone_none u n a
  ticks_alone h (suc k) =
      alone_both u n a (tick_touches k p) (touch_of (record_after k p) ∷ []) (ticks_alone h k) (touch_alone (running p.phase) refl h k)

  call_alone : (c : Call) → NoOther u base (running p.phase) → nothing_else u n a (call_touches c p) ≡ true
  call_alone (transaction wp i o) h = alone_none u n a
  call_alone (ticks k) h = ap (nothing_else u n a) (ticks_pass p s k).reached ∙ ticks_alone h (ticks_by n (ticks k))

pub nothing_else_lem : NothingElse
nothing_else_lem p u a [] s h = alone_none u p.part.blocks a
nothing_else_lem p u a (c ∷ cs) s h =
    let q = record_after_call c p in
    let z : q.part.blocks ≡ p.part.blocks = call_size c p in
    let on = nothing_else_lem q u a cs (call_sound c p s) (subst (λ (b : ℕ). RunsAlone u (unit_base u b a) cs q) (sym z) h.1) in
    alone_both u p.part.blocks a (call_touches c p) (history cs q) (call_alone u a p s c h.0) (sym (ap (λ (b : ℕ). nothing_else u b a (history cs q)) z) ∙ on)

-- over calls and power-ups
through : (b c : Board) (u : EraseUnit) (a : ℕ) (es : List Event) → Own b → Lives b es c → AloneThrough u (unit_base u b.state.part.blocks a) es b.state → nothing_else u b.state.part.blocks a (history_through es b.state) ≡ true
through b c u a [] o over h = alone_none u b.state.part.blocks a
through b c u a (calls cs ∷ es) o (sent {c = d} run rest) h =
    let p = b.state in
    let n = p.part.blocks in
    let q = record_after_calls cs p in
    let t = made_told o run in
    let on = through d c u a es (made_own o run) rest (subst⁻¹ (λ (k : ℕ). AloneThrough u (unit_base u k a) es d.state) t.size (subst⁻¹ (AloneThrough u (unit_base u n a) es) t.next h.1)) in
    alone_both u n a (history cs p) (history_through es q) (nothing_else_lem p u a cs o.is_sound h.0)
    (sym (ap (λ (k : ℕ). nothing_else u k a (history_through es d.state)) t.size ∙ ap (λ (r : Record). nothing_else u n a (history_through es r)) t.next) ∙ on)
through b c u a (power g ∷ es) o (up z rest) h =
    let q = (up_again g b.state).next in
    let size = up_size g b.state z in
    sym (ap (λ (k : ℕ). nothing_else u k a (history_through es q)) size)
    ∙ through (powered_again g b) c u a es (up_own b g o z) rest (subst⁻¹ (λ (k : ℕ). AloneThrough u (unit_base u k a) es q) size h)

pub nothing_else_through : NothingElseThrough
nothing_else_through b c u a es r lives h = through b c u a es (rested_own b r) lives h
