-- What is under way stays so: no call ends or drops it that does not make the part idle.
use Rattle.std.specs.Prelude.{None, Option, Some}
use Prim.Native.Nat.{ℕ}
use mathlib.Core.Path.{◌≡◌, refl, sym, ap, ◌∙◌}
use mathlib.Core.Bool.{Bool, true, false, not, false≢true}
use mathlib.Core.List.{List, [], ◌∷◌, ◌++◌}
use mathlib.Core.Logic.{inl, inr}
use lib.ListN.{get_or}
use borrow.Author.Tests.{not-true}
use Rattle.types.specs.declared.Addressing.{Addressing}
use Rattle.types.specs.declared.Operation.{Operation}
use Rattle.types.specs.declared.Phase.{Phase}
use Rattle.types.specs.declared.Phase.TheVariants.{Idle, Busy, Suspended, Nested}
use Rattle.types.specs.declared.Effect.{Effect}
use Rattle.types.specs.declared.Effect.TheVariants.{Looks, Enables, Disables, Programs, Erases, Writes, Suspends, Resumes, Sleeps, Wakes, Arms, Resets, SetsLive, ClearsErrors, SetsBank, SetsFar}
use Rattle.types.specs.declared.Command.{Command}
use Rattle.types.specs.declared.Data.{Data}
use Rattle.types.specs.declared.Record.{Record}
use Rattle.words.specs.Logic.{◌or◌}
use Rattle.words.proofs.Tests.{and_l, and_r, and_in}
use Rattle.paper.specs.Sizes.{array_bytes, rows_bytes}
use Rattle.paper.specs.Phases.{running, halted, work_is, any_operation, is_busy, is_idle, suspended_in, resumed_in, phase_of}
use Rattle.paper.specs.Soundness.{sound}
use Rattle.paper.specs.Table.{decoded, columns, addressing_on}
use Rattle.paper.specs.Commands.{changed, begun, starts, change_by}
use Rattle.paper.specs.Numbers.{ignored_number}
use Rattle.paper.specs.History.{Call, transaction, record_after_call, record_after_calls}
use Rattle.paper.specs.Halted.{releases}
use Rattle.paper.proofs.Phases.{no_work_at, at_same}
use Rattle.paper.proofs.Table.{begins_at_rest}
use Rattle.paper.proofs.Numbers.{command_taken}
use Rattle.paper.proofs.Soundness.{InOrder, running_in_order, halted_in_order}
use Rattle.paper.proofs.TransactionKept.{after_transaction}
use Rattle.suspended.specs.Interrupted.{none_releases}
use Rattle.suspended.specs.UnderWay.{first_of, under_way, never_idle}
use Rattle.suspended.proofs.HaltedKept.{LetGo, call_halted, call_lets_go}

-- a transaction on a part that only runs e: what is under way still is, unless the part is idle
module _ (p : Record) (e : Operation) (f : p.phase ≡ Busy e) where
  abbrev Stays : Record → Type 0
  Stays q = is_idle q.phase ≡ false → under_way q.phase ≡ Some e

  as_it_was : under_way p.phase ≡ Some e
  as_it_was = ap under_way f

  starts_stays : (w : Option Operation) (d : Data) (i : List ℕ) → (work_is any_operation w ≡ true → ⊥) → Stays (changed (starts w p.part p.phase d) i p)
  starts_stays None d i n = λ g. as_it_was
  starts_stays (Some o) d i n = absurd (n refl)

  effect_stays : (c : Effect) (a : Addressing) (w : Option Operation) (i : List ℕ) → (work_is any_operation w ≡ true → ⊥) → Stays (changed (change_by c a w p.part p.phase i) i p)
  effect_stays Looks a w i n g = as_it_was
  effect_stays Enables a w i n g = as_it_was
  effect_stays Disables a w i n g = as_it_was
  effect_stays (Programs m) a w i n g = starts_stays w _ i n g
  effect_stays (Erases u) a w i n g = starts_stays w _ i n g
  effect_stays (Writes r) a w i n g = starts_stays w _ i n g
  effect_stays Suspends a w i n g = ap (λ (h : Phase). under_way (suspended_in h)) f
  effect_stays Resumes a w i n g = absurd (false≢true (sym g ∙ ap (λ (h : Phase). is_idle (resumed_in h)) f))
  effect_stays Sleeps a w i n g = as_it_was
  effect_stays Wakes a w i n g = as_it_was
  effect_stays Arms a w i n g = as_it_was
  effect_stays Resets a w i n g = absurd (false≢true (sym g))
  effect_stays SetsLive a w i n g = as_it_was
  effect_stays ClearsErrors a w i n g = as_it_was
  effect_stays SetsBank a w i n g = as_it_was
  effect_stays (SetsFar far) a w i n g = as_it_was

  -- nothing begins on a busy part
  begins_none : (k : Command) (i : List ℕ) (wp : Bool) → decoded p.part.blocks p.part.bank (get_or i 0 0) ≡ Some k → ignored_number (Some k) p.part p.phase i wp ≡ 0
      → work_is any_operation (begun (columns k) p.part i) ≡ true → ⊥
  unfolding ◌or◌
  begins_none k i wp c z h =
      let t = (command_taken (columns k) (begun (columns k) p.part i) p.part p.phase i wp z).not_busy in
      let r = begins_at_rest p.part.blocks p.part.bank (get_or i 0 0) k (addressing_on (columns k) p.part) i c h in
      let b : is_busy p.phase ≡ true = ap is_busy f in
      false≢true (rw (r, b) at t)

  sent_stays : (wp : Bool) (i : List ℕ) (o : ℕ) → Stays (record_after_call (transaction wp i o) p)
  sent_stays wp i o =
      after_transaction Stays p wp i (λ g. as_it_was) (λ g. as_it_was) (λ v g. as_it_was)
      (λ k c z. effect_stays (columns k).effect (addressing_on (columns k) p.part) (begun (columns k) p.part i) i (begins_none k i wp c z))
      (array_bytes p.part.blocks) rows_bytes o

-- what is suspended is under way
pub halted_under : (f : Phase) (e : Operation) → halted f ≡ Some e → under_way f ≡ Some e
halted_under f e h = ap (λ (w : Option Operation). first_of w (running f)) h

-- a call on a part that is suspended from e, also while a program runs within: what is under way still is, unless the part is idle
module _ (p : Record) (e : Operation) (h : halted p.phase ≡ Some e) where
  let_go_stays : (g : Phase) → LetGo p.phase g → is_idle g ≡ false → under_way g ≡ Some e
  let_go_stays g (inl r) n = ap under_way r ∙ ap (λ (w : Option Operation). under_way (phase_of w None)) h
  let_go_stays g (inr r) n = absurd (false≢true (sym n ∙ ap is_idle r))

  call_stays : (c : Call) (t : Bool) → releases c p ≡ t → is_idle (record_after_call c p).phase ≡ false → under_way (record_after_call c p).phase ≡ Some e
  call_stays c true r n = let_go_stays (record_after_call c p).phase (call_lets_go c p r) n
  call_stays c false r n = halted_under (record_after_call c p).phase e (call_halted c p e h r)

-- so every transaction that does not make the part idle leaves what is under way
pub sent_under : (p : Record) (f : Phase) (e : Operation) (wp : Bool) (i : List ℕ) (o : ℕ) → p.phase ≡ f → under_way f ≡ Some e
    → let g = (record_after_call (transaction wp i o) p).phase in is_idle g ≡ false → under_way g ≡ Some e
sent_under p Idle e wp i o q h n = absurd (no_work_at h)
sent_under p (Busy x) e wp i o q h n = sent_stays p e (q ∙ ap Busy (at_same h)) wp i o n
sent_under p (Suspended x) e wp i o q h n =
    call_stays p e (ap halted q ∙ h) (transaction wp i o) (releases (transaction wp i o) p) refl n
sent_under p (Nested y x) e wp i o q h n =
    call_stays p e (ap halted q ∙ h) (transaction wp i o) (releases (transaction wp i o) p) refl n

-- what is under way on a sound part is in order, and the part is not idle
under_in : (p : Record) (f : Phase) (o : Operation) → p.phase ≡ f → under_way f ≡ Some o → sound p ≡ true → InOrder o p.part.blocks p.part.stored
under_in p Idle o q h s = absurd (no_work_at h)
under_in p (Busy x) o q h s = running_in_order p o (ap running q ∙ h) s
under_in p (Suspended x) o q h s = halted_in_order p o (ap halted q ∙ h) s
under_in p (Nested y x) o q h s = halted_in_order p o (ap halted q ∙ h) s

pub under_in_order : (p : Record) (o : Operation) → under_way p.phase ≡ Some o → sound p ≡ true → InOrder o p.part.blocks p.part.stored
under_in_order p o h s = under_in p p.phase o refl h s

pub under_not_idle : (f : Phase) (o : Operation) → under_way f ≡ Some o → is_idle f ≡ false
under_not_idle Idle o h = absurd (no_work_at h)
under_not_idle (Busy x) o h = refl
under_not_idle (Suspended x) o h = refl
under_not_idle (Nested y x) o h = refl

-- so over calls none of which lets go what is suspended the part is never idle
pub never_halted : (cs : List Call) (p : Record) (e : Operation) → halted p.phase ≡ Some e → none_releases cs p ≡ true → never_idle cs p ≡ true
never_halted [] p e h g = refl
never_halted (c ∷ cs) p e h g =
    let q = record_after_call c p in
    let k = call_halted c p e h (not-true _ (and_l _ _ g)) in
    and_in (ap not (under_not_idle q.phase e (halted_under q.phase e k))) (never_halted cs q e k (and_r _ _ g))

-- and over some calls and then others it is never idle if it is over both; and the other way round for the first
pub never_both : (cs ds : List Call) (p : Record) → never_idle cs p ≡ true → never_idle ds (record_after_calls cs p) ≡ true → never_idle (cs ++ ds) p ≡ true
never_both [] ds p h g = g
never_both (c ∷ cs) ds p h g = and_in (and_l _ _ h) (never_both cs ds (record_after_call c p) (and_r _ _ h) g)

pub never_first : (cs ds : List Call) (p : Record) → never_idle (cs ++ ds) p ≡ true → never_idle cs p ≡ true
never_first [] ds p h = refl
never_first (c ∷ cs) ds p h = and_in (and_l _ _ h) (never_first cs ds (record_after_call c p) (and_r _ _ h))
