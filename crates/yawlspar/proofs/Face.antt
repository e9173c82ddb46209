-- What the definitions for C come to in each case: no record held, and the call itself.
use Prim.Native.Nat.{ℕ, ◌%◌, ◌^◌, ◌≤◌}
use mathlib.Core.Path.{◌≡◌, refl, sym, ap, ◌∙◌}
use mathlib.Core.Bool.{Bool, true, false, cond}
use mathlib.Core.List.{List}
use lib.Dec.{eqb, leb}
use native.Mathlib.Omega.{arith}
use lib.ListN.{length}
use borrow.Author.Tests.{eqb-true, leb-true, eq-eqb, ne_eqb}
use Rattle.types.specs.declared.Identity.{Identity}
use Rattle.types.specs.declared.Phase.TheVariants.{Idle}
use Rattle.types.specs.declared.Stored.{Stored}
use Rattle.types.specs.declared.Record.{Record}
use Rattle.types.specs.declared.Outcome.{Outcome}
use Rattle.types.specs.declared.PoweredUp.{PoweredUp}
use Rattle.words.specs.Logic.{◌and◌}
use Rattle.words.proofs.Tests.{and_l, and_r, unless_zero, or_else_zero, or_else_on, or_else_first}
use Rattle.paper.specs.Soundness.{sound}
use Rattle.paper.specs.Program.{no_data}
use Rattle.paper.specs.Records.{fresh}
use Rattle.paper.specs.Commands.{changed}
use Rattle.paper.specs.Numbers.{power_up_number, later_refusal}
use Rattle.paper.specs.Calls.{zero_record, powered_up, outcome_of, output_after, ticked}
use Rattle.paper.proofs.Sizes.{size_range, limit_range}
use Rattle.paper.proofs.Soundness.{record_of}
use Rattle.paper.proofs.CallKept.{done_at_most}
use Rattle.ticks.specs.InBytes.{held_ticks, held_worked}
use Rattle.ticks.proofs.InBytes.{reached_count}
use Rattle.record_bytes.specs.declared.Found.{Found}
use Rattle.record_bytes.specs.Layout.{record_length, record_bytes, change_written}
use Rattle.record_bytes.specs.Read.{Held, identity_in, record_in, found_of}
use Rattle.record_bytes.proofs.Back.{held_identity, on_none, on_held_lem}
use Rattle.record_bytes.proofs.Changed.{held_changed}
use Rattle.yawlspar.specs.Face.{packed, Asked, given_number, identity_of, registers_of, up_of, up_number, power_up_bytes, outcome_at, transact_answer, transact_bytes, transact_output, tick_answer}

-- no record held
module _ (h : Held) (e : h.ok ≡ false) where
  pub unheld_answer : (a r wp : ℕ) (i : List ℕ) (o : ℕ) → packed (later_refusal false r (length i) o) 0 ≡ transact_answer h a r wp i o
  unfolding transact_answer
  unheld_answer a r wp i o = rw (on_none h _ _ e)

  pub unheld_bytes : (a r wp : ℕ) (i : List ℕ) (o : ℕ) (bs : List ℕ) → bs ≡ transact_bytes h a r wp i o bs
  unfolding transact_bytes
  unheld_bytes a r wp i o bs = sym (on_none h _ bs e)

  pub unheld_output : (xs rs : List ℕ) (wp : ℕ) (i o : List ℕ) → o ≡ transact_output h xs rs wp i o
  unfolding transact_output
  unheld_output xs rs wp i o = sym (on_none h _ o e)

-- a record held: what was found; t is that it is sound and that the level is one
module _ (bs : List ℕ) (e : (record_in bs).ok ≡ true) (x : Found) (ex : x ≡ found_of (record_in bs).state) (wp : ℕ) (t : Bool) (et : t ≡ (x.sound and leb wp 1)) where
  abbrev held : Record
  held = (record_in bs).state

  sound_told : t ≡ (sound held and leb wp 1)
  sound_told = et ∙ rw ex

  module _ (a r : ℕ) (i : List ℕ) (o : ℕ) (u : Outcome) (eu : u ≡ outcome_of x.part x.phase t a r (eqb wp 1) i o) where
    told : u ≡ outcome_at held a r wp i o
    told = eu ∙ rw (sound_told, ex)

    pub told_answer : packed u.number u.first ≡ transact_answer (record_in bs) a r wp i o
    unfolding transact_answer
    told_answer = ap (λ (y : Outcome). packed y.number y.first) (told ∙ sym (on_held_lem (record_in bs) (λ p. outcome_at p a r wp i o) _ e))

    pub told_bytes : change_written u.change i bs ≡ transact_bytes (record_in bs) a r wp i o bs
    unfolding transact_bytes
    told_bytes = held_changed u.change i bs e ∙ ap (λ (y : Outcome). record_bytes (changed y.change i held)) told ∙ sym (on_held_lem (record_in bs) _ bs e)

  pub told_output : (d : Identity) → d ≡ identity_in bs → (xs rs i o y : List ℕ) → y ≡ output_after d x.part x.phase t xs rs (eqb wp 1) i o → y ≡ transact_output (record_in bs) xs rs wp i o
  unfolding transact_output
  told_output d ed xs rs i o y ey =
      ey ∙ rw (sound_told, ex, ed ∙ held_identity bs e) (sym (on_held_lem (record_in bs) _ o e))

-- a place that is not too large is packed as it is
pub packs : (number place : ℕ) → place ≤ 131072 → packed number (place % 2 ^ 56) ≡ packed number place
packs number place h = omega arith

-- ticks: no more did work than a call may ask
module _ (h : Held) (a r n : ℕ) where
  worked_as : (t : Bool) → h.ok ≡ t → (held_ticks h a r n).done ≤ 131072
  worked_as true e =
      rw (on_held_lem h (λ p. ticked p a r n) _ e) (omega (arith, (done_at_most h.state a r n).1, (limit_range h.state.part.blocks).1))
  worked_as false e = rw (on_none h (λ p. ticked p a r n) _ e) (omega arith)

  pub worked_answer : packed (held_worked h a r n).number ((held_worked h a r n).reached.count % 2 ^ 56) ≡ tick_answer h a r n
  unfolding held_worked tick_answer
  worked_answer = rw (reached_count h a r n) (packs (held_ticks h a r n).number (held_ticks h a r n).done (worked_as h.ok refl))

-- power-up: what the numbers that it can take are
pub record Given (l : ℕ) (q : Asked) : Type 0 where
  pub long : l ≡ record_length
  pub few : q.blocks ≤ 512
  pub maker : q.maker ≤ 255
  pub kind : q.kind ≤ 255
  pub capacity : q.capacity ≤ 255
  pub device : q.device ≤ 255
  pub status_byte : q.status ≤ 255
  pub function_byte : q.function ≤ 255
  pub extended_byte : q.extended ≤ 255

pub given : (l : ℕ) (q : Asked) → given_number l q ≡ 0 → Given l q
unfolding given_number
given l q e =
    let z = or_else_zero _ _ e in
    let w = unless_zero _ 4 z.1 in
    let q1 = and_r _ _ w in
    let q2 = and_r _ _ q1 in
    let q3 = and_r _ _ q2 in
    let q4 = and_r _ _ q3 in
    let q5 = and_r _ _ q4 in
    let q6 = and_r _ _ q5 in
    record { long = eqb-true _ _ (and_l _ _ w); few = (size_range q.blocks (unless_zero _ 0 z.0)).1; maker = leb-true _ _ (and_l _ _ q1); kind = leb-true _ _ (and_l _ _ q2); capacity = leb-true _ _ (and_l _ _ q3); device = leb-true _ _ (and_l _ _ q4); status_byte = leb-true _ _ (and_l _ _ q5); function_byte = leb-true _ _ (and_l _ _ q6); extended_byte = leb-true _ _ (and_r _ _ q6) }

-- what power-up gives, taken or refused, is idle and has no page data
idle_up : (n : ℕ) (id : Identity) (s : Stored) (k : ℕ) (t : Bool) → let u = cond {A = PoweredUp} t (record { next = fresh n id s; number = 0 }) (record { next = zero_record; number = k }) in
    record_of u.next.identity u.next.part Idle no_data ≡ u.next
idle_up n id s k true = refl
idle_up n id s k false = refl

pub up_idle : (q : Asked) (x : PoweredUp) → x ≡ up_of q → record_of x.next.identity x.next.part Idle no_data ≡ x.next
unfolding powered_up
up_idle q x u =
    let n = power_up_number q.blocks (registers_of q) in
    rw u (idle_up q.blocks (identity_of q) (registers_of q) n (eqb n 0))

module _ (q : Asked) (bs : List ℕ) (k : ℕ) (g : k ≡ given_number (length bs) q) where
  pub given_number_lem : (k ≡ 0 → ⊥) → k ≡ up_number (length bs) q
  unfolding up_number
  given_number_lem h = rw (← g) (sym (or_else_first k _ h))

  module _ (x : PoweredUp) (z : k ≡ 0) (u : x ≡ up_of q) where
    pub own_number : x.number ≡ up_number (length bs) q
    unfolding up_number
    own_number = rw (← g, ← u) (sym (or_else_on k _ z))

    pub own_bytes : x.number ≡ 0 → record_bytes x.next ≡ power_up_bytes q bs
    own_bytes e = rw (eq-eqb _ _ (sym own_number ∙ e), u)

  pub no_bytes : (v : ℕ) → v ≡ up_number (length bs) q → (v ≡ 0 → ⊥) → bs ≡ power_up_bytes q bs
  no_bytes v e h = rw (ne_eqb _ _ (λ (z : up_number (length bs) q ≡ 0). h (e ∙ z)))
