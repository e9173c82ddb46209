-- What a sound record may be relied on for, part by part.
use Rattle.std.specs.Prelude.{Some}
use Prim.Native.Nat.{ℕ, ◌<◌}
use mathlib.Core.Path.{◌≡◌, refl, sym, ap, ◌∙◌}
use mathlib.Core.Bool.{Bool, true, false}
use mathlib.Core.List.{List}
use borrow.Author.Tests.{eqb-true, ltb-true, lt-ltb}
use Rattle.types.specs.declared.Operation.{Operation}
use Rattle.types.specs.declared.Phase.{Phase}
use Rattle.types.specs.declared.Phase.TheVariants.{Idle, Busy, Suspended, Nested}
use Rattle.types.specs.declared.Identity.{Identity}
use Rattle.types.specs.declared.Stored.{Stored}
use Rattle.types.specs.declared.Part.{Part}
use Rattle.types.specs.declared.Record.{Record}
use Rattle.words.specs.Logic.{◌or◌}
use Rattle.words.proofs.Tests.{and_l, and_r, and_in}
use Rattle.paper.specs.Sizes.{is_large, size_ok}
use Rattle.paper.specs.Phases.{running, halted, is_program, is_erase}
use Rattle.paper.specs.Registers.{TBS}
use Rattle.paper.specs.Records.{marked, with_live}
use Rattle.paper.specs.Operations.{ticks_in_all, ticks_done, aligned, inside, target_free, can_suspend, outside}
use Rattle.paper.proofs.Phases.{no_work_at, at_same}
use Rattle.paper.specs.Soundness.{sleep_ok, latch_ok, content_ok, operation_ok, nest_ok, phase_ok, bits_ok, large_ok, page_ok, part_sound, sound_of, sound}

-- the parts of soundness, of a part in a phase with page data
pub record Sound (p : Part) (f : Phase) (g : List ℕ) : Type 0 where
  pub size : size_ok p.blocks ≡ true
  pub sleep : sleep_ok f p.asleep ≡ true
  pub latch : latch_ok f p.wel ≡ true
  pub phase_ok_lem : phase_ok f p.blocks p.stored ≡ true
  pub bits : bits_ok f p.wel p.stored ≡ true
  pub large : large_ok p.blocks p.stored.function p.bank ≡ true
  pub page_ok_lem : page_ok f g ≡ true

-- the record with this identity, part, phase and page data
abbrev pub record_of : Identity → Part → Phase → List ℕ → Record
record_of id p f g = record { part = p; phase = f; identity = id; page = g }

pub sound_parts : (p : Record) → sound p ≡ true → Sound p.part p.phase p.page
unfolding sound_of part_sound
sound_parts p h =
    let h0 = and_l _ _ h in
    let h1 = and_r _ _ h0 in
    let h2 = and_r _ _ h1 in
    let h3 = and_r _ _ h2 in
    let h4 = and_r _ _ h3 in
    record { size = and_l _ _ h0; sleep = and_l _ _ h1; latch = and_l _ _ h2; phase_ok_lem = and_l _ _ h3; bits = and_l _ _ h4; large = and_r _ _ h4; page_ok_lem = and_r _ _ h }

-- the large part alone has TBS and a bank register
pub without_large : (p : Record) → sound p ≡ true → is_large p.part.blocks ≡ false → (TBS p.part.stored.function ≡ 0) × (p.part.bank ≡ 0)
unfolding large_ok ◌or◌
without_large p s e =
    let h = rw e at (sound_parts p s).large in
    (eqb-true _ _ (and_l _ _ h), eqb-true _ _ (and_r _ _ (and_r _ _ h)))

pub part_whole : (p : Part) (f : Phase) (g : List ℕ) → Sound p f g → part_sound p f ≡ true
unfolding part_sound
part_whole p f g s = and_in s.size (and_in s.sleep (and_in s.latch (and_in s.phase_ok_lem (and_in s.bits s.large))))

pub sound_of_lem : (p : Part) (f : Phase) (g : List ℕ) → part_sound p f ≡ true → page_ok f g ≡ true → sound_of p f g ≡ true
unfolding sound_of
sound_of_lem p f g s k = and_in s k

pub sound_whole : (p : Part) (f : Phase) (g : List ℕ) → Sound p f g → sound_of p f g ≡ true
sound_whole p f g s = sound_of_lem p f g (part_whole p f g s) s.page_ok_lem

-- the parts of a record whose phase is known
pub sound_in : (p : Record) (f : Phase) → p.phase ≡ f → sound p ≡ true → Sound p.part f p.page
sound_in p f e h =
    sound_parts (record_of p.identity p.part f p.page) (ap (λ (g : Phase). sound_of p.part g p.page) (sym e) ∙ h)

-- the armed mark does not matter
pub marked_sound : (p : Part) (f : Phase) (g : List ℕ) (armed : Bool) → sound_of p f g ≡ true → sound_of (marked p armed) f g ≡ true
unfolding sound_of part_sound
marked_sound p f g armed h = h

-- nor does the live byte
pub live_sound : (p : Part) (f : Phase) (g : List ℕ) (v : ℕ) → sound_of p f g ≡ true → sound_of (with_live p v) f g ≡ true
unfolding sound_of part_sound
live_sound p f g v h = h

-- an awake part may be in any phase
pub awake_ok : (f : Phase) → sleep_ok f false ≡ true
unfolding ◌or◌
awake_ok Idle = refl
awake_ok (Busy o) = refl
awake_ok (Suspended o) = refl
awake_ok (Nested o e) = refl

-- the parts of an operation that is in order
pub record InOrder (o : Operation) (n : ℕ) (s : Stored) : Type 0 where
  pub begins : aligned o n ≡ true
  pub within : inside o n ≡ true
  pub open_target : target_free o n s ≡ true
  pub going : ticks_done o < ticks_in_all o n
  pub content : content_ok o ≡ true

pub in_order : (o : Operation) (n : ℕ) (s : Stored) → operation_ok o n s ≡ true → InOrder o n s
unfolding operation_ok
in_order o n s h =
    let h1 = and_r _ _ h in
    let h2 = and_r _ _ h1 in
    let h3 = and_r _ _ h2 in
    record { begins = and_l _ _ h; within = and_l _ _ h1; open_target = and_l _ _ h2; going = ltb-true _ _ (and_l _ _ h3); content = and_r _ _ h3 }

pub in-order-whole : (o : Operation) (n : ℕ) (s : Stored) → InOrder o n s → operation_ok o n s ≡ true
unfolding operation_ok
in-order-whole o n s i =
    and_in i.begins (and_in i.within (and_in i.open_target (and_in (lt-ltb _ _ i.going) i.content)))

-- the parts of a program that is in order within a suspended erase
pub record InNest (e o : Operation) (n : ℕ) : Type 0 where
  pub erases : is_erase e ≡ true
  pub suspends : can_suspend e ≡ true
  pub programs : is_program o ≡ true
  pub array_page : can_suspend o ≡ true
  pub apart : outside e n o ≡ true

pub in-nest : (e o : Operation) (n : ℕ) → nest_ok e o n ≡ true → InNest e o n
in-nest e o n h =
    let h1 = and_r _ _ h in
    let h2 = and_r _ _ h1 in
    let h3 = and_r _ _ h2 in
    record { erases = and_l _ _ h; suspends = and_l _ _ h1; programs = and_l _ _ h2; array_page = and_l _ _ h3; apart = and_r _ _ h3 }

pub in-nest-whole : (e o : Operation) (n : ℕ) → InNest e o n → nest_ok e o n ≡ true
in-nest-whole e o n i =
    and_in i.erases (and_in i.suspends (and_in i.programs (and_in i.array_page i.apart)))

-- what runs on a sound part is in order
running_ok : (f : Phase) (o : Operation) (n : ℕ) (s : Stored) → running f ≡ Some o → phase_ok f n s ≡ true → operation_ok o n s ≡ true
running_ok Idle o n s e h = absurd (no_work_at e)
running_ok (Busy x) o n s e h = ap (λ (y : Operation). operation_ok y n s) (sym (at_same e)) ∙ h
running_ok (Suspended x) o n s e h = absurd (no_work_at e)
running_ok (Nested x y) o n s e h =
    ap (λ (z : Operation). operation_ok z n s) (sym (at_same e)) ∙ and_r _ _ (and_r _ _ h)

pub running_in_order : (p : Record) (o : Operation) → running p.phase ≡ Some o → sound p ≡ true → InOrder o p.part.blocks p.part.stored
running_in_order p o e h =
    in_order o p.part.blocks p.part.stored (running_ok p.phase o p.part.blocks p.part.stored e (sound_parts p h).phase_ok_lem)

-- so is what is suspended on it
halted_ok : (f : Phase) (o : Operation) (n : ℕ) (s : Stored) → halted f ≡ Some o → phase_ok f n s ≡ true → operation_ok o n s ≡ true
halted_ok Idle o n s e h = absurd (no_work_at e)
halted_ok (Busy x) o n s e h = absurd (no_work_at e)
halted_ok (Suspended x) o n s e h = ap (λ (y : Operation). operation_ok y n s) (sym (at_same e)) ∙ and_r _ _ h
halted_ok (Nested x y) o n s e h = ap (λ (z : Operation). operation_ok z n s) (sym (at_same e)) ∙ and_l _ _ (and_r _ _ h)

pub halted_in_order : (p : Record) (o : Operation) → halted p.phase ≡ Some o → sound p ≡ true → InOrder o p.part.blocks p.part.stored
halted_in_order p o e h =
    in_order o p.part.blocks p.part.stored (halted_ok p.phase o p.part.blocks p.part.stored e (sound_parts p h).phase_ok_lem)
