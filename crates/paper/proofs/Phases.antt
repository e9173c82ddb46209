-- What runs, and the phases that follow.
use Rattle.std.specs.Prelude.{None, Option, Some}
use mathlib.Core.Path.{◌≡◌, refl, sym, ap, ◌∙◌}
use mathlib.Core.Bool.{Bool, true, false, false≢true}
use Rattle.types.specs.declared.Operation.{Operation}
use Rattle.types.specs.declared.Phase.{Phase}
use Rattle.types.specs.declared.Phase.TheVariants.{Idle, Busy, Suspended, Nested}
use Rattle.paper.specs.Phases.{running, halted, work_is, any_operation, is_busy, is_suspended, is_idle, phase_of, running_in}

-- no operation is one
abbrev is_work : Option Operation → Bool
is_work w = work_is any_operation w

pub no_work_at : {o : Operation} → None ≡ Some o → ⊥
no_work_at e = false≢true (ap is_work e)

-- two that are the same
abbrev at_or : Operation → Option Operation → Operation
at_or x None = x
at_or x (Some o) = o

pub at_same : {x o : Operation} → Some x ≡ Some o → x ≡ o
at_same {x} e = ap (at_or x) e

-- a phase is what runs and what is suspended, put together
pub phase_works : (f : Phase) → phase_of (running f) (halted f) ≡ f
phase_works Idle = refl
phase_works (Busy o) = refl
phase_works (Suspended o) = refl
phase_works (Nested o e) = refl

pub phase_runs : (w h : Option Operation) → running (phase_of w h) ≡ w
phase_runs None None = refl
phase_runs (Some o) None = refl
phase_runs None (Some e) = refl
phase_runs (Some o) (Some e) = refl

pub phase_halts : (w h : Option Operation) → halted (phase_of w h) ≡ h
phase_halts None None = refl
phase_halts (Some o) None = refl
phase_halts None (Some e) = refl
phase_halts (Some o) (Some e) = refl

-- with other work running, or none, it is what runs, and what is suspended is as it was
pub other_runs : (f : Phase) (w : Option Operation) → running (running_in f w) ≡ w
other_runs f w = phase_runs w (halted f)

pub other_halts : (f : Phase) (w : Option Operation) → halted (running_in f w) ≡ halted f
other_halts f w = phase_halts w (halted f)

-- so other work in its place leaves nothing of it, and the same work changes nothing
pub other_again : (f : Phase) (v w : Option Operation) → running_in (running_in f v) w ≡ running_in f w
other_again f v w = ap (phase_of w) (other_halts f v)

pub other_same : (f : Phase) (w : Option Operation) → running f ≡ w → running_in f w ≡ f
other_same f w e = ap (λ (v : Option Operation). running_in f v) (sym e) ∙ phase_works f

-- a busy part is not idle
pub busy_not_idle : (f : Phase) → is_busy f ≡ true → is_idle f ≡ false
busy_not_idle Idle b = absurd (false≢true b)
busy_not_idle (Busy o) b = refl
busy_not_idle (Suspended o) b = refl
busy_not_idle (Nested o e) b = refl

-- neither busy nor suspended is idle
pub idle_of : (f : Phase) → is_busy f ≡ false → is_suspended f ≡ false → f ≡ Idle
idle_of Idle b s = refl
idle_of (Busy o) b s = absurd (false≢true (sym b))
idle_of (Suspended o) b s = absurd (false≢true (sym s))
idle_of (Nested o e) b s = absurd (false≢true (sym b))

-- and what is idle is that phase
pub idle_is : (f : Phase) → is_idle f ≡ true → f ≡ Idle
idle_is Idle e = refl
idle_is (Busy o) e = absurd (false≢true e)
idle_is (Suspended o) e = absurd (false≢true e)
idle_is (Nested o x) e = absurd (false≢true e)
