-- The bytes of a record after a change are those of the changed record.
use Rattle.std.specs.Prelude.{None}
use Prim.Native.Nat.{ℕ}
use mathlib.Core.Path.{◌≡◌, refl, sym, ap, ◌∙◌}
use mathlib.Core.Bool.{Bool, true}
use mathlib.Core.List.{List}
use lib.ListN.{length, set}
use borrow.Author.Tests.{eq-eqb}
use Rattle.types.specs.declared.Record.{Record}
use Rattle.types.specs.declared.Change.{Change}
use Rattle.types.specs.declared.Change.TheVariants.{Same, Marked, Live, Anew, Runs, Halts, GoesOn, Clears}
use Rattle.words.specs.Logic.{bit}
use Rattle.paper.specs.Records.{marked}
use Rattle.paper.specs.Phases.{running, halted}
use Rattle.paper.specs.Commands.{changed}
use Rattle.paper.proofs.Phases.{phase_runs, phase_halts}
use Rattle.paper.proofs.Soundness.{record_of}
use Rattle.record_bytes.specs.Layout.{armed_at, record_length, part_bytes, operation_bytes, works_bytes, record_bytes, bytes_changed, change_written}
use Rattle.record_bytes.specs.Read.{record_in}
use Rattle.record_bytes.proofs.Back.{held_length, held_bytes}

-- the armed mark at its place
mark_set : (p : Record) (armed : Bool) → set (record_bytes p) armed_at (bit armed) ≡ record_bytes (record_of p.identity (marked p.part armed) p.phase p.page)
unfolding record_bytes part_bytes works_bytes operation_bytes
mark_set p armed = refl

changed_in : (c : Change) (i bs : List ℕ) → length bs ≡ record_length → change_written c i bs ≡ bytes_changed c i bs
unfolding change_written
changed_in c i bs l = rw (eq-eqb _ _ l)

bytes_changed_lem : (c : Change) (i : List ℕ) (p : Record) → bytes_changed c i (record_bytes p) ≡ record_bytes (changed c i p)
unfolding record_bytes part_bytes works_bytes operation_bytes
bytes_changed_lem Same i p = refl
bytes_changed_lem (Marked armed) i p = mark_set p armed
bytes_changed_lem (Live v) i p = refl
bytes_changed_lem (Anew q) i p = refl
bytes_changed_lem (Runs q d w) i p = rw (phase_runs w (halted p.phase), phase_halts w (halted p.phase))
bytes_changed_lem (Halts q) i p = rw (phase_runs None (running p.phase), phase_halts None (running p.phase))
bytes_changed_lem (GoesOn q) i p = rw (phase_runs (halted p.phase) None, phase_halts (halted p.phase) None)
bytes_changed_lem (Clears q) i p = refl

-- a change of the record that bytes hold
pub held_changed : (c : Change) (i bs : List ℕ) → (record_in bs).ok ≡ true → change_written c i bs ≡ record_bytes (changed c i (record_in bs).state)
held_changed c i bs h =
    changed_in c i bs (held_length bs h)
    ∙ ap (bytes_changed c i) (sym (held_bytes bs h))
    ∙ bytes_changed_lem c i (record_in bs).state
