-- Part and phase of bytes that hold a record, read again without judging, are those of the record.
use Prim.Native.Nat.{ℕ}
use mathlib.Core.Path.{◌≡◌}
use mathlib.Core.Bool.{true}
use mathlib.Core.List.{List}
use borrow.Author.Tests.{eq-eqb}
use Rattle.record_bytes.specs.Read.{fields_in, record_in, part_again, phase_again}
use Rattle.record_bytes.proofs.Back.{taken, holding, held_length}

pub again_part : (bs : List ℕ) → (record_in bs).ok ≡ true → part_again bs ≡ (record_in bs).state.part
unfolding part_again fields_in
again_part bs h = rw (eq-eqb _ _ (held_length bs h), taken bs (holding bs h))

pub again_phase : (bs : List ℕ) → (record_in bs).ok ≡ true → phase_again bs ≡ (record_in bs).state.phase
unfolding phase_again fields_in
again_phase bs h = rw (eq-eqb _ _ (held_length bs h), taken bs (holding bs h))
