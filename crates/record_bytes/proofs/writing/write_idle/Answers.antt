-- `record_bytes::writing::write_idle` meets its contract: in a buffer of a record's length the identity is written and the rest cleared, and another is left.
use mathlib.Core.List.{List, ◌++◌}
use mathlib.Core.Path.{◌∙◌, ap}
use Prim.Native.Nat.{ℕ}
use borrow.Author.Tests.{eq-eqb, ne_eqb}
use Rattle.types.specs.declared.Phase.TheVariants.{Idle}
use Rattle.paper.specs.Program.{no_data}
use Rattle.record_bytes.specs.Layout.{part_bytes, phase_bytes, record_bytes, written}
use Rattle.record_bytes.proofs.Laid.{signed_length, signed_as}
use borrow.Author.Rules.{rules}
use Rattle.record_bytes.proofs.writing.write_idle.Goals as goal

pub returns-in_default : goal.returns-in_default
unfolding written
returns-in_default c = rw (ne_eqb _ _ c.in_default.ensures.cases)

pub shape_of-bytes : goal.shape_of-bytes
shape_of-bytes c = search (rules, signed_length c.args.bytes.now c.args.identity)

pub returns : goal.returns
unfolding written record_bytes
returns c =
    let s = c in
    let w = c.in-Some.ensures.cases in
    let l = w.long in
    rw (eq-eqb _ _ l) ((rw w.same at c.write_cleared.ensures) ∙ ap (λ (x : List ℕ). ((part_bytes c.args.part ++ phase_bytes Idle) ++ x) ++ no_data) (signed_as c.args.bytes.now c.args.identity l))
