-- `cells::is_own` meets its contract: each kind has its law.
use mathlib.Core.Path.{sym, ◌∙◌}
use lib.Dec.{eqb}
use Rattle.words.specs.Logic.{◌and◌}
use Rattle.words.proofs.Tests.{and_assoc}
use Rattle.cells.proofs.Own.{own_program, own_erase, own_write, none_own}
use Rattle.cells.proofs.is_own.Goals as goal

pub returns-in-Ok-Program : goal.returns-in-Ok-Program
returns-in-Ok-Program c = sym (own_program c.args.cells _ (sym (rw c.in-Ok-Program.field-0-is at c.in-Ok-Program.ensures)))

pub returns-in-Ok-Erase : goal.returns-in-Ok-Erase
unfolding ◌and◌
returns-in-Ok-Erase c = c.eq.ensures ∙ sym (own_erase c.args.cells _ (sym (rw c.in-Ok-Erase.field-0-is at c.in-Ok-Erase.ensures)))

pub returns-in-Ok-Write : goal.returns-in-Ok-Write
unfolding ◌and◌
returns-in-Ok-Write c =
    let s = c.args.cells in
    c.eq-in-Ok-Write.ensures ∙ sym (and_assoc (eqb s.base 0) (eqb s.count 0) (eqb s.done 0)) ∙ sym (own_write c.args.cells _ (sym (rw c.in-Ok-Write.field-0-is at c.in-Ok-Write.ensures)))

pub returns-in-Err : goal.returns-in-Err
returns-in-Err c = sym (none_own c.args.cells c.in-Err.ensures)
