-- `soundness::nest_ok` meets its contract: each arm is a clause of the definition.
use Rattle.soundness.proofs.nest_ok.Goals as goal

pub returns : goal.returns
returns c = rw (c.both-4.ensures, c.both-3.ensures, c.both-2.ensures, c.both.ensures, c.outside_of-apart.ensures, c.can_suspend-page.ensures, c.is_program-programs.ensures, c.can_suspend-halts.ensures, c.is_erase-erases.ensures)
