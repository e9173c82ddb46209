-- `ignoring::suspended_ok` meets its contract: it goes by whether the part is suspended, and then by the definition's test.
use Rattle.words.proofs.Tests.{or_true, or_false}
use mathlib.Core.Path.{sym, ◌∙◌}
use Rattle.ignoring.proofs.suspended_ok.Goals as goal

pub returns-then-not-is_suspended : goal.returns-then-not-is_suspended
returns-then-not-is_suspended c = rw (sym c.is_suspended.ensures ∙ c.if-not-is_suspended.true) (sym (or_true _))

pub returns : goal.returns
returns c = rw (sym c.is_suspended.ensures ∙ c.if-not-is_suspended.false, or_false, ← c.erase_halted.ensures) c.taken_suspended.ensures
