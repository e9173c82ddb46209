-- `record::large_ok` meets its contract: it goes by whether the part is the large one.
use Rattle.std.proofs.Common.{sym, ap, ◌∙◌}
use Rattle.paper.specs.Sizes.{is_large}
use Rattle.paper.proofs.Bits.{large_as}
use Rattle.record.proofs.large_ok.Goals as goal

pub returns-then-is_large : goal.returns-then-is_large
returns-then-is_large c =
    let a = c.args in
    rw (large_as a.blocks a.function a.bank, sym (c.is_large.ensures ∙ ap is_large c.from.ensures) ∙ c.if-is_large.true)

pub returns : goal.returns
returns c =
    let a = c.args in
    rw (large_as a.blocks a.function a.bank, c.both.ensures, sym (c.is_large.ensures ∙ ap is_large c.from.ensures) ∙ c.if-is_large.false)
