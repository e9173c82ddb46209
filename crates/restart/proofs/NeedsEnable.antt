-- With WEL 0, as after a cut, a program or an erase answers 26.
use Rattle.std.specs.Prelude.{Some}
use mathlib.Core.Path.{◌≡◌, ap, ◌∙◌}
use mathlib.Core.Bool.{false}
use lib.ListN.{get_or}
use lib.Dec.{eqb}
use Rattle.types.specs.declared.Phase.{Phase}
use Rattle.types.specs.declared.Phase.TheVariants.{Idle}
use Rattle.types.specs.declared.Effect.{Effect}
use Rattle.types.specs.declared.Answer.{Answer}
use Rattle.paper.specs.Table.{columns, addressing_on}
use Rattle.paper.specs.Commands.{begun, errors_of}
use Rattle.paper.specs.Numbers.{command_number, ignored_number}
use Rattle.paper.proofs.Table.{write_state, write_latch}
use Rattle.paper.proofs.AtRest.{not_enabled_number}
use Rattle.paper.proofs.Answers.{ignores}
use Rattle.laws.proofs.Commanded.{kind_errors}
use Rattle.restart.specs.Restart.{NeedsEnable}

pub needs_enable : NeedsEnable
needs_enable b kind wp i r off fits =
    let p = b.state in
    let n = p.part.blocks in
    let command = fits.code.command in
    let k = columns command in
    let known = fits.code.known in
    let errors : eqb (errors_of k.effect) 0 ≡ false = ap (λ (e : Effect). eqb (errors_of e) 0) fits.code.does ∙ kind_errors kind in
    let latch = write_latch n p.part.bank (get_or i 0 0) command known errors in
    let state = write_state n p.part.bank (get_or i 0 0) command p.part Idle known errors in
    let number : ignored_number (Some command) p.part p.phase i wp ≡ 26 = ap (λ (f : Phase). command_number k (addressing_on k p.part) (begun k p.part i) p.part f i wp) r.idle ∙ not_enabled_number k (addressing_on k p.part) (begun k p.part i) p.part i wp r.awake off latch fits.right_length state in
    rw (r.own_array, r.own_rows) (ap (λ (a : Answer). a.number) (ignores p r.is_sound wp command i fits.some fits.most known 25 number))
