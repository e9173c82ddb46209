-- `blank_map::rebuild` meets its contract: made, or refused.
use Rattle.std.proofs.Common.{sym, ◌∙◌, length}
use Rattle.blank_map.proofs.Taken.{ok_number, err_number, rebuild_small, rebuilt_made, rebuilt_refused}
use Rattle.blank_map.proofs.rebuild.Goals.{then-is_ok, else-is_ok}
use Rattle.blank_map.proofs.rebuild.Goals as goal

pub build-requires : goal.build-requires
build-requires c =
    let a = c.args in
    let k = c.check_rebuild-checked in
    rebuild_small a.blocks (length a.array.now) (length a.map.now) (sym k.ensures ∙ ok_number k.result (sym c.is_ok.ensures.value ∙ c.if-is_ok.true))

pub returns-clause-map : goal.returns-clause-map
returns-clause-map c =
    let a = c.args in
    let k = c.check_rebuild-checked in
    elim c.if-is_ok.branch [
      | then-is_ok w ↦ w.map-is ∙ w.build.ensures ∙ rebuilt_made a.blocks a.array.now a.map.now (sym k.ensures ∙ ok_number k.result (sym c.is_ok.ensures.value ∙ w.if-is_ok.true))
      | else-is_ok w ↦ w.map-is ∙ rebuilt_refused a.blocks a.array.now a.map.now (λ e. err_number k.result (sym c.is_ok.ensures.value ∙ w.if-is_ok.false) (k.ensures ∙ e))
    ]
