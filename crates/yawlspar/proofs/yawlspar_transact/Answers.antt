-- `yawlspar::yawlspar_transact` meets its contract: bytes that hold no record are left alone, and else what the call makes of the record is written.
use mathlib.Core.Path.{ap, ◌∙◌}
use Rattle.record_bytes.specs.Layout.{record_length}
use Rattle.record_bytes.specs.Read.{identity_in, record_in}
use Rattle.record_bytes.proofs.Back.{held_length}
use Rattle.record_bytes.proofs.Told.{none_held, some_held}
use Rattle.yawlspar.proofs.Face.{packs, unheld_answer, unheld_bytes, unheld_output, told_answer, told_bytes, told_output}
use Rattle.yawlspar.proofs.FirstPlace.{first_packs}
use native.Mathlib.Omega.{arith}
use lib.Seq.{take_all}
use Rattle.yawlspar.proofs.yawlspar_transact.Goals as goal

pub returns-in_default : goal.returns-in_default
returns-in_default c =
    let h = record_in c.args.bytes.now in
    let n = none_held h _ c.in_default.is c.read.ensures in
    let l = c.number_of.ensures ∙ c.check_later-unread.ensures in
    record { answer = c.pack.ensures ∙ packs _ 0 (omega arith) ∙ rw l (unheld_answer h n _ _ _ _ _); bytes = unheld_bytes h n _ _ _ _ _ _; output = unheld_output h n _ _ _ _ _ }

pub slice_bounds-identity_in-end : goal.slice_bounds-identity_in-end
slice_bounds-identity_in-end c = omega (arith, held_length c.args.bytes.now (some_held (record_in c.args.bytes.now) _ _ c.in-Some.is c.read.ensures).0)

pub returns : goal.returns
returns c =
    let bs = c.args.bytes.now in
    let f = some_held (record_in bs) _ _ c.in-Some.is c.read.ensures in
    let d = c.identity_in-identity.ensures ∙ ap identity_in (take_all record_length bs (omega (arith, held_length bs f.0))) in
    let t = c.both-fit.ensures in
    let u = c.transact_part-outcome.ensures in
    record { answer = c.pack-2.ensures ∙ packs _ _ (rw u.answer (first_packs _ _ _ _ _ _ _ _)) ∙ told_answer bs f.0 _ f.1 _ _ t _ _ _ _ _ u.answer; bytes = c.write_change.ensures ∙ told_bytes bs f.0 _ f.1 _ _ t _ _ _ _ _ u.answer; output = told_output bs f.0 _ f.1 _ _ t _ d _ _ _ _ _ u.output }
