-- `yawlspar::yawlspar_power_up` meets its contract: refused, the buffer is left alone; else it has the record's length and takes its bytes.
use mathlib.Core.Path.{refl, sym, ap, ◌∙◌}
use Rattle.paper.proofs.Refusals.{some_number}
use native.Mathlib.Omega.{arith}
use Rattle.record_bytes.specs.Layout.{record_bytes}
use Rattle.record_bytes.proofs.Back.{written_in}
use Rattle.yawlspar.specs.Face.{asked}
use Rattle.yawlspar.proofs.Face.{given, up_idle, given_number_lem, own_number, own_bytes, no_bytes}
use Rattle.yawlspar.proofs.yawlspar_power_up.Goals as goal

pub returns-in-Err : goal.returns-in-Err
returns-in-Err c =
    let a = c.args in
    let q = asked a.blocks a.maker a.kind a.capacity a.device a.status a.function a.extended in
    let h = some_number c.in-Err.refusal in
    let e = given_number_lem q a.bytes.now _ c.in-Err.ensures h in
    record { answer = omega (arith, e); bytes = no_bytes q a.bytes.now _ c.in-Err.ensures _ e h }

pub overflow_cast-identity : goal.overflow_cast-identity
overflow_cast-identity c = omega (arith, given _ _ (sym c.in_default.ensures))

pub overflow_cast-identity-2 : goal.overflow_cast-identity-2
overflow_cast-identity-2 c = omega (arith, given _ _ (sym c.in_default.ensures))

pub overflow_cast-identity-3 : goal.overflow_cast-identity-3
overflow_cast-identity-3 c = omega (arith, given _ _ (sym c.in_default.ensures))

pub overflow_cast-identity-4 : goal.overflow_cast-identity-4
overflow_cast-identity-4 c = omega (arith, given _ _ (sym c.in_default.ensures))

pub overflow_cast-stored : goal.overflow_cast-stored
overflow_cast-stored c = omega (arith, given _ _ (sym c.in_default.ensures))

pub overflow_cast-stored-2 : goal.overflow_cast-stored-2
overflow_cast-stored-2 c = omega (arith, given _ _ (sym c.in_default.ensures))

pub overflow_cast-stored-3 : goal.overflow_cast-stored-3
overflow_cast-stored-3 c = omega (arith, given _ _ (sym c.in_default.ensures))

pub overflow_cast-blocks : goal.overflow_cast-blocks
overflow_cast-blocks c = omega (arith, given _ _ (sym c.in_default.ensures))

pub returns-then-up-ne0 : goal.returns-then-up-ne0
returns-then-up-ne0 c =
    let a = c.args in
    let q = asked a.blocks a.maker a.kind a.capacity a.device a.status a.function a.extended in
    let u = c.power_up-up in
    let w = u.ensures in
    let e = own_number q a.bytes.now 0 c.in_default.ensures u.result refl w in
    record { answer = omega (arith, e); bytes = no_bytes q a.bytes.now 0 c.in_default.ensures _ e c.if-up-ne0.true }

pub returns : goal.returns
returns c =
    let a = c.args in
    let q = asked a.blocks a.maker a.kind a.capacity a.device a.status a.function a.extended in
    let u = c.power_up-up in
    let w = u.ensures in
    let o = c.if-up-ne0.false in
    let e = own_number q a.bytes.now 0 c.in_default.ensures u.result refl w in
    record { answer = omega (arith, e, o); bytes = c.write_idle.ensures ∙ written_in _ _ (given _ _ (sym c.in_default.ensures)).long ∙ ap record_bytes (up_idle q u.result w) ∙ own_bytes q a.bytes.now 0 c.in_default.ensures u.result refl w o }
