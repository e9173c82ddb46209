-- `checker::verdict_on` meets its contract: each test is the definition's.
use Prim.Native.Nat.{◌-◌}
use native.Mathlib.Omega.{arith}
use Rattle.checker.proofs.Said.{made_le, said_step, said_busy, said_address, said_yes}
use Rattle.checker.proofs.verdict_on.Goals as goal

pub slice_bounds-first_failing-end : goal.slice_bounds-first_failing-end
slice_bounds-first_failing-end c =
    let a = c.args in
    let p = c.requires in
    made_le a.ran a.bytes.now a.array.now a.answers.now a.image.now p.0 p.1

pub returns-then-failing-steps : goal.returns-then-failing-steps
returns-then-failing-steps c =
    let a = c.args in
    let p = c.requires in
    let k = c.first_failing-failing in
    said_step a.ran a.bytes.now a.array.now a.answers.now a.image.now p.0 p.1 k.result (a.ran.step - 0) (omega arith) k.ensures c.if-failing-steps.true

pub returns-then-not-idle : goal.returns-then-not-idle
returns-then-not-idle c =
    let a = c.args in
    let p = c.requires in
    let k = c.first_failing-failing in
    let i = c.ends_idle-idle in
    said_busy a.ran a.bytes.now a.array.now a.answers.now a.image.now p.0 p.1 k.result (a.ran.step - 0) (omega arith) k.ensures c.if-failing-steps.false i.result i.ensures (c.if-not-idle.true)

pub returns-then-address-image : goal.returns-then-address-image
returns-then-address-image c =
    let a = c.args in
    let p = c.requires in
    let k = c.first_failing-failing in
    let i = c.ends_idle-idle in
    let d = c.first_difference-address in
    said_address a.ran a.bytes.now a.array.now a.answers.now a.image.now p.0 p.1 k.result (a.ran.step - 0) (omega arith) k.ensures c.if-failing-steps.false i.result i.ensures (c.if-not-idle.false) d.result d.ensures c.if-address-image.true

pub returns : goal.returns
returns c =
    let a = c.args in
    let p = c.requires in
    let k = c.first_failing-failing in
    let i = c.ends_idle-idle in
    let d = c.first_difference-address in
    said_yes a.ran a.bytes.now a.array.now a.answers.now a.image.now p.0 p.1 k.result (a.ran.step - 0) (omega arith) k.ensures c.if-failing-steps.false i.result i.ensures (c.if-not-idle.false) d.result d.ensures c.if-address-image.false
