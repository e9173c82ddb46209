-- `record_bytes::reading::doing_in` meets its contract: in each phase that the kinds tell, the cells are the operations' own.
use Rattle.std.specs.Prelude.{None, Some}
use mathlib.Core.Path.{◌≡◌, refl, sym, ◌∙◌}
use mathlib.Core.Bool.{true, not}
use Rattle.types.specs.declared.Phase.TheVariants.{Idle, Busy, Suspended, Nested}
use Rattle.words.proofs.Tests.{and_l, and_r}
use Rattle.cells.proofs.Own.{own_told}
use Rattle.record_bytes.proofs.Parts.{no_work, some_work, none_there, some_there, left_fails, doing_told}
use borrow.Author.Tests.{eq-eqb}
use lib.Dec.{eqb}
use Rattle.record_bytes.proofs.reading.doing_in.Goals as goal

pub returns-then-both : goal.returns-then-both
returns-then-both c =
    let bs = c.args.bytes.now in
    let x = c.running_in-running in
    let y = c.halted_in-halted in
    let t = sym c.both.ensures ∙ c.if-both.true in
    doing_told bs c.told-bytes c.fits-bytes x.result y.result x.ensures y.ensures None None Idle _ _ _ (no_work x.result (none_there x.result.kind (and_l _ _ t))) (no_work y.result (none_there y.result.kind (and_r _ _ t))) refl c.is_none.ensures c.is_none-then-both.ensures c.both-then-both.ensures

pub returns-then-not-stands : goal.returns-then-not-stands
returns-then-not-stands c =
    let bs = c.args.bytes.now in
    let x = c.running_in-running in
    let y = c.halted_in-halted in
    let o = c.operation_in-op in
    let z = c.if-not-stands.true in
    let f : not (not (eqb y.result.kind 0)) ≡ true = rw (eq-eqb _ 0 z) refl in
    let n = some_there x.result.kind (left_fails _ _ (sym c.both.ensures ∙ c.if-both.false) f) in
    let k = own_told x.result o.result _ o.ensures c.is_own-kept.ensures in
    doing_told bs c.told-bytes c.fits-bytes x.result y.result x.ensures y.ensures (Some o.result) None (Busy o.result) _ _ _ (some_work x.result o.result n o.ensures) (no_work y.result z) refl k c.is_none-then-not-stands.ensures c.both-then-not-stands.ensures

pub returns-then-not-runs : goal.returns-then-not-runs
returns-then-not-runs c =
    let bs = c.args.bytes.now in
    let x = c.running_in-running in
    let y = c.halted_in-halted in
    let o = c.operation_in-outer in
    let n = c.if-not-stands.false in
    let k = own_told y.result o.result _ o.ensures c.is_own-beneath.ensures in
    doing_told bs c.told-bytes c.fits-bytes x.result y.result x.ensures y.ensures None (Some o.result) (Suspended o.result) _ _ _ (no_work x.result c.if-not-runs.true) (some_work y.result o.result n o.ensures) refl c.is_none-then-not-runs.ensures k c.both-then-not-runs.ensures

pub returns : goal.returns
returns c =
    let bs = c.args.bytes.now in
    let x = c.running_in-running in
    let y = c.halted_in-halted in
    let o = c.operation_in-op-2 in
    let e = c.operation_in-outer in
    let n = c.if-not-runs.false in
    let m = c.if-not-stands.false in
    let k = own_told x.result o.result _ o.ensures c.is_own-kept-2.ensures in
    let b = own_told y.result e.result _ e.ensures c.is_own-beneath.ensures in
    doing_told bs c.told-bytes c.fits-bytes x.result y.result x.ensures y.ensures (Some o.result) (Some e.result) (Nested o.result e.result) _ _ _ (some_work x.result o.result n o.ensures) (some_work y.result e.result m e.ensures) refl k b c.both-2.ensures
