-- `mapped::tick` meets its contract: a map of another length leaves all as it was, and else the plain ticks are made and the map is kept.
use Prim.Native.Nat.{ℕ}
use mathlib.Core.Path.{refl, sym, ap, ◌∙◌}
use borrow.Author.Tests.{eqb-false}
use Rattle.paper.proofs.Refusals.{refused}
use Rattle.beside.specs.Beside.{board_bytes}
use Rattle.beside.proofs.Told.{same_bytes}
use Rattle.paper.specs.Map.{MapTicked}
use Rattle.mapped.specs.InBytes.{kept_of}
use Rattle.record_bytes.specs.Read.{record_in}
use Rattle.mapped.proofs.InBytes.{refused_ticks, worked_kept, passed_ticks, passed_bytes, marked_so}
use Rattle.mapped.proofs.tick.Goals as goal

pub returns-in-Err : goal.returns-in-Err
returns-in-Err c =
    let a = c.args in
    let bs = a.bytes.now in
    let xs = a.array.now in
    let rs = a.rows.now in
    let m = a.map.now in
    let e = c.in-Err in
    let stop = eqb-false _ _ (refused e.refusal) in
    let g = sym (refused_ticks bs xs rs m _ e.ensures stop a.ticks) in
    record { answer = ap (λ (n : ℕ). record { number = n; done = 0 }) c.number.ensures ∙ ap kept_of g; bytes = same_bytes bs xs rs ∙ ap (λ (w : MapTicked). board_bytes (record_in bs) w.board bs) g; array = ap (λ (w : MapTicked). w.board.array) g; rows = ap (λ (w : MapTicked). w.board.rows) g; map = ap (λ (w : MapTicked). w.map) g }

pub returns : goal.returns
returns c =
    let a = c.args in
    let bs = a.bytes.now in
    let xs = a.array.now in
    let rs = a.rows.now in
    let m = a.map.now in
    let w = c.tick_bytes-worked in
    let g = sym (passed_ticks bs xs rs m _ c.in_default.ensures refl a.ticks) in record { answer = worked_kept (record_in bs) _ _ _ w.result w.ensures.answer ∙ ap kept_of g; bytes = w.ensures.bytes ∙ passed_bytes bs xs rs m _ c.in_default.ensures refl a.ticks ∙ ap (λ (v : MapTicked). board_bytes (record_in bs) v.board bs) g; array = w.ensures.array ∙ ap (λ (v : MapTicked). v.board.array) g; rows = w.ensures.rows ∙ ap (λ (v : MapTicked). v.board.rows) g; map = c.keep.ensures ∙ marked_so (record_in bs) _ _ _ w.result w.ensures.answer _ _ m w.ensures.array ∙ ap (λ (v : MapTicked). v.map) g }
