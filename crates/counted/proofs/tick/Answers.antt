-- `counted::tick` meets its contract: another number of records than sectors leaves all as it was, and else the plain ticks are made, which count what they reached.
use mathlib.Core.Path.{refl, sym, ap, ◌∙◌}
use Rattle.paper.specs.Wear.{WearTicked}
use Rattle.paper.specs.Refusals.{number}
use Rattle.paper.proofs.Refusals.{some_number}
use Rattle.record_bytes.specs.Read.{record_in}
use Rattle.beside.specs.Beside.{board_bytes}
use Rattle.beside.proofs.Told.{same_bytes}
use Rattle.counted.specs.InBytes.{counted_of}
use Rattle.counted.proofs.InBytes.{refused_ticks, worked_counted, passed_ticks, passed_bytes}
use Rattle.counted.proofs.tick.Goals as goal

pub returns-in-Err : goal.returns-in-Err
returns-in-Err c =
    let a = c.args in
    let bs = a.bytes.now in
    let xs = a.array.now in
    let rs = a.rows.now in
    let e = c.in-Err.refusal in
    let g = sym (refused_ticks bs xs rs a.records (number e) c.in-Err.ensures (some_number e) a.ticks) in
    record { answer = rw (c.number.ensures, c.nothing.ensures) (ap counted_of g); bytes = same_bytes bs xs rs ∙ ap (λ (w : WearTicked). board_bytes (record_in bs) w.board bs) g; array = ap (λ (w : WearTicked). w.board.array) g; rows = ap (λ (w : WearTicked). w.board.rows) g }

pub returns : goal.returns
returns c =
    let a = c.args in
    let bs = a.bytes.now in
    let xs = a.array.now in
    let rs = a.rows.now in
    let pass = c.in_default.ensures in
    let w = c.tick_bytes-worked in
    let g = sym (passed_ticks bs xs rs a.records 0 pass refl a.ticks) in
    record { answer = worked_counted (record_in bs) _ _ _ w.result w.ensures.answer _ c.tally_unless.ensures ∙ ap counted_of g; bytes = w.ensures.bytes ∙ passed_bytes bs xs rs a.records 0 pass refl a.ticks ∙ ap (λ (v : WearTicked). board_bytes (record_in bs) v.board bs) g; array = w.ensures.array ∙ ap (λ (v : WearTicked). v.board.array) g; rows = w.ensures.rows ∙ ap (λ (v : WearTicked). v.board.rows) g }
