-- What is lent holds a sound record again after a run of any calls whose last record is written to its bytes.
use mathlib.Core.Path.{◌≡◌, sym, ap, subst⁻¹, ◌∙◌}
use mathlib.Core.List.{List}
use Rattle.types.specs.declared.Record.{Record}
use Rattle.paper.specs.Sizes.{array_bytes}
use Rattle.paper.specs.History.{Call}
use Rattle.paper.specs.Board.{Own, board_of}
use Rattle.record_bytes.specs.Layout.{record_bytes}
use Rattle.record_bytes.specs.Read.{held, record_in}
use Rattle.record_bytes.proofs.Back.{read_back}
use Rattle.record_bytes.proofs.Fits.{sound_fits}
use Rattle.history.specs.Run.{Run}
use Rattle.history.specs.PageData.{Page}
use Rattle.history.proofs.PageKept.{calls_page}
use Rattle.history.proofs.Told.{run_told}
use Rattle.from_c.specs.Driven.{Lent}
use Rattle.from_c.specs.Holding.{Holding}

-- the record is read back from them
pub in_bytes : {l : Lent} {p : Record} → Holding l p → record_in l.bytes ≡ held p
in_bytes {l} {p} h = ap record_in h.bytes ∙ read_back p (sound_fits p h.is_sound h.page)

-- what is lent is a sound part with its own memory
pub holding_own : {l : Lent} {p : Record} → Holding l p → Own (board_of p l.array l.rows)
holding_own h = record { is_sound = h.is_sound; own_array = h.array; own_rows = h.rows }

-- a run's last record, in its bytes
pub run_holding : {l m : Lent} {p q : Record} {cs : List Call} → Holding l p → Run p l.array l.rows cs q m.array m.rows → m.bytes ≡ record_bytes q → Holding m q
run_holding {l} {m} {p} {q} {cs} h run e =
    let t = run_told run h.is_sound h.array h.rows in
    record { bytes = e; is_sound = t.next_sound; page = subst⁻¹ Page t.next (calls_page cs p h.page); array = t.array_length ∙ h.array ∙ ap array_bytes (sym t.size); rows = t.rows_length ∙ h.rows }
