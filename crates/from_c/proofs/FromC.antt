-- Demand 3 from C: a part is powered up by yawlspar_power_up, unrefused, and driven by any calls of yawlspar_transact, yawlspar_tick, yawlspar_script, yawlspar_check, yawlspar_tick_map and yawlspar_script_map on its own record's bytes and memory. The bytes then hold the record that the calls tell, every stored byte is what the history says, and what was protected or locked throughout is kept.
use Prim.Native.Nat.{ℕ}
use mathlib.Core.Path.{◌≡◌, refl, sym, ap, ◌∙◌}
use mathlib.Core.List.{List}
use native.Mathlib.Omega.{arith}
use lib.ListN.{length}
use borrow.Author.Tests.{eq-eqb}
use Rattle.types.specs.declared.Record.{Record}
use Rattle.words.proofs.Tests.{or_else_zero}
use Rattle.paper.specs.Sizes.{array_bytes, rows_bytes}
use Rattle.paper.proofs.Kept.{power_up_sound, powered_fresh}
use Rattle.paper.proofs.KeptBytes.{none_page}
use Rattle.record_bytes.specs.Layout.{record_bytes}
use Rattle.yawlspar.specs.Face.{Asked, identity_of, registers_of, up_of, up_number, power_up_answer, power_up_bytes}
use Rattle.history.specs.PageData.{Page}
use Rattle.history.proofs.Course.{course_told}
use Rattle.reset.specs.Demand3.{PoweredAndSent}
use Rattle.reset.proofs.Demand3.{history_told}
use Rattle.from_c.specs.Driven.{Lent, lent, CCall, calls_of, Driven, packed_steps}
use Rattle.from_c.specs.FromC.{FromC}
use Rattle.from_c.specs.Holding.{Holding}
use Rattle.from_c.proofs.Holding.{in_bytes}
use Rattle.from_c.proofs.Chained.{driven_run, driven_heard, plain_heard}

-- the numbers that yawlspar_power_up was given, and the buffer that it was lent
module _ (q : Asked) (bs : List ℕ) where
  abbrev start : Record
  start = (up_of q).next

  -- it answered 0
  module _ (z : power_up_answer (length bs) q ≡ 0) where
    number_zero : up_number (length bs) q ≡ 0
    number_zero = omega arith

    pub up_unrefused : (up_of q).number ≡ 0
    unfolding up_number
    up_unrefused = (or_else_zero _ _ number_zero).1

    up_bytes : power_up_bytes q bs ≡ record_bytes start
    up_bytes = rw (eq-eqb _ _ number_zero) refl

    up_page : Page start
    up_page = ap (λ (p : Record). length p.page) (powered_fresh q.blocks (identity_of q) (registers_of q) up_unrefused) ∙ none_page

    -- the buffer holds the record that power-up gives
    pub up_holds : (xs rs : List ℕ) → length xs ≡ array_bytes q.blocks → length rs ≡ rows_bytes → Holding (lent (power_up_bytes q bs) xs rs) start
    up_holds xs rs lx lr =
        record { bytes = up_bytes; is_sound = power_up_sound q.blocks (identity_of q) (registers_of q); page = up_page; array = lx ∙ sym (ap (λ (p : Record). array_bytes p.part.blocks) (powered_fresh q.blocks (identity_of q) (registers_of q) up_unrefused)); rows = lr }

  pub driven_told : {ds : List CCall} {xs rs : List ℕ} {m : Lent} → power_up_answer (length bs) q ≡ 0 → length xs ≡ array_bytes q.blocks → length rs ≡ rows_bytes
      → (chain : Driven (lent (power_up_bytes q bs) xs rs) ds m) → FromC q bs chain
  driven_told {ds} {xs} {rs} {m} z lx lr chain =
      let h = up_holds z xs rs lx lr in
      let l = driven_run chain start h in
      let sent : PoweredAndSent q.blocks (identity_of q) (registers_of q) (calls_of ds start) xs rs l.next m.array m.rows = record { unrefused = up_unrefused z; own_array = lx; own_rows = lr; run = l.run } in
      record { next = l.next; bytes = l.holding.bytes; in_bytes = in_bytes l.holding; sent = sent; told = history_told q.blocks (identity_of q) (registers_of q) sent; answers = driven_heard chain start h; plain_answers = λ plain. plain_heard chain start h plain ∙ ap packed_steps (sym (course_told l.run)) }
