-- An erase that is executed again and run to the end leaves the array and rows of an undisturbed one, whatever happened before in its unit.
use Prim.Native.Nat.{ℕ, ◌<◌}
use mathlib.Core.Path.{◌≡◌, refl, sym, ap, ◌∙◌, subst⁻¹}
use mathlib.Core.Bool.{Bool, true, false, cond}
use mathlib.Core.List.{List}
use lib.ListN.{length, get_or}
use Rattle.types.specs.declared.Memory.{Memory}
use Rattle.types.specs.declared.Memory.TheVariants.{Array, Rows}
use Rattle.types.specs.declared.EraseUnit.{EraseUnit}
use Rattle.types.specs.declared.Operation.TheVariants.{Erase}
use Rattle.types.specs.declared.Record.{Record}
use Rattle.words.specs.Lists.{every}
use Rattle.words.proofs.Tests.{and_l, and_r}
use Rattle.words.proofs.Lists.{every_last}
use Rattle.paper.specs.Erase.{unit_base, erased_byte}
use Rattle.paper.specs.Operations.{in_unit}
use Rattle.paper.specs.History.{Call, record_after_calls, history, byte_after_all}
use Rattle.paper.specs.Board.{Board}
use Rattle.history.proofs.Told.{Told}
use Rattle.history.proofs.Calls.{history_append, bytes_joined}
use Rattle.suspended.proofs.Proceeds.{Ended, calls_end}
use Rattle.laws.specs.Writes.{erase, Write, steps, at_start, Rested, Makes, in_unit_of, memory_in, Done}
use Rattle.laws.proofs.Boards.{rested_own, made_told, told_length, told_bytes}
use Rattle.laws.proofs.Begun.{start_sound, start_size, steps_bytes}
use Rattle.laws.proofs.Written.{write_done}
use Rattle.laws.proofs.DriverLaws.{same_bytes}
use Rattle.restart.specs.Cuts.{Event, Lives, history_through, blanks, nothing_outside, aim, SameUnit}
use Rattle.restart.specs.Restart.{Undisturbed, Again, DoneOver, UpdateRestarts}
use Rattle.restart.proofs.Outside.{outside_stays, blank_stays}
use Rattle.restart.proofs.Lives.{LivesTold, lives_told}
use Rattle.restart.proofs.Started.{start_erasing, at_first, steps_every}

-- the unit that an erase is aimed at, if it is the one that holds a
in-same-unit : (p : Record) (u : EraseUnit) (a : ℕ) (w : Write) → SameUnit p u a w → (m : Memory) (at : ℕ) → in_unit_of u p.part.blocks (aim p u w) m at ≡ in_unit_of u p.part.blocks a m at
in-same-unit p u a w e m at = ap (λ (b : ℕ). in_unit (Erase u b 0) p.part.blocks m at) e

-- the last erase, on the board c
module _ (c : Board) (r : Rested c) (u : EraseUnit) (a : ℕ) (w : Write) (g : Again c.state u a w) (e : Board) (run : Makes c (steps w) e) where
  abbrev p : Record
  p = c.state

  abbrev base : ℕ
  base = unit_base u p.part.blocks (aim p u w)

  abbrev start : Record
  start = at_start p w

  told : Told (steps w) c.state c.array c.rows e.state e.array e.rows
  told = made_told (rested_own c r) run

  ended : Ended u base p.part.blocks w.wait start
  ended =
      calls_end u base p.part.blocks w.wait start (start_sound c r (erase u) w g.begun) (start_size c r (erase u) w g.begun) (start_erasing c r u w g.begun) g.ends

  -- after its end what is FFh stays so
  after_blanks : every blanks (history ended.after (record_after_calls ended.until start)) ≡ true
  after_blanks =
      every_last blanks (history ended.until start) (history ended.after (record_after_calls ended.until start))
      (sym (ap (every blanks) (ap (λ (cs : List Call). history cs start) ended.parts ∙ history_append ended.until ended.after start))
      ∙ steps_every c.state w blanks (and_r _ _ g.nothing_else_lem))

  -- so its unit holds FFh, and nothing else changed
  filled : (m : Memory) (at : ℕ) → at < length (memory_in m c) → in_unit_of u p.part.blocks a m at ≡ true → get_or (memory_in m e) at 0 ≡ erased_byte
  filled m at l i =
      let x = get_or (memory_in m c) at 0 in
      told_bytes told m at l
      ∙ steps_bytes c r (erase u) w g.begun m at x
      ∙ ap (λ (cs : List Call). byte_after_all m at (history cs start) x) ended.parts
      ∙ bytes_joined m at ended.until ended.after start x
      ∙ ap (byte_after_all m at (history ended.after (record_after_calls ended.until start)))
      (ap (byte_after_all m at (history ended.until start)) (sym (at_first c r u w g.begun m at x)) ∙ ended.filled m at x (in-same-unit p u a w g.same_unit m at ∙ i))
      ∙ blank_stays m at (history ended.after (record_after_calls ended.until start)) after_blanks

  unchanged : (m : Memory) (at : ℕ) → at < length (memory_in m c) → in_unit_of u p.part.blocks a m at ≡ false → get_or (memory_in m e) at 0 ≡ get_or (memory_in m c) at 0
  unchanged m at l i =
      told_bytes told m at l
      ∙ outside_stays u p.part.blocks a m at i (history (steps w) p) (get_or (memory_in m c) at 0) (and_l _ _ g.nothing_else_lem)

-- and what came before
module _ (b c e f : Board) (es : List Event) (u : EraseUnit) (a : ℕ) (w : Write) (r : Rested b) (lives : Lives b es c) (out : nothing_outside u b.state.part.blocks a (history_through es b.state) ≡ true)
    (rc : Rested c) (g : Again c.state u a w) (run : Makes c (steps w) e) (v : Write) (h : Undisturbed b.state u a v) (undisturbed : Makes b (steps v) f) where
  abbrev n : ℕ
  n = b.state.part.blocks

  lived : LivesTold es b c
  lived = lives_told (rested_own b r) lives

  first_done : Done b (erase u) v f
  first_done = write_done b r (erase u) v h.whole f undisturbed

  in-unit-here : (m : Memory) (at : ℕ) → in_unit_of u c.state.part.blocks a m at ≡ in_unit_of u n a m at
  in-unit-here m at = ap (λ (k : ℕ). in_unit_of u k a m at) lived.size

  same_at : (m : Memory) (at : ℕ) (t : Bool) → in_unit_of u n a m at ≡ t → at < length (memory_in m b) → get_or (memory_in m e) at 0 ≡ cond t erased_byte (get_or (memory_in m b) at 0)
  same_at m at true i l = filled c rc u a w g e run m at (subst⁻¹ (λ (k : ℕ). at < k) (lived.lengths m) l) (in-unit-here m at ∙ i)
  same_at m at false i l =
      unchanged c rc u a w g e run m at (subst⁻¹ (λ (k : ℕ). at < k) (lived.lengths m) l) (in-unit-here m at ∙ i)
      ∙ lived.bytes m at l
      ∙ outside_stays u n a m at i (history_through es b.state) (get_or (memory_in m b) at 0) out

  same : (m : Memory) → memory_in m e ≡ memory_in m f
  same =
      same_bytes b e f (λ m. told_length (told c rc u a w g e run) m ∙ lived.lengths m) first_done.lengths
      (λ m at l.
      let x = get_or (memory_in m b) at 0 in
      same_at m at (in_unit_of u n a m at) refl l ∙ sym (first_done.bytes m at l ∙ ap (λ (t : Bool). cond t erased_byte x) (in-same-unit b.state u a v h.same_unit m at)))

pub update_restarts : UpdateRestarts
update_restarts b c e f es u a v w r lives out rc g run h undisturbed =
    let all = same b c e f es u a w r lives out rc g run v h undisturbed in
    record { array = all Array; rows = all Rows }

pub done_over : DoneOver
done_over b c e f es u a v w r lives only rc g run h undisturbed =
    update_restarts b c e f es u a v w r lives (and_l _ _ only) rc g run h undisturbed
