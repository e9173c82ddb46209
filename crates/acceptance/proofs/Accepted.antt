-- Steps in twos, one after the other: each write answers 0 and leaves the part idle and awake, and together they leave of each byte what their jobs leave.
use Prim.Native.Nat.{ℕ, ◌<◌}
use mathlib.Core.Path.{◌≡◌, refl, sym, ap, ◌∙◌, subst⁻¹}
use mathlib.Core.Bool.{Bool, true, false≢true}
use mathlib.Core.List.{List, [], ◌∷◌, ◌++◌}
use lib.ListN.{length, get_or}
use lib.Dec.{eqb}
use borrow.Author.Tests.{eq-eqb}
use Rattle.types.specs.declared.Memory.TheVariants.{Array}
use Rattle.types.specs.declared.Record.{Record}
use Rattle.words.specs.Lists.{every}
use Rattle.words.proofs.Tests.{and_l, and_r, and_in}
use Rattle.words.proofs.Lists.{every_both}
use Rattle.paper.specs.Calls.{transacted}
use Rattle.paper.specs.History.{Call}
use Rattle.paper.specs.Board.{Board, after_calls}
use Rattle.history.specs.ScriptLaws.{answers_in, course_from}
use Rattle.history.proofs.ScriptSteps.{answers_append}
use Rattle.history.proofs.Scripts.{after_append}
use Rattle.history.proofs.Joined.{run_exists, course_joined}
use Rattle.laws.specs.Writes.{Kind, program, erase, Write, opening, steps, Whole, Rested, byte_written, Done}
use Rattle.laws.proofs.Boards.{rested_own, made_told}
use Rattle.laws.proofs.Written.{write_done, rested_again, whole_again}
use Rattle.acceptance.specs.Flasher.{unprotected, Sending, job_of, right_command, in_twos, jobs_in}
use Rattle.acceptance.proofs.Bytes.{byte_by, byte_by_all}
use Rattle.acceptance.proofs.Steps.{all_calls}
use Rattle.acceptance.proofs.Writes.{write_in, right_write, write_whole, calls_written}

abbrev pub is_zero : ℕ → Bool
is_zero k = eqb k 0

-- the transactions of a write answer 0
module _ (b : Board) (r : Rested b) (wp : Bool) (e w : Sending) (c : Board) (kind : Kind) (done : Done b kind (write_in wp e w) c) where
  abbrev opened : Board
  opened = after_calls (opening (write_in wp e w)) b

  command_zero : (transacted opened.state (length b.array) (length b.rows) wp w.sent (length w.sent)).number ≡ 0
  command_zero =
      let t = made_told (rested_own b r) (run_exists (opening (write_in wp e w)) b) in
      ap (λ (a : ℕ). (transacted opened.state a (length b.rows) wp w.sent (length w.sent)).number) (sym t.array_length)
      ∙ ap (λ (a : ℕ). (transacted opened.state (length opened.array) a wp w.sent (length w.sent)).number) (sym t.rows_length)
      ∙ done.executed

  write_zeros : every is_zero (answers_in (course_from b (steps (write_in wp e w)))) ≡ true
  write_zeros = and_in (eq-eqb _ 0 done.enabled) (and_in (eq-eqb _ 0 command_zero) refl)

-- what steps in twos leave of a part: it is idle and awake, each byte of its array is what their jobs leave, and every transaction answered 0
pub record AllDone (p : Record) (wp : Bool) (es : List Sending) (b c : Board) : Type 0 where
  pub rested : Rested c
  pub array_length : length c.array ≡ length b.array
  pub bytes : (a : ℕ) → a < length b.array → get_or c.array a 0 ≡ byte_by_all (jobs_in p es) a (get_or b.array a 0)
  pub zeros : every is_zero (answers_in (course_from b (all_calls wp es))) ≡ true

-- a part on which every write is whole that is whole on p: it has its size and its bank register
record Follows (p : Record) (b : Board) : Type 0 where
  rested : Rested b
  size : b.state.part.blocks ≡ p.part.blocks
  bank : b.state.part.bank ≡ p.part.bank
  still : (kind : Kind) (w : Write) → Whole p kind w → Whole b.state kind w

-- what a write leaves of a byte goes by these two alone
same_written : (p q : Record) → q.part.blocks ≡ p.part.blocks → q.part.bank ≡ p.part.bank → (d : Kind) (i : List ℕ) (a x : ℕ) → byte_written q d i Array a x ≡ byte_written p d i Array a x
same_written p q n k (program m) i a x = rw (n, k) refl
same_written p q n k (erase u) i a x = rw (n, k) refl

module _ (p : Record) (open_part : unprotected p ≡ true) (wp : Bool) where
  -- two steps
  module _ (e w : Sending) (h : right_command p w ≡ true) (b : Board) (f : Follows p b) where
    abbrev kind : Kind
    kind = (right_write p open_part w h).kind

    abbrev write : Write
    write = write_in wp e w

    abbrev after : Board
    after = after_calls (steps write) b

    whole_here : Whole b.state kind write
    whole_here = f.still kind write (write_whole p open_part wp e w h)

    does_here : Done b kind write after
    does_here = write_done b f.rested kind write whole_here after (run_exists (steps write) b)

    follows_on : Follows p after
    follows_on =
        let run = run_exists (steps write) b in
        record {
          rested = rested_again b f.rested kind write whole_here after run;
          size = ap (λ (q : Record). q.part.blocks) does_here.rest ∙ f.size;
          bank = ap (λ (q : Record). q.part.bank) does_here.rest ∙ f.bank;
          still = λ d v g. whole_again b f.rested kind write whole_here after run d v (f.still d v g);
        }

    byte_here : (a : ℕ) → a < length b.array → get_or after.array a 0 ≡ byte_by (job_of p w.sent) a (get_or b.array a 0)
    byte_here a l =
        let x = get_or b.array a 0 in
        does_here.bytes Array a l
        ∙ same_written p b.state f.size f.bank kind w.sent a x
        ∙ (right_write p open_part w h).does a x

    zeros_here : every is_zero (answers_in (course_from b (steps write))) ≡ true
    zeros_here = write_zeros b f.rested wp e w after kind does_here

  all_done : (es : List Sending) → in_twos p es ≡ true → (b : Board) → Follows p b → AllDone p wp es b (after_calls (all_calls wp es) b)
  all_done [] h b f = record { rested = f.rested; array_length = refl; bytes = λ a l. refl; zeros = refl }
  all_done (e ∷ []) h b f = absurd (false≢true h)
  all_done (e ∷ w ∷ ss) h b f =
      let c = and_l _ _ (and_r _ _ h) in
      let middle = after e w c b f in
      let d = does_here e w c b f in
      let next = all_done ss (and_r _ _ (and_r _ _ h)) middle (follows_on e w c b f) in
      let calls : all_calls wp (e ∷ w ∷ ss) ≡ steps (write_in wp e w) ++ all_calls wp ss = ap (λ (cs : List Call). cs ++ all_calls wp ss) (calls_written p open_part wp e w (and_l _ _ h)) in
      let board : after_calls (all_calls wp (e ∷ w ∷ ss)) b ≡ after_calls (all_calls wp ss) middle = ap (λ (cs : List Call). after_calls cs b) calls ∙ after_append (steps (write_in wp e w)) (all_calls wp ss) b in
      subst⁻¹ (AllDone p wp (e ∷ w ∷ ss) b) board
      (record {
        rested = next.rested;
        array_length = next.array_length ∙ d.lengths Array;
        bytes = λ a l. next.bytes a (subst⁻¹ (λ (n : ℕ). a < n) (d.lengths Array) l) ∙ ap (byte_by_all (jobs_in p ss) a) (byte_here e w c b f a l);
        zeros = ap (λ (cs : List Call). every is_zero (answers_in (course_from b cs))) calls
            ∙ ap (λ ss. every is_zero (answers_in ss)) (course_joined (run_exists (steps (write_in wp e w)) b) (all_calls wp ss))
            ∙ ap (every is_zero) (answers_append (course_from b (steps (write_in wp e w))) (course_from middle (all_calls wp ss)))
            ∙ every_both is_zero (answers_in (course_from b (steps (write_in wp e w)))) (answers_in (course_from middle (all_calls wp ss))) (zeros_here e w c b f) next.zeros;
      })

  pub twos_done : (es : List Sending) → in_twos p es ≡ true → (b : Board) → Rested b → b.state ≡ p → AllDone p wp es b (after_calls (all_calls wp es) b)
  twos_done es h b r e =
      all_done es h b (record { rested = r; size = ap (λ (q : Record). q.part.blocks) e; bank = ap (λ (q : Record). q.part.bank) e; still = λ d w g. subst⁻¹ (λ (q : Record). Whole q d w) e g })
