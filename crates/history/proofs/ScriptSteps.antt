-- One step of a script on a sound part with its own memory. Its transaction is refused by 3 alone and its ticks by 6 alone, since all else was tested before; and its calls answer what its entries say.
use Rattle.types.specs.declared.Operation.{Operation}
use Rattle.std.specs.Prelude.{None, Option, Some}
use Prim.Native.Nat.{ℕ, suc, ◌+◌, ◌≤◌}
use mathlib.Core.Path.{◌≡◌, refl, sym, ap, ◌∙◌}
use mathlib.Core.Bool.{Bool, true, false, cond}
use mathlib.Core.List.{List, [], ◌∷◌, ◌++◌}
use mathlib.Core.Logic.{◌⊎◌, inl, inr}
use native.Mathlib.Omega.{arith}
use lib.Dec.{eqb, leb}
use lib.ListN.{length, get_or, take, drop, length-append, length-drop, length-replicate, take-append-drop}
use lib.Seq.{length-take-le, take-append-le, drop-append-le, drop-append-add, take_at, drop_at, drop-drop}
use borrow.Author.Tests.{eqb-true, eqb-false, leb-true, eq-eqb, ne_eqb}
use Rattle.types.specs.declared.Addressing.{Addressing}
use Rattle.types.specs.declared.Answer.{Answer}
use Rattle.types.specs.declared.Columns.{Columns}
use Rattle.types.specs.declared.Command.{Command}
use Rattle.types.specs.declared.Identity.{Identity}
use Rattle.types.specs.declared.Part.{Part}
use Rattle.types.specs.declared.Phase.{Phase}
use Rattle.types.specs.declared.Record.{Record}
use Rattle.types.specs.declared.Ticked.{Ticked}
use Rattle.words.specs.Logic.{◌and◌, unless, ◌or_else◌, when_zero}
use Rattle.words.specs.Lists.{every, between, put_between}
use Rattle.words.proofs.Tests.{and_in, or_else_none, or_else_on, or_else_first}
use Rattle.words.proofs.Lists.{length_up_to}
use Rattle.paper.specs.Sizes.{array_bytes, rows_bytes, tick_limit}
use Rattle.paper.specs.Operations.{Touch}
use Rattle.paper.specs.Soundness.{sound}
use Rattle.paper.specs.Numbers.{size_number, rows_number, length_number, output_number, sound_number, ticks_number, transaction_refusal, tick_number, command_number, ignored_number}
use Rattle.paper.specs.Table.{decoded, columns}
use Rattle.paper.specs.Reads.{undriven_byte, undriven, output_byte, output_of}
use Rattle.paper.specs.Calls.{executed, ignored, outcome_to, outcome_of, transacted, output_to, output_after, ticked}
use Rattle.paper.specs.History.{Call, transaction, ticks, reached_by}
use Rattle.paper.specs.Board.{Board, answer_to, waited, after_calls}
use Rattle.paper.specs.Script.{stopping, step_sent, step_calls, Made, made}
use Rattle.paper.proofs.Soundness.{sound_parts}
use Rattle.paper.proofs.Answers.{ticks_run, ticks_refused}
use Rattle.paper.proofs.TransactionKept.{transaction_sound, transaction_size}
use Rattle.history.specs.Course as c
use Rattle.history.specs.Course.{Step, sent}
use Rattle.history.specs.ScriptLaws.{goes_on, answers_in, done_first, done_in, LastStops, course_from}

-- a number that stops no script
record Goes (number : ℕ) : Type 0 where
  is : stopping number ≡ 0

-- none of 20 to 28 does
above : (b : Bool) (n m : ℕ) → leb (suc n) 6 ≡ false → Goes m → Goes (unless b (suc n) or_else m)
unfolding unless ◌or_else◌
above true n m e h = h
above false n m e h = record { is = rw e refl }

above_last : (b : Bool) (n : ℕ) → leb (suc n) 6 ≡ false → Goes (unless b (suc n))
unfolding unless
above_last true n e = record { is = refl }
above_last false n e = record { is = rw e refl }

command_goes : (k : Columns) (g : Addressing) (w : Option Operation) (p : Part) (f : Phase) (i : List ℕ) (wp : Bool) → Goes (command_number k g w p f i wp)
unfolding command_number
command_goes k g w p f i wp =
    above _ 20 _ refl (above _ 21 _ refl (above _ 22 _ refl (above _ 23 _ refl (above _ 24 _ refl (above _ 25 _ refl (above _ 26 _ refl (above_last _ 27 refl)))))))

module _ (p : Part) (f : Phase) (wp : Bool) (i : List ℕ) where
  known_goes : (k : Command) (t : Bool) → stopping (cond t (executed (columns k) p f i) (ignored (Some k) (ignored_number (Some k) p f i wp) p (length i))).number ≡ 0
  known_goes k true = refl
  known_goes k false = (command_goes _ _ _ p f i wp).is

  -- so a transaction that is not refused goes on
  outcome_goes : (d : Option Command) → stopping (outcome_to d p f wp i).number ≡ 0
  outcome_goes (Some k) = known_goes k (eqb (ignored_number (Some k) p f i wp) 0)
  outcome_goes None = refl

-- 3 and 6 stop a script
unless_stops : (b : Bool) (n : ℕ) → leb n 6 ≡ true → stopping (unless b n) ≡ unless b n
unfolding unless
unless_stops true n e = refl
unless_stops false n e = rw e refl

unless_not : (b : Bool) (n : ℕ) → (unless b n ≡ 0 → ⊥) → unless b n ≡ n
unfolding unless
unless_not true n h = absurd (h refl)
unless_not false n h = refl

length_stops : (n : ℕ) → stopping (length_number n) ≡ length_number n
unfolding length_number
length_stops n = unless_stops _ 3 refl

length_three : (n : ℕ) → (length_number n ≡ 0 → ⊥) → length_number n ≡ 3
unfolding length_number
length_three n h = unless_not _ 3 h

ticks_stop : (b n : ℕ) → stopping (ticks_number b n) ≡ ticks_number b n
unfolding ticks_number
ticks_stop b n = unless_stops _ 6 refl

ticks_six : (b n : ℕ) → (ticks_number b n ≡ 0 → ⊥) → ticks_number b n ≡ 6
unfolding ticks_number
ticks_six b n h = unless_not _ 6 h

unless_other : (b : Bool) → unless b 6 ≡ 3 → ⊥
unfolding unless
unless_other true e = omega arith
unless_other false e = omega arith

three_not_six : (b n : ℕ) → ticks_number b n ≡ 3 → ⊥
unfolding ticks_number
three_not_six b n e = unless_other _ e

either_as : (l b t : ℕ) → ((length_number l or_else ticks_number b t) ≡ 0 → ⊥) → (u : Bool) → eqb (length_number l) 0 ≡ u → ((length_number l or_else ticks_number b t) ≡ 3) ⊎ ((length_number l or_else ticks_number b t) ≡ 6)
either_as l b t h true e =
    let f = or_else_on (length_number l) (ticks_number b t) (eqb-true _ _ e) in
    inr (f ∙ ticks_six b t (λ z. h (f ∙ z)))
either_as l b t h false e =
    inl (or_else_first (length_number l) (ticks_number b t) (eqb-false _ _ e) ∙ length_three l (eqb-false _ _ e))

pub three_or_six : (l b t : ℕ) → ((length_number l or_else ticks_number b t) ≡ 0 → ⊥) → ((length_number l or_else ticks_number b t) ≡ 3) ⊎ ((length_number l or_else ticks_number b t) ≡ 6)
three_or_six l b t h = either_as l b t h (eqb (length_number l) 0) refl

-- a number that stops a script is the call's own
stop_as : (x : ℕ) (t : Bool) → (cond t x 0 ≡ 0 → ⊥) → cond t x 0 ≡ x
stop_as x true h = refl
stop_as x false h = absurd (h refl)

-- a sound record with its own memory: a transaction is refused by 3 alone, ticks by 6 alone
module _ (p : Record) (s : sound p ≡ true) (a r : ℕ) (ea : a ≡ array_bytes p.part.blocks) (er : r ≡ rows_bytes) where
  refusal_is : (i o : ℕ) → i ≡ o → transaction_refusal p.part.blocks (sound p) a r i o ≡ length_number o
  unfolding transaction_refusal size_number rows_number output_number sound_number ◌and◌ unless ◌or_else◌
  refusal_is i o ei =
      rw (ea, er, ei, (sound_parts p s).size, eq-eqb (array_bytes p.part.blocks) (array_bytes p.part.blocks) refl, eq-eqb o o refl, s) (or_else_none (length_number o))

  module _ (wp : Bool) (i : List ℕ) (o : ℕ) (ei : length i ≡ o) where
    stops_as : (t : Bool) → eqb (length_number o) 0 ≡ t → stopping (transacted p a r wp i o).number ≡ length_number o
    unfolding transacted outcome_of
    stops_as true e =
        rw (refusal_is (length i) o ei, e) (outcome_goes p.part p.phase wp i (decoded p.part.blocks p.part.bank (get_or i 0 0)) ∙ sym (eqb-true _ _ e))
    stops_as false e = rw (refusal_is (length i) o ei, e) (length_stops o)

    transaction_stops : stopping (transacted p a r wp i o).number ≡ length_number o
    transaction_stops = stops_as (eqb (length_number o) 0) refl

  ticks_as : (n : ℕ) (t : Bool) → leb n (tick_limit p.part.blocks) ≡ t → (ticked p a r n).number ≡ ticks_number p.part.blocks n
  unfolding ticks_number unless
  ticks_as n true e = rw (ea, er, e) (ap (λ (t : Ticked). t.number) (ticks_run p s n (leb-true _ _ e)))
  ticks_as n false e = rw (ea, er, e) (ap (λ (t : Ticked). t.number) (ticks_refused p s n e))

  ticks_number_lem : (n : ℕ) → (ticked p a r n).number ≡ ticks_number p.part.blocks n
  ticks_number_lem n = ticks_as n (leb n (tick_limit p.part.blocks)) refl

-- ticks that are refused do nothing
idle_as : (p : Record) (a r n : ℕ) (t : Bool) → eqb (tick_number p.part.blocks (sound p) a r n) 0 ≡ t → ((ticked p a r n).number ≡ 0 → ⊥) → (ticked p a r n).done ≡ 0
unfolding ticked
idle_as p a r n true e h =
    let z : (ticked p a r n).number ≡ 0 = rw e refl in
    absurd (h z)
idle_as p a r n false e h = rw e refl

refused_done : (p : Record) (a r n : ℕ) → ((ticked p a r n).number ≡ 0 → ⊥) → (ticked p a r n).done ≡ 0
refused_done p a r n = idle_as p a r n (eqb (tick_number p.part.blocks (sound p) a r n) 0) refl

-- an output is as long as the input, and stays where the transaction is refused
length_either : (t : Bool) (xs ys : List ℕ) (n : ℕ) → length xs ≡ n → length ys ≡ n → length (cond t xs ys) ≡ n
length_either true xs ys n e f = e
length_either false xs ys n e f = f

module _ (id : Identity) (p : Part) (f : Phase) (s : Bool) (xs rs : List ℕ) (wp : Bool) (i : List ℕ) where
  length_output : (d : Option Command) → length (output_to d id p f xs rs wp i) ≡ length i
  unfolding output_of
  length_output (Some k) =
      length_either (eqb (ignored_number (Some k) p f i wp) 0) (output_of (columns k) id p xs rs i) (undriven (length i)) (length i)
      (length_up_to (length i) (output_byte (columns k) id p xs rs i))
      (length-replicate (length i) undriven_byte)
  length_output None = length-replicate (length i) undriven_byte

  length_after : (o : List ℕ) → length i ≡ length o → length (output_after id p f s xs rs wp i o) ≡ length o
  unfolding output_after
  length_after o e =
      length_either (eqb (transaction_refusal p.blocks s (length xs) (length rs) (length i) (length o)) 0) (output_to (decoded p.blocks p.bank (get_or i 0 0)) id p f xs rs wp i) o (length o)
      (length_output (decoded p.blocks p.bank (get_or i 0 0)) ∙ e) refl

-- the course of a step that gave m: its transaction with its ticks, or alone where it stops the script
pub data StepCourse (m : Made) : List Step → Type 0 where
  whole : (a : Answer) (t : Ticked) (us : List Touch) → a.number ≡ m.answer → stopping a.number ≡ 0 → t.done ≡ m.done → t.number ≡ m.number → (m.number ≡ 3 → ⊥) → StepCourse m (sent a ∷ (c.waited t us ∷ []))
  alone : (a : Answer) → a.number ≡ m.answer → 0 ≡ m.done → a.number ≡ m.number → m.number ≡ 3 → StepCourse m (sent a ∷ [])

-- the calls of a step of n bytes
abbrev pub own_calls : Bool → List ℕ → ℕ → ℕ → List Call
own_calls wp i t n = transaction wp i n ∷ when_zero (length_number n) (ticks t ∷ []) []

-- a step on a board that is sound with its own memory
module _ (wp : Bool) (i : List ℕ) (t : ℕ) (b : Board) (o : List ℕ) (s : sound b.state ≡ true) (ea : length b.array ≡ array_bytes b.state.part.blocks) (er : length b.rows ≡ rows_bytes) (ei : length i ≡ length o) where
  abbrev answer : Answer
  answer = answer_to b wp i (length o)

  abbrev ran : Ticked
  ran = waited (step_sent wp i b (length o)) t

  answer_stops : stopping answer.number ≡ length_number (length o)
  answer_stops = transaction_stops b.state s (length b.array) (length b.rows) ea er wp i (length o) ei

  ran_number : ran.number ≡ ticks_number b.state.part.blocks t
  ran_number =
      let size = transaction_size b.state i (length b.array) (length b.rows) wp (length o) in
      ticks_number_lem answer.next (transaction_sound b.state (length b.array) (length b.rows) wp i (length o) s) (length b.array) (length b.rows) (ea ∙ ap array_bytes (sym size)) er t
      ∙ ap (λ (n : ℕ). ticks_number n t) size

  ran_stops : stopping ran.number ≡ ran.number
  ran_stops = ap stopping ran_number ∙ ticks_stop b.state.part.blocks t ∙ sym ran_number

  pub step_number_lem : (made wp i t b o).number ≡ (length_number (length o) or_else ticks_number b.state.part.blocks t)
  unfolding made
  step_number_lem =
      ap (λ (n : ℕ). n or_else stopping ran.number) answer_stops
      ∙ ap (λ (n : ℕ). length_number (length o) or_else n) (ran_stops ∙ ran_number)

  pub step_calls_lem : step_calls wp i b (length o) t ≡ own_calls wp i t (length o)
  step_calls_lem = ap (λ (n : ℕ). transaction wp i (length o) ∷ when_zero n (ticks t ∷ []) []) answer_stops

  pub step_board : (made wp i t b o).board ≡ after_calls (own_calls wp i t (length o)) b
  unfolding made
  step_board = ap (λ (cs : List Call). after_calls cs b) step_calls_lem

  pub step_output_lem : length (made wp i t b o).output ≡ length o
  unfolding made
  step_output_lem = length_after b.state.identity b.state.part b.state.phase (sound b.state) b.array b.rows wp i o ei

  -- a transaction that is refused leaves the output
  kept_as : (u : Bool) → eqb (length_number (length o)) 0 ≡ u → (made wp i t b o).number ≡ 3 → (made wp i t b o).output ≡ o
  unfolding made output_after
  kept_as true e three =
      let k : (made wp i t b o).number ≡ ticks_number b.state.part.blocks t = step_number_lem ∙ or_else_on _ _ (eqb-true _ _ e) in
      absurd (three_not_six b.state.part.blocks t (sym k ∙ three))
  kept_as false e three = rw (refusal_is b.state s (length b.array) (length b.rows) ea er (length i) (length o) ei, e) refl

  pub step_kept : (made wp i t b o).number ≡ 3 → (made wp i t b o).output ≡ o
  step_kept = kept_as (eqb (length_number (length o)) 0) refl

  none_as : (u : Bool) → eqb (length_number (length o)) 0 ≡ u → ((made wp i t b o).number ≡ 0 → ⊥) → (made wp i t b o).done ≡ 0
  unfolding made
  none_as true e h =
      let z : stopping answer.number ≡ 0 = answer_stops ∙ eqb-true _ _ e in
      ap (λ (n : ℕ). when_zero n ran.done 0) z
      ∙ refused_done answer.next (length b.array) (length b.rows) t (λ k. h (step_number_lem ∙ or_else_on _ _ (eqb-true _ _ e) ∙ sym ran_number ∙ k))
  none_as false e h = ap (λ (u : Bool). cond u ran.done 0) (ne_eqb _ _ (λ z. eqb-false _ _ e (sym answer_stops ∙ z)))

  pub step_none : ((made wp i t b o).number ≡ 0 → ⊥) → (made wp i t b o).done ≡ 0
  step_none = none_as (eqb (length_number (length o)) 0) refl

  course_as : (u : Bool) → eqb (length_number (length o)) 0 ≡ u
      → StepCourse (made wp i t b o) (course_from b (transaction wp i (length o) ∷ cond u (ticks t ∷ []) []))
  unfolding made
  course_as true e =
      let z : stopping answer.number ≡ 0 = answer_stops ∙ eqb-true _ _ e in
      let f : (stopping answer.number or_else stopping ran.number) ≡ ran.number = ap (λ (n : ℕ). n or_else stopping ran.number) z ∙ or_else_on 0 (stopping ran.number) refl ∙ ran_stops in
      whole answer ran (reached_by ran.number t answer.next) refl z (sym (ap (λ (n : ℕ). when_zero n ran.done 0) z)) (sym f)
      (λ three. three_not_six b.state.part.blocks t (sym ran_number ∙ sym f ∙ three))
  course_as false e =
      let h : stopping answer.number ≡ 0 → ⊥ = λ z. eqb-false _ _ e (sym answer_stops ∙ z) in
      let f : (stopping answer.number or_else stopping ran.number) ≡ stopping answer.number = or_else_first (stopping answer.number) (stopping ran.number) h in
      alone answer refl (sym (ap (λ (u : Bool). cond u ran.done 0) (ne_eqb _ _ h))) (sym (f ∙ stop_as answer.number (leb answer.number 6) h))
      (f ∙ answer_stops ∙ length_three (length o) (λ z. h (answer_stops ∙ z)))

  pub step_course : StepCourse (made wp i t b o) (course_from b (own_calls wp i t (length o)))
  step_course = course_as (eqb (length_number (length o)) 0) refl

-- what the course of a step says of its entries and its number
pub course_answers : {m : Made} {ss : List Step} → StepCourse m ss → answers_in ss ≡ m.answer ∷ []
course_answers (whole a t us ea es ed en other) = ap (λ (n : ℕ). n ∷ []) ea
course_answers (alone a ea ed en e) = ap (λ (n : ℕ). n ∷ []) ea

first_before : (ss : List Step) (a : Answer) (ts : List Step) → done_first (ss ++ (sent a ∷ ts)) ≡ done_first ss
first_before [] a ts = refl
first_before (sent x ∷ ss) a ts = refl
first_before (c.waited t us ∷ ss) a ts = refl

done_before : (ss : List Step) (a : Answer) (ts : List Step) → done_in (ss ++ (sent a ∷ ts)) ≡ done_in ss ++ done_in (sent a ∷ ts)
done_before [] a ts = refl
done_before (sent x ∷ ss) a ts =
    ap (λ (n : ℕ). n ∷ done_in (ss ++ (sent a ∷ ts))) (first_before ss a ts)
    ∙ ap (λ (ns : List ℕ). done_first ss ∷ ns) (done_before ss a ts)
done_before (c.waited t us ∷ ss) a ts = done_before ss a ts

pub course_done : {m : Made} {ts : List Step} (ss : List Step) → StepCourse m ts → done_in (ss ++ ts) ≡ done_in ss ++ (m.done ∷ [])
course_done ss (whole a t us ea es ed en other) = done_before ss a (c.waited t us ∷ []) ∙ ap (λ (n : ℕ). done_in ss ++ (n ∷ [])) ed
course_done ss (alone a ea ed en e) = done_before ss a [] ∙ ap (λ (n : ℕ). done_in ss ++ (n ∷ [])) ed

pub answers_append : (ss ts : List Step) → answers_in (ss ++ ts) ≡ answers_in ss ++ answers_in ts
answers_append [] ts = refl
answers_append (sent a ∷ ss) ts = ap (λ (ns : List ℕ). a.number ∷ ns) (answers_append ss ts)
answers_append (c.waited t us ∷ ss) ts = answers_append ss ts

pub course_goes : {m : Made} {ss : List Step} → StepCourse m ss → m.number ≡ 0 → every goes_on ss ≡ true
course_goes (whole a t us ea es ed en other) z = and_in (eq-eqb _ _ es) (and_in (ap (λ (n : ℕ). eqb (stopping n) 0) (en ∙ z)) refl)
course_goes (alone a ea ed en e) z = absurd (omega arith)

pub course_stops : {m : Made} {ss : List Step} → StepCourse m ss → LastStops m.number ss
course_stops (whole a t us ea es ed en other) =
    record { earlier = sent a ∷ []; last = c.waited t us; is = refl; others = and_in (eq-eqb _ _ es) refl; answered = en }
course_stops (alone a ea ed en e) = record { earlier = []; last = sent a; is = refl; others = refl; answered = en }

-- a step's bytes of the input or the output
pub between_length : (at n : ℕ) (xs : List ℕ) → at + n ≤ length xs → length (between at n xs) ≡ n
between_length at n xs h = length-take-le n (drop at xs) (simp length-drop (omega arith))

between_front : (at n : ℕ) (xs ys : List ℕ) → at + n ≤ length xs → between at n (xs ++ ys) ≡ between at n xs
between_front at n xs ys h =
    ap (take n) (drop-append-le at xs ys (omega arith)) ∙ take-append-le n (drop at xs) ys (simp length-drop (omega arith))

module _ (at n : ℕ) (xs : List ℕ) where
  pub put_same : put_between at n xs (between at n xs) ≡ xs
  put_same = ap (λ (ys : List ℕ). take at xs ++ ys) (take-append-drop n (drop at xs)) ∙ take-append-drop at xs

  module _ (ys : List ℕ) (h : at + n ≤ length xs) (e : length ys ≡ n) where
    pub put_length : length (put_between at n xs ys) ≡ length xs
    put_length =
        let l : length (take at xs) ≡ at = length-take-le at xs (omega arith) in
        simp (length-append, length-drop, l, e) (omega arith)

    pub put_after : drop (at + n) (put_between at n xs ys) ≡ drop (at + n) xs
    put_after =
        ap (λ (j : ℕ). drop (j + n) (put_between at n xs ys)) (sym (length-take-le at xs (omega arith)))
        ∙ drop-append-add (take at xs) (ys ++ drop n (drop at xs)) n
        ∙ drop_at ys (drop n (drop at xs)) n e
        ∙ drop-drop n at xs

    pub put_at : between at n (put_between at n xs ys) ≡ ys
    put_at =
        ap (take n) (drop_at (take at xs) (ys ++ drop n (drop at xs)) at (length-take-le at xs (omega arith))) ∙ take_at ys (drop n (drop at xs)) n e

    pub put_before : (i j : ℕ) → i + j ≤ at → between i j (put_between at n xs ys) ≡ between i j xs
    put_before i j l =
        let front : i + j ≤ length (take at xs) = rw (length-take-le at xs (omega arith)) l in
        between_front i j (take at xs) (ys ++ drop n (drop at xs)) front
        ∙ sym (between_front i j (take at xs) (drop at xs) front)
        ∙ ap (between i j) (take-append-drop at xs)
