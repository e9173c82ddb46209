-- Runs are a board's steps: every list of calls has a run, whose outcome is the fold of the steps. They are put together of runs: a run of some calls and then others is a run of the first and then one of the others.
use Prim.Native.Nat.{ℕ}
use mathlib.Core.Path.{◌≡◌, refl, sym, ap, ◌∙◌}
use mathlib.Core.List.{List, [], ◌∷◌, ◌++◌}
use lib.ListN.{length}
use Rattle.types.specs.declared.Memory.TheVariants.{Array}
use Rattle.types.specs.declared.Record.{Record}
use Rattle.types.specs.declared.Answer.{Answer}
use Rattle.types.specs.declared.Ticked.{Ticked}
use Rattle.paper.specs.Calls.{ticked, ticked_memory}
use Rattle.paper.specs.History.{Call, transaction, ticks, reached_by}
use Rattle.paper.specs.Board.{Board, board_of, answer_to, waited, after_call, after_calls}
use Rattle.history.specs.Run.{Run, done, sends, waits}
use Rattle.history.specs.Course as c
use Rattle.history.specs.Course.{Step, course, course_of}
use Rattle.history.proofs.Course.{course_told}

-- a run ends with the board that the fold over its calls gives
pub run_folded : {cs : List Call} {p q : Record} {xs rs ys ts : List ℕ} → Run p xs rs cs q ys ts → board_of q ys ts ≡ after_calls cs (board_of p xs rs)
run_folded done = refl
run_folded (sends {xs = xs} {rs = rs} {cs = cs} a h run) =
    run_folded run ∙ ap (λ (x : Answer). after_calls cs (board_of x.next xs rs)) h
run_folded (waits {p} {xs = xs} {rs = rs} {xs' = xs'} {rs' = rs'} {n = n} {cs = cs} t h hx hr run) =
    run_folded run
    ∙ ap (λ (x : Ticked). after_calls cs (board_of x.next xs' rs')) h
    ∙ ap (λ (x : List ℕ). after_calls cs (board_of (ticked p (length xs) (length rs) n).next x rs')) hx
    ∙ ap (λ (x : List ℕ). after_calls cs (board_of (ticked p (length xs) (length rs) n).next (ticked_memory Array p (length xs) (length rs) n xs) x)) hr

-- and the fold gives a run: every list of calls has one, from every record and over every memory, so from a sound one over memory of its lengths
pub run_exists : (cs : List Call) (b : Board) → let d = after_calls cs b in Run b.state b.array b.rows cs d.state d.array d.rows
run_exists [] b = done
run_exists (transaction wp i o ∷ cs) b = sends (answer_to b wp i o) refl (run_exists cs (after_call (transaction wp i o) b))
run_exists (ticks n ∷ cs) b = waits (waited b n) refl refl refl (run_exists cs (after_call (ticks n) b))

-- so two runs of the same calls from the same record, array and rows end with the same
pub run_one : {cs : List Call} {p q q' : Record} {xs rs ys ts ys' ts' : List ℕ} → Run p xs rs cs q ys ts → Run p xs rs cs q' ys' ts' → (q ≡ q') × (ys ≡ ys') × (ts ≡ ts')
run_one f g =
    let e = run_folded f ∙ sym (run_folded g) in
    (ap (λ (b : Board). b.state) e, ap (λ (b : Board). b.array) e, ap (λ (b : Board). b.rows) e)

-- a run of the calls cs and then ds, parted between them
pub record Parted (p : Record) (xs rs : List ℕ) (cs ds : List Call) (q : Record) (ys ts : List ℕ) : Type 0 where
  pub between : Record
  pub array : List ℕ
  pub rows : List ℕ
  pub before : Run p xs rs cs between array rows
  pub after : Run between array rows ds q ys ts

pub run_parted : (cs ds : List Call) {p q : Record} {xs rs ys ts : List ℕ} → Run p xs rs (cs ++ ds) q ys ts → Parted p xs rs cs ds q ys ts
run_parted [] ds {p} {q} {xs} {rs} run = record { between = p; array = xs; rows = rs; before = done; after = run }
run_parted (transaction wp i o ∷ cs) ds (sends a h run) =
    let l = run_parted cs ds run in
    record { between = l.between; array = l.array; rows = l.rows; before = sends a h l.before; after = l.after }
run_parted (ticks n ∷ cs) ds (waits t h hx hr run) =
    let l = run_parted cs ds run in
    record { between = l.between; array = l.array; rows = l.rows; before = waits t h hx hr l.before; after = l.after }

-- two runs one after the other are one
pub run_joined : {cs ds : List Call} {p q u : Record} {xs rs ys ts zs vs : List ℕ} → Run p xs rs cs q ys ts → Run q ys ts ds u zs vs → Run p xs rs (cs ++ ds) u zs vs
run_joined done g = g
run_joined (sends a h f) g = sends a h (run_joined f g)
run_joined (waits t h hx hr f) g = waits t h hx hr (run_joined f g)

-- and so are their courses
steps_joined : {cs ds : List Call} {p q u : Record} {xs rs ys ts zs vs : List ℕ} (f : Run p xs rs cs q ys ts) (g : Run q ys ts ds u zs vs) → course (run_joined f g) ≡ course f ++ course g
unfolding run_joined
steps_joined done g = refl
steps_joined (sends a h f) g = ap (λ (ss : List Step). c.sent a ∷ ss) (steps_joined f g)
steps_joined (waits {p} {n = n} t h hx hr f) g =
    ap (λ (ss : List Step). c.waited t (reached_by t.number n p) ∷ ss) (steps_joined f g)

-- what calls tell after a run, told with it
pub course_joined : {cs : List Call} {p q : Record} {xs rs ys ts : List ℕ} (run : Run p xs rs cs q ys ts) (ds : List Call) → course_of (cs ++ ds) p (length xs) (length rs) ≡ course_of cs p (length xs) (length rs) ++ course_of ds q (length ys) (length ts)
course_joined {cs} {p} {q} {xs} {rs} {ys} {ts} run ds =
    let on = run_exists ds (board_of q ys ts) in
    sym (course_told (run_joined run on))
    ∙ steps_joined run on
    ∙ ap (λ (ss : List Step). ss ++ course on) (course_told run)
    ∙ ap (λ (ss : List Step). course_of cs p (length xs) (length rs) ++ ss) (course_told on)
