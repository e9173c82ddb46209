-- Which operation runs, what each call answers and which places each tick reaches do not depend on stored bytes: a run's course is told by the record, the calls and the lengths of the memories alone.
use Prim.Native.Nat.{ℕ}
use mathlib.Core.Path.{◌≡◌, refl, sym, ap, ◌∙◌}
use mathlib.Core.List.{List, [], ◌∷◌, ◌++◌}
use lib.ListN.{length}
use Rattle.types.specs.declared.Memory.TheVariants.{Array, Rows}
use Rattle.types.specs.declared.Record.{Record}
use Rattle.types.specs.declared.Answer.{Answer}
use Rattle.types.specs.declared.Ticked.{Ticked}
use Rattle.paper.specs.Sizes.{array_bytes, rows_bytes}
use Rattle.paper.specs.Operations.{Touch}
use Rattle.paper.specs.Calls.{transacted, ticked}
use Rattle.paper.specs.History.{Call, transaction, ticks, record_after_call, reached_by, call_touches, history}
use Rattle.paper.proofs.CallKept.{call_size}
use Rattle.history.specs.Run.{Run, done, sends, waits}
use Rattle.history.specs.Course.{Step, sent, waited, course, course_of, end_of, reached}
use Rattle.paper.proofs.Touches.{ticked_length}

-- memories of the same lengths tell the same course
course_as : (cs : List Call) (p : Record) {a a' r r' : ℕ} → a ≡ a' → r ≡ r' → course_of cs p a r ≡ course_of cs p a' r'
course_as cs p {a} {a'} {r} {r'} e f = ap (λ (x : ℕ). course_of cs p x r) e ∙ ap (λ (x : ℕ). course_of cs p a' x) f

pub course_told : {cs : List Call} {p q : Record} {xs rs ys ts : List ℕ} (run : Run p xs rs cs q ys ts) → course run ≡ course_of cs p (length xs) (length rs)
course_told done = refl
course_told (sends {p} {q} {xs} {rs} {ys} {ts} {wp} {i} {o} {cs} w h run) =
    ap (λ (ss : List Step). sent w ∷ ss) (course_told run)
    ∙ ap (λ (x : Answer). sent x ∷ course_of cs x.next (length xs) (length rs)) h
course_told (waits {p} {q} {xs} {rs} {xs'} {rs'} {ys} {ts} {n} {cs} w h hx hr run) =
    let f : length xs' ≡ length xs = ap (λ (b : List ℕ). length b) hx ∙ ticked_length Array p (length xs) (length rs) n xs in
    let g : length rs' ≡ length rs = ap (λ (b : List ℕ). length b) hr ∙ ticked_length Rows p (length xs) (length rs) n rs in
    ap (λ (ss : List Step). waited w (reached_by w.number n p) ∷ ss) (course_told run ∙ course_as cs w.next f g)
    ∙ ap (λ (x : Ticked). waited x (reached_by x.number n p) ∷ course_of cs x.next (length xs) (length rs)) h

-- a run ends with the record that its course ends with
pub run_ends : {cs : List Call} {p q : Record} {xs rs ys ts : List ℕ} (run : Run p xs rs cs q ys ts) → q ≡ end_of p (course run)
run_ends done = refl
run_ends (sends w h run) = run_ends run
run_ends (waits w h hx hr run) = run_ends run

-- the course of some calls, then others
pub course_append : (cs ds : List Call) (p : Record) (a r : ℕ) → course_of (cs ++ ds) p a r ≡ course_of cs p a r ++ course_of ds (end_of p (course_of cs p a r)) a r
course_append [] ds p a r = refl
course_append (transaction wp i o ∷ cs) ds p a r =
    ap (λ (ss : List Step). sent (transacted p a r wp i o) ∷ ss) (course_append cs ds (transacted p a r wp i o).next a r)
course_append (ticks n ∷ cs) ds p a r =
    ap (λ (ss : List Step). waited (ticked p a r n) (reached_by (ticked p a r n).number n p) ∷ ss) (course_append cs ds (ticked p a r n).next a r)

-- two runs of the same calls from the same record, over memories of the same lengths and any contents, take the same course and end with the same record
pub course_forgets_contents : {cs : List Call} {p q q' : Record} {xs rs ys ts xs' rs' ys' ts' : List ℕ}
    (f : Run p xs rs cs q ys ts) (g : Run p xs' rs' cs q' ys' ts') → length xs ≡ length xs' → length rs ≡ length rs'
    → (course f ≡ course g) × (q ≡ q')
course_forgets_contents {cs} {p} f g a r =
    let e : course f ≡ course g = course_told f ∙ course_as cs p a r ∙ sym (course_told g) in
    (e, run_ends f ∙ ap (end_of p) e ∙ sym (run_ends g))

-- on the part's own memory, what the steps reached is the history
told_reached : (cs : List Call) (p : Record) (a r : ℕ) → a ≡ array_bytes p.part.blocks → r ≡ rows_bytes → reached (course_of cs p a r) ≡ history cs p
told_reached [] p a r e f = refl
told_reached (transaction wp i o ∷ cs) p a r e f =
    rw (e, f) (told_reached cs (record_after_call (transaction wp i o) p) (array_bytes p.part.blocks) rows_bytes (ap array_bytes (sym (call_size (transaction wp i o) p))) refl)
told_reached (ticks n ∷ cs) p a r e f =
    rw (e, f)
    (ap (λ (us : List Touch). call_touches (ticks n) p ++ us) (told_reached cs (record_after_call (ticks n) p) (array_bytes p.part.blocks) rows_bytes (ap array_bytes (sym (call_size (ticks n) p))) refl))

pub course_reaches_history : {cs : List Call} {p q : Record} {xs rs ys ts : List ℕ} (run : Run p xs rs cs q ys ts) → length xs ≡ array_bytes p.part.blocks → length rs ≡ rows_bytes
    → reached (course run) ≡ history cs p
course_reaches_history {cs} {p} {q} {xs} {rs} run a r = ap reached (course_told run) ∙ told_reached cs p (length xs) (length rs) a r
