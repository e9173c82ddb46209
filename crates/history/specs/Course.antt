-- The course of a run: which operation runs after each call, what each call answered, and which places each tick reached.
use Rattle.std.specs.Prelude.{ℕ, List, [], ◌∷◌, ◌++◌}
use Rattle.types.specs.declared.Record.{Record}
use Rattle.types.specs.declared.Answer.{Answer}
use Rattle.types.specs.declared.Ticked.{Ticked}
use Rattle.paper.specs.Operations.{Touch}
use Rattle.paper.specs.Calls.{transacted, ticked}
use Rattle.paper.specs.History.{Call, transaction, ticks, reached_by}
use Rattle.history.specs.Run.{Run, done, sends, waits}

-- what a call did: its answer, with the record that it returned, and for ticks what they reached, in order
pub data Step : Type 0 where
  sent : Answer → Step
  waited : Ticked → List Touch → Step

-- the course of a run, call by call
abbrev pub course : {p q : Record} {xs rs ys ts : List ℕ} {cs : List Call} → Run p xs rs cs q ys ts → List Step
course done = []
course (sends a h run) = sent a ∷ course run
course (waits {p} {q} {xs} {rs} {xs'} {rs'} {ys} {ts} {n} {cs} t h hx hr run) = waited t (reached_by t.number n p) ∷ course run

-- the course that calls tell, from a record with an array of a and rows of r bytes. It takes no stored byte
abbrev pub course_of : List Call → Record → ℕ → ℕ → List Step
course_of [] p a r = []
course_of (transaction wp i o ∷ cs) p a r =
    sent (transacted p a r wp i o) ∷ course_of cs (transacted p a r wp i o).next a r
course_of (ticks n ∷ cs) p a r =
    waited (ticked p a r n) (reached_by (ticked p a r n).number n p) ∷ course_of cs (ticked p a r n).next a r

-- what the steps of a course reached, in order
abbrev pub reached : List Step → List Touch
reached [] = []
reached (sent a ∷ ss) = reached ss
reached (waited t us ∷ ss) = us ++ reached ss

-- the record at the end of a course that began with the record p
abbrev pub end_of : Record → List Step → Record
end_of p [] = p
end_of p (sent a ∷ ss) = end_of a.next ss
end_of p (waited t us ∷ ss) = end_of t.next ss
