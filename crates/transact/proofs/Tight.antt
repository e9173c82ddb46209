-- Two results that a contract of this crate allows are equal: the answer and the output. The answer does not depend on stored bytes.
use Prim.Native.Nat.{ℕ}
use mathlib.Core.Path.{◌≡◌}
use mathlib.Core.Bool.{Bool}
use mathlib.Core.List.{List}
use lib.ListN.{length}
use Rattle.types.specs.declared.Record.{Record}
use Rattle.words.proofs.Allowed.{OneResult, OneExit, agree}
use Rattle.paper.specs.Calls.{transacted}
use Rattle.transact.proofs.transact_part.Reads as transact-part
use Rattle.transact.proofs.transact.Reads as transact

pub transact_part_one : OneResult transact-part.Learnt
transact_part_one κ a x y s t p q = agree p.0 q.0

pub transact_part_one_output : OneExit transact-part.Learnt (λ κ s. s.1.1.1.1.1.1.1.1.0.now)
transact_part_one_output κ a x y s t p q = agree p.1 q.1

pub transact_one : OneResult transact.Learnt
transact_one κ a x y s t p q = agree p.0 q.0

pub transact_one_output : OneExit transact.Learnt (λ κ s. s.1.1.1.1.1.0.now)
transact_one_output κ a x y s t p q = agree p.1 q.1

-- the next record, the number and the first driven place go by the lengths of array and rows alone
pub transact_forgets : (p : Record) (xs ys rs ts : List ℕ) (wp : Bool) (i : List ℕ) (o : ℕ) → length xs ≡ length ys → length rs ≡ length ts
    → transacted p (length xs) (length rs) wp i o ≡ transacted p (length ys) (length ts) wp i o
transact_forgets p xs ys rs ts wp i o e f = rw (e, f)
