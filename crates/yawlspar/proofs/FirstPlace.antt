-- A first driven place does not pass 4,096.
use Rattle.types.specs.declared.Command.{Command}
use Rattle.std.specs.Prelude.{None, Option, Some}
use Prim.Native.Nat.{ℕ, ◌≤◌, min}
use mathlib.Core.Path.{◌≡◌, refl}
use mathlib.Core.Bool.{Bool, true, false, cond}
use mathlib.Core.List.{List}
use native.Mathlib.Omega.{arith}
use lib.Dec.{eqb}
use lib.ListN.{length, get_or}
use borrow.Author.Tests.{eqb-true}
use Rattle.types.specs.declared.Phase.{Phase}
use Rattle.types.specs.declared.Part.{Part}
use Rattle.types.specs.declared.Outcome.{Outcome}
use Rattle.paper.specs.Table.{decoded, columns, is_read}
use Rattle.paper.specs.Numbers.{transaction_refusal, ignored_number}
use Rattle.paper.specs.Calls.{refused, outcome_to, outcome_of}
use Rattle.paper.proofs.Numbers.{transaction_taken}

first_of : (t : Bool) (x y : Outcome) (n : ℕ) → x.first ≤ n → y.first ≤ n → (cond t x y).first ≤ n
first_of true x y n h k = h
first_of false x y n h k = k

least : (t : Bool) (k n : ℕ) → cond t (min k n) n ≤ n
least true k n = omega arith
least false k n = omega arith

outcome_first : (d : Option Command) (p : Part) (f : Phase) (wp : Bool) (i : List ℕ) → (outcome_to d p f wp i).first ≤ length i
outcome_first (Some k) p f wp i = first_of (eqb (ignored_number (Some k) p f i wp) 0) _ _ (length i) (least (is_read (columns k)) (columns k).from (length i)) (omega arith)
outcome_first None p f wp i = omega arith

module _ (p : Part) (f : Phase) (s : Bool) (a r : ℕ) (wp : Bool) (i : List ℕ) (o : ℕ) where
  first_as : (t : Bool) → eqb (transaction_refusal p.blocks s a r (length i) o) 0 ≡ t
      → (cond t (outcome_to (decoded p.blocks p.bank (get_or i 0 0)) p f wp i) (refused (transaction_refusal p.blocks s a r (length i) o))).first ≤ 4096
  first_as true e = omega (arith, outcome_first (decoded p.blocks p.bank (get_or i 0 0)) p f wp i, (transaction_taken _ _ _ _ _ _ (eqb-true _ _ e)).few)
  first_as false e = omega arith

  first_few : (outcome_of p f s a r wp i o).first ≤ 4096
  unfolding outcome_of
  first_few = first_as _ refl

  -- and so can be packed
  pub first_packs : (outcome_of p f s a r wp i o).first ≤ 131072
  first_packs = omega (arith, first_few)
