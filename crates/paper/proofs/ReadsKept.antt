-- What a read keeps: refused, ignored or executed, it leaves an awake part as it was, but for the armed mark.
use Rattle.std.specs.Prelude.{Option, Some}
use Prim.Native.Nat.{ℕ}
use mathlib.Core.Path.{◌≡◌, subst, subst⁻¹}
use mathlib.Core.Bool.{Bool, true, false, cond}
use mathlib.Core.List.{List}
use lib.ListN.{length, get_or}
use lib.Bits.{or_zero_r}
use lib.Dec.{eqb}
use Rattle.types.specs.declared.Command.{Command}
use Rattle.types.specs.declared.Effect.{Effect}
use Rattle.types.specs.declared.Change.TheVariants.{Marked}
use Rattle.types.specs.declared.Record.{Record}
use Rattle.paper.specs.Records.{marked, resting, with_live}
use Rattle.paper.specs.Soundness.{sound}
use Rattle.paper.specs.Table.{decoded, columns, addressing_on, is_read}
use Rattle.paper.specs.Commands.{changed, begun, unarmed, change_by, change_barred}
use Rattle.paper.specs.Numbers.{transaction_refusal, ignored_number}
use Rattle.paper.specs.Calls.{refused, ignored, executed, outcome_to, outcome_of, transacted}
use Rattle.paper.proofs.Soundness.{record_of}
use Rattle.paper.proofs.Table.{of_reads}

-- what holds of the record before, and of it unarmed, holds of the record after a read
module _ (P : Record → Type 0) (p : Record) (awake : p.part.asleep ≡ false) (wp : Bool) (i : List ℕ) (same : P p) (unmarked : P (changed (Marked false) i p)) where
  module _ (k : Command) (c : decoded p.part.blocks p.part.bank (get_or i 0 0) ≡ Some k) (h : is_read (columns k) ≡ true) where
    looked : P (changed (executed (columns k) p.part p.phase i).change i p)
    looked =
        of_reads (λ (e : Effect). P (changed (change_by e (addressing_on (columns k) p.part) (begun (columns k) p.part i) p.part p.phase i) i p))
        unmarked
        (subst (λ (t : Bool). P (record_of p.identity (unarmed (resting p.part t)) p.phase p.page)) awake unmarked)
        p.part.blocks p.part.bank (get_or i 0 0) k c h

    -- no error bit is set
    no_error : P (changed (change_barred (columns k).effect p.part) i p)
    no_error =
        let z = subst⁻¹ (λ (v : ℕ). P (record_of p.identity (with_live (marked p.part false) v) p.phase p.page)) (or_zero_r p.part.live) unmarked in
        of_reads (λ (e : Effect). P (changed (change_barred e p.part) i p)) z z p.part.blocks p.part.bank (get_or i 0 0) k c h

    ignored_so : (t : Bool) → P (changed (cond t (change_barred (columns k).effect p.part) (Marked false)) i p)
    ignored_so true = no_error
    ignored_so false = unmarked

    taken_or_not : (n : ℕ) (t : Bool) → P (changed (cond t (executed (columns k) p.part p.phase i) (ignored (Some k) n p.part (length i))).change i p)
    taken_or_not n true = looked
    taken_or_not n false = ignored_so (eqb n 28)

    refused_or_not : (n : ℕ) (t : Bool) → P (changed (cond t (outcome_to (Some k) p.part p.phase wp i) (refused n)).change i p)
    refused_or_not n true =
        let number = ignored_number (Some k) p.part p.phase i wp in
        taken_or_not number (eqb number 0)
    refused_or_not n false = same

    pub after_read : (a r o : ℕ) → P (transacted p a r wp i o).next
    unfolding transacted outcome_of
    after_read a r o =
        let n = transaction_refusal p.part.blocks (sound p) a r (length i) o in
        subst⁻¹ (λ (d : Option Command). P (changed (cond (eqb n 0) (outcome_to d p.part p.phase wp i) (refused n)).change i p)) c (refused_or_not n (eqb n 0))
