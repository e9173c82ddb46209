-- What a sound record's transactions and tick calls answer: no refusal applies, and the command's number decides. And what a transaction did that answers 0.
use Rattle.std.specs.Prelude.{None, Some}
use Prim.Native.Nat.{ℕ, suc, ◌≤◌}
use mathlib.Core.Path.{◌≡◌, refl, sym, ap, ◌∙◌}
use mathlib.Core.Bool.{Bool, true, false, cond}
use mathlib.Core.List.{List, [], ◌∷◌}
use lib.ListN.{length, get_or}
use lib.Dec.{eqb, leb, eqb-suc-zero}
use borrow.Author.Tests.{eqb-true, le-leb, eq-eqb}
use Rattle.types.specs.declared.Memory.{Memory}
use Rattle.types.specs.declared.Command.{Command}
use Rattle.types.specs.declared.Command.TheVariants.{ReadStatus, ArmReset, Reset}
use Rattle.types.specs.declared.Phase.{Phase}
use Rattle.types.specs.declared.Part.{Part}
use Rattle.types.specs.declared.Record.{Record}
use Rattle.types.specs.declared.Outcome.{Outcome}
use Rattle.types.specs.declared.Answer.{Answer}
use Rattle.words.specs.Logic.{◌and◌, ◌or◌, unless, ◌or_else◌}
use Rattle.paper.specs.Sizes.{array_bytes, rows_bytes, transaction_limit, tick_limit}
use Rattle.paper.specs.Soundness.{sound}
use Rattle.paper.specs.Numbers.{size_number, rows_number, length_number, output_number, sound_number, ticks_number, transaction_refusal, tick_number, command_number, ignored_number}
use Rattle.paper.specs.Table.{decoded, columns, addressing_on}
use Rattle.paper.specs.Ticks.{record_after, memory_after, working_ticks}
use Rattle.paper.specs.Calls.{refused, executed, ignored, outcome_to, outcome_of, answered, transacted, ticked, ticked_memory}
use Rattle.paper.proofs.Soundness.{sound_parts}

module _ (p : Record) (s : sound p ≡ true) where
  pub size_fits : size_number p.part.blocks (array_bytes p.part.blocks) ≡ 0
  unfolding size_number ◌and◌ unless
  size_fits = rw ((sound_parts p s).size, eq-eqb (array_bytes p.part.blocks) (array_bytes p.part.blocks) refl)

  not_refused : (n : ℕ) → 1 ≤ n → n ≤ transaction_limit → transaction_refusal p.part.blocks (sound p) (array_bytes p.part.blocks) rows_bytes n n ≡ 0
  unfolding transaction_refusal rows_number length_number output_number sound_number ◌and◌ unless ◌or_else◌
  not_refused n a b = rw (size_fits, le-leb 1 n a, le-leb n transaction_limit b, eq-eqb n n refl, s)

  module _ (wp : Bool) (k : Command) (i : List ℕ) (a : 1 ≤ length i) (b : length i ≤ transaction_limit) (e : decoded p.part.blocks p.part.bank (get_or i 0 0) ≡ Some k) where
    answered_to : transacted p (array_bytes p.part.blocks) rows_bytes wp i (length i) ≡ answered (outcome_to (Some k) p.part p.phase wp i) i p
    unfolding transacted outcome_of
    answered_to = rw (not_refused (length i) a b, e)

    -- a command that no number applies to is executed
    pub executes : ignored_number (Some k) p.part p.phase i wp ≡ 0
        → transacted p (array_bytes p.part.blocks) rows_bytes wp i (length i) ≡ answered (executed (columns k) p.part p.phase i) i p
    executes n = answered_to ∙ rw n

    -- else it is ignored
    pub ignores : (c : ℕ) → ignored_number (Some k) p.part p.phase i wp ≡ suc c
        → transacted p (array_bytes p.part.blocks) rows_bytes wp i (length i) ≡ answered (ignored (Some k) (suc c) p.part (length i)) i p
    ignores c n = answered_to ∙ rw (n, eqb-suc-zero c)

  ticks_not_refused : (n : ℕ) → n ≤ tick_limit p.part.blocks → tick_number p.part.blocks (sound p) (array_bytes p.part.blocks) rows_bytes n ≡ 0
  unfolding tick_number rows_number sound_number ticks_number unless ◌or_else◌
  ticks_not_refused n b = rw (size_fits, le-leb n (tick_limit p.part.blocks) b, s)

  -- ticks that are not refused run
  pub ticks_run : (n : ℕ) → n ≤ tick_limit p.part.blocks → ticked p (array_bytes p.part.blocks) rows_bytes n ≡ record { next = record_after n p; number = 0; done = working_ticks n p }
  unfolding ticked
  ticks_run n b = rw (ticks_not_refused n b)

  -- those that are too many are refused
  pub ticks_refused : (n : ℕ) → leb n (tick_limit p.part.blocks) ≡ false → ticked p (array_bytes p.part.blocks) rows_bytes n ≡ record { next = p; number = 6; done = 0 }
  unfolding ticked tick_number rows_number sound_number ticks_number unless ◌or_else◌
  ticks_refused n b = rw (size_fits, b, s)

  pub ticks_memory : (m : Memory) (a n : ℕ) (xs : List ℕ) → a ≡ array_bytes p.part.blocks → n ≤ tick_limit p.part.blocks → ticked_memory m p a rows_bytes n xs ≡ memory_after m n p xs
  unfolding ticked_memory
  ticks_memory m a n xs l b = rw (l, ticks_not_refused n b)

-- 66h, 05h and 99h are taken in every phase
module _ (p : Part) (f : Phase) (e : p.asleep ≡ false) (wp : Bool) where
  pub arm_number : command_number (columns ArmReset) (addressing_on (columns ArmReset) p) None p f (0x66 ∷ []) wp ≡ 0
  unfolding command_number ◌or◌ unless ◌or_else◌
  arm_number = rw e

  pub read_status_number : command_number (columns ReadStatus) (addressing_on (columns ReadStatus) p) None p f (0x05 ∷ []) wp ≡ 0
  unfolding command_number ◌or◌ unless ◌or_else◌
  read_status_number = rw e

  pub reset_number : (armed : Bool) → p.armed ≡ armed → command_number (columns Reset) (addressing_on (columns Reset) p) None p f (0x99 ∷ []) wp ≡ unless armed 25
  unfolding command_number ◌or◌ unless ◌or_else◌
  reset_number true a = rw (e, a)
  reset_number false a = rw (e, a)

-- an outcome that goes by a number, and tells it where it is not 0, tells 0: the number is 0
zero_number : (n : ℕ) (x y : Outcome) (t : Bool) → eqb n 0 ≡ t → y.number ≡ n → (cond t x y).number ≡ 0 → n ≡ 0
zero_number n x y true e h z = eqb-true _ _ e
zero_number n x y false e h z = sym h ∙ z

-- a transaction that answers 0 executed the command that its first byte is, to which no number applied
module _ (p : Record) (a r : ℕ) (wp : Bool) (i : List ℕ) (o : ℕ) (k : Command) (e : decoded p.part.blocks p.part.bank (get_or i 0 0) ≡ Some k) (z : (transacted p a r wp i o).number ≡ 0) where
  pub not_refused_then : transaction_refusal p.part.blocks (sound p) a r (length i) o ≡ 0
  unfolding transacted outcome_of
  not_refused_then =
      let n = transaction_refusal p.part.blocks (sound p) a r (length i) o in
      zero_number n (outcome_to (decoded p.part.blocks p.part.bank (get_or i 0 0)) p.part p.phase wp i) (refused n) (eqb n 0) refl refl z

  taken : transacted p a r wp i o ≡ answered (outcome_to (Some k) p.part p.phase wp i) i p
  unfolding transacted outcome_of
  taken = rw (not_refused_then, e)

  pub not_ignored : ignored_number (Some k) p.part p.phase i wp ≡ 0
  not_ignored =
      let n = ignored_number (Some k) p.part p.phase i wp in
      zero_number n (executed (columns k) p.part p.phase i) (ignored (Some k) n p.part (length i)) (eqb n 0) refl refl (sym (ap (λ (t : Answer). t.number) taken) ∙ z)

  pub executed_so : transacted p a r wp i o ≡ answered (executed (columns k) p.part p.phase i) i p
  executed_so = taken ∙ rw not_ignored

-- a tick call that is taken answers 0; one that is not leaves record and memory
module _ (p : Record) (a r n : ℕ) where
  pub taken_number : eqb (tick_number p.part.blocks (sound p) a r n) 0 ≡ true → (ticked p a r n).number ≡ 0
  unfolding ticked
  taken_number z = rw z refl

  module _ (z : eqb (tick_number p.part.blocks (sound p) a r n) 0 ≡ false) where
    pub untaken : ticked p a r n ≡ record { next = p; number = tick_number p.part.blocks (sound p) a r n; done = 0 }
    unfolding ticked
    untaken = rw z refl

    pub untaken_memory : (w : Memory) (xs : List ℕ) → ticked_memory w p a r n xs ≡ xs
    unfolding ticked_memory
    untaken_memory w xs = rw z refl
