-- `wear_records::tally_by` meets its contract, by the operation.
use Rattle.std.proofs.Common.{◌≡◌, suc, Bool, true, false, sym, ◌∙◌}
use Rattle.types.specs.declared.Memory.TheVariants.{Array}
use Rattle.words.specs.Logic.{◌and◌}
use Rattle.paper.specs.Sizes.{same_memory, from_on}
use Rattle.wear_records.proofs.tally_by.Goals.{then-in_array, else-in_array}
use Rattle.wear_records.proofs.tally_by.Goals as goal

-- one of two tests, or both
taken : (a b x y : Bool) → a ≡ x → b ≡ y → a ≡ true → b ≡ (x and y)
unfolding ◌and◌
taken a b x y e f g = rw (sym e ∙ g) f

passed : (a b x y : Bool) → a ≡ x → b ≡ a → a ≡ false → b ≡ (x and y)
unfolding ◌and◌
passed a b x y e f g = rw (sym e ∙ g) (f ∙ g)

pub returns-after-in_array : goal.returns-after-in_array
returns-after-in_array c =
    let both : c.if-in_array.result ≡ (same_memory Array c.in-Program.memory and from_on (suc c.in-Program.done) c.args.ticks c.in-Program.count) = elim c.if-in_array.branch [
      | then-in_array w ↦ taken c.in_array.result _ _ _ c.in_array.ensures (w.result-is ∙ w.ends.ensures) w.if-in_array.true
      | else-in_array w ↦ passed c.in_array.result _ _ _ c.in_array.ensures w.result-is w.if-in_array.false
    ] in
    rw (c.nothing.ensures, c.in-Program.is, both)

pub returns-in-Erase : goal.returns-in-Erase
returns-in-Erase c = rw (c.nothing-in-Erase.ensures, c.in-Erase.is, c.erased_in.ensures, c.unit_memory.ensures)
