-- What fits a part under a bank register of 00h still fits it after a cut, if its unit is free, and begins the same erase.
use Prim.Native.Nat.{ℕ}
use mathlib.Core.Path.{◌≡◌, sym, ap, ◌∙◌, subst⁻¹}
use mathlib.Core.Bool.{Bool, true, false}
use mathlib.Core.List.{List, []}
use lib.ListN.{get_or}
use Rattle.types.specs.declared.EraseUnit.{EraseUnit}
use Rattle.types.specs.declared.Addressing.{Addressing}
use Rattle.types.specs.declared.Phase.TheVariants.{Idle}
use Rattle.types.specs.declared.Identity.{Identity}
use Rattle.types.specs.declared.Stored.{Stored}
use Rattle.types.specs.declared.Record.{Record}
use Rattle.paper.specs.Erase.{memory_of, erase_of}
use Rattle.paper.specs.Registers.{bank_loaded}
use Rattle.paper.specs.Address.{place_in}
use Rattle.paper.specs.Records.{registers_in, fresh}
use Rattle.paper.specs.Operations.{target_free}
use Rattle.paper.specs.Table.{decoded, columns}
use Rattle.paper.specs.Numbers.{address_ok}
use Rattle.paper.specs.History.{Call}
use Rattle.paper.specs.Board.{Board}
use Rattle.paper.proofs.MadeSound.{target_stored}
use Rattle.laws.specs.Writes.{erase, write_of, addressing_by, sent_as, begun_by, Fitting, Rested}
use Rattle.restart.specs.Cuts.{aim}

-- the part p was powered up again, or is p: the same size and the same bank register, and the bytes i begin the same erase
pub record StillFits (p : Record) (u : EraseUnit) (i : List ℕ) (b : Board) : Type 0 where
  pub rested : Rested b
  pub size : b.state.part.blocks ≡ p.part.blocks
  pub bank : b.state.part.bank ≡ p.part.bank
  pub fits : Fitting b.state (erase u) i

-- where the bytes i go depends on the size and on the bank register
abbrev sent_by : ℕ → ℕ → List ℕ → Addressing
sent_by n bank i = addressing_by (decoded n bank (get_or i 0 0)) bank

module _ (p : Record) (u : EraseUnit) (i : List ℕ) (b : Board) (e : StillFits p u i b) where
  sent_same : sent_as b.state i ≡ sent_as p i
  sent_same =
      ap (λ (n : ℕ). sent_by n b.state.part.bank i) e.size ∙ ap (λ (k : ℕ). sent_by p.part.blocks k i) e.bank

  pub begun_same : begun_by b.state (erase u) i ≡ begun_by p (erase u) i
  begun_same =
      ap (λ (n : ℕ). erase_of u (sent_as b.state i) n i) e.size ∙ ap (λ (g : Addressing). erase_of u g p.part.blocks i) sent_same

  pub place_same : (cs : List Call) (wp : Bool) → aim b.state u (write_of wp wp i cs) ≡ aim p u (write_of wp wp i [])
  place_same cs wp =
      ap (λ (n : ℕ). place_in (memory_of u) (sent_as b.state i) n i) e.size ∙ ap (λ (g : Addressing). place_in (memory_of u) g p.part.blocks i) sent_same

-- what fits a part under a bank register of 00h fits it freshly powered, if its unit is free
fits_fresh : (p : Record) (u : EraseUnit) (i : List ℕ) (id : Identity) (g : Stored) → p.part.bank ≡ bank_loaded → Fitting p (erase u) i → target_free (begun_by p (erase u) i) p.part.blocks g ≡ true
    → Fitting (fresh p.part.blocks id g) (erase u) i
fits_fresh p u i id g e f free =
    let n = p.part.blocks in
    let same : sent_as (fresh n id g) i ≡ sent_as p i = ap (λ (k : ℕ). sent_by n k i) (sym e) in
    record {
      code = record { command = f.code.command; known = ap (λ (k : ℕ). decoded n k (get_or i 0 0)) (sym e) ∙ f.code.known; does = f.code.does };
      some = f.some;
      most = f.most;
      right_length = f.right_length;
      right_address = ap (λ (a : Addressing). address_ok (columns f.code.command).named a i) same ∙ f.right_address;
      free_target = ap (λ (a : Addressing). target_free (erase_of u a n i) n (registers_in Idle false g)) same ∙ target_stored Idle false g (begun_by p (erase u) i) n ∙ free;
    }

-- the part after a cut
pub next_fits : (p : Record) (u : EraseUnit) (i : List ℕ) (b d : Board) (id : Identity) (g : Stored) → p.part.bank ≡ bank_loaded → StillFits p u i b → d.state ≡ fresh b.state.part.blocks id g → Rested d
    → target_free (begun_by b.state (erase u) i) b.state.part.blocks g ≡ true → StillFits p u i d
next_fits p u i b d id g zero-bank e is r free =
    record {
      rested = r;
      size = ap (λ (q : Record). q.part.blocks) is ∙ e.size;
      bank = ap (λ (q : Record). q.part.bank) is ∙ sym zero-bank;
      fits = subst⁻¹ (λ (q : Record). Fitting q (erase u) i) is (fits_fresh b.state u i id g (e.bank ∙ zero-bank) e.fits free);
    }
