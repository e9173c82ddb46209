-- A ready part: its bank register and TBS are 0, so that its codes are those of 01, its addresses have three bytes and the protection question is asked the BP code. 06h makes a ready part of it. Memory that holds one byte throughout.
use Rattle.std.specs.Prelude.{Some}
use Prim.Native.Nat.{ℕ, ◌<◌}
use mathlib.Core.Path.{◌≡◌, refl, ap, ◌∙◌}
use mathlib.Core.Bool.{Bool, true, false, cond}
use mathlib.Core.List.{[], ◌∷◌}
use native.Mathlib.Omega.{arith}
use lib.ListN.{length, get_or, length-replicate, get_or-replicate}
use Rattle.types.specs.declared.Addressing.TheVariants.{Three}
use Rattle.types.specs.declared.Named.TheVariants.{Place}
use Rattle.types.specs.declared.Command.{Command}
use Rattle.types.specs.declared.Record.{Record}
use Rattle.paper.specs.Sizes.{tick_limit}
use Rattle.paper.specs.Protection.{code_of, whole_code, protected_at}
use Rattle.paper.specs.Registers.{TBS}
use Rattle.paper.specs.Table.{codes, look_up, decoded, addressing}
use Rattle.paper.proofs.Soundness.{without_large}
use Rattle.laws.proofs.Commanded.{did, enabled, enables, enabled_sound}
use Rattle.cases.proofs.Paper.{send, Ready, Free, filled}

module _ (p : Record) (r : Ready p) where
  -- the large part alone has TBS and a bank register
  without : (TBS p.part.stored.function ≡ 0) × (p.part.bank ≡ 0)
  without = without_large p r.is_sound r.listed

  no_bank : p.part.bank ≡ 0
  no_bank = without.1

  -- its codes are those of 01's table
  pub known_here : (c : ℕ) (k : Command) → look_up codes c ≡ Some k → decoded p.part.blocks p.part.bank c ≡ Some k
  unfolding decoded
  known_here c k e = rw (no_bank, r.listed) e

  -- a tick call may ask 4,096 ticks
  pub ticks_most : tick_limit p.part.blocks ≡ 4096
  ticks_most = ap (λ (t : Bool). cond t 131072 4096) r.listed

  -- addresses have three bytes
  pub three_bytes : addressing Place p.part.bank ≡ Three false
  three_bytes = ap (addressing Place) no_bank

  -- and the protection question is asked the BP code
  code_alone : whole_code p.part.stored ≡ code_of p.part.stored.status
  code_alone = omega (arith, without.0)

  pub free_alone : (a : ℕ) → Free (code_of p.part.stored.status) p.part.blocks a → Free (whole_code p.part.stored) p.part.blocks a
  free_alone a h = ap (λ (c : ℕ). protected_at c p.part.blocks a) code_alone ∙ h

  -- 06h is executed, and makes a ready part of it
  pub enabled_so : send p (0x06 ∷ []) ≡ did (enabled p) 1
  enabled_so = enables p r.is_sound r.idle r.awake true

  pub enabled_ready : Ready (enabled p)
  enabled_ready =
      record { is_sound = enabled_sound p r.is_sound r.idle r.awake; listed = r.listed; idle = refl; awake = r.awake }

-- so many bytes, each of them b
pub filled_length : (n b : ℕ) → length (filled n b) ≡ n
unfolding filled
filled_length n b = length-replicate n b

pub filled_at : (n b a : ℕ) → a < n → get_or (filled n b) a 0 ≡ b
unfolding filled
filled_at n b a h = get_or-replicate n a b 0 h
