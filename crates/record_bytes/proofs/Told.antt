-- What `read` tells of bytes: that they hold no record, or what is found of the one that they hold.
use mathlib.Core.Path.{◌≡◌, refl, sym, ap, ◌∙◌}
use mathlib.Core.Bool.{Bool, true, false, cond, true≢false}
use Rattle.std.specs.Prelude.{Option, Some, None}
use Rattle.std.proofs.lemmas.Option.{none-some}
use Rattle.record_bytes.specs.declared.Found.{Found}
use mathlib.Core.List.{List}
use Prim.Native.Nat.{ℕ}
use Rattle.types.specs.declared.Record.{Record}
use Rattle.record_bytes.specs.Read.{Held, held, nothing, record_in, found_of, found}

abbrev if_ok : Bool → Found → Option Found
if_ok t f = cond t (Some f) None

abbrev value_or : Found → Option Found → Found
value_or g None = g
value_or g (Some f) = f

none_if : (t : Bool) (g : Found) → ◌≡◌ {A = Option Found} None (if_ok t g) → t ≡ false
none_if true g e = absurd (none-some g e)
none_if false g e = refl

some_if : (t : Bool) (f g : Found) → ◌≡◌ {A = Option Found} (Some f) (if_ok t g) → (t ≡ true) × (f ≡ g)
some_if true f g e = (refl, ap (value_or f) e)
some_if false f g e = absurd (none-some f (sym e))

module _ (h : Held) (r : Option Found) where
  pub none_held : r ≡ None → r ≡ found h → h.ok ≡ false
  none_held n e = none_if h.ok (found_of h.state) (sym n ∙ e)

  pub some_held : (f : Found) → r ≡ Some f → r ≡ found h → (h.ok ≡ true) × (f ≡ found_of h.state)
  some_held f n e = some_if h.ok f (found_of h.state) (sym n ∙ e)

-- of bytes that hold no record the state is that of a refused power-up
nothing_if : (t : Bool) (p : Record) → (cond t (held p) nothing).ok ≡ false → cond t (held p) nothing ≡ nothing
nothing_if true p e = absurd (true≢false e)
nothing_if false p e = refl

pub nothing_held : (bs : List ℕ) → (record_in bs).ok ≡ false → record_in bs ≡ nothing
unfolding record_in
nothing_held bs e = nothing_if _ _ e
