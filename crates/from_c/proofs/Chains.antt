-- Chained calls from C are there for every list of them; and where the record's bytes hold no record, they change nothing.
use mathlib.Core.Path.{◌≡◌, refl, ap, ◌∙◌}
use mathlib.Core.Bool.{false}
use mathlib.Core.List.{List, [], ◌∷◌}
use Rattle.record_bytes.specs.Read.{record_in}
use Rattle.from_c.specs.Driven.{Lent, CCall, Given, gives, Driven, ended, calls}
use Rattle.from_c.proofs.Held.{unheld_left}

-- every list of calls from C can be made, whatever is lent
pub record Drives (l : Lent) (cs : List CCall) : Type 0 where
  pub after : Lent
  pub chain : Driven l cs after

pub driven_exists : (cs : List CCall) (l : Lent) → Drives l cs
driven_exists [] l = record { after = l; chain = ended }
driven_exists (c ∷ cs) l =
    let d = driven_exists cs (gives c l).left in
    record { after = d.after; chain = calls (gives c l) refl d.chain }

-- no call from C changes a byte where the record's bytes hold no record
pub unheld_kept : {l m : Lent} {cs : List CCall} → Driven l cs m → (record_in l.bytes).ok ≡ false → m ≡ l
unheld_kept ended e = refl
unheld_kept (calls {l} {m} {c} {cs} g h rest) e =
    let k : g.left ≡ l = ap (λ (x : Given). x.left) h ∙ unheld_left c l e in
    unheld_kept rest (ap (λ (x : Lent). (record_in x.bytes).ok) k ∙ e) ∙ k
