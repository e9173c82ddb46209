-- When an operation is in order, by what it is: a program, an erase or a register write.
use Prim.Native.Nat.{ℕ, ◌+◌, ◌<◌}
use mathlib.Core.Path.{◌≡◌, refl, ap}
use mathlib.Core.Bool.{Bool, true, false}
use native.Mathlib.Omega.{arith}
use lib.Dec.{eqb, ltb, leb}
use borrow.Author.Tests.{ltb-true, lt-ltb, le-leb}
use Rattle.types.specs.declared.Memory.{Memory}
use Rattle.types.specs.declared.EraseUnit.{EraseUnit}
use Rattle.types.specs.declared.Register.{Register}
use Rattle.types.specs.declared.Operation.TheVariants.{Program, Erase, Write}
use Rattle.types.specs.declared.Stored.{Stored}
use Rattle.words.specs.Logic.{◌and◌}
use Rattle.words.proofs.Tests.{and_true}
use Rattle.paper.specs.Sizes.{memory_bytes, page_bytes}
use Rattle.paper.specs.Program.{page_base}
use Rattle.paper.specs.Erase.{memory_of, unit_pages, unit_bytes, unit_base}
use Rattle.paper.specs.Registers.{held_byte}
use Rattle.paper.specs.Operations.{free, unit_free}
use Rattle.paper.specs.Soundness.{operation_ok}

-- a program with ticks left keeps a byte, and its start is one of a page's places
content_as : (d k s : ℕ) → s < page_bytes → (t : Bool) → ltb d k ≡ t → (t and leb 1 k and leb k page_bytes and ltb s page_bytes) ≡ (t and leb k page_bytes)
unfolding ◌and◌
content_as d k s h true e =
    let l : d < k = ltb-true _ _ e in
    rw (le-leb 1 k (omega arith), lt-ltb s page_bytes h) (and_true (leb k page_bytes))
content_as d k s h false e = refl

pub program_as : (m : Memory) (s b k d n : ℕ) (g : Stored) → s < page_bytes
    → operation_ok (Program m s b k d) n g ≡ (eqb (page_base b) b and leb (b + page_bytes) (memory_bytes m n) and free m b n g and ltb d k and leb k page_bytes)
unfolding operation_ok
program_as m s b k d n g h =
    ap (λ (t : Bool). eqb (page_base b) b and leb (b + page_bytes) (memory_bytes m n) and free m b n g and t) (content_as d k s h (ltb d k) refl)

pub erase_as : (u : EraseUnit) (b d n : ℕ) (g : Stored)
    → operation_ok (Erase u b d) n g ≡ (eqb (unit_base u n b) b and leb (b + unit_bytes u n) (memory_bytes (memory_of u) n) and unit_free u b n g and ltb d (unit_pages u n))
unfolding operation_ok
erase_as u b d n g = rw (and_true (ltb d (unit_pages u n)))

pub write_as : (r : Register) (v n : ℕ) (g : Stored) → operation_ok (Write r v) n g ≡ eqb (held_byte r v) v
unfolding operation_ok ◌and◌
write_as r v n g = refl
