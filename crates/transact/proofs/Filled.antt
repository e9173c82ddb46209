-- Outputs: FFh before the first driven place, and a source or one byte from it on.
use Prim.Native.Nat.{ℕ, ◌-◌, ◌≤◌, ◌<◌, min}
use mathlib.Core.Path.{◌≡◌, refl, sym, ap, ◌∙◌}
use mathlib.Core.Bool.{Bool, true, false}
use mathlib.Core.List.{List, [], ◌∷◌, ◌++◌, append-nil}
use native.Mathlib.Omega.{arith}
use native.Mathlib.Nat.{mod-one}
use lib.Dec.{leb}
use lib.ListN.{length, take, drop, replicate, length-append, length-replicate, length-drop, drop_of_length-le}
use lib.Seq.{take_at, drop_at, take_all, length-take-le}
use borrow.Author.Tests.{leb-true, leb-false}
use Rattle.words.specs.Lists.{round, driven}
use Rattle.words.proofs.Lists.{up_to_same, up_to_const, driven_places}
use Rattle.transact.specs.Shown.{shown}

round_one : (b k : ℕ) → round (b ∷ []) 0 k ≡ b
round_one b k = rw mod-one

-- an output whose first places were set to FFh: as many as come before the first driven one, or all
module _ (o : List ℕ) (from m k : ℕ) (ys : List ℕ) (km : k ≡ m) (h : m ≡ min from (length o)) (q : ys ≡ replicate (length (take k o)) 255) where
  front : ys ≡ replicate m 255
  front =
      let l : length (take m o) ≡ m = length-take-le m o (omega arith) in
      q ∙ rw (km, l)

  pub blank_length : length (ys ++ drop k o) ≡ length o
  blank_length = rw (front, km) (simp (length-append, length-replicate, length-drop) (omega arith))

  before_as : (t : Bool) → leb from (length o) ≡ t → take from (ys ++ drop k o) ≡ replicate m 255
  before_as true e =
      let l : from ≤ length o = leb-true _ _ e in
      let n : from ≡ m = omega arith in
      rw (front, km, n) (take_at (replicate m 255) (drop m o) m (length-replicate m 255))
  before_as false e =
      let l : length o < from = leb-false _ _ e in
      let d : length o ≤ m = omega arith in
      let z : length (replicate {A = ℕ} m 255) ≤ from = simp length-replicate (omega arith) in
      rw (front, km, drop_of_length-le o d, append-nil) (take_all from (replicate m 255) z)

  before : take from (ys ++ drop k o) ≡ replicate (min from (length (ys ++ drop k o))) 255
  before = before_as _ refl ∙ rw (blank_length, h)

  -- a source driven into it
  pub driven_blank : (s : List ℕ) (at : ℕ) → (length s ≡ 0 → ⊥) → driven s at (ys ++ drop k o) from ≡ shown s at from (length o)
  driven_blank s at some = driven_places s at (ys ++ drop k o) from 255 some before ∙ ap (shown s at from) blank_length

  -- one byte, repeated into it
  one_driven : (b : ℕ) → driven (b ∷ []) 0 (ys ++ drop k o) from ≡ replicate m 255 ++ replicate (length o - m) b
  unfolding driven
  one_driven b =
      let n : length o - from ≡ length o - m = omega arith in
      rw (before_as _ refl, blank_length, n) (ap (λ (t : List ℕ). replicate m 255 ++ t) (up_to_same (length o - m) (round (b ∷ []) 0) (λ (j : ℕ). b) (λ j l. round_one b j) ∙ up_to_const (length o - m) b))

  pub repeated_blank : (b r : ℕ) (zs : List ℕ) → r ≡ length o - m → zs ≡ replicate (length (take r (drop m (ys ++ drop k o)))) b
      → take m (ys ++ drop k o) ++ (zs ++ drop r (drop m (ys ++ drop k o))) ≡ shown (b ∷ []) 0 from (length o)
  repeated_blank b r zs e z =
      let t : take m (ys ++ drop k o) ≡ replicate m 255 = rw (front, km) (take_at (replicate m 255) (drop m o) m (length-replicate m 255)) in
      let d : drop m (ys ++ drop k o) ≡ drop m o = rw (front, km) (drop_at (replicate m 255) (drop m o) m (length-replicate m 255)) in
      let l : length (drop m o) ≡ length o - m = length-drop m o in
      let w : length (take (length o - m) (drop m o)) ≡ length o - m = length-take-le (length o - m) (drop m o) (omega (arith, l)) in
      let x : length (drop m o) ≤ length o - m = omega (arith, l) in
      rw (t, z, d, e, w, drop_of_length-le (drop m o) x, append-nil) (sym (one_driven b) ∙ driven_blank (b ∷ []) 0 (λ q. omega arith))
