-- Page data: of more than 256 bytes the last 256 count, in order of arrival, and zeros follow them. What becomes of a page in a call is a page.
use Prim.Native.Nat.{ℕ, zero, suc, ◌+◌, ◌-◌, ◌<◌, ◌≤◌}
use mathlib.Core.Path.{◌≡◌, refl, ap, ◌∙◌}
use mathlib.Core.Bool.{true}
use mathlib.Core.List.{List}
use native.Mathlib.Omega.{arith}
use lib.ListN.{length, drop, get_or, replicate, length-append, length-drop, length-replicate, get_or-append}
use lib.Seq.{drop_at, get_or-drop}
use Rattle.types.specs.declared.Data.{Data}
use Rattle.types.specs.declared.Data.TheVariants.{Kept, Sent, Zero}
use Rattle.words.specs.Logic.{◌and◌}
use Rattle.words.specs.Lists.{all_zero}
use Rattle.paper.specs.Sizes.{page_bytes}
use Rattle.paper.specs.Program.{data_sent, kept_count, passed_count, page_data, no_data}
use Rattle.paper.specs.Commands.{page_after}

zeros_zero : (n : ℕ) → all_zero (replicate n 0) ≡ true
unfolding ◌and◌
zeros_zero zero = refl
zeros_zero (suc n) = zeros_zero n

module _ (d : List ℕ) where
  kept_length : length (drop (passed_count d) d) ≡ kept_count d
  kept_length = simp length-drop (omega arith)

  -- a kept byte
  pub kept_byte : (k : ℕ) → k < kept_count d → get_or (page_data d) k 0 ≡ get_or d (passed_count d + k) 0
  unfolding page_data
  kept_byte k h =
      get_or-append (drop (passed_count d) d) (replicate (page_bytes - kept_count d) 0) 0 k (omega (arith, kept_length))
      ∙ get_or-drop (passed_count d) d k 0

  pub kept_last : page_bytes ≤ length d → (k : ℕ) → k < page_bytes → get_or (page_data d) k 0 ≡ get_or d (length d - page_bytes + k) 0
  kept_last h k l =
      let n : passed_count d ≡ length d - page_bytes = omega arith in
      kept_byte k (omega arith) ∙ ap (λ (t : ℕ). get_or d (t + k) 0) n

  -- zeros after the kept bytes
  pub zeros_after : all_zero (drop (kept_count d) (page_data d)) ≡ true
  unfolding page_data
  zeros_after =
      rw (drop_at (drop (passed_count d) d) (replicate (page_bytes - kept_count d) 0) (kept_count d) kept_length)
      (zeros_zero (page_bytes - kept_count d))

  -- together they are a page
  data_page : length (page_data d) ≡ page_bytes
  unfolding page_data
  data_page = length-append (drop (passed_count d) d) (replicate (page_bytes - kept_count d) 0) ∙ simp (length-drop, length-replicate) (omega arith)

-- so is no page data
pub none_page : length no_data ≡ page_bytes
unfolding no_data
none_page = refl

-- and page data after a call, where it was a page before
pub after_page : (d : Data) (i g : List ℕ) → length g ≡ page_bytes → length (page_after d i g) ≡ page_bytes
after_page Kept i g h = h
after_page (Sent a) i g h = data_page (data_sent a i)
after_page Zero i g h = none_page
