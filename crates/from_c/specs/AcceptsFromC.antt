-- Request 13 from C: what the answer of yawlspar_check says, on the bytes of a sound record and on memory of its own lengths.
use Rattle.std.specs.Prelude.{ℕ, ◌≡◌, true, List, ◌↔◌, leb}
use Rattle.types.specs.declared.Record.{Record}
use Rattle.types.specs.declared.Verdict.TheVariants.{Yes}
use Rattle.words.specs.Lists.{AreBytes}
use Rattle.paper.specs.Check.{check_refusal_of, checked}
use Rattle.script.specs.InBytes.{script_of}
use Rattle.acceptance.specs.Flasher.{unprotected, flashes}
use Rattle.from_c.specs.Driven.{Lent, check, Given, gives}
use Rattle.from_c.specs.Holding.{Holding}
use Rattle.from_c.specs.LawsFromC.{board_in, RestedIn}

-- a check from C, with the number that stands for the level of WP#, its input, its lengths and its tick counts, its output buffer and two lists, and an image
pub record AcceptsFromC : Type 0 where
  -- the answer is 0 exactly where the verdict is yes
  pub yes : (l : Lent) (p : Record) (wp : ℕ) (i ls ts o n d image : List ℕ) → Holding l p → leb wp 1 ≡ true
      → (g : Given) → g ≡ gives (check wp i ls ts o n d image) l
      → (g.answer ≡ 0) ↔ ((checked true (script_of wp i ls ts) (board_in l p) o n d image).verdict ≡ Yes)
  -- and it is for the script of a right flasher, on an idle, awake and unprotected part: the array is then the image
  pub accepts : (l : Lent) (p : Record) (wp : ℕ) (i ls ts o n d image : List ℕ) → RestedIn l p → unprotected p ≡ true → leb wp 1 ≡ true → AreBytes image
      → check_refusal_of true (script_of wp i ls ts) (board_in l p) o n d image ≡ 0 → flashes p l.array image (script_of wp i ls ts) ≡ true
      → (g : Given) → g ≡ gives (check wp i ls ts o n d image) l
      → (g.answer ≡ 0) × (g.left.array ≡ image)
