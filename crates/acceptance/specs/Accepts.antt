-- Request 13: when a check says yes, and that it accepts every script of a right flasher, on every unprotected part that starts idle and awake.
use Rattle.std.specs.Prelude.{ℕ, ◌<◌, ◌^◌, ◌≡◌, Bool, true, false, List, ◌↔◌, ◌⊎◌, length, get_or}
use Rattle.types.specs.declared.Phase.TheVariants.{Idle}
use Rattle.types.specs.declared.Record.{Record}
use Rattle.types.specs.declared.Verdict.TheVariants.{Yes}
use Rattle.words.specs.Lists.{AreBytes}
use Rattle.paper.specs.Sizes.{is_large, array_bytes}
use Rattle.paper.specs.Protection.{code_of}
use Rattle.paper.specs.Soundness.{sound}
use Rattle.paper.specs.Board.{Board}
use Rattle.paper.specs.Script.{Script, Scripted}
use Rattle.paper.specs.Check.{check_refusal_of, checked}
use Rattle.laws.specs.Writes.{Rested}
use Rattle.acceptance.specs.Flasher.{unprotected, flashes}
use Rattle.acceptance.specs.Construction.{flasher_for}

-- "the run answers 0 at every step, ends idle and leaves the array equal to the image"; of n steps
pub record RunsRight (n : ℕ) (image : List ℕ) (w : Scripted) : Type 0 where
  pub unstopped : w.number ≡ 0
  pub answers : (k : ℕ) → k < n → get_or w.answers k 0 ≡ 0
  pub idle : w.board.state.phase ≡ Idle
  pub array : w.board.array ≡ image

-- "yes exactly when" it does, and the check was not refused
abbrev pub YesExactly : Type 0
YesExactly =
    (s : Script) (b : Board) (o n d image : List ℕ) → sound b.state ≡ true
    → ((checked true s b o n d image).verdict ≡ Yes)
    ↔ ((check_refusal_of true s b o n d image ≡ 0) × RunsRight (length s.lengths) image (checked true s b o n d image).run)

-- "an unprotected part": its code is 0, or it is not the large part and its code is 15
abbrev pub UnprotectedCodes : Type 0
UnprotectedCodes =
    (p : Record) → sound p ≡ true → (unprotected p ≡ true) ↔ ((code_of p.part.stored.status ≡ 0) ⊎ ((code_of p.part.stored.status ≡ 15) × (is_large p.part.blocks ≡ false)))

-- "is always accepted on an unprotected part that starts idle and awake"
abbrev pub Accepts : Type 0
Accepts =
    (s : Script) (b : Board) (o n d image : List ℕ) → Rested b → unprotected b.state ≡ true → AreBytes image
    → check_refusal_of true s b o n d image ≡ 0 → flashes b.state b.array image s ≡ true
    → (checked true s b o n d image).verdict ≡ Yes

-- there is such a script for every array and image: it passes the test, and is not refused with an output and two lists of its lengths. Its lengths and tick counts are 16-bit numbers, as the call takes them
pub record IsMade (wp : Bool) (p : Record) (xs image : List ℕ) (s : Script) : Type 0 where
  pub level : s.wp ≡ wp
  pub right : flashes p xs image s ≡ true
  pub input : AreBytes s.input
  pub lengths : (k : ℕ) → get_or s.lengths k 0 < 2 ^ 16
  pub ticks : (k : ℕ) → get_or s.ticks k 0 < 2 ^ 16
  pub unrefused : (b : Board) (o n d : List ℕ) → Rested b → b.array ≡ xs → length o ≡ length s.input → length n ≡ length s.lengths → length d ≡ length s.lengths → check_refusal_of true s b o n d image ≡ 0

abbrev pub Makes : Type 0
Makes =
    (wp : Bool) (p : Record) (xs image : List ℕ) → sound p ≡ true → length xs ≡ array_bytes p.part.blocks → length image ≡ length xs → AreBytes image
    → IsMade wp p xs image (flasher_for wp p.part.blocks xs image)

pub record Acceptance : Type 0 where
  pub yes_exactly : YesExactly
  pub unprotected_codes : UnprotectedCodes
  pub accepts : Accepts
  pub makes : Makes
