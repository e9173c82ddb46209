-- The answers of ticks with wear records and of their text as C gets them: one number each.
use Rattle.std.specs.Prelude.{ℕ}
use Rattle.paper.specs.Wear.{WearTicked}
use Rattle.paper.specs.WearText.{Written}
use Rattle.yawlspar.specs.Face.{packed}

-- ticks: their number, and how many did work
abbrev pub wear_tick_answer : WearTicked → ℕ
wear_tick_answer w = packed w.number w.done

-- a text: its number, and how many bytes were written
abbrev pub text_answer : Written → ℕ
text_answer w = packed w.number w.bytes
