-- The answers of a query and of ticks with a map as C gets them: one number each.
use Rattle.std.specs.Prelude.{ℕ}
use Rattle.paper.specs.Sizes.{array_pages}
use Rattle.paper.specs.Map.{Blank, Page, NoPage, Refused, MapTicked}
use Rattle.yawlspar.specs.Face.{packed}

-- a query on n blocks: the page; where there is none, the number of pages
abbrev pub blank_answer : ℕ → Blank → ℕ
blank_answer n (Page q) = packed 0 q
blank_answer n NoPage = packed 0 (array_pages n)
blank_answer n (Refused number) = packed number 0

-- ticks: their number, and how many did work
abbrev pub map_tick_answer : MapTicked → ℕ
map_tick_answer w = packed w.number w.done
