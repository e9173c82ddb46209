-- What a tick call reached: what ran before it, if anything did, and how many ticks of that did work. Which touches these are, and which pages of the array they lie in.
use Rattle.std.specs.Prelude.{ℕ, zero, suc, ◌+◌, ◌/◌, min, List, [], ◌∷◌, ◌++◌, Bool, false, cond, eqb, None, Option, Some}
use Rattle.types.specs.declared.Memory.TheVariants.{Array}
use Rattle.types.specs.declared.Operation.{Operation}
use Rattle.types.specs.declared.Operation.TheVariants.{Program, Erase, Write}
use Rattle.types.specs.declared.Record.{Record}
use Rattle.types.specs.declared.Reached.{Reached}
use Rattle.types.specs.declared.Ticked.{Ticked}
use Rattle.words.specs.Logic.{◌and◌, ◌or◌}
use Rattle.paper.specs.Sizes.{same_memory, from_on, page_bytes}
use Rattle.paper.specs.Erase.{memory_of}
use Rattle.paper.specs.Phases.{running}
use Rattle.paper.specs.Operations.{advanced_by, Touch, none, blank, narrow, next_touch}

abbrev pub nothing : Reached
nothing = record { work = None; count = 0 }

-- what a tick call of a record reached that answers t: refused, no tick of what runs
abbrev pub reached : Record → Ticked → Reached
reached p t = record { work = running p.phase; count = t.done }

-- the touches of the next k ticks of an operation, with the page data g, in order
abbrev pub next_touches : Operation → ℕ → List ℕ → List Touch
next_touches o zero g = []
next_touches o (suc k) g = next_touches o k g ++ (next_touch (advanced_by k o) g ∷ [])

abbrev pub work_touches : Option Operation → ℕ → List ℕ → List Touch
work_touches None k g = []
work_touches (Some o) k g = next_touches o k g

-- the touches of what was reached
abbrev pub touches_of : Reached → List ℕ → List Touch
touches_of r g = work_touches r.work r.count g

-- a touch lies in page q of the array
abbrev pub in_page : ℕ → Touch → Bool
in_page q none = false
in_page q (blank w b) = same_memory Array w and eqb (b / page_bytes) q
in_page q (narrow w a d) = same_memory Array w and eqb (a / page_bytes) q

-- one of these does
abbrev pub touch_page : List Touch → ℕ → Bool
touch_page [] q = false
touch_page (t ∷ ts) q = in_page q t or touch_page ts q

-- the pages of the array that the next k ticks of an operation reach: so many from the first on. A program reaches one with its first tick, an erase the next one with each; rows and registers are none of the array
abbrev pub first_page : Operation → ℕ
first_page (Program w s b c d) = b / page_bytes
first_page (Erase u b d) = b / page_bytes + d
first_page (Write r v) = 0

abbrev pub pages_by : Operation → ℕ → ℕ
pages_by (Program w s b c d) k = cond (same_memory Array w) (min k 1) 0
pages_by (Erase u b d) k = cond (same_memory Array (memory_of u)) k 0
pages_by (Write r v) k = 0

abbrev pub work_first : Option Operation → ℕ
work_first None = 0
work_first (Some o) = first_page o

abbrev pub work_pages : Option Operation → ℕ → ℕ
work_pages None k = 0
work_pages (Some o) k = pages_by o k

-- page q is one of those reached
abbrev pub reaches_page : Reached → ℕ → Bool
reaches_page r q = from_on (work_first r.work) (work_pages r.work r.count) q
