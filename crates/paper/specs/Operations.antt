-- An operation: its target, its ticks, and what its next tick reaches. Soundness, commands, ticks and history cite these.
use Rattle.std.specs.Prelude.{ℕ, ◌+◌, ◌-◌, ◌*◌, ◌/◌, List, Bool, true, false, not, cond, get_or, eqb, leb, None, Option, Some}
use Rattle.types.specs.declared.Memory.{Memory}
use Rattle.types.specs.declared.Memory.TheVariants.{Array, Rows}
use Rattle.types.specs.declared.EraseUnit.{EraseUnit}
use Rattle.types.specs.declared.EraseUnit.TheVariants.{Sector, Block32, Block64, Chip, Row}
use Rattle.types.specs.declared.Stored.{Stored}
use Rattle.types.specs.declared.Operation.{Operation}
use Rattle.types.specs.declared.Operation.TheVariants.{Program, Erase, Write}
use Rattle.words.specs.Logic.{◌and◌}
use Rattle.paper.specs.Sizes.{memory_bytes, same_memory, from_on, page_bytes}
use Rattle.paper.specs.Protection.{code_of, whole_code, protected_at, locked}
use Rattle.paper.specs.Program.{page_base, page_place, narrowed}
use Rattle.paper.specs.Erase.{memory_of, unit_pages, unit_bytes, unit_base, page_erased}

-- its ticks in all: a program takes one tick per kept byte, an erase one per page, a register write one
abbrev pub ticks_in_all : Operation → ℕ → ℕ
ticks_in_all (Program m s b k d) n = k
ticks_in_all (Erase u b d) n = unit_pages u n
ticks_in_all (Write r v) n = 1

-- its ticks done
abbrev pub ticks_done : Operation → ℕ
ticks_done (Program m s b k d) = d
ticks_done (Erase u b d) = d
ticks_done (Write r v) = 0

-- and its ticks that are left
abbrev pub ticks_left : Operation → ℕ → ℕ
ticks_left o n = ticks_in_all o n - ticks_done o

-- the operation with t ticks more done
abbrev pub advanced_by : ℕ → Operation → Operation
advanced_by t (Program m s b k d) = Program m s b k (d + t)
advanced_by t (Erase u b d) = Erase u b (d + t)
advanced_by t (Write r v) = Write r v

-- its target begins where a page or a unit begins
abbrev pub aligned : Operation → ℕ → Bool
aligned (Program m s b k d) n = eqb (page_base b) b
aligned (Erase u b d) n = eqb (unit_base u n b) b
aligned (Write r v) n = true

-- its target is inside the part
abbrev pub inside : Operation → ℕ → Bool
inside (Program m s b k d) n = leb (b + page_bytes) (memory_bytes m n)
inside (Erase u b d) n = leb (b + unit_bytes u n) (memory_bytes (memory_of u) n)
inside (Write r v) n = true

-- a place of a memory is unprotected or unlocked under the registers, on a part of n blocks
abbrev pub free : Memory → ℕ → ℕ → Stored → Bool
free Array b n s = not (protected_at (whole_code s) n b)
free Rows b n s = not (locked s.function (b / page_bytes))

-- a unit is: any but CER lies in one block or row, so its base decides; CER needs all four BP bits 0
abbrev pub unit_free : EraseUnit → ℕ → ℕ → Stored → Bool
unit_free Sector b n s = free Array b n s
unit_free Block32 b n s = free Array b n s
unit_free Block64 b n s = free Array b n s
unit_free Chip b n s = eqb (code_of s.status) 0
unit_free Row b n s = free Rows b n s

-- the operation's target is unprotected or unlocked under the registers
abbrev pub target_free : Operation → ℕ → Stored → Bool
target_free (Program m s b k d) n g = free m b n g
target_free (Erase u b d) n g = unit_free u b n g
target_free (Write r v) n g = true

-- a unit whose erase can be suspended
abbrev pub unit_suspends : EraseUnit → Bool
unit_suspends Sector = true
unit_suspends Block32 = true
unit_suspends Block64 = true
unit_suspends Chip = false
unit_suspends Row = false

-- PP is a program of the array, and can be suspended
abbrev pub memory_suspends : Memory → Bool
memory_suspends Array = true
memory_suspends Rows = false

-- only PP, SER, BER32 or BER64 is suspended
abbrev pub can_suspend : Operation → Bool
can_suspend (Program m s b k d) = memory_suspends m
can_suspend (Erase u b d) = unit_suspends u
can_suspend (Write r v) = false

-- a place of a memory lies in its unit, if it is an erase
abbrev pub in_unit : Operation → ℕ → Memory → ℕ → Bool
in_unit (Program m s b k d) n w a = false
in_unit (Erase u b d) n w a = same_memory w (memory_of u) and from_on b (unit_bytes u n) a
in_unit (Write r v) n w a = false

-- an operation lies outside the unit of another: the page of a program does (nothing else is asked)
abbrev pub outside : Operation → ℕ → Operation → Bool
outside e n (Program m s b k d) = not (in_unit e n m b)
outside e n (Erase u b d) = true
outside e n (Write r v) = true

-- and outside the suspended unit, where one is suspended
abbrev pub outside_of : Option Operation → ℕ → Operation → Bool
outside_of None n o = true
outside_of (Some e) n o = outside e n o

-- how many bytes of page data it keeps
abbrev pub kept_by : Operation → ℕ
kept_by (Program m s b k d) = k
kept_by (Erase u b d) = 0
kept_by (Write r v) = 0

-- what a tick reaches: nothing, a page of a memory that is set to FFh, or a place that is narrowed by a byte
pub data Touch : Type 0 where
  none : Touch
  blank : Memory → ℕ → Touch
  narrow : Memory → ℕ → ℕ → Touch

-- what an operation's next tick reaches, with the page data g. A program tick writes one kept byte, in order of arrival; an erase tick sets the next page, lowest first
abbrev pub next_touch : Operation → List ℕ → Touch
next_touch (Program m s b k d) g = narrow m (b + page_place s d) (get_or g d 0)
next_touch (Erase u b d) g = blank (memory_of u) (b + d * page_bytes)
next_touch (Write r v) g = none

-- a memory's bytes after a touch
abbrev pub touched : Memory → Touch → List ℕ → List ℕ
touched m none xs = xs
touched m (blank w b) xs = cond (same_memory m w) (page_erased xs b) xs
touched m (narrow w a d) xs = cond (same_memory m w) (narrowed xs a d) xs
