-- Why a call is refused, or a command ignored, and the number that it then answers.
use Rattle.std.specs.Prelude.{ℕ, Result, Ok, Err}
use Rattle.types.specs.declared.Refusal.{Refusal}
use Rattle.types.specs.declared.Refusal.TheVariants.{Size, Rows, Input, Output, Record, Ticks, Lists, Unknown, Asleep, Busy, Suspended, Length, OutOfTurn, NotEnabled, NoSuchRow, Protected, Wear, Map, Page, Image}

abbrev pub number : Refusal → ℕ
number Size = 1
number Rows = 2
number Input = 3
number Output = 4
number Record = 5
number Ticks = 6
number Lists = 7
number Unknown = 20
number Asleep = 21
number Busy = 22
number Suspended = 23
number Length = 24
number OutOfTurn = 25
number NotEnabled = 26
number NoSuchRow = 27
number Protected = 28
number Wear = 35
number Map = 36
number Page = 37
number Image = 38

-- the number of what tests say: 0 where they refuse nothing
abbrev pub number_of : Result (Unit {0}) Refusal → ℕ
number_of (Ok u) = 0
number_of (Err r) = number r
