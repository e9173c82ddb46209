-- The version of what C links: header, record and answers together. The base is 1.0, and every change of one of the three counts up the number behind the point.
use Rattle.std.specs.Prelude.{ℕ, ◌+◌, ◌*◌}

abbrev pub major : ℕ
major = 1

abbrev pub minor : ℕ
minor = 9

-- both in one number
abbrev pub version : ℕ
version = 1000 * major + minor
