-- How much the program of contacts holds: a buffer that the lines of any contacts fit.
use Rattle.std.specs.Prelude.{ℕ}

abbrev pub contacts_length : ℕ
contacts_length = 147_456
