-- The bytes that hold the lines of any series: 64 of at most 70, and 256 for those behind them.
use Rattle.std.specs.Prelude.{ℕ}

abbrev pub series_length : ℕ
series_length = 4_736
