-- Of a text that is a series with room for every step: its rows are the log of that series, and its number the count of the last step's list.
use Rattle.std.specs.Prelude.{ℕ, ◌≡◌, length}
use mathlib.Core.List.{List}
use Rattle.sequences.specs.Wrote.{written}
use Rattle.meaning.specs.List.{pairs}
use Rattle.meaning.specs.Series.{Series, steps_of, last_step, hits_of, log_of, StepsSettled}
use Rattle.meaning.specs.declared.Settled.{Settled}
use Rattle.series_demands.specs.Heard.{hit_rows, hits_of_rows}

-- with the words of the listed pairs of each step
pub record LogHeard (x : Series) (rows rows' : List ℕ) (r : ℕ) : Type 0 where
  pub words : List (List Settled)
  pub settled : StepsSettled (steps_of x) words
  pub log : rows' ≡ written (hit_rows (log_of (hits_of x words))) rows
  pub again : hits_of_rows (length (log_of (hits_of x words))) rows' ≡ log_of (hits_of x words)
  pub number : r ≡ length (pairs (last_step x))
