-- How much the report program holds: a list and its verdicts, no more than its room, and a buffer that every report fits.
use Rattle.std.specs.Prelude.{ℕ, ◌≤◌, ◌<◌, List, length, get_or}
use Rattle.meaning.specs.Limits.{report_room}
use Rattle.meaning.specs.List.{room_of}
use Rattle.list_words.specs.Listed.{WordByte}

abbrev pub report_length : ℕ
report_length = 65_536

-- the first `count` bytes each stand for a word
pub record Words (verdicts : List ℕ) (count : ℕ) : Type 0 where
  pub there : count ≤ length verdicts
  pub at : (k : ℕ) → k < count → WordByte (get_or verdicts k 0)

-- the first `count` entries of a list and their verdicts
pub record Held (list verdicts : List ℕ) (count : ℕ) : Type 0 where
  pub few : count ≤ report_room
  pub entries : count ≤ room_of list
  pub judged : Words verdicts count
