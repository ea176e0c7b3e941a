-- How large the numbers of this crate can be, from the limit of a coordinate on.
use Rattle.std.specs.Prelude.{ℕ, ◌+◌, ◌*◌, ◌^◌}
use Rattle.meaning.specs.Limits.{coordinate_limit}

abbrev pub difference_limit : ℕ
difference_limit = coordinate_limit + coordinate_limit

-- a determinant of differences, by its value (`Largest.largest`): its six products, one by one, would allow 6 difference_limit ^ 3
abbrev pub determinant_limit : ℕ
determinant_limit = 4 * difference_limit ^ 3
