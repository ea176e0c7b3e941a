-- 'Sizes' of document 01, the coordinates by document 02, §13. Each limit stands here once, and everything else names it.
use Rattle.std.specs.Prelude.{ℕ, ◌^◌}

abbrev pub coordinate_limit : ℕ
coordinate_limit = 524_287

-- contacts are given in the range that coordinates had at first
abbrev pub contact_limit : ℕ
contact_limit = 262_143

abbrev pub vertex_limit : ℕ
vertex_limit = 512

abbrev pub edge_limit : ℕ
edge_limit = 1_024

abbrev pub triangle_limit : ℕ
triangle_limit = 512

-- the seams that a scene has room for
abbrev pub seam_limit : ℕ
seam_limit = 512

-- a mesh has at most 2^30 parts of each kind, so that rows times parts stay below 2^63
abbrev pub part_limit : ℕ
part_limit = 1_073_741_824

abbrev pub text_limit : ℕ
text_limit = 32_768

-- a number in a text is one to nine digits
abbrev pub digit_limit : ℕ
digit_limit = 9

-- the pairs that the report program has room for
abbrev pub report_room : ℕ
report_room = 3_072

-- a weight of a claim is one to thirteen digits, and at most 2^40
abbrev pub weight_digits : ℕ
weight_digits = 13

abbrev pub weight_limit : ℕ
weight_limit = 2 ^ 40

-- the answers that the program of claims has room for
abbrev pub claim_room : ℕ
claim_room = 2_048
