-- The list of pairs, in order, its entries in a lent buffer, and what making it promises.
use Rattle.std.specs.Prelude.{ℕ, ◌+◌, ◌*◌, ◌^◌, List, [], ◌∷◌, ◌++◌, map, ◌≡◌, length, Result}
use Rattle.sequences.specs.Gather.{gather}
use Rattle.sequences.specs.Chosen.{chosen}
use Rattle.sequences.specs.Wrote.{written}
use Rattle.meaning.specs.Scene.{Scene, vertex_count, edge_count, triangle_count}
use Rattle.meaning.specs.Boxes.{listed}
use Rattle.meaning.specs.Refusals.{Outcome, given, refused, Check, Answers, scene_checks, room_check, outcome_of}
use Rattle.meaning.specs.declared.Kind.{Kind}
use Rattle.meaning.specs.declared.Kind.TheVariants.{PointTriangle, EdgeEdge}
use Rattle.meaning.specs.declared.Refused.{Refused}

pub record Pair : Type 0 where
  pub kind : Kind
  pub first : ℕ
  pub second : ℕ

abbrev pub pair : Kind → ℕ → ℕ → Pair
pair k i j = record { kind = k; first = i; second = j }

-- pt by vertex then triangle, then ee by first then second edge, first below second
abbrev pub pairs_of_vertex : Scene → ℕ → List Pair
pairs_of_vertex s v = chosen (listed s PointTriangle v) (pair PointTriangle v) 0 (triangle_count s)

abbrev pub pairs_of_edge : Scene → ℕ → List Pair
pairs_of_edge s i = chosen (listed s EdgeEdge i) (pair EdgeEdge i) (i + 1) (edge_count s)

unfoldable pub pairs : Scene → List Pair
unfolding gather
pairs s = gather (pairs_of_vertex s) 0 (vertex_count s) ++ gather (pairs_of_edge s) 0 (edge_count s)

-- an entry is one u32: 2^20 for ee or 0 for pt, plus 2^10 times the first place, plus the second. Its numbers stand here once
abbrev pub place_step : ℕ
place_step = 2 ^ 10

abbrev pub kind_step : ℕ
kind_step = place_step * place_step

-- no pair has this number or one above it
abbrev pub no_number : ℕ
no_number = 2 * kind_step

unfoldable pub kind_part : Kind → ℕ
kind_part PointTriangle = 0
kind_part EdgeEdge = kind_step

unfoldable pub number : Pair → ℕ
number p = kind_part p.kind + place_step * p.first + p.second

abbrev pub entries : List Pair → List ℕ
entries ps = map number ps

-- room is the lent length
abbrev pub room_of : List ℕ → ℕ
room_of o = length o

-- 1 to 4, then 7: more listed pairs than room; it carries the count needed
abbrev pub list_checks : Scene → ℕ → List Check
list_checks s room =
    scene_checks s
    ++ (room_check room (length (pairs s)) ∷ [])

-- a buffer after the call: what is given stands in front and the rest is unchanged; after a refusal nothing changed
unfoldable pub leaves : {A : Type 0} → Outcome A → List ℕ → List ℕ → List ℕ
leaves (given a) l o = written l o
leaves (refused n c) l o = o

-- the pairs are counted
abbrev pub Counted : Scene → Result ℕ Refused → Type 0
Counted s r = Answers (scene_checks s) (λ n. n ≡ length (pairs s)) (outcome_of r)

-- the list is made in a lent buffer that held o and holds o'
pub record Listing (s : Scene) (o o' : List ℕ) (r : Result ℕ Refused) : Type 0 where
  pub answer : Answers (list_checks s (room_of o)) (λ n. n ≡ length (pairs s)) (outcome_of r)
  pub buffer : o' ≡ leaves (outcome_of r) (entries (pairs s)) o
