-- 'Played backwards' of document 02, for a scene without seams: 'swap start and end, number the vertices from last to first, and keep edges
-- and triangles in their places'. Here too: which pair and which piece of the scene turned round corresponds to which.
use Rattle.std.specs.Prelude.{ℕ, ◌*◌, ◌-◌, cond, List, [], ◌∷◌, ◌++◌, map, reverse, ◌≡◌, ltb, ℤ, pos, ◌-ℤ◌, drop, Result}
use Rattle.sequences.specs.Gather.{gather}
use Rattle.meaning.specs.Scene.{Scene, scene_of, vertex_count, start_of, end_of}
use Rattle.meaning.specs.Pieces.{Event, Piece}
use Rattle.meaning.specs.Refusals.{Outcome, given, refused, SceneChecked, outcome_alone}
use Rattle.meaning.specs.List.{Pair, pair}
use Rattle.meaning.specs.declared.Kind.{Kind}
use Rattle.meaning.specs.declared.Kind.TheVariants.{PointTriangle, EdgeEdge}
use Rattle.meaning.specs.declared.Refusal.{Refusal}

-- of n vertices numbered from last to first, the number of vertex v; a number that is no vertex's stays
abbrev pub from_last : ℕ → ℕ → ℕ
from_last n v = cond (ltb v n) (n - 1 - v) v

-- the six numbers of vertex v, its end before its start
abbrev pub end_first : Scene → ℕ → List ℤ
end_first s v =
    (end_of s v).x ∷ (end_of s v).y ∷ (end_of s v).z ∷ (start_of s v).x ∷ (start_of s v).y ∷ (start_of s v).z ∷ []

-- the scene turned round; what stands behind the last whole vertex, in a scene that 1 refuses, stays there
unfoldable pub turned_round : Scene → Scene
turned_round s =
    scene_of
    (gather (λ v. end_first s (from_last (vertex_count s) v)) 0 (vertex_count s) ++ drop (6 * vertex_count s) s.positions)
    (map (from_last (vertex_count s)) s.edges)
    (map (from_last (vertex_count s)) s.triangles)
    s.seams

-- the corresponding pair: a vertex has its new number, triangles and edges have their places
unfoldable pub first_turned : Scene → Kind → ℕ → ℕ
first_turned s PointTriangle v = from_last (vertex_count s) v
first_turned s EdgeEdge i = i

abbrev pub pair_turned : Scene → Pair → Pair
pair_turned s p = pair p.kind (first_turned s p.kind p.first) p.second

-- the corresponding piece: 0, 1, 2 of a pt pair are 2, 1, 0, and AA, AB, BA, BB of an ee pair are BB, BA, AB, AA
unfoldable pub piece_turned : Kind → ℕ → ℕ
piece_turned PointTriangle k = 2 - k
piece_turned EdgeEdge k = 3 - k

-- 'the same pieces under other numbers': the points of each simplex from last to first, each in its place at time 1 - t
abbrev pub time_turned : Event → Event
time_turned e = record { place = e.place; time = pos 1 -ℤ e.time }

abbrev pub played_back : Piece → Piece
played_back p =
    record { first = reverse (map time_turned p.first); second = reverse (map time_turned p.second) }

-- the lent scene after the call: turned round, or after a refusal as it was
unfoldable pub turned_left : {A : Type 0} → Outcome A → Scene → Scene
turned_left (given a) s = turned_round s
turned_left (refused n c) s = s

-- the scene s is turned round where it stands, and t stands there then
pub record Turning (s t : Scene) (r : Result (Unit {0}) Refusal) : Type 0 where
  pub answer : SceneChecked s r
  pub scene : t ≡ turned_left (outcome_alone r) s
