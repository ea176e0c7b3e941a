-- A scene: a mesh at two times, start and end. Vertices have whole-number positions, edges and triangles go by vertex number, and a
-- seam says that one vertex stands for another (document 02, §6).
-- Here too: what refusals 1, 2, 3, 15 and 4 say, each of the whole scene.
use Rattle.std.specs.Prelude.{ℕ, zero, suc, pred, ◌+◌, ◌*◌, ◌/◌, ◌%◌, Bool, false, not, cond, ◌||◌, ◌&&◌, List, [], ◌∷◌, ◌≡◌, leb, ltb, eqb, ℤ, pos, nat_abs, length, get_or}
use Rattle.std.specs.Int.Signed.{lt_z}
use Rattle.whole.specs.Vector.{Vector}
use Rattle.meaning.specs.Limits.{coordinate_limit, vertex_limit, edge_limit, triangle_limit, seam_limit}
use Rattle.meaning.specs.declared.Ends.{Ends}
use Rattle.meaning.specs.declared.Corners.{Corners}

-- six numbers a vertex (start x y z, end x y z), two vertex numbers an edge, three a triangle, two a seam
pub record Scene : Type 0 where
  pub positions : List ℤ
  pub edges : List ℕ
  pub triangles : List ℕ
  pub seams : List ℕ

abbrev pub scene_of : List ℤ → List ℕ → List ℕ → List ℕ → Scene
scene_of p e t w = record { positions = p; edges = e; triangles = t; seams = w }

-- the scene of a call that looks at no seam, as it would be without any
abbrev pub unsewn_of : List ℤ → List ℕ → List ℕ → Scene
unsewn_of p e t = scene_of p e t []

abbrev pub vertex_count : Scene → ℕ
vertex_count s = length s.positions / 6

abbrev pub edge_count : Scene → ℕ
edge_count s = length s.edges / 2

abbrev pub triangle_count : Scene → ℕ
triangle_count s = length s.triangles / 3

abbrev pub seam_count : Scene → ℕ
seam_count s = length s.seams / 2

-- the vector whose x stands at place i
abbrev pub vector_at : List ℤ → ℕ → Vector
vector_at l i = record { x = get_or l i (pos 0); y = get_or l (i + 1) (pos 0); z = get_or l (i + 2) (pos 0) }

abbrev pub start_of : Scene → ℕ → Vector
start_of s v = vector_at s.positions (6 * v)

abbrev pub end_of : Scene → ℕ → Vector
end_of s v = vector_at s.positions (6 * v + 3)

-- end k, 0 or 1, of edge j, and corner k, 0 to 2, of triangle j, as the scene writes them
abbrev pub edge_end : Scene → ℕ → ℕ → ℕ
edge_end s j k = get_or s.edges (2 * j + k) 0

abbrev pub corner : Scene → ℕ → ℕ → ℕ
corner s j k = get_or s.triangles (3 * j + k) 0

-- seam k says that its first vertex stands for its second
abbrev pub sewn : Scene → ℕ → ℕ
sewn s k = get_or s.seams (2 * k) 0

abbrev pub onto : Scene → ℕ → ℕ
onto s k = get_or s.seams (2 * k + 1) 0

-- the vertex that v stands for: the one that a seam says, else v itself
unfoldable pub stood_for : List ℕ → ℕ → ℕ
stood_for [] v = v
stood_for (i ∷ []) v = v
stood_for (i ∷ j ∷ w) v = cond (eqb i v) j (stood_for w v)

-- where vertices are compared, for sharing and for the order of corners, the vertices stood for are
abbrev pub counts_as : Scene → ℕ → ℕ
counts_as s v = stood_for s.seams v

abbrev pub same : Scene → ℕ → ℕ → Bool
same s a b = eqb (counts_as s a) (counts_as s b)

abbrev pub before : Scene → ℕ → ℕ → Bool
before s a b = ltb (counts_as s a) (counts_as s b)

-- two vertices, the lower first by the vertex stood for; and a third put in its place among them
abbrev pub rising : Scene → ℕ → ℕ → Ends
rising s a b = cond (before s b a) (record { low = b; high = a }) (record { low = a; high = b })

abbrev pub among : Scene → Ends → ℕ → Corners
among s e c =
    cond (before s c e.low) (record { low = c; middle = e.low; high = e.high })
    (cond (before s c e.high) (record { low = e.low; middle = c; high = e.high })
    (record { low = e.low; middle = e.high; high = c }))

-- the ends of edge j and the corners of triangle j, in rising number of the vertex stood for
abbrev pub ends_of : Scene → ℕ → Ends
ends_of s j = rising s (edge_end s j 0) (edge_end s j 1)

abbrev pub corners_of : Scene → ℕ → Corners
corners_of s j = among s (rising s (corner s j 0) (corner s j 1)) (corner s j 2)

-- some number below n passes the test
unfoldable pub some_below : ℕ → (ℕ → Bool) → Bool
some_below zero test = false
some_below (suc n) test = some_below n test || test n

-- 1: positions not a multiple of 6 long, edges of 2, triangles of 3, seams of 2, or a count over its size
abbrev pub uneven : Scene → Bool
uneven s =
    not (eqb (length s.positions % 6) 0) || not (eqb (length s.edges % 2) 0)
    || not (eqb (length s.triangles % 3) 0)
    || not (eqb (length s.seams % 2) 0)

abbrev pub over_size : Scene → Bool
over_size s =
    ltb vertex_limit (vertex_count s) || ltb edge_limit (edge_count s) || ltb triangle_limit (triangle_count s)
    || ltb seam_limit (seam_count s)

abbrev pub wrong_shape : Scene → Bool
wrong_shape s = uneven s || over_size s

-- larger than B in size: a number, and some coordinate of the scene
abbrev pub beyond : ℕ → ℤ → Bool
beyond B z = ltb B (nat_abs z)

abbrev pub reaches_beyond : ℕ → Scene → Bool
reaches_beyond B s = some_below (length s.positions) (λ i. beyond B (get_or s.positions i (pos 0)))

-- 2: a coordinate outside its range
abbrev pub outside : ℤ → Bool
outside z = beyond coordinate_limit z

abbrev pub out_of_range : Scene → Bool
out_of_range s = reaches_beyond coordinate_limit s

-- 3: a vertex number not below the vertex count
abbrev pub unknown_in : ℕ → List ℕ → Bool
unknown_in n l = some_below (length l) (λ i. leb n (get_or l i 0))

abbrev pub unknown_vertex : Scene → Bool
unknown_vertex s =
    unknown_in (vertex_count s) s.edges || unknown_in (vertex_count s) s.triangles || unknown_in (vertex_count s) s.seams

-- 15: seams not in rising first vertex, each once; one that stands for no lower vertex, or for one that is itself replaced; or two
-- vertices that are apart at the start or at the end
abbrev pub not_rising : Scene → ℕ → Bool
not_rising s k = ltb 0 k && leb (sewn s k) (sewn s (pred k))

abbrev pub replaced : Scene → ℕ → Bool
replaced s v = some_below (seam_count s) (λ k. eqb (sewn s k) v)

abbrev pub differ : ℤ → ℤ → Bool
differ y z = lt_z y z || lt_z z y

-- one of the six coordinates of a is not that of b
abbrev pub comes_apart : Scene → ℕ → ℕ → Bool
comes_apart s a b = some_below 6 (λ i. differ (get_or s.positions (6 * a + i) (pos 0)) (get_or s.positions (6 * b + i) (pos 0)))

abbrev pub wrong_seam : Scene → ℕ → Bool
wrong_seam s k =
    not_rising s k || leb (sewn s k) (onto s k) || replaced s (onto s k) || comes_apart s (sewn s k) (onto s k)

abbrev pub broken_seam : Scene → Bool
broken_seam s = some_below (seam_count s) (wrong_seam s)

-- 4: a vertex twice in one edge or triangle, by the vertex stood for
abbrev pub twice_in_edge : Scene → ℕ → Bool
twice_in_edge s j = same s (edge_end s j 0) (edge_end s j 1)

abbrev pub twice_in_triangle : Scene → ℕ → Bool
twice_in_triangle s j =
    same s (corner s j 0) (corner s j 1) || same s (corner s j 0) (corner s j 2) || same s (corner s j 1) (corner s j 2)

abbrev pub repeated_vertex : Scene → Bool
repeated_vertex s = some_below (edge_count s) (twice_in_edge s) || some_below (triangle_count s) (twice_in_triangle s)

-- a scene that none of the five refuses, if the range of a coordinate is -B to B
pub record AcceptedWithin (B : ℕ) (s : Scene) : Type 0 where
  pub shapely : wrong_shape s ≡ false
  pub in_range : reaches_beyond B s ≡ false
  pub known : unknown_vertex s ≡ false
  pub sewn_well : broken_seam s ≡ false
  pub distinct : repeated_vertex s ≡ false

-- a scene that none of the five refuses
abbrev pub Accepted : Scene → Type 0
Accepted s = AcceptedWithin coordinate_limit s
