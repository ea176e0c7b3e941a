-- What the judge of a record promises, and how the tests of the code are those of the definition.
use Rattle.std.specs.Prelude.{Result, Ok, Err, Bool, true, false, ◌||◌, ◌≡◌, refl, ℕ, ltb, eqb, get_or}
use mathlib.Core.List.{List, [], ◌∷◌}
use Rattle.std.proofs.Common.{arith}
use Rattle.std.proofs.Math.Dec.{leb}
use Rattle.std.proofs.Math.IntN.{ℤ, pos}
use Rattle.whole.specs.Vector.{Vector}
use Rattle.meaning.specs.Limits.{coordinate_limit, vertex_limit, edge_limit, triangle_limit, seam_limit}
use Rattle.meaning.specs.Scene.{Scene, over_size, out_of_range, unknown_vertex, broken_seam, repeated_vertex}
use Rattle.meaning.specs.Refusals.{Outcome, given, refused, Answers, number_of}
use Rattle.meaning.specs.Text.{Entry, vertex, edge, triangle, seam, coordinates, numbers_of, late, scene_with, EntryJudged}
use Rattle.meaning.specs.declared.SceneCounts.{SceneCounts}
use Rattle.text_fields.specs.Tabbed.{SizedAs, sized_at}
use Rattle.text_line.specs.Reading.{sort_of}
use Rattle.text_line.specs.Above.{Above}
use Rattle.text_line.specs.Checks.{Comes, comes_vertex, comes_edge, comes_triangle, SeamComes, comes_seam}
use Rattle.text_line.specs.declared.Sort.{Sort}
use Rattle.text_line.specs.declared.Sort.TheVariants.{Vertex, Edge, Triangle, Seam}
use Rattle.meaning.specs.declared.Refusal.{Refusal}

-- the checks of a record but 15, by what they found; and with it
abbrev pub FaultIs : Bool → Bool → Bool → Bool → Bool → Outcome (Unit {0}) → Type 0
FaultIs late excess far unknown twice =
    Answers
    (record { number = 10; holds = late; carries = 0 }
    ∷ record { number = 11; holds = excess; carries = 0 }
    ∷ record { number = 2; holds = far; carries = 0 }
    ∷ record { number = 3; holds = unknown; carries = 0 }
    ∷ record { number = 4; holds = twice; carries = 0 }
    ∷ [])
    (λ t. Unit {0})

abbrev pub SixAre : Bool → Bool → Bool → Bool → Bool → Bool → Outcome (Unit {0}) → Type 0
SixAre late excess far unknown broken twice =
    Answers
    (record { number = 10; holds = late; carries = 0 }
    ∷ record { number = 11; holds = excess; carries = 0 }
    ∷ record { number = 2; holds = far; carries = 0 }
    ∷ record { number = 3; holds = unknown; carries = 0 }
    ∷ record { number = 15; holds = broken; carries = 0 }
    ∷ record { number = 4; holds = twice; carries = 0 }
    ∷ [])
    (λ t. Unit {0})

abbrev pub far_in : List ℕ → Bool
far_in l =
    ltb coordinate_limit (get_or l 0 0) || ltb coordinate_limit (get_or l 1 0) || ltb coordinate_limit (get_or l 2 0)
    || ltb coordinate_limit (get_or l 3 0)
    || ltb coordinate_limit (get_or l 4 0)
    || ltb coordinate_limit (get_or l 5 0)

-- a seam that no check before 15 refuses
pub record SeamBegun (s : Scene) (i j : ℕ) : Type 0 where
  pub room : over_size (scene_with s (seam i j)) ≡ false
  pub near : out_of_range (scene_with s (seam i j)) ≡ false
  pub known : unknown_vertex (scene_with s (seam i j)) ≡ false

unfoldable pub SeamJudging : Scene → ℕ → ℕ → Outcome (Unit {0}) → Type 0
SeamJudging s i j (given t) = SeamBegun s i j
SeamJudging s i j (refused n k) = EntryJudged s (seam i j) (refused n k)

-- what is promised of a record: of a seam up to 3
unfoldable pub Begun : Scene → Entry → Outcome (Unit {0}) → Type 0
Begun s (vertex p q) o = EntryJudged s (vertex p q) o
Begun s (edge i j) o = EntryJudged s (edge i j) o
Begun s (triangle i j k) o = EntryJudged s (triangle i j k) o
Begun s (seam i j) o = SeamJudging s i j o

-- whatever record of this kind has these sizes is judged so, below any scene with these counts
unfoldable pub Judging : Sort → SceneCounts → List ℕ → Outcome (Unit {0}) → Type 0
Judging Vertex c l o = (s : Scene) → Above s c → (p q : Vector) → SizedAs (coordinates p q) l → Begun s (vertex p q) o
Judging Edge c l o = (s : Scene) → Above s c → (i j : ℕ) → SizedAs (pos i ∷ pos j ∷ []) l → Begun s (edge i j) o
Judging Triangle c l o = (s : Scene) → Above s c → (i j k : ℕ) → SizedAs (pos i ∷ pos j ∷ pos k ∷ []) l → Begun s (triangle i j k) o
Judging Seam c l o = (s : Scene) → Above s c → (i j : ℕ) → SizedAs (pos i ∷ pos j ∷ []) l → Begun s (seam i j) o

-- a refusal is the record's
pub begun_refused : (s : Scene) (n k : ℕ) (r : Entry) → Begun s r (refused n k) → EntryJudged s r (refused n k)
unfolding Begun SeamJudging
begun_refused s n m (vertex p q) b = b
begun_refused s n m (edge i j) b = b
begun_refused s n m (triangle i j k) b = b
begun_refused s n m (seam i j) b = b

-- ---- from what the checks come to

-- 10 before the rest: of a late record nothing more is asked
six_by : (o : Outcome (Unit {0})) (l x f u b t l' x' f' u' t' : Bool) → l ≡ l' → x ≡ x' → f ≡ f' → u ≡ u' → (l' ≡ false → b ≡ false) → (l' ≡ false → t ≡ t')
    → FaultIs l' x' f' u' t' o → SixAre l x f u b t o
unfolding Answers
six_by o l x f u b t true x' f' u' t' el ex ef eu eb et a = rw el a
six_by o l x f u b t false x' f' u' t' el ex ef eu eb et a = rw (el, ex, ef, eu, eb refl, et refl) a

judged_by : {s : Scene} {r : Entry} {l x f u t : Bool} (o : Outcome (Unit {0})) → Comes s r l x f u t → FaultIs l x f u t o → EntryJudged s r o
judged_by {s} {r} {l} {x} {f} {u} {t} o k a =
    six_by o (late s r) (over_size (scene_with s r)) (out_of_range (scene_with s r)) (unknown_vertex (scene_with s r)) (broken_seam (scene_with s r))
    (repeated_vertex (scene_with s r)) l x f u t k.late k.over k.range k.known k.sewn k.twice a

-- of a seam the rest is still to be asked
seam_by : (s : Scene) (i j : ℕ) (o : Outcome (Unit {0})) (x u : Bool) → over_size (scene_with s (seam i j)) ≡ x
    → out_of_range (scene_with s (seam i j)) ≡ false
    → unknown_vertex (scene_with s (seam i j)) ≡ u
    → FaultIs false x false u false o
    → SeamJudging s i j o
unfolding Answers SeamJudging late
seam_by s i j (given t) true u ex ef eu a = let z : ◌≡◌ {A = ℕ} 0 1 = cc in absurd (omega arith)
seam_by s i j (given t) false true ex ef eu a = let z : ◌≡◌ {A = ℕ} 0 1 = cc in absurd (omega arith)
seam_by s i j (given t) false false ex ef eu a = record { room = ex; near = ef; known = eu }
seam_by s i j (refused n k) true u ex ef eu a = rw ex a
seam_by s i j (refused n k) false true ex ef eu a = rw (ex, ef, eu) a
seam_by s i j (refused n k) false false ex ef eu a = absurd a

module _ (c : SceneCounts) (l : List ℕ) (o : Outcome (Unit {0})) where
  by_entry : (r : Entry) → Judging (sort_of r) c l o → (s : Scene) → Above s c → SizedAs (numbers_of r) l → Begun s r o
  unfolding Judging sort_of numbers_of
  by_entry (vertex p q) j s a e = j s a p q e
  by_entry (edge i k) j s a e = j s a i k e
  by_entry (triangle i k d) j s a e = j s a i k d e
  by_entry (seam i k) j s a e = j s a i k e

  pub entry_begun : {sort : Sort} (r : Entry) → sort_of r ≡ sort → SizedAs (numbers_of r) l → Judging sort c l o
      → (s : Scene) → Above s c → Begun s r o
  entry_begun r e sized j s a = by_entry r (rw e j) s a sized

  -- from the tests of the code
  pub judges_vertex : {f : Bool} → f ≡ far_in l
      → FaultIs (ltb 0 c.edges || ltb 0 c.triangles || ltb 0 c.seams) (leb vertex_limit c.vertices) f false false o
      → Judging Vertex c l o
  unfolding Judging Begun
  judges_vertex {f} is a s above p q sized =
      let zs : List ℤ = coordinates p q in
      judged_by o (comes_vertex above p q) (rw (
        is,
        sized_at zs l 0 sized (omega arith),
        sized_at zs l 1 sized (omega arith),
        sized_at zs l 2 sized (omega arith),
        sized_at zs l 3 sized (omega arith),
        sized_at zs l 4 sized (omega arith),
        sized_at zs l 5 sized (omega arith),
      ) at a)

  pub judges_edge : FaultIs (ltb 0 c.triangles || ltb 0 c.seams) (leb edge_limit c.edges) false
      (leb c.vertices (get_or l 0 0) || leb c.vertices (get_or l 1 0)) (eqb (get_or l 0 0) (get_or l 1 0)) o → Judging Edge c l o
  unfolding Judging Begun
  judges_edge a s above i j sized =
      let zs : List ℤ = pos i ∷ pos j ∷ [] in
      judged_by o (comes_edge above i j) (rw (sized_at zs l 0 sized (omega arith), sized_at zs l 1 sized (omega arith)) at a)

  pub judges_triangle : FaultIs (ltb 0 c.seams) (leb triangle_limit c.triangles) false
      (leb c.vertices (get_or l 0 0) || leb c.vertices (get_or l 1 0) || leb c.vertices (get_or l 2 0))
      (eqb (get_or l 0 0) (get_or l 1 0) || eqb (get_or l 0 0) (get_or l 2 0) || eqb (get_or l 1 0) (get_or l 2 0)) o → Judging Triangle c l o
  unfolding Judging Begun
  judges_triangle a s above i j k sized =
      let zs : List ℤ = pos i ∷ pos j ∷ pos k ∷ [] in
      judged_by o (comes_triangle above i j k)
      (rw (sized_at zs l 0 sized (omega arith), sized_at zs l 1 sized (omega arith), sized_at zs l 2 sized (omega arith)) at a)

  pub judges_seam : FaultIs false (leb seam_limit c.seams) false (leb c.vertices (get_or l 0 0) || leb c.vertices (get_or l 1 0)) false o
      → Judging Seam c l o
  unfolding Judging Begun
  judges_seam a s above i j sized =
      let zs : List ℤ = pos i ∷ pos j ∷ [] in
      let k : SeamComes above i j = comes_seam above i j in
      seam_by s i j o (leb seam_limit c.seams) (leb c.vertices i || leb c.vertices j) k.over k.range k.known
      (rw (sized_at zs l 0 sized (omega arith), sized_at zs l 1 sized (omega arith)) at a)
