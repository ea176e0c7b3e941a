-- The checks of a vertex and of a face by their numbers and by counts, and that a record that is not at fault has none of them.
use Rattle.std.specs.Prelude.{Bool, false, ◌||◌, ◌≡◌, ℕ, leb, ltb, eqb}
use Rattle.answers.specs.Answering.{is_given}
use Rattle.meaning.specs.Limits.{coordinate_limit, vertex_limit, triangle_limit}
use Rattle.meaning.specs.Refusals.{Outcome, given}
use Rattle.meaning.specs.declared.SceneCounts.{SceneCounts}
use Rattle.meaning.specs.declared.Hundredths.{Hundredths}
use Rattle.text_line.specs.Judging.{FaultIs}

abbrev pub VertexFault : SceneCounts → Hundredths → Hundredths → Hundredths → Outcome (Unit {0}) → Type 0
VertexFault c x y z =
    FaultIs (ltb 0 c.edges || ltb 0 c.triangles || ltb 0 c.seams) (leb vertex_limit c.vertices)
    (ltb coordinate_limit x.size || ltb coordinate_limit y.size || ltb coordinate_limit z.size) false false

abbrev pub FaceFault : SceneCounts → ℕ → ℕ → ℕ → Outcome (Unit {0}) → Type 0
FaceFault c i j k =
    FaultIs (ltb 0 c.seams) (leb triangle_limit c.triangles) false
    (leb c.vertices i || leb c.vertices j || leb c.vertices k)
    (eqb i j || eqb i k || eqb j k)

pub record Faultless (late excess far unknown twice : Bool) : Type 0 where
  pub early : late ≡ false
  pub room : excess ≡ false
  pub near : far ≡ false
  pub known : unknown ≡ false
  pub once : twice ≡ false

pub faultless : {l x f u t : Bool} → FaultIs l x f u t (given tt) → Faultless l x f u t
faultless a =
    let (h1, a1) = is_given (λ t. Unit {0}) _ _ tt a in
    let (h2, a2) = is_given (λ t. Unit {0}) _ _ tt a1 in
    let (h3, a3) = is_given (λ t. Unit {0}) _ _ tt a2 in
    let (h4, a4) = is_given (λ t. Unit {0}) _ _ tt a3 in
    let (h5, a5) = is_given (λ t. Unit {0}) _ _ tt a4 in
    record { early = h1; room = h2; near = h3; known = h4; once = h5 }
