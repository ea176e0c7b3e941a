-- What is put into a draft for a vertex and for a face, and when it can be.
use Rattle.std.specs.Prelude.{Result, Ok, Err, false, ◌||◌, List, [], ◌∷◌, ◌++◌, ◌⊎◌, ◌≡◌, ℕ, ◌+◌, ◌-◌, ◌*◌, ◌/◌, ◌≤◌, ◌<◌, leb, ltb, ℤ, length, take}
use Rattle.std.proofs.Math.Logic.{inl, inr}
use Rattle.std.proofs.Math.Path.{refl}
use Rattle.std.proofs.Common.{sym, ap, ◌∙◌, length-take-le, leb-false, ltb-false}
use native.Mathlib.Omega.{arith}
use Rattle.sequences.specs.Wrote.{Wrote, wrote_then}
use Rattle.answers.specs.Below.{or_left, or_rest}
use Rattle.meaning.specs.Limits.{coordinate_limit, vertex_limit, edge_limit, triangle_limit}
use Rattle.meaning.specs.Refusals.{given, refused, number_of, outcome_alone}
use Rattle.meaning.specs.Text.{coordinates}
use Rattle.meaning.specs.declared.Refusal.{Refusal}
use Rattle.meaning.specs.declared.Refusal.TheVariants.{TooMany}
use Rattle.meaning.specs.declared.SceneCounts.{SceneCounts}
use Rattle.meaning.specs.ObjFile.{signed, place_at, with_sides}
use Rattle.meaning.specs.declared.Hundredths.{Hundredths}
use Rattle.text_line.specs.Above.{Bounded}
use Rattle.obj_edges.specs.Chains.{tabled, Knows}
use Rattle.obj_edges.specs.Sides.{Tabled, SidesAdded}
use Rattle.obj_records.specs.Faults.{VertexFault, FaceFault, faultless}

pub record Near (x y z : Hundredths) : Type 0 where
  pub first : x.size ≤ coordinate_limit
  pub second : y.size ≤ coordinate_limit
  pub third : z.size ≤ coordinate_limit

abbrev pub point_of : Hundredths → Hundredths → Hundredths → List ℤ
point_of x y z = signed x ∷ signed y ∷ signed z ∷ []

-- ---- a vertex

pub record VertexPut (c : SceneCounts) (x y z : Hundredths) (o o' : List ℤ) (k : SceneCounts) : Type 0 where
  pub good : VertexFault c x y z (given tt)
  pub put : Wrote o (6 * c.vertices) (coordinates (place_at x y z) (place_at x y z)) o' (6 * (c.vertices + 1))
  pub counts : k ≡ record { vertices = c.vertices + 1; edges = c.edges; triangles = c.triangles; seams = c.seams }

unfoldable pub VertexAdded : SceneCounts → Hundredths → Hundredths → Hundredths → List ℤ → List ℤ → Result SceneCounts Refusal → Type 0
VertexAdded c x y z o o' (Err f) = VertexFault c x y z (refused (number_of f) 0)
VertexAdded c x y z o o' (Ok k) = VertexPut c x y z o o' k

module _ (c : SceneCounts) (x y z : Hundredths) {j : Result (Unit {0}) Refusal} (judged : VertexFault c x y z (outcome_alone j)) where
  pub vertex_fault : {f : Refusal} (o o' : List ℤ) → j ≡ Err f → VertexAdded c x y z o o' (Err f)
  unfolding VertexAdded outcome_alone
  vertex_fault o o' e = rw e at judged

  good : j ≡ Ok tt → VertexFault c x y z (given tt)
  unfolding outcome_alone
  good e = rw e at judged

  pub vertex_near : j ≡ Ok tt → Near x y z
  vertex_near e =
      let h : ltb coordinate_limit x.size || ltb coordinate_limit y.size || ltb coordinate_limit z.size ≡ false = (faultless (good e)).near in
      record {
        first = ltb-false _ _ (search (or_left, or_rest));
        second = ltb-false _ _ (search (or_left, or_rest));
        third = ltb-false _ _ (search (or_left, or_rest));
      }

  pub vertex_place : j ≡ Ok tt → c.vertices < vertex_limit
  vertex_place e = leb-false _ _ (faultless (good e)).room

  pub vertex_put : {o o₁ o₂ : List ℤ} → j ≡ Ok tt → Wrote o (6 * c.vertices) (point_of x y z) o₁ (6 * c.vertices + 3)
      → Wrote o₁ (6 * c.vertices + 3) (point_of x y z) o₂ (6 * c.vertices + 3 + 3)
      → VertexAdded c x y z o o₂ (Ok (record { vertices = c.vertices + 1; edges = c.edges; triangles = c.triangles; seams = c.seams }))
  unfolding VertexAdded
  vertex_put {o} {o₁} {o₂} e u v =
      let six : 6 * c.vertices + 3 + 3 ≡ 6 * (c.vertices + 1) = omega arith in
      let w : Wrote o (6 * c.vertices) (point_of x y z ++ point_of x y z) o₂ (6 * c.vertices + 3 + 3) = wrote_then u v in
      record { good = good e; put = rw six at w; counts = refl }

-- ---- a face

pub record Positive (a b d : ℕ) : Type 0 where
  pub first : 0 < a
  pub second : 0 < b
  pub third : 0 < d

-- room for every face, for three edges more than there may be, and for their table
pub record FaceRoom (edges triangles : List ℕ) : Type 0 where
  pub sides : tabled ≤ length edges
  pub corners : 3 * triangle_limit ≤ length triangles

abbrev pub sides_with : SceneCounts → List ℕ → ℕ → ℕ → ℕ → List ℕ
sides_with c e a b d = with_sides (take (2 * c.edges) e) (a - 1) (b - 1) (d - 1)

pub record FaceOver (c : SceneCounts) (a b d : ℕ) (e : List ℕ) (n : ℕ) : Type 0 where
  pub good : FaceFault c (a - 1) (b - 1) (d - 1) (given tt)
  pub number : n ≡ 11
  pub over : edge_limit < length (sides_with c e a b d) / 2

pub record FacePut (c : SceneCounts) (a b d : ℕ) (e t e' t' : List ℕ) (k : SceneCounts) : Type 0 where
  pub good : FaceFault c (a - 1) (b - 1) (d - 1) (given tt)
  pub sides : take (2 * k.edges) e' ≡ sides_with c e a b d
  pub long : length (sides_with c e a b d) ≡ 2 * k.edges
  pub within : k.edges ≤ edge_limit
  pub knows : Knows e' k.edges
  pub put : Wrote t (3 * c.triangles) ((a - 1) ∷ (b - 1) ∷ (d - 1) ∷ []) t' (3 * (c.triangles + 1))
  pub counts : k ≡ record { vertices = c.vertices; edges = k.edges; triangles = c.triangles + 1; seams = c.seams }

unfoldable pub FaceAdded : SceneCounts → ℕ → ℕ → ℕ → List ℕ → List ℕ → List ℕ → List ℕ → Result SceneCounts Refusal → Type 0
FaceAdded c a b d e t e' t' (Err f) =
    FaceFault c (a - 1) (b - 1) (d - 1) (refused (number_of f) 0) ⊎ FaceOver c a b d e (number_of f)
FaceAdded c a b d e t e' t' (Ok k) = FacePut c a b d e t e' t' k

module _ (c : SceneCounts) (a b d : ℕ) {j : Result (Unit {0}) Refusal} (judged : FaceFault c (a - 1) (b - 1) (d - 1) (outcome_alone j)) where
  pub face_fault : {f : Refusal} (e t e' t' : List ℕ) → j ≡ Err f → FaceAdded c a b d e t e' t' (Err f)
  unfolding FaceAdded outcome_alone
  face_fault {f} e t e' t' q =
      let h : FaceFault c (a - 1) (b - 1) (d - 1) (refused (number_of f) 0) = rw q at judged in
      inl h

  face_good : j ≡ Ok tt → FaceFault c (a - 1) (b - 1) (d - 1) (given tt)
  unfolding outcome_alone
  face_good q = rw q at judged

  pub face_place : j ≡ Ok tt → c.triangles < triangle_limit
  face_place q = leb-false _ _ (faultless (face_good q)).room

  pub face_known : j ≡ Ok tt → (a - 1 < c.vertices) × (b - 1 < c.vertices) × (d - 1 < c.vertices)
  face_known q =
      let h : leb c.vertices (a - 1) || leb c.vertices (b - 1) || leb c.vertices (d - 1) ≡ false = (faultless (face_good q)).known in (
        leb-false _ _ (search (or_left, or_rest)),
        leb-false _ _ (search (or_left, or_rest)),
        leb-false _ _ (search (or_left, or_rest)),
      )

  pub sides_ready : {e : List ℕ} → Bounded c → tabled ≤ length e → Knows e c.edges → j ≡ Ok tt
      → Tabled e c.edges edge_limit × ((a - 1 < vertex_limit) × (b - 1 < vertex_limit) × (d - 1 < vertex_limit))
  sides_ready bounded room known q =
      let (u, v, w) = face_known q in (
        record { knows = known; few = bounded.edges; room = room },
        (omega (arith, u, bounded.vertices), omega (arith, v, bounded.vertices), omega (arith, w, bounded.vertices)),
      )

  module _ {e e' : List ℕ} {count : ℕ} (bounded : Bounded c) (room : tabled ≤ length e) (q : j ≡ Ok tt)
      (sides : SidesAdded (a - 1) (b - 1) (d - 1) e c.edges e' count) where
    counted : length (sides_with c e a b d) ≡ 2 * count
    counted =
        ap (length {A = ℕ}) (sym sides.front)
        ∙ length-take-le (2 * count) e' (omega (arith, sides.more, sides.same, bounded.edges, room))

    pub face_over : (t t' : List ℕ) → edge_limit < count → FaceAdded c a b d e t e' t' (Err TooMany)
    unfolding FaceAdded number_of
    face_over t t' h = inr (record { good = face_good q; number = refl; over = omega (arith, counted) })

    pub face_put : {t t' : List ℕ} → count ≤ edge_limit → Wrote t (3 * c.triangles) ((a - 1) ∷ (b - 1) ∷ (d - 1) ∷ []) t' (3 * c.triangles + 3)
        → FaceAdded c a b d e t e' t' (Ok (record { vertices = c.vertices; edges = count; triangles = c.triangles + 1; seams = c.seams }))
    unfolding FaceAdded
    face_put {t} {t'} h w =
        let three : 3 * c.triangles + 3 ≡ 3 * (c.triangles + 1) = omega arith in
        record { good = face_good q; sides = sides.front; long = counted; within = h; knows = sides.knows; put = rw three at w; counts = refl }
