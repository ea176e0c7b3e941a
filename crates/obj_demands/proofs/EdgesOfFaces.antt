-- Each side of each face of a file that is read is among the edges of its scene.
use Rattle.std.specs.Prelude.{ℕ, zero, suc, ◌+◌, ◌*◌, ◌/◌, ◌<◌, ◌≡◌, refl, length, get_or}
use Rattle.std.proofs.Common.{sym, subst, arith}
use mathlib.Core.List.{List, [], ◌∷◌}
use Rattle.std.proofs.Math.Logic.{inl, inr}
use Rattle.meaning.specs.Scene.{Scene, triangle_count, corner}
use Rattle.meaning.specs.ObjPair.{FileRead}
use Rattle.obj_demands.specs.Edges.{HasFace, SidesIn, every_side}
use Rattle.obj_demands.specs.EdgesOfFaces.{file_of_faces}

-- face j of a list is one
pub has_face : (k : List ℕ) (j : ℕ) → j < length k / 3 → HasFace (get_or k (3 * j) 0) (get_or k (3 * j + 1) 0) (get_or k (3 * j + 2) 0) k
unfolding HasFace
has_face [] j h = absurd (omega arith)
has_face (x ∷ []) j h = absurd (omega arith)
has_face (x ∷ y ∷ []) j h = absurd (omega arith)
has_face (x ∷ y ∷ z ∷ k) zero h = let here : (x ≡ x) × (y ≡ y) × (z ≡ z) = (refl, refl, refl) in inl here
has_face (x ∷ y ∷ z ∷ k) (suc j) h =
    let e : 3 * suc j ≡ suc (suc (suc (3 * j))) = omega arith in
    let f : 3 * suc j + 1 ≡ suc (suc (suc (3 * j + 1))) = omega arith in
    let g : 3 * suc j + 2 ≡ suc (suc (suc (3 * j + 2))) = omega arith in
    let l : List ℕ = x ∷ y ∷ z ∷ k in
    let rest : HasFace (get_or k (3 * j) 0) (get_or k (3 * j + 1) 0) (get_or k (3 * j + 2) 0) k = has_face k j (omega arith) in
    subst (λ (n : ℕ). HasFace (get_or l n 0) (get_or l (3 * suc j + 1) 0) (get_or l (3 * suc j + 2) 0) l) (sym e)
    (subst (λ (n : ℕ). HasFace (get_or k (3 * j) 0) (get_or l n 0) (get_or l (3 * suc j + 2) 0) l) (sym f)
    (subst (λ (n : ℕ). HasFace (get_or k (3 * j) 0) (get_or k (3 * j + 1) 0) (get_or l n 0) l) (sym g) (inr rest)))

-- of the scene of a file
module _ (text : List ℕ) (s : Scene) (r : FileRead text s) where
  pub sides_of_faces : (j : ℕ) → j < triangle_count s → SidesIn (corner s j 0) (corner s j 1) (corner s j 2) s.edges
  sides_of_faces j h =
      let e : 3 * j + 0 ≡ 3 * j = omega arith in
      rw (e, (file_of_faces text s r).edges) (every_side _ _ _ s.triangles (has_face s.triangles j h))
