-- The edges of a file that is read are the edges of its triangles: what is said of `edges_of` is said of the scene. Each side of each face is there, no
-- edge is there that is no side, and an edge is written the way round in which it first appears.
use Rattle.std.specs.Prelude.{ℕ, ◌-◌, Bool, true, false, ◌||◌, ◌⊎◌, ◌≡◌, refl}
use Rattle.std.proofs.Common.{true≢false, sym, ap, ◌∙◌, subst}
use mathlib.Core.List.{List, [], ◌∷◌, ◌++◌, append_assoc, append-nil}
use Rattle.std.proofs.Math.Logic.{inl, inr, ⊎_elim}
use Rattle.sequences.specs.Pick.{pick, pick_gave}
use Rattle.meaning.specs.Scene.{Scene}
use Rattle.meaning.specs.Lines.{after_all}
use Rattle.meaning.specs.Text.{none, coordinates_in, ends_in, corners_in, seam_in}
use Rattle.meaning.specs.ObjLine.{says}
use Rattle.meaning.specs.ObjFile.{joined, with_side, with_sides, edges_from, edges_of, scene_after, obj_lines}
use Rattle.meaning.specs.ObjPair.{FileRead, BothRead, imported}
use Rattle.meaning.specs.declared.ObjLine.{ObjLine}
use Rattle.meaning.specs.declared.ObjLine.TheVariants.{Skipped, Vertex, Face, Bad}
use Rattle.obj_demands.specs.Edges.{Paired, Once, joined_append, same_edge, paired_side, paired_sides, side_in_front, none_twice, first_in_front}

-- ---- faces behind faces

-- three corners a face
unfoldable pub Tripled : List ℕ → Type 0
Tripled [] = Unit
Tripled (x ∷ []) = ⊥
Tripled (x ∷ y ∷ []) = ⊥
Tripled (x ∷ y ∷ z ∷ k) = Tripled k

tripled_more : (k : List ℕ) (a b c : ℕ) → Tripled k → Tripled (k ++ (a ∷ b ∷ c ∷ []))
unfolding Tripled
tripled_more [] a b c t = tt
tripled_more (x ∷ []) a b c t = absurd t
tripled_more (x ∷ y ∷ []) a b c t = absurd t
tripled_more (x ∷ y ∷ z ∷ k) a b c t = tripled_more k a b c t

-- the edges of faces and more faces
pub edges_then : (l k more : List ℕ) → Tripled k → edges_from l (k ++ more) ≡ edges_from (edges_from l k) more
unfolding edges_from Tripled
edges_then l [] more t = refl
edges_then l (x ∷ []) more t = absurd t
edges_then l (x ∷ y ∷ []) more t = absurd t
edges_then l (x ∷ y ∷ z ∷ k) more t = edges_then (with_sides l x y z) k more t

-- two numbers an edge
pub paired_from : (l k : List ℕ) → Paired l → Paired (edges_from l k)
unfolding edges_from
paired_from l [] p = p
paired_from l (a ∷ []) p = p
paired_from l (a ∷ b ∷ []) p = p
paired_from l (a ∷ b ∷ c ∷ k) p = paired_from (with_sides l a b c) k (paired_sides a b c l p)

pub paired_edges : (k : List ℕ) → Paired (edges_of k)
unfolding Paired
paired_edges k = paired_from [] k tt

-- ---- the scene of a file

-- the edges are those of the triangles, as far as the lines go
pub record OfFaces (s : Scene) : Type 0 where
  pub whole : Tripled s.triangles
  pub edges : s.edges ≡ edges_of s.triangles

line_keeps : (s : Scene) (l : ObjLine) → OfFaces s → OfFaces (scene_after s l)
unfolding scene_after coordinates_in ends_in corners_in seam_in edges_from
line_keeps s Skipped h = h
line_keeps s Bad h = h
line_keeps s (Vertex x y z) h = record {
  whole = subst Tripled (sym (append-nil s.triangles)) h.whole;
  edges = append-nil s.edges ∙ h.edges ∙ ap edges_of (sym (append-nil s.triangles));
}
line_keeps s (Face a b c) h = record {
  whole = tripled_more s.triangles (a - 1) (b - 1) (c - 1) h.whole;
  edges =
      ap (λ (l : List ℕ). with_sides l (a - 1) (b - 1) (c - 1)) (append-nil s.edges ∙ h.edges)
      ∙ sym (edges_then [] s.triangles ((a - 1) ∷ (b - 1) ∷ (c - 1) ∷ []) h.whole);
}

lines_keep : (s : Scene) (ls : List (List ℕ)) → OfFaces s → OfFaces (after_all obj_lines s ls)
unfolding after_all
lines_keep s [] h = h
lines_keep s (l ∷ ls) h = lines_keep (scene_after s (says l)) ls (line_keeps s (says l) h)

pub file_of_faces : (text : List ℕ) (s : Scene) → FileRead text s → OfFaces s
unfolding Tripled edges_from
file_of_faces text s r = subst OfFaces (sym r.scene) (lines_keep none r.lines (record { whole = tt; edges = refl }))

-- so of two files that are one scene
pub import_of_faces : (start end : List ℕ) (b : BothRead start end false) → OfFaces (imported b.starts b.ends)
import_of_faces start end b = let one = file_of_faces start b.starts b.first in record { whole = one.whole; edges = one.edges }

-- ---- each side is there, and none twice

-- of the scene of a file
module _ (text : List ℕ) (s : Scene) (r : FileRead text s) where
  pub edges_once : Once s.edges
  edges_once = subst Once (sym (file_of_faces text s r).edges) (none_twice s.triangles)

-- ---- and nothing else

-- x y is a side of the face a b c, either way round
abbrev pub SideOfFace : ℕ → ℕ → ℕ → ℕ → ℕ → Type 0
SideOfFace x y a b c = (joined x y (a ∷ b ∷ []) ≡ true) ⊎ ((joined x y (b ∷ c ∷ []) ≡ true) ⊎ (joined x y (c ∷ a ∷ []) ≡ true))

pub three_sides : (a b c : ℕ) → SideOfFace a b a b c × SideOfFace b c a b c × SideOfFace c a a b c
three_sides a b c = (inl (same_edge a b), inr (inl (same_edge b c)), inr (inr (same_edge c a)))

-- of one of the faces
unfoldable pub SideOf : ℕ → ℕ → List ℕ → Type 0
SideOf x y [] = ⊥
SideOf x y (a ∷ []) = ⊥
SideOf x y (a ∷ b ∷ []) = ⊥
SideOf x y (a ∷ b ∷ c ∷ k) = SideOfFace x y a b c ⊎ SideOf x y k

or_gave : (s t : Bool) → s || t ≡ true → (s ≡ true) ⊎ (t ≡ true)
or_gave true t e = inl refl
or_gave false t e = inr e

module _ (x y : ℕ) where
  from_side : (l : List ℕ) (a b : ℕ) → Paired l → joined x y (with_side l a b) ≡ true → (joined x y l ≡ true) ⊎ (joined x y (a ∷ b ∷ []) ≡ true)
  from_side l a b p h =
      ⊎_elim (λ t. inl t.1) (λ t. or_gave (joined x y l) (joined x y (a ∷ b ∷ [])) (sym (joined_append x y l (a ∷ b ∷ []) p) ∙ t.1))
      (pick_gave (λ (k : List ℕ). joined x y k ≡ true) (joined a b l) h)

  from_sides : (l : List ℕ) (a b c : ℕ) → Paired l → joined x y (with_sides l a b c) ≡ true → (joined x y l ≡ true) ⊎ SideOfFace x y a b c
  from_sides l a b c p h =
      let one : Paired (with_side l a b) = paired_side a b l p in
      let two : Paired (with_side (with_side l a b) b c) = paired_side b c (with_side l a b) one in
      ⊎_elim
      (λ q. ⊎_elim (λ q₁. ⊎_elim inl (λ e. inr (inl e)) (from_side l a b p q₁)) (λ e. inr (inr (inl e))) (from_side (with_side l a b) b c one q))
      (λ e. inr (inr (inr e)))
      (from_side (with_side (with_side l a b) b c) c a two h)

  only_sides_from : (l k : List ℕ) → Paired l → joined x y (edges_from l k) ≡ true → (joined x y l ≡ true) ⊎ SideOf x y k
  unfolding edges_from SideOf
  only_sides_from l [] p h = inl h
  only_sides_from l (a ∷ []) p h = inl h
  only_sides_from l (a ∷ b ∷ []) p h = inl h
  only_sides_from l (a ∷ b ∷ c ∷ k) p h =
      ⊎_elim (λ q. ⊎_elim inl (λ f. inr (inl f)) (from_sides l a b c p q)) (λ f. inr (inr f))
      (only_sides_from (with_sides l a b c) k (paired_sides a b c l p) h)

  pub only_sides : (k : List ℕ) → joined x y (edges_of k) ≡ true → SideOf x y k
  unfolding Paired joined
  only_sides k h = ⊎_elim (λ e. absurd (true≢false (sym e))) (λ f. f) (only_sides_from [] k tt h)

-- ---- the way round in which it first appears

-- a side that was not there comes behind, as it is written
new_side : (l : List ℕ) (a b : ℕ) → joined a b l ≡ false → with_side l a b ≡ l ++ (a ∷ b ∷ [])
new_side l a b h = ap (λ (t : Bool). pick t l (l ++ (a ∷ b ∷ []))) h

-- faces, then a b c, then more: of each side of a b c that no face above has, and no side before it in this face, the edge is written as this face has it,
-- right behind the edges of those
module _ (k more : List ℕ) (a b c : ℕ) (t : Tripled k) where
  edges_here : edges_of (k ++ (a ∷ b ∷ c ∷ more)) ≡ edges_from (with_sides (edges_of k) a b c) more
  unfolding edges_from
  edges_here = edges_then [] k (a ∷ b ∷ c ∷ more) t

  stays : (l n : List ℕ) (i j : ℕ) → joined i j l ≡ false → (with_side l i j ++ n) ≡ l ++ (i ∷ j ∷ n)
  stays l n i j h = ap (λ (k : List ℕ). k ++ n) (new_side l i j h) ∙ append_assoc l (i ∷ j ∷ []) n

  pub third_side : joined c a (with_side (with_side (edges_of k) a b) b c) ≡ false
      → (n : List ℕ) × (edges_of (k ++ (a ∷ b ∷ c ∷ more)) ≡ with_side (with_side (edges_of k) a b) b c ++ (c ∷ a ∷ n))
  third_side h =
      let (n, e) = first_in_front (with_sides (edges_of k) a b c) more in
      (n, edges_here ∙ e ∙ stays (with_side (with_side (edges_of k) a b) b c) n c a h)

  pub second_side : joined b c (with_side (edges_of k) a b) ≡ false
      → (n : List ℕ) × (edges_of (k ++ (a ∷ b ∷ c ∷ more)) ≡ with_side (edges_of k) a b ++ (b ∷ c ∷ n))
  second_side h =
      let l : List ℕ = with_side (edges_of k) a b in
      let (n, e) = first_in_front (with_sides (edges_of k) a b c) more in
      let (m, f) = side_in_front c a (with_side l b c) in
      (m ++ n, edges_here ∙ e ∙ ap (λ (w : List ℕ). w ++ n) f ∙ append_assoc (with_side l b c) m n ∙ stays l (m ++ n) b c h)

  pub first_side : joined a b (edges_of k) ≡ false → (n : List ℕ) × (edges_of (k ++ (a ∷ b ∷ c ∷ more)) ≡ edges_of k ++ (a ∷ b ∷ n))
  first_side h =
      let l : List ℕ = edges_of k in
      let (n, e) = first_in_front (with_sides l a b c) more in
      let (m, f) = side_in_front c a (with_side (with_side l a b) b c) in
      let (m₂, g) = side_in_front b c (with_side l a b) in (
        m₂ ++ (m ++ n),
        edges_here ∙ e ∙ ap (λ (w : List ℕ). w ++ n) f ∙ append_assoc (with_side (with_side l a b) b c) m n
            ∙ ap (λ (w : List ℕ). w ++ (m ++ n)) g
            ∙ append_assoc (with_side l a b) m₂ (m ++ n)
            ∙ stays l (m₂ ++ (m ++ n)) a b h,
      )
