-- Ends, corners and vertices in common, of the numbers read of a list and looked up in a table of seams. Numbers alone: lists of every width have it.
use Rattle.std.specs.Prelude.{ℕ, Bool, List, ◌≡◌, ℤ, length}
use Rattle.std.proofs.Common.{sym, ◌∙◌}
use Rattle.std.proofs.Math.Path.{ap}
use Rattle.meaning.specs.Scene.{edge_end, corner, stood_for, ends_of, corners_of}
use Rattle.meaning.specs.Refusals.{shares}
use Rattle.meaning.specs.declared.Ends.{Ends}
use Rattle.meaning.specs.declared.Corners.{Corners}
use Rattle.meaning.specs.declared.Kind.TheVariants.{PointTriangle, EdgeEdge}
use Rattle.scene_seams.specs.Alone.{only_edges, only_triangles, edges_sewn, triangles_sewn, tabled}
use Rattle.scene_seams.specs.Table.{seams_of, own_number}
use Rattle.scene_parts.specs.Ordering.{rising_by, among_ends, in_order_by, plainly, ends_by, corners_by, one_of_three, one_in_common, three_alike, four_alike}

-- the vertex stood for, by the table
abbrev pub up_to : List ℕ → ℕ → ℕ
up_to stands v = stood_for (seams_of stands) v

-- in a table without entries each vertex is its own
own : (stands : List ℕ) → length stands ≡ 0 → (v : ℕ) → v ≡ up_to stands v
own stands none v = sym (own_number stands v none)

module _ (edges stands : List ℕ) (j : ℕ) {a b : ℕ} (p : a ≡ edge_end (only_edges edges) j 0) (q : b ≡ edge_end (only_edges edges) j 1) {e : Ends} where
  pub ends_sewn : {m n : ℕ} → m ≡ up_to stands a → n ≡ up_to stands b → e ≡ rising_by a m b n → e ≡ ends_of (edges_sewn edges stands) j
  ends_sewn {m} {n} um un h = h ∙ ends_by (edges_sewn edges stands) a m b n _ _ um un p q

  pub ends_plain : length stands ≡ 0 → e ≡ rising_by a a b b → e ≡ ends_of (edges_sewn edges stands) j
  ends_plain none = ends_sewn (own stands none a) (own stands none b)

module _ (triangles stands : List ℕ) (j : ℕ) {a b c : ℕ} (p : a ≡ corner (only_triangles triangles) j 0) (q : b ≡ corner (only_triangles triangles) j 1)
    (r : c ≡ corner (only_triangles triangles) j 2) where
  module _ {f : Corners} where
    pub corners_sewn : {m n k : ℕ} → m ≡ up_to stands a → n ≡ up_to stands b → k ≡ up_to stands c → f ≡ in_order_by a m b n c k
        → f ≡ corners_of (triangles_sewn triangles stands) j
    corners_sewn {m} {n} {k} um un uk h = h ∙ corners_by (triangles_sewn triangles stands) a m b n c k _ _ _ um un uk p q r

    -- the first two in rising number, and the third among them
    pub corners_plain : length stands ≡ 0 → {e : Ends} → e ≡ rising_by a a b b → f ≡ among_ends e c → f ≡ corners_of (triangles_sewn triangles stands) j
    corners_plain none two h =
        corners_sewn (own stands none a) (own stands none b) (own stands none c) (h ∙ ap (λ (e : Ends). among_ends e c) two ∙ plainly a b c)

  module _ (positions : List ℤ) (edges : List ℕ) (v : ℕ) {f : Bool} where
    pub corner_shared : {u m n k : ℕ} → u ≡ up_to stands v → m ≡ up_to stands a → n ≡ up_to stands b → k ≡ up_to stands c → f ≡ one_of_three u m n k
        → f ≡ shares (tabled positions edges triangles stands) PointTriangle v j
    unfolding shares
    corner_shared uv um un uk h = h ∙ three_alike uv (um ∙ ap (up_to stands) p) (un ∙ ap (up_to stands) q) (uk ∙ ap (up_to stands) r)

    pub corner_shared_plain : length stands ≡ 0 → f ≡ one_of_three v a b c → f ≡ shares (tabled positions edges triangles stands) PointTriangle v j
    corner_shared_plain none = corner_shared (own stands none v) (own stands none a) (own stands none b) (own stands none c)

module _ (edges stands : List ℕ) (i j : ℕ) {a b c d : ℕ} (p : a ≡ edge_end (only_edges edges) i 0) (q : b ≡ edge_end (only_edges edges) i 1)
    (r : c ≡ edge_end (only_edges edges) j 0) (s : d ≡ edge_end (only_edges edges) j 1) (positions : List ℤ) (triangles : List ℕ) {f : Bool} where
  pub end_shared : {m n k l : ℕ} → m ≡ up_to stands a → n ≡ up_to stands b → k ≡ up_to stands c → l ≡ up_to stands d → f ≡ one_in_common m n k l
      → f ≡ shares (tabled positions edges triangles stands) EdgeEdge i j
  unfolding shares
  end_shared um un uk ul h =
      h ∙ four_alike (um ∙ ap (up_to stands) p) (un ∙ ap (up_to stands) q) (uk ∙ ap (up_to stands) r) (ul ∙ ap (up_to stands) s)

  pub end_shared_plain : length stands ≡ 0 → f ≡ one_in_common a b c d → f ≡ shares (tabled positions edges triangles stands) EdgeEdge i j
  end_shared_plain none = end_shared (own stands none a) (own stands none b) (own stands none c) (own stands none d)
