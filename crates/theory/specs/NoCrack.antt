-- No cracks: the two pieces of a moving edge are faces of pieces of every moving triangle that has its two ends. So two triangles that share two
-- corners cut the side between them alike, and what touches it touches both. At a seam too, where each has corners of its own that stand for the
-- same two vertices.
use Rattle.std.specs.Prelude.{◌≢◌, ◌≡◌, refl, Bool, true, false, cond, ltb, ℤ, pos, ◌+ℤ◌, ◌*ℤ◌}
use Rattle.std.proofs.Common.{sym, ◌∙◌, ap, ap₂, subst, arith}
use mathlib.Core.List.{List, [], ◌∷◌}
use Prim.Native.Nat.{ℕ, zero, suc, ◌<◌}
use Rattle.std.proofs.Math.IntN.{+ℤ_idl, zero-*ℤ}
use Rattle.meaning.specs.Scene.{Scene, corner, counts_as, rising, before, among, corners_of}
use Rattle.meaning.specs.Pieces.{Event, starting, ending, moving_edge, moving_triangle}
use Rattle.meaning.specs.Equations.{total, one, x_of, y_of, z_of, time_of, Touch}
use Rattle.meaning.specs.declared.Ends.{Ends}
use Rattle.meaning.specs.declared.Corners.{Corners}
use Rattle.theory.specs.InOrder.{cond_keeps}
use Rattle.theory.specs.Determinants.{front, behind}
use Rattle.theory.specs.Rearranged.{Rearranged, unmoved, moved, rearranged_back}
use Rattle.theory.specs.Written.{corners_written, Different, different_rearranged, corners_any_order}

-- the list without its i-th element
unfoldable pub without {ℓ} : {A : Type ℓ} → ℕ → List A → List A
without i [] = []
without zero (a ∷ l) = l
without (suc i) (a ∷ l) = a ∷ without i l

-- the three edges of a triangle with corners in rising number
pub data EdgeOf (c : Corners) : Ends → Type 0 where
  low_middle : EdgeOf c (record { low = c.low; high = c.middle })
  low_high : EdgeOf c (record { low = c.low; high = c.high })
  middle_high : EdgeOf c (record { low = c.middle; high = c.high })

-- one point left out of one of the triangle's three pieces gives the list
pub record FaceOf (s : Scene) (c : Corners) (f : List Event) : Type 0 where
  pub piece : ℕ
  pub there : piece < 3
  pub left_out : ℕ
  pub one_of_four : left_out < 4
  pub is : without left_out (moving_triangle s.positions c piece) ≡ f

pub edge_pieces_are_faces : (s : Scene) (c : Corners) (e : Ends) → EdgeOf c e → (m : ℕ) → FaceOf s c (moving_edge s.positions e m)
unfolding without moving_edge moving_triangle
edge_pieces_are_faces s c e low_middle zero = record { piece = 1; there = omega arith; left_out = 3; one_of_four = omega arith; is = refl }
edge_pieces_are_faces s c e low_middle (suc m) = record { piece = 2; there = omega arith; left_out = 3; one_of_four = omega arith; is = refl }
edge_pieces_are_faces s c e low_high zero = record { piece = 0; there = omega arith; left_out = 1; one_of_four = omega arith; is = refl }
edge_pieces_are_faces s c e low_high (suc m) = record { piece = 2; there = omega arith; left_out = 2; one_of_four = omega arith; is = refl }
edge_pieces_are_faces s c e middle_high zero = record { piece = 0; there = omega arith; left_out = 0; one_of_four = omega arith; is = refl }
edge_pieces_are_faces s c e middle_high (suc m) = record { piece = 1; there = omega arith; left_out = 0; one_of_four = omega arith; is = refl }

-- ---- in a scene

pub among_has_edge : (s : Scene) (e : Ends) (c : ℕ) → EdgeOf (among s e c) e
among_has_edge s e c =
    let Q : Corners → Type 0 = λ (k : Corners). EdgeOf k e in
    cond_keeps Q (before s c e.low) _ _ middle_high (cond_keeps Q (before s c e.high) _ _ low_high low_middle)

-- triangle t has the corners a and b: its corners are these two and one more vertex, in any order
pub record HasTwo (s : Scene) (t a b : ℕ) : Type 0 where
  pub opposite : ℕ
  pub corners : Rearranged (a ∷ b ∷ opposite ∷ []) (corners_written s t)

-- two corners of a triangle, the lower number first, are one of its three edges
pub has_two : (s : Scene) (t a b : ℕ) → Different s (corners_written s t) → HasTwo s t a b → EdgeOf (corners_of s t) (rising s a b)
has_two s t a b d h =
    subst (λ (c : Corners). EdgeOf c (rising s a b)) (corners_any_order s h.corners (different_rearranged s (rearranged_back h.corners) d)) (among_has_edge s (rising s a b) h.opposite)

-- the very same cut of the side a b in every triangle that has both corners, whether or not the scene has an edge there
pub side_pieces_are_faces : (s : Scene) (t a b : ℕ) → Different s (corners_written s t) → HasTwo s t a b → (m : ℕ) → FaceOf s (corners_of s t) (moving_edge s.positions (rising s a b) m)
side_pieces_are_faces s t a b d h = edge_pieces_are_faces s (corners_of s t) (rising s a b) (has_two s t a b d h)

-- a triangle has every two of its corners, in either order
pub any_two_corners : (s : Scene) (t i j : ℕ) → i < 3 → j < 3 → i ≢ j → HasTwo s t (corner s t i) (corner s t j)
any_two_corners s t zero (suc zero) h k n = record { opposite = corner s t 2; corners = unmoved }
any_two_corners s t zero (suc (suc zero)) h k n = record { opposite = corner s t 1; corners = moved (behind front) unmoved }
any_two_corners s t (suc zero) zero h k n = record { opposite = corner s t 2; corners = moved front unmoved }
any_two_corners s t (suc zero) (suc (suc zero)) h k n = record { opposite = corner s t 0; corners = moved (behind front) (moved front unmoved) }
any_two_corners s t (suc (suc zero)) zero h k n = record { opposite = corner s t 1; corners = moved front (moved (behind front) unmoved) }
any_two_corners s t (suc (suc zero)) (suc zero) h k n = record { opposite = corner s t 0; corners = moved front (moved (behind front) (moved front unmoved)) }
any_two_corners s t zero zero h k n = absurd (n refl)
any_two_corners s t (suc zero) (suc zero) h k n = absurd (n refl)
any_two_corners s t (suc (suc zero)) (suc (suc zero)) h k n = absurd (n refl)
any_two_corners s t (suc (suc (suc i))) j h k n = absurd (omega arith)
any_two_corners s t zero (suc (suc (suc j))) h k n = absurd (omega arith)
any_two_corners s t (suc zero) (suc (suc (suc j))) h k n = absurd (omega arith)
any_two_corners s t (suc (suc zero)) (suc (suc (suc j))) h k n = absurd (omega arith)

-- ---- at a seam

-- each vertex is, at both times, where the vertex that it stands for is
pub record Sewn (s : Scene) : Type 0 where
  pub starts : (v : ℕ) → starting s.positions (counts_as s v) ≡ starting s.positions v
  pub ends : (v : ℕ) → ending s.positions (counts_as s v) ≡ ending s.positions v

module _ {s : Scene} (sewn : Sewn s) where
  -- two vertices that stand for one are in one place
  pub one_start : (a b : ℕ) → counts_as s a ≡ counts_as s b → starting s.positions a ≡ starting s.positions b
  one_start a b e = sym (sewn.starts a) ∙ ap (starting s.positions) e ∙ sewn.starts b

  pub one_end : (a b : ℕ) → counts_as s a ≡ counts_as s b → ending s.positions a ≡ ending s.positions b
  one_end a b e = sym (sewn.ends a) ∙ ap (ending s.positions) e ∙ sewn.ends b

  -- edges with ends in one place have the same pieces
  pieces_alike : (x y z w : ℕ) → counts_as s x ≡ counts_as s z → counts_as s y ≡ counts_as s w → (m : ℕ)
      → moving_edge s.positions (record { low = x; high = y }) m ≡ moving_edge s.positions (record { low = z; high = w }) m
  unfolding moving_edge
  pieces_alike x y z w xz yw zero = λ i. one_start x z xz i ∷ one_start y w yw i ∷ one_end y w yw i ∷ []
  pieces_alike x y z w xz yw (suc m) = λ i. one_start x z xz i ∷ one_end x z xz i ∷ one_end y w yw i ∷ []

  module _ (a b c d : ℕ) (ac : counts_as s a ≡ counts_as s c) (bd : counts_as s b ≡ counts_as s d) where
    -- the edges a b and c d are cut alike
    pub cut_alike : (m : ℕ) → moving_edge s.positions (rising s a b) m ≡ moving_edge s.positions (rising s c d) m
    cut_alike m =
        by_order (before s b a) ∙ ap (λ (t : Bool). moving_edge s.positions (cond t (record { low = d; high = c }) (record { low = c; high = d })) m) (ap₂ ltb bd ac)
      where
        by_order : (t : Bool) → moving_edge s.positions (cond t (record { low = b; high = a }) (record { low = a; high = b })) m
            ≡ moving_edge s.positions (cond t (record { low = d; high = c }) (record { low = c; high = d })) m
        by_order true = pieces_alike b a d c bd ac m
        by_order false = pieces_alike a b c d ac bd m

-- ---- what touches a face touches the piece, with weight 0 for the point left out

pub put_in : ℕ → (ℕ → ℕ) → ℕ → ℕ
put_in zero w zero = 0
put_in zero w (suc n) = w n
put_in (suc i) w zero = w 0
put_in (suc i) w (suc n) = put_in i (λ n. w (suc n)) n

pub put_in_total : {A : Type 0} (f : A → ℤ) (i : ℕ) (w : ℕ → ℕ) (l : List A) → total f (λ n. pos (put_in i w n)) l ≡ total f (λ n. pos (w n)) (without i l)
unfolding total without put_in
put_in_total f zero w [] = refl
put_in_total f (suc i) w [] = refl
put_in_total f zero w (a ∷ l) = ap (λ n. n +ℤ total f (λ n. pos (w n)) l) (zero-*ℤ (f a)) ∙ +ℤ_idl (total f (λ n. pos (w n)) l)
put_in_total f (suc i) w (a ∷ l) = ap (λ n. pos (w 0) *ℤ f a +ℤ n) (put_in_total f i (λ n. w (suc n)) l)

pub touch_of_face : (i : ℕ) (l b : List Event) → Touch (without i l) b → Touch l b
touch_of_face i l b t = record {
  u = put_in i t.u;
  v = t.v;
  balanced = record {
    sums = put_in_total one i t.u l ∙ t.balanced.sums;
    xs = put_in_total x_of i t.u l ∙ t.balanced.xs;
    ys = put_in_total y_of i t.u l ∙ t.balanced.ys;
    zs = put_in_total z_of i t.u l ∙ t.balanced.zs;
    times = put_in_total time_of i t.u l ∙ t.balanced.times;
  };
  some = rw (put_in_total one i t.u l) t.some;
}

-- so what touches a face of a triangle's piece touches a piece of the triangle
pub touch_through : (s : Scene) (c : Corners) (f b : List Event) → FaceOf s c f → Touch f b → (k : ℕ) × (k < 3) × Touch (moving_triangle s.positions c k) b
touch_through s c f b h t = (h.piece, h.there, touch_of_face h.left_out (moving_triangle s.positions c h.piece) b (rw h.is t))
