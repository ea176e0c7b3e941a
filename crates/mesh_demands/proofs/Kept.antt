-- The points of a part are those of the whole: each piece of a pair has the same points in the same order, and its swept boxes meet in both or in neither.
use Prim.Native.Nat.{ℕ, zero, suc, ◌<◌, min, max, ◌/◌, ◌%◌}
use Rattle.std.specs.Prelude.{false, cond, ◌&&◌, ◌≡◌}
use mathlib.Core.List.{List, [], ◌∷◌, map}
use Rattle.std.proofs.Math.Path.{refl, sym, ap₂}
use Rattle.std.proofs.Common.{◌∙◌, ap}
use Rattle.whole.specs.Vector.{Vector}
use Rattle.meaning.specs.Scene.{Scene, edge_count, triangle_count, edge_end, corner, before, same, rising, among, ends_of, corners_of}
use Rattle.meaning.specs.Pieces.{starting, ending, moving_point, moving_edge, moving_triangle, piece_of}
use Rattle.meaning.specs.Boxes.{Span, Axis, x_axis, y_axis, z_axis, smaller, larger, vertex_span, joint, edge_span, triangle_span, meet, meet_on, boxes_meet}
use Rattle.meaning.specs.Motion.{first_part, second_part}
use Rattle.meaning.specs.declared.Ends.{Ends}
use Rattle.meaning.specs.declared.Corners.{Corners}
use Rattle.meaning.specs.declared.Kind.{Kind}
use Rattle.meaning.specs.declared.Kind.TheVariants.{PointTriangle, EdgeEdge}
use Rattle.theory.specs.AnyOrder.{span_in, span_rearranged, edge_box_is, triangle_box_is}
use Rattle.theory.specs.Bounds.{Every}
use Rattle.theory.specs.Differences.{at_start, at_end}
use Rattle.theory.specs.InOrder.{rising_keeps, among_keeps, lower_first}
use Rattle.theory.specs.Moved.{Known}
use Rattle.theory.specs.Rewritten.{WellMade}
use Rattle.theory.specs.Written.{ends_written, corners_written, Different, ends_any_order, corners_any_order}
use Rattle.mesh_demands.specs.Part.{Places, PartOf, first_place, second_place}
use Rattle.mesh_demands.specs.Order.{cond_sent, sent_min, sent_max}
use Rattle.mesh_demands.specs.Kept.{There, same_kept, edges_rise_lem}

module _ {m : Places} {p s : Scene} (h : PartOf m p s) where
  abbrev ends_sent : Ends → Ends
  ends_sent e = record { low = m.vertex e.low; high = m.vertex e.high }

  abbrev corners_sent : Corners → Corners
  corners_sent c = record { low = m.vertex c.low; middle = m.vertex c.middle; high = m.vertex c.high }

  rising_kept : (a b : ℕ) → There h a → There h b → rising s (m.vertex a) (m.vertex b) ≡ ends_sent (rising p a b)
  rising_kept a b x y =
      rw (h.order b a y x) (cond_sent ends_sent (before p b a) (record { low = b; high = a }) (record { low = a; high = b }))

  among_kept : (e : Ends) (c : ℕ) → There h e.low → There h e.high → There h c → among s (ends_sent e) (m.vertex c) ≡ corners_sent (among p e c)
  among_kept e c x y z =
      rw (h.order c e.low z x, h.order c e.high z y)
      (ap (λ (k : Corners). cond (before p c e.low) (corners_sent (record { low = c; middle = e.low; high = e.high })) k)
      (cond_sent corners_sent (before p c e.high) (record { low = e.low; middle = c; high = e.high }) (record { low = e.low; middle = e.high; high = c }))
      ∙ cond_sent corners_sent (before p c e.low) (record { low = c; middle = e.low; high = e.high })
      (cond (before p c e.high) (record { low = e.low; middle = c; high = e.high }) (record { low = e.low; middle = e.high; high = c })))

  -- the same vertex of two is in no part of the whole where it is in none here
  different_from : (v : ℕ) → There h v → (l : List ℕ) → Every (There h) l → Every (λ b. same p v b ≡ false) l → Every (λ b. same s (m.vertex v) b ≡ false) (map m.vertex l)
  different_from v a [] k d = tt
  different_from v a (w ∷ l) k d = (same_kept h v w a k.0 ∙ d.0, different_from v a l k.1 d.1)

  different_kept : (l : List ℕ) → Every (There h) l → Different p l → Different s (map m.vertex l)
  different_kept [] k d = tt
  different_kept (v ∷ l) k d = (different_from v k.0 l k.1 d.0, different_kept l k.1 d.1)

  ends_kept : (j : ℕ) → j < edge_count p → Every (There h) (ends_written p j) → Different p (ends_written p j) → ends_of s (m.edge j) ≡ ends_sent (ends_of p j)
  ends_kept j b k d =
      sym (ends_any_order s (h.edges j b) (different_kept (ends_written p j) k d)) ∙ rising_kept (edge_end p j 0) (edge_end p j 1) k.0 k.1.0

  corners_kept : (j : ℕ) → j < triangle_count p → Every (There h) (corners_written p j) → Different p (corners_written p j)
      → corners_of s (m.triangle j) ≡ corners_sent (corners_of p j)
  corners_kept j b k d =
      let (low, high) = rising_keeps p (There h) (corner p j 0) (corner p j 1) k.0 k.1.0 in
      sym (corners_any_order s (h.triangles j b) (different_kept (corners_written p j) k d))
      ∙ ap (λ (e : Ends). among s e (m.vertex (corner p j 2))) (rising_kept (corner p j 0) (corner p j 1) k.0 k.1.0)
      ∙ among_kept (rising p (corner p j 0) (corner p j 1)) (corner p j 2) low high k.1.1.0

  start_kept : (v : ℕ) → There h v → starting s.positions (m.vertex v) ≡ starting p.positions v
  start_kept v k = ap at_start (h.starts v k)

  end_kept : (v : ℕ) → There h v → ending s.positions (m.vertex v) ≡ ending p.positions v
  end_kept v k = ap at_end (h.ends v k)

  point_kept : (v : ℕ) → There h v → moving_point s.positions (m.vertex v) ≡ moving_point p.positions v
  point_kept v k = λ i. start_kept v k i ∷ end_kept v k i ∷ []

  edge_kept : (e : Ends) → There h e.low × There h e.high → (k : ℕ) → moving_edge s.positions (ends_sent e) k ≡ moving_edge p.positions e k
  unfolding moving_edge
  edge_kept e (l, u) zero = λ i. start_kept e.low l i ∷ start_kept e.high u i ∷ end_kept e.high u i ∷ []
  edge_kept e (l, u) (suc k) = λ i. start_kept e.low l i ∷ end_kept e.low l i ∷ end_kept e.high u i ∷ []

  triangle_kept : (c : Corners) → There h c.low × There h c.middle × There h c.high → (k : ℕ)
      → moving_triangle s.positions (corners_sent c) k ≡ moving_triangle p.positions c k
  unfolding moving_triangle
  triangle_kept c (l, n, u) zero = λ i. start_kept c.low l i ∷ start_kept c.middle n i ∷ start_kept c.high u i ∷ end_kept c.high u i ∷ []
  triangle_kept c (l, n, u) (suc zero) = λ i. start_kept c.low l i ∷ start_kept c.middle n i ∷ end_kept c.middle n i ∷ end_kept c.high u i ∷ []
  triangle_kept c (l, n, u) (suc (suc k)) = λ i. start_kept c.low l i ∷ end_kept c.low l i ∷ end_kept c.middle n i ∷ end_kept c.high u i ∷ []

  -- both pieces of edge j
  abbrev EdgeKept : ℕ → Type 0
  EdgeKept j = (k : ℕ) → moving_edge s.positions (ends_of s (m.edge j)) k ≡ moving_edge p.positions (ends_of p j) k

  edge_at_kept : (j : ℕ) → j < edge_count p → Every (There h) (ends_written p j) → Different p (ends_written p j) → EdgeKept j
  edge_at_kept j b k d n =
      ap (λ (e : Ends). moving_edge s.positions e n) (ends_kept j b k d)
      ∙ edge_kept (ends_of p j) (rising_keeps p (There h) (edge_end p j 0) (edge_end p j 1) k.0 k.1.0) n

  triangle_at_kept : (j : ℕ) → j < triangle_count p → Every (There h) (corners_written p j) → Different p (corners_written p j) → (k : ℕ)
      → moving_triangle s.positions (corners_of s (m.triangle j)) k ≡ moving_triangle p.positions (corners_of p j) k
  triangle_at_kept j b k d n =
      let (low, high) = rising_keeps p (There h) (corner p j 0) (corner p j 1) k.0 k.1.0 in
      ap (λ (c : Corners). moving_triangle s.positions c n) (corners_kept j b k d)
      ∙ triangle_kept (corners_of p j) (among_keeps p (There h) (rising p (corner p j 0) (corner p j 1)) (corner p j 2) low high k.1.1.0) n

  pub piece_kept : (kind : Kind) (i j : ℕ) → Known p kind i j → WellMade p kind i j → (k : ℕ)
      → piece_of s kind (first_place m kind i) (second_place m kind j) k ≡ piece_of p kind i j k
  unfolding piece_of first_place second_place first_part second_part WellMade
  piece_kept PointTriangle i j known made k =
      λ x. record { first = point_kept i known.first.0 x; second = triangle_at_kept j made.0 known.second made.1 k x }
  piece_kept EdgeEdge i j known made k =
      λ x.
      record {
        first = (ap (λ n. moving_edge s.positions (ends_of s n) (k / 2)) (sent_min m.edge (edge_count p) (edges_rise_lem h) i j made.0 made.2) ∙ both.0 (k / 2)) x;
        second = (ap (λ n. moving_edge s.positions (ends_of s n) (k % 2)) (sent_max m.edge (edge_count p) (edges_rise_lem h) i j made.0 made.2) ∙ both.1 (k % 2)) x;
      }
    where
      one : EdgeKept i
      one = edge_at_kept i made.0 known.first made.1

      other : EdgeKept j
      other = edge_at_kept j made.2 known.second made.3

      both : EdgeKept (min i j) × EdgeKept (max i j)
      both = lower_first (λ a b. EdgeKept a × EdgeKept b) i j (one, other) (other, one)

  vertex_box_kept : (a : Axis) (v : ℕ) → There h v → vertex_span s a (m.vertex v) ≡ vertex_span p a v
  vertex_box_kept a v k = ap₂ between (h.starts v k) (h.ends v k)
    where
      between : Vector → Vector → Span
      between x y = record { low = smaller (a x) (a y); high = larger (a x) (a y) }

  box_kept : (a : Axis) (l : List ℕ) → Every (There h) l → span_in (vertex_span s a) (map m.vertex l) ≡ span_in (vertex_span p a) l
  unfolding span_in
  box_kept a [] k = refl
  box_kept a (v ∷ []) k = vertex_box_kept a v k.0
  box_kept a (v ∷ w ∷ l) k = ap₂ joint (vertex_box_kept a v k.0) (box_kept a (w ∷ l) k.1)

  edge_box_kept : (a : Axis) (j : ℕ) → j < edge_count p → Every (There h) (ends_written p j) → edge_span s a (m.edge j) ≡ edge_span p a j
  edge_box_kept a j b k =
      edge_box_is s a (m.edge j) ∙ sym (span_rearranged (vertex_span s a) (h.edges j b)) ∙ box_kept a (ends_written p j) k ∙ sym (edge_box_is p a j)

  triangle_box_kept : (a : Axis) (j : ℕ) → j < triangle_count p → Every (There h) (corners_written p j) → triangle_span s a (m.triangle j) ≡ triangle_span p a j
  triangle_box_kept a j b k =
      triangle_box_is s a (m.triangle j) ∙ sym (span_rearranged (vertex_span s a) (h.triangles j b)) ∙ box_kept a (corners_written p j) k ∙ sym (triangle_box_is p a j)

  meet_kept : (kind : Kind) (i j : ℕ) → Known p kind i j → WellMade p kind i j → (a : Axis)
      → meet_on s kind (first_place m kind i) (second_place m kind j) a ≡ meet_on p kind i j a
  unfolding meet_on first_place second_place first_part second_part WellMade
  meet_kept PointTriangle i j known made a = ap₂ meet (vertex_box_kept a i known.first.0) (triangle_box_kept a j made.0 known.second)
  meet_kept EdgeEdge i j known made a = ap₂ meet (edge_box_kept a i made.0 known.first) (edge_box_kept a j made.2 known.second)

  pub boxes_kept : (kind : Kind) (i j : ℕ) → Known p kind i j → WellMade p kind i j
      → boxes_meet s kind (first_place m kind i) (second_place m kind j) ≡ boxes_meet p kind i j
  boxes_kept kind i j known made =
      λ x. meet_kept kind i j known made x_axis x && meet_kept kind i j known made y_axis x && meet_kept kind i j known made z_axis x
