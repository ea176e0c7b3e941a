-- A part of a mesh says the same of its pairs as the mesh: the theorem.
use Rattle.std.specs.Prelude.{ℕ, false, ◌↔◌, ◌≡◌}
use mathlib.Core.List.{Memᴰ}
use Rattle.std.proofs.Common.{sym, ◌∙◌}
use Rattle.meaning.specs.Scene.{Scene, edge_count}
use Rattle.meaning.specs.Refusals.{not_there}
use Rattle.meaning.specs.List.{Pair, pairs}
use Rattle.meaning.specs.declared.Kind.{Kind}
use Rattle.meaning.specs.declared.Kind.TheVariants.{PointTriangle, EdgeEdge}
use Rattle.theory.specs.Moved.{Known}
use Rattle.theory.specs.Rewritten.{WellMade}
use Rattle.list_pairs.specs.InOrder.{FirstBelow, list_is}
use Rattle.mesh_demands.specs.Meshes.{Mesh, mesh_known, mesh_made}
use Rattle.mesh_demands.specs.Order.{lower_before}
use Rattle.mesh_demands.specs.Part.{Places, PartOf, first_place, second_place, in_whole}
use Rattle.mesh_demands.specs.Kept.{edges_rise_lem, shares_kept, there_too}
use Rattle.mesh_demands.proofs.Kept.{piece_kept, boxes_kept}
use Rattle.mesh_demands.specs.Says.{SaysTheSame, says_by}

module _ {m : Places} {p s : Scene} (h : PartOf m p s) where
  -- a pair whose vertices are there, with no vertex twice in an edge or triangle
  pub the_same_is_said : (kind : Kind) (i j : ℕ) → Known p kind i j → WellMade p kind i j
      → SaysTheSame p s kind i j (first_place m kind i) (second_place m kind j)
  the_same_is_said kind i j known made =
      says_by (piece_kept h kind i j known made) (shares_kept h kind i j known made) (boxes_kept h kind i j known made)

  -- so every pair of a part of any length
  pub a_part_says_the_same : Mesh p → (kind : Kind) (i j : ℕ) → not_there p kind i j ≡ false
      → SaysTheSame p s kind i j (first_place m kind i) (second_place m kind j)
  a_part_says_the_same mesh kind i j there =
      the_same_is_said kind i j (mesh_known mesh kind i j there) (mesh_made mesh kind i j there)

  below_kept : (kind : Kind) (i j : ℕ) → WellMade p kind i j → FirstBelow kind i j ↔ FirstBelow kind (first_place m kind i) (second_place m kind j)
  unfolding FirstBelow first_place second_place WellMade
  below_kept PointTriangle i j made = (λ t. tt, λ t. tt)
  below_kept EdgeEdge i j made = (λ l. edges_rise_lem h i j l made.2, λ l. lower_before m.edge (edge_count p) (edges_rise_lem h) i j made.0 made.2 l)

  -- a pair of the part stands in its list exactly when it stands in the whole's
  pub stands_in_both : Mesh p → (q : Pair) → not_there p q.kind q.first q.second ≡ false
      → Memᴰ q (pairs p) ↔ Memᴰ (in_whole m q) (pairs s)
  stands_in_both mesh q there =
      let kind : Kind = q.kind in
      let known = mesh_known mesh kind q.first q.second there in
      let made = mesh_made mesh kind q.first q.second there in
      let same = the_same_is_said kind q.first q.second known made in
      let below = below_kept kind q.first q.second made in (
        λ l.
            let t = ((list_is p).stands q).0 l in
            ((list_is s).stands (in_whole m q)).1
            (record {
              there = there_too h kind q.first q.second known made;
              ordered = below.0 t.ordered;
              apart = same.shared ∙ t.apart;
              meet = same.meet ∙ t.meet;
            }),
        λ l.
            let t = ((list_is s).stands (in_whole m q)).0 l in
            ((list_is p).stands q).1
            (record {
              there = there;
              ordered = below.1 t.ordered;
              apart = sym same.shared ∙ t.apart;
              meet = sym same.meet ∙ t.meet;
            }),
      )
