-- A mesh whose seams are none that 15 refuses is a part of itself written without seams, so what is cut out of it needs none.
use Rattle.std.specs.Prelude.{ℕ, ◌+◌, ◌*◌, ◌<◌, false, [], ◌∷◌, ◌≡◌, refl}
use Rattle.std.proofs.Common.{sym, ap, subst₂, arith}
use Rattle.std.proofs.lemmas.List.{length-map}
use Rattle.meaning.specs.Scene.{Scene, edge_count, triangle_count, edge_end, corner, counts_as, stood_for, broken_seam}
use Rattle.meaning.specs.Pieces.{Event}
use Rattle.meaning.specs.Refusals.{not_there}
use Rattle.meaning.specs.declared.Kind.{Kind}
use Rattle.scene_checks.specs.Facts.{edge_inside, triangle_inside}
use Rattle.turning_laws.specs.Numbers.{mapped_at}
use Rattle.demands.specs.Sewn.{stands_lower, well_sewn}
use Rattle.mesh_demands.specs.Part.{Places, PartOf, first_place, second_place, as_written}
use Rattle.mesh_demands.specs.Meshes.{Mesh}
use Rattle.mesh_demands.specs.Says.{SaysTheSame, says_back, says_on}
use Rattle.mesh_demands.proofs.Says.{a_part_says_the_same}
use Rattle.mesh_demands.specs.SeamsOff.{seams_off, stood_at}

pub seams_taken_off : (s : Scene) → broken_seam s ≡ false → PartOf (stood_at s) s (seams_off s)
unfolding stood_for
seams_taken_off s well =
    record {
      vertices_there = λ v h. omega (arith, stands_lower s well v);
      edges_there = λ j h. omega (arith, length-map s.edges (counts_as s));
      triangles_there = λ j h. omega (arith, length-map s.triangles (counts_as s));
      starts = λ v h. ap (λ (e : Event). e.place) ((well_sewn s well).starts v);
      ends = λ v h. ap (λ (e : Event). e.place) ((well_sewn s well).ends v);
      order = λ v w h k. refl;
      edges = λ j h. as_written (λ i. sym (end j 0 h (omega arith)) i ∷ sym (end j 1 h (omega arith)) i ∷ []);
      triangles = λ j h. as_written (λ i. sym (cornered j 0 h (omega arith)) i ∷ sym (cornered j 1 h (omega arith)) i ∷ sym (cornered j 2 h (omega arith)) i ∷ []);
      edges_rise = λ i j l h. l;
    }
  where
    end : (j k : ℕ) → j < edge_count s → k < 2 → edge_end (seams_off s) j k ≡ counts_as s (edge_end s j k)
    end j k h l = mapped_at (counts_as s) s.edges (2 * j + k) 0 0 (edge_inside s j k h l)

    cornered : (j k : ℕ) → j < triangle_count s → k < 3 → corner (seams_off s) j k ≡ counts_as s (corner s j k)
    cornered j k h l = mapped_at (counts_as s) s.triangles (3 * j + k) 0 0 (triangle_inside s j k h l)

-- so what is cut out of the mesh without seams speaks for the sewn mesh: a pair of the part, and every pair of the mesh whose vertices stand for those
pub a_part_without_seams : {m : Places} {p s : Scene} → broken_seam s ≡ false → Mesh s → PartOf m p (seams_off s) → Mesh p → (kind : Kind) (a b i j : ℕ)
    → not_there p kind a b ≡ false → not_there s kind i j ≡ false
    → first_place m kind a ≡ first_place (stood_at s) kind i → second_place m kind b ≡ second_place (stood_at s) kind j → SaysTheSame p s kind a b i j
a_part_without_seams {m} {p} {s} well whole part mesh kind a b i j there also first second =
    says_on (a_part_says_the_same part mesh kind a b there)
    (subst₂ (λ x y. SaysTheSame (seams_off s) s kind x y i j) (sym first) (sym second)
    (says_back (a_part_says_the_same (seams_taken_off s well) whole kind i j also)))
