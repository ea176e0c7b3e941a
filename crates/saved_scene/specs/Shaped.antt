-- What an accepted scene has for its writer: even lists, no longer than their sizes, coordinates in their range; and how long its text is.
use Rattle.std.specs.Prelude.{◌+◌, ◌*◌, ◌/◌, ◌≤◌, false, ◌++◌, ◌≡◌, length}
use Rattle.std.proofs.Common.{ap, arith, length-append, ltb-false}
use Rattle.meaning.specs.Limits.{vertex_limit, edge_limit, triangle_limit, seam_limit}
use Rattle.meaning.specs.Scene.{Scene, Accepted, seam_count, wrong_shape}
use Rattle.answers.specs.Below.{or_left, or_rest}
use Rattle.scene_checks.specs.Facts.{Sized, accepted_sized, accepted_coordinate}
use Rattle.saved_numbers.specs.Marked.{Coordinates}
use Rattle.meaning.specs.Saved.{saved_text}
use Rattle.saved_scene.specs.Rows.{vertex_lines, pair_lines, triple_lines, saved_parts}
use Rattle.saved_scene.specs.Lengths.{fields_long, numbers_long, vertices_long, pairs_long, triples_long}

pub record Shaped (s : Scene) : Type 0 where
  pub sixes : length s.positions ≡ 6 * (length s.positions / 6)
  pub twos : length s.edges ≡ 2 * (length s.edges / 2)
  pub threes : length s.triangles ≡ 3 * (length s.triangles / 3)
  pub pairs : length s.seams ≡ 2 * (length s.seams / 2)
  pub few_positions : length s.positions ≤ 6 * vertex_limit
  pub few_ends : length s.edges ≤ 2 * edge_limit
  pub few_corners : length s.triangles ≤ 3 * triangle_limit
  pub few_sewn : length s.seams ≤ 2 * seam_limit
  pub coordinates : Coordinates s.positions

pub shaped : {s : Scene} → Accepted s → Shaped s
shaped {s} a =
    let sized : Sized s = accepted_sized a in
    let shapely : wrong_shape s ≡ false = a.shapely in
    let few : seam_count s ≤ seam_limit = ltb-false _ _ (search (or_left, or_rest)) in
    record {
      sixes = sized.positions_long;
      twos = sized.edges_long;
      threes = sized.triangles_long;
      pairs = sized.seams_long;
      few_positions = omega (arith, sized.positions_long, sized.few_vertices);
      few_ends = omega (arith, sized.edges_long, sized.few_edges);
      few_corners = omega (arith, sized.triangles_long, sized.few_triangles);
      few_sewn = omega (arith, sized.seams_long, few);
      coordinates = record { at = λ i. record { size = accepted_coordinate a i } };
    }

-- the text, list by list
pub text_parts : (s : Scene) → saved_text s ≡ vertex_lines s.positions ++ pair_lines 101 s.edges ++ triple_lines s.triangles ++ pair_lines 119 s.seams
unfolding saved_text
text_parts s = saved_parts s.positions s.edges s.triangles s.seams

pub parts_long : (s : Scene) → length (saved_text s) ≡ length (vertex_lines s.positions) + length (pair_lines 101 s.edges) + length (triple_lines s.triangles) + length (pair_lines 119 s.seams)
parts_long s =
    omega (
      arith,
      ap length (text_parts s),
      length-append (vertex_lines s.positions ++ pair_lines 101 s.edges ++ triple_lines s.triangles) (pair_lines 119 s.seams),
      length-append (vertex_lines s.positions ++ pair_lines 101 s.edges) (triple_lines s.triangles),
      length-append (vertex_lines s.positions) (pair_lines 101 s.edges),
    )

-- each number's field, and two bytes a record
pub text_long : {s : Scene} → Shaped s
    → length (saved_text s)
    ≡ fields_long s.positions + numbers_long s.edges + numbers_long s.triangles + numbers_long s.seams
    + 2 * (length s.positions / 6 + length s.edges / 2 + length s.triangles / 3 + length s.seams / 2)
text_long {s} h =
    omega (
      arith,
      parts_long s,
      vertices_long s.positions (length s.positions / 6) h.sixes,
      pairs_long 101 s.edges (length s.edges / 2) h.twos,
      triples_long s.triangles (length s.triangles / 3) h.threes,
      pairs_long 119 s.seams (length s.seams / 2) h.pairs,
    )
