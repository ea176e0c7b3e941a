-- `write_text`: the lines of the four lists, one list behind the other.
use native.Mathlib.Omega.{arith}
use Rattle.meaning.specs.Scene.{scene_of}
use Rattle.sequences.specs.Wrote.{wrote_then}
use Rattle.saved_scene.specs.Shaped.{shaped, text_parts, parts_long}
use Rattle.saved_scene.proofs.write_text.Goals as goal

pub put_vertices-next-requires : goal.put_vertices-next-requires
put_vertices-next-requires c = let h = shaped c.requires.accepted in record { positions_len = (h.sixes, h.coordinates); positions_in_bounds = omega (arith, parts_long (scene_of c.args.positions.now c.args.edges.now c.args.triangles.now c.args.seams.now)) }

pub put_pairs-next-requires : goal.put_pairs-next-requires
put_pairs-next-requires c = record { list_len = (shaped c.requires.accepted).twos; list_in_bounds = omega (arith, parts_long (scene_of c.args.positions.now c.args.edges.now c.args.triangles.now c.args.seams.now)) }

pub put_triangles-next-requires : goal.put_triangles-next-requires
put_triangles-next-requires c = record { list_len = (shaped c.requires.accepted).threes; list_in_bounds = omega (arith, parts_long (scene_of c.args.positions.now c.args.edges.now c.args.triangles.now c.args.seams.now)) }

pub put_pairs-requires : goal.put_pairs-requires
put_pairs-requires c = record { list_len = (shaped c.requires.accepted).pairs; list_in_bounds = omega (arith, parts_long (scene_of c.args.positions.now c.args.edges.now c.args.triangles.now c.args.seams.now)) }

pub returns : goal.returns
returns c =
    let a = c.args in
    let s = scene_of a.positions.now a.edges.now a.triangles.now a.seams.now in
    rw (text_parts s)
    (wrote_then (wrote_then (wrote_then c.put_vertices-next.ensures c.put_pairs-next.ensures) c.put_triangles-next.ensures) c.put_pairs.ensures)
