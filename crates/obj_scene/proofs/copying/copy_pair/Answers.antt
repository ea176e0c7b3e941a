-- `copying::copy_pair` meets its contract: three copies, each of one buffer.
use native.Mathlib.Omega.{arith}
use Rattle.obj_scene.proofs.copying.copy_pair.Goals as goal

pub copy_positions-requires : goal.copy_positions-requires
copy_positions-requires c = (omega (arith, c.requires.bounded.vertices, c.requires.drafts.starts), omega (arith, c.requires.bounded.vertices, c.requires.drafts.ends), omega (arith, c.requires.bounded.vertices, c.requires.lent.points))

pub copy_numbers-requires : goal.copy_numbers-requires
copy_numbers-requires c = (omega (arith, c.requires.bounded.edges, c.requires.drafts.sides), omega (arith, c.requires.bounded.edges, c.requires.lent.sides))

pub copy_numbers-requires-2 : goal.copy_numbers-requires-2
copy_numbers-requires-2 c = (omega (arith, c.requires.bounded.triangles, c.requires.drafts.corners), omega (arith, c.requires.bounded.triangles, c.requires.lent.corners))

pub returns : goal.returns
returns c = record { positions = c.copy_positions.ensures; edges = c.copy_numbers.ensures; triangles = c.copy_numbers-2.ensures }
