use native.Mathlib.Omega.{arith}
use Rattle.scene_seams.specs.Alone.{only_triangles}
use Rattle.stored_mend.specs.Mending.{triangles_skipped}
use Rattle.stored_mend.proofs.next_triangle.Goals as goal

pub overflow_mul-j : goal.overflow_mul-j
overflow_mul-j c = omega arith

pub next_place-requires : goal.next_place-requires
next_place-requires c = (omega arith, c.requires.1)

pub returns : goal.returns
returns c = triangles_skipped (only_triangles c.args.triangles.now) _ _ c.next_place.ensures
