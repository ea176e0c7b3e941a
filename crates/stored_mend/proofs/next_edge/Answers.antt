use native.Mathlib.Omega.{arith}
use Rattle.scene_seams.specs.Alone.{only_edges}
use Rattle.stored_mend.specs.Mending.{edges_skipped}
use Rattle.stored_mend.proofs.next_edge.Goals as goal

pub overflow_mul-j : goal.overflow_mul-j
overflow_mul-j c = omega arith

pub next_place-requires : goal.next_place-requires
next_place-requires c = (omega arith, c.requires.1)

pub returns : goal.returns
returns c = edges_skipped (only_edges c.args.edges.now) _ _ c.next_place.ensures
