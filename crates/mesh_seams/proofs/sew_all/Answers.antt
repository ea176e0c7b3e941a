use Prim.Native.Nat.{◌*◌}
use native.Mathlib.Omega.{arith}
use Rattle.scene_seams.specs.Sewing.{sewing_starts, sewing_goes, sewing_ends}
use Rattle.mesh_seams.specs.Sewing.{mesh_seam_fits}
use Rattle.mesh_seams.proofs.sew_all.Goals as goal

pub loop-k-init : goal.loop-k-init
loop-k-init c = sewing_starts _ _ _ c.requires.blank.none

pub sew_next-broken-requires : goal.sew_next-broken-requires
sew_next-broken-requires c =
    let known = c.requires.inside in
    (known _ (omega arith), known _ (omega arith))

pub overflow_add-least : goal.overflow_add-least
overflow_add-least c =
    let start = c in
    omega (arith, c.wide-least.ensures, start.requires.inside (2 * c.loop-k.k) (omega arith))

pub loop-k-preserved : goal.loop-k-preserved
loop-k-preserved c =
    let start = c in
    let called = c.sew_next-broken in
    rw (called.ensures.1, c.wide-least.ensures)
    (sewing_goes _ _ _ c.loop-k.invariant (omega arith) (mesh_seam_fits start.requires _ (omega arith)) called.result called.ensures.0)

pub shape_of-stands : goal.shape_of-stands
shape_of-stands c = c.loop-k.invariant.long

pub returns : goal.returns
returns c = sewing_ends _ _ _ c.loop-k.invariant (omega arith) c.requires.even
