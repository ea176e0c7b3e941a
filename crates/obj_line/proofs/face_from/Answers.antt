-- `obj_line::face_from` meets its contract: what stands before the space, and what stands behind it.
use mathlib.Core.Path.{sym}
use native.Mathlib.Omega.{arith}
use lib.Seq.{length-take-le}
use Rattle.obj_line.specs.Parting.{face_from_lem}
use Rattle.obj_line.proofs.face_from.Goals as goal

pub slice_bounds-number_of-end : goal.slice_bounds-number_of-end
slice_bounds-number_of-end c = sym (length-take-le _ c.args.s.now c.cut_at_space-parts.ensures.ends)

pub slice_bounds-number_of-count : goal.slice_bounds-number_of-count
slice_bounds-number_of-count c = omega (arith, c.cut_at_space-parts.ensures.begins)

pub slice_bounds-number_of-start : goal.slice_bounds-number_of-start
slice_bounds-number_of-start c = omega (arith, c.cut_at_space-parts.ensures.begins)

pub returns : goal.returns
returns c =
    face_from_lem c.args.s.now c.cut_at_space-parts.ensures c.args.x c.number_of.ensures c.number_of-2.ensures
    c.face_with.ensures
