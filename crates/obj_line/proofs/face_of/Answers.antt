-- `obj_line::face_of` meets its contract: the first number, and the two behind it.
use mathlib.Core.Path.{sym}
use native.Mathlib.Omega.{arith}
use lib.Seq.{length-take-le}
use Rattle.obj_line.specs.Parting.{face_of_lem}
use Rattle.obj_line.proofs.face_of.Goals as goal

pub slice_bounds-number_of-end : goal.slice_bounds-number_of-end
slice_bounds-number_of-end c = sym (length-take-le _ c.args.s.now c.cut_at_space-parts.ensures.ends)

pub slice_bounds-face_from-count : goal.slice_bounds-face_from-count
slice_bounds-face_from-count c = omega (arith, c.cut_at_space-parts.ensures.begins)

pub slice_bounds-face_from-start : goal.slice_bounds-face_from-start
slice_bounds-face_from-start c = omega (arith, c.cut_at_space-parts.ensures.begins)

pub returns : goal.returns
returns c = face_of_lem c.args.s.now c.cut_at_space-parts.ensures c.number_of.ensures c.face_from.ensures
