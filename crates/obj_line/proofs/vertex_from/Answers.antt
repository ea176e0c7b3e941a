-- `obj_line::vertex_from` meets its contract: what stands before the space, and what stands behind it.
use mathlib.Core.Path.{sym}
use native.Mathlib.Omega.{arith}
use lib.Seq.{length-take-le}
use Rattle.obj_line.specs.Parting.{vertex_from_lem}
use Rattle.obj_line.proofs.vertex_from.Goals as goal

pub slice_bounds-decimal_of-end : goal.slice_bounds-decimal_of-end
slice_bounds-decimal_of-end c = sym (length-take-le _ c.args.s.now c.cut_at_space-parts.ensures.ends)

pub slice_bounds-decimal_of-count : goal.slice_bounds-decimal_of-count
slice_bounds-decimal_of-count c = omega (arith, c.cut_at_space-parts.ensures.begins)

pub slice_bounds-decimal_of-start : goal.slice_bounds-decimal_of-start
slice_bounds-decimal_of-start c = omega (arith, c.cut_at_space-parts.ensures.begins)

pub returns : goal.returns
returns c =
    vertex_from_lem c.args.s.now c.cut_at_space-parts.ensures c.args.x c.decimal_of.ensures c.decimal_of-2.ensures
    c.vertex_with.ensures
