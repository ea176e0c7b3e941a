-- `stored_reading::front::fill_front` meets its contract: what is lent on is the front of each buffer.
use mathlib.Core.Path.{sym}
use lib.Seq.{length-take-le}
use Rattle.stored_reading.proofs.front.fill_front.Goals as goal

pub slice_bounds-fill-end : goal.slice_bounds-fill-end
slice_bounds-fill-end c = let start = c in sym (length-take-le _ start.args.positions.now start.requires.in_front.positions)

pub slice_bounds-fill-end-2 : goal.slice_bounds-fill-end-2
slice_bounds-fill-end-2 c = let start = c in sym (length-take-le _ start.args.edges.now start.requires.in_front.edges)

pub slice_bounds-fill-end-3 : goal.slice_bounds-fill-end-3
slice_bounds-fill-end-3 c = let start = c in sym (length-take-le _ start.args.triangles.now start.requires.in_front.triangles)
