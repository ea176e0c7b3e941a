-- `sewing::hold_seam` meets its contract: 15 by the table before the seam, 4 by the table with it.
use native.Mathlib.Omega.{arith}
use mathlib.Core.Path.{sym}
use lib.Seq.{length-take-le}
use Rattle.text_record.specs.Holding.{vertex_in_front, held_broken, held_repeated, held_good}
use Rattle.text_record.proofs.sewing.hold_seam.Goals as goal

pub slice_bounds-sew_next-end : goal.slice_bounds-sew_next-end
slice_bounds-sew_next-end c = sym (length-take-le _ _ (omega (arith, c.requires.positions)))

pub sew_next-broken-requires : goal.sew_next-broken-requires
sew_next-broken-requires c =
    let p = c.requires in
    (vertex_in_front _ _ _ p.positions p.first, vertex_in_front _ _ _ p.positions p.second)

pub slice_bounds-repeated_vertex-end : goal.slice_bounds-repeated_vertex-end
slice_bounds-repeated_vertex-end c = sym (length-take-le _ _ (omega (arith, c.requires.edges)))

pub slice_bounds-repeated_vertex-end-2 : goal.slice_bounds-repeated_vertex-end-2
slice_bounds-repeated_vertex-end-2 c = sym (length-take-le _ _ (omega (arith, c.requires.triangles)))

pub returns-then-broken : goal.returns-then-broken
returns-then-broken c =
    let s = c in
    held_broken _ _ _ _ s.least_after-least.ensures s.sew_next-broken.ensures.0 s.sew_next-broken.ensures.1 c.if-broken.true

pub returns-then-repeated : goal.returns-then-repeated
returns-then-repeated c =
    let s = c in
    held_repeated _ _ _ _ s.least_after-least.ensures s.sew_next-broken.ensures.0 s.sew_next-broken.ensures.1 c.if-broken.false
    c.repeated_vertex-repeated.ensures c.if-repeated.true

pub returns : goal.returns
returns c =
    let s = c in
    held_good _ _ _ _ s.least_after-least.ensures s.sew_next-broken.ensures.0 s.sew_next-broken.ensures.1 c.if-broken.false
    c.repeated_vertex-repeated.ensures c.if-repeated.false
