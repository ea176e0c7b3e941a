-- `goes_near`: only where near rows are asked for, no order is lent, and there is room.
use borrow.Author.Rules.{rules}
use native.Mathlib.Omega.{arith}
use mathlib.Core.Bool.{◌&&◌, false≢true}
use mathlib.Core.Path.{sym, ◌∙◌}
use lib.Dec.{leb, ltb}
use lib.ListN.{length}
use borrow.Author.Tests.{leb-true, ltb-true}
use Rattle.sequences.specs.Pick.{both}
use Rattle.near_either.proofs.goes_near.Goals as goal

pub returns-in-Listed : goal.returns-in-Listed
returns-in-Listed c = λ e. absurd (false≢true e)

pub returns-in-Near : goal.returns-in-Near
returns-in-Near c =
    λ e.
    let room = c.frames_room-room in
    let a = c.args in
    let long = length a.boxes.now in
    let m = length a.edge_order.now in
    let n = length a.triangle_order.now in
    let (ways, fits) = both (c.unordered.result && c.falls.result) (leb room.result long) e in
    let (edgeless, faceless) = both (ltb m 1) (ltb n 1) (sym c.unordered.ensures ∙ (both c.unordered.result c.falls.result ways).0) in
    record {
      near = c.in-Near.is;
      no_edges = omega (arith, ltb-true m 1 edgeless);
      no_triangles = omega (arith, ltb-true n 1 faceless);
      room = omega (arith, leb-true room.result long fits, room.ensures);
    }
