-- `tearing::tears`: the seam has the vertex as its first, as its second, or not at all.
use native.Mathlib.Omega.{arith}
use Rattle.scene_seams.specs.Sewing.{seams_alone}
use Rattle.stored_laws.specs.Torn.{torn_first, torn_second, torn_neither}
use Rattle.stored_move.proofs.tearing.tears.Goals as goal

pub bounds-seams-k : goal.bounds-seams-k
bounds-seams-k c = omega (arith, c.requires.0.inside)

pub bounds-seams-k-2 : goal.bounds-seams-k-2
bounds-seams-k-2 c = omega (arith, c.requires.0.inside)

pub apart_from-requires : goal.apart_from-requires
apart_from-requires c = let start = c in (omega (arith, start.requires.0.below, start.requires.0.there, c.wide-j.ensures), start.requires.2)

pub returns-then-i-v : goal.returns-then-i-v
returns-then-i-v c =
    let start = c in
    let a = start.args in
    let s = seams_alone a.positions.now a.seams.now in
    torn_first s a.v a.coordinates.now start.requires.1 a.k start.requires.0 c.wide-i.ensures c.wide-j.ensures c.if-i-v.true c.apart_from.ensures

pub apart_from-requires-then-j-v : goal.apart_from-requires-then-j-v
apart_from-requires-then-j-v c = let start = c in (omega (arith, start.requires.0.there, c.wide-i.ensures), start.requires.2)

pub returns-then-j-v : goal.returns-then-j-v
returns-then-j-v c =
    let start = c in
    let a = start.args in
    let s = seams_alone a.positions.now a.seams.now in
    torn_second s a.v a.coordinates.now start.requires.1 a.k start.requires.0 c.wide-i.ensures c.wide-j.ensures c.if-i-v.false c.if-j-v.true c.apart_from-then-j-v.ensures

pub returns : goal.returns
returns c =
    let start = c in
    let a = start.args in
    let s = seams_alone a.positions.now a.seams.now in
    torn_neither s a.v a.coordinates.now start.requires.1 a.k start.requires.0 c.wide-i.ensures c.wide-j.ensures c.if-i-v.false c.if-j-v.false
