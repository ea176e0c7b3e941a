-- The five places are those of the vertices.
use native.Mathlib.Omega.{arith}
use Rattle.pierced_pair.specs.Vertices.{places_in, places_told}
use Rattle.pierced_pair.proofs.places.vertices_in_common.Goals as goal

pub in_common-requires : goal.in_common-requires
in_common-requires c =
    let start = c in
    let a = start.args in
    places_in a.positions.now a.frame a.p a.q a.a a.b a.c c.place_of.ensures c.place_of-2.ensures
    c.place_of-3.ensures c.place_of-4.ensures c.place_of-5.ensures start.requires

pub returns : goal.returns
returns c =
    let start = c in
    let a = start.args in
    places_told a.positions.now a.frame a.p a.q a.a a.b a.c c.place_of.ensures c.place_of-2.ensures
    c.place_of-3.ensures c.place_of-4.ensures c.place_of-5.ensures _ c.in_common.ensures

pub place_of-requires : goal.place_of-requires
place_of-requires c = omega (arith, c.requires.few, c.requires.one_end)

pub place_of-requires-2 : goal.place_of-requires-2
place_of-requires-2 c = omega (arith, c.requires.few, c.requires.other_end)

pub place_of-requires-3 : goal.place_of-requires-3
place_of-requires-3 c = omega (arith, c.requires.few, c.requires.one_corner)

pub place_of-requires-4 : goal.place_of-requires-4
place_of-requires-4 c = omega (arith, c.requires.few, c.requires.next_corner)

pub place_of-requires-5 : goal.place_of-requires-5
place_of-requires-5 c = omega (arith, c.requires.few, c.requires.last_corner)
