-- `store_place`: span by span.
use Rattle.near_runs.specs.Held.{place_stored}
use Rattle.near_runs.proofs.store_place.Goals as goal

pub returns : goal.returns
returns c =
    let start = c in
    let a = start.args in
    place_stored a.positions.now a.own.now a.to a.from c.store_spot.ensures c.store_spot-2.ensures c.store_spot-3.ensures start.requires.1
