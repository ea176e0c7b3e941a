-- Each corner's share is cut from the volumes of its start and its end.
use mathlib.Core.Path.{refl}
use Rattle.contact_times.proofs.numbers.point_numbers.Goals as goal

pub share-first-requires : goal.share-first-requires
share-first-requires c = let p = c.requires in (p.0, p.1, p.2.low)

pub share-second-requires : goal.share-second-requires
share-second-requires c = let p = c.requires in (p.0, p.1, p.2.middle)

pub share-third-requires : goal.share-third-requires
share-third-requires c = let p = c.requires in (p.0, p.1, p.2.high)

pub returns : goal.returns
returns c =
    record {
      same_piece = refl;
      same_k = refl;
      low = c.share-first.ensures;
      middle = c.share-second.ensures;
      high = c.share-third.ensures;
    }
