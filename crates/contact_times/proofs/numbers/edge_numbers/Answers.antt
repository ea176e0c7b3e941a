-- Each edge's share is cut from the volumes of its higher end.
use mathlib.Core.Path.{refl}
use Rattle.contact_times.proofs.numbers.edge_numbers.Goals as goal

pub share-first-requires : goal.share-first-requires
share-first-requires c = let p = c.requires in (p.0, p.1, p.2.one)

pub share-second-requires : goal.share-second-requires
share-second-requires c = let p = c.requires in (p.0, p.1, p.2.other)

pub returns : goal.returns
returns c =
    record {
      same_piece = refl;
      same_k = refl;
      one = c.share-first.ensures;
      other = c.share-second.ensures;
      nothing = refl;
    }
