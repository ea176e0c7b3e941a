-- 'Faces either side of a seam share an edge': what `no_cracks_at_seams` asks for is so of two faces of which one has the first vertices of two seams
-- and the other their second.
use Rattle.std.specs.Prelude.{ℕ, ◌<◌, List}
use Rattle.std.proofs.Common.{sym}
use Rattle.meaning.specs.Scene.{Scene, Accepted, triangle_count, seam_count, sewn, onto, rising}
use Rattle.meaning.specs.Pieces.{Event, moving_edge}
use Rattle.meaning.specs.Equations.{Touch}
use Rattle.theory.specs.NoCrack.{HasTwo}
use Rattle.demands.specs.NoCracks.{ShareAnEdge, TouchesTriangle}
use Rattle.demands.proofs.NoCracks.{no_cracks_at_seams}
use Rattle.demands.specs.StandForOne.{stand_for_one}

module _ (s : Scene) (accepted : Accepted s) (t t' m n : ℕ) (first : m < seam_count s) (second : n < seam_count s)
    (here : HasTwo s t (onto s m) (onto s n)) (there : HasTwo s t' (sewn s m) (sewn s n)) where
  pub either_side_shares : ShareAnEdge s t t'
  either_side_shares = record {
    a = onto s m;
    b = onto s n;
    c = sewn s m;
    d = sewn s n;
    first = here;
    second = there;
    one = sym (stand_for_one s accepted m first);
    other = sym (stand_for_one s accepted n second);
  }

  -- so nothing slips through there: what touches the seam touches both faces
  pub no_crack_at_a_seam : t < triangle_count s → t' < triangle_count s → (k : ℕ) (points : List Event)
      → Touch (moving_edge s.positions (rising s (onto s m) (onto s n)) k) points → TouchesTriangle s t points × TouchesTriangle s t' points
  unfolding either_side_shares
  no_crack_at_a_seam below below' k points touch = no_cracks_at_seams accepted t t' below below' either_side_shares k points touch
