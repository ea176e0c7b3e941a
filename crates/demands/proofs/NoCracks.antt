-- Of `NoCracks`: what rests on its definitions.
use Rattle.std.specs.Prelude.{ℕ, ◌<◌, List}
use Rattle.std.proofs.Common.{subst}
use Rattle.meaning.specs.Scene.{Scene, Accepted, triangle_count, rising}
use Rattle.meaning.specs.Pieces.{Event, moving_edge}
use Rattle.meaning.specs.Equations.{Touch}
use Rattle.demands.specs.NoCracks.{TouchesTriangle, side_touched, ShareAnEdge, cut_once}

module _ {s : Scene} (accepted : Accepted s) (t t' : ℕ) (there : t < triangle_count s) (there' : t' < triangle_count s) (e : ShareAnEdge s t t') where
  -- so what touches a piece of that edge touches both faces: no corner slips through between two faces, nor between two sewn pieces of cloth
  pub no_cracks_at_seams : (m : ℕ) (points : List Event) → Touch (moving_edge s.positions (rising s e.a e.b) m) points
      → TouchesTriangle s t points × TouchesTriangle s t' points
  no_cracks_at_seams m points touch = (
    side_touched accepted e.a e.b t there e.first m points touch,
    side_touched accepted e.c e.d t' there' e.second m points (subst (λ (f : List Event). Touch f points) (cut_once accepted t t' there there' e m) touch),
  )
