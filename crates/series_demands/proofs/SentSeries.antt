-- The series that demand 3 speaks of, made: it moves as demanded, and of two blocks that are sent each step keeps its verdicts.
use Rattle.std.specs.Prelude.{ℕ, ◌+◌, ◌≢◌, ◌≡◌, refl, ℤ, pos}
use mathlib.Core.List.{List, [], ◌∷◌, Memᴰ}
use Rattle.std.proofs.Common.{subst, arith}
use Rattle.whole.specs.Vector.{Vector, volume}
use Rattle.whole.specs.VectorLaws.{Matrix, det}
use Rattle.meaning.specs.Scene.{Scene, Accepted, vertex_count}
use Rattle.meaning.specs.Series.{Series, steps_from, steps_of}
use Rattle.meaning.specs.SeriesText.{HoldsSeries}
use Rattle.demands.specs.Table.{neg}
use Rattle.demands.specs.Sending.{moves_sent, turning}
use Rattle.series_laws.specs.AllAccepted.{steps_accepted}
use Rattle.series_demands.specs.Demand3.{BlocksMove, SeriesMoves, AllAccepted, StepsKeep}
use Rattle.series_demands.proofs.Demand3.{demand3_series}
use Rattle.series_demands.specs.SentSeries.{each_gives_all, send_blocks, send_series, block_sent, two_blocks, apart_from, two_blocks_accepted, sent_too_accepted}

-- the first step of a series is its scene
first_step : (s : Scene) (bs : List (List ℤ)) → Memᴰ s (steps_from s bs)
unfolding steps_from
first_step s [] = Memᴰ.head refl
first_step s (b ∷ bs) = Memᴰ.head refl

module _ (m : Matrix) (shift : ℕ → Vector) where
  pub blocks_sent : (n count : ℕ) (es : List (List ℤ)) → BlocksMove m shift n count es (send_blocks m shift n count es)
  unfolding BlocksMove send_blocks
  blocks_sent n count [] = tt
  blocks_sent n count (e ∷ es) = (block_sent m shift n count e, blocks_sent (n + 1) count es)

  pub series_sent : det m ≢ pos 0 → (x : Series) → Accepted x.scene → SeriesMoves m shift x (send_series m shift x)
  unfolding send_series
  series_sent nonzero x accepted = record {
    scene = moves_sent m (shift 0) (shift 1) x.scene nonzero accepted;
    blocks = blocks_sent 2 (vertex_count x.scene) x.blocks;
  }

  -- two texts that are read, the one sent through the matrix and the shifts: each step keeps its verdicts and words
  pub texts_keep : det m ≢ pos 0 → {text text' : List ℕ} (x : Series) → HoldsSeries text x → HoldsSeries text' (send_series m shift x)
      → StepsKeep (steps_of x) (steps_of (send_series m shift x))
  texts_keep nonzero x held sent =
      demand3_series m shift x (send_series m shift x) (series_sent nonzero x (steps_accepted held x.scene (first_step x.scene x.blocks)))
      (each_gives_all (steps_of x) (steps_accepted held)) (each_gives_all (steps_of (send_series m shift x)) (steps_accepted sent))

turned : det turning ≡ neg 2
unfolding volume
turned = refl

pub two_blocks_moved : SeriesMoves turning apart_from two_blocks (send_series turning apart_from two_blocks)
unfolding AllAccepted steps_from
two_blocks_moved = series_sent turning apart_from (λ e. absurd (never (subst (λ z. z ≡ pos 0) turned e))) two_blocks two_blocks_accepted.0
  where
    never : neg 2 ≡ pos 0 → ⊥
    never e = let z : ◌≡◌ {A = ℕ} 0 1 = cc in omega arith

pub two_blocks_keep : StepsKeep (steps_of two_blocks) (steps_of (send_series turning apart_from two_blocks))
two_blocks_keep = demand3_series turning apart_from two_blocks (send_series turning apart_from two_blocks) two_blocks_moved two_blocks_accepted sent_too_accepted
