-- What the numbers of a hit pair ask is there, in a scene within the old range.
use Rattle.std.specs.Prelude.{ℕ, min, max, ◌≡◌, false}
use Rattle.std.proofs.Common.{lit≤}
use Rattle.meaning.specs.Limits.{contact_limit}
use Rattle.meaning.specs.Scene.{Scene, corners_of, ends_of, reaches_beyond, Accepted, AcceptedWithin}
use Rattle.meaning.specs.Pieces.{piece_of, piece_count}
use Rattle.meaning.specs.Refusals.{not_there}
use Rattle.meaning.specs.Resting.{PieceSettled, PairSettled}
use Rattle.meaning.specs.declared.Kind.TheVariants.{PointTriangle, EdgeEdge}
use Rattle.meaning.specs.declared.Settled.TheVariants.{Hit}
use Rattle.exact.specs.Places.{Bounded}
use Rattle.scene_checks.specs.Facts.{SoundWithin, Sound, accepted_wider, sound_wider}
use Rattle.three_words.specs.Ready.{PointReady, EdgesReady}
use Rattle.three_words.specs.Pairs.{pt_ready, ee_ready}
use Rattle.contact_times.specs.Hits.{PointHits, EdgesHit}

-- an accepted scene that reaches nowhere beyond the old range
pub within_old : {s : Scene} → Accepted s → reaches_beyond contact_limit s ≡ false → AcceptedWithin contact_limit s
within_old a h = record { shapely = a.shapely; in_range = h; known = a.known; sewn_well = a.sewn_well; distinct = a.distinct }

pub old_accepted : {s : Scene} → AcceptedWithin contact_limit s → Accepted s
old_accepted a = accepted_wider (lit≤ tt) a

pub old_sound : {s : Scene} → SoundWithin contact_limit s → Sound s
old_sound a = sound_wider (lit≤ tt) a

module _ (s : Scene) (i j : ℕ) (a : SoundWithin contact_limit s) where
  bounded : Bounded contact_limit s.positions
  bounded = record { at = λ k. record { size = a.within k } }

  pub pt_asked : not_there s PointTriangle i j ≡ false → PairSettled s PointTriangle i j Hit
      → PointReady s.positions i (corners_of s j) × Bounded contact_limit s.positions × PointHits s.positions i (corners_of s j)
  unfolding PairSettled PieceSettled piece_of piece_count
  pt_asked e h =
      (pt_ready s i j (old_sound a) e, bounded, record { which = h.which; there = h.there; has = h.has })

  pub ee_asked : not_there s EdgeEdge i j ≡ false → PairSettled s EdgeEdge i j Hit
      → EdgesReady s.positions (ends_of s (min i j)) (ends_of s (max i j)) × Bounded contact_limit s.positions × EdgesHit s.positions (ends_of s (min i j)) (ends_of s (max i j))
  unfolding PairSettled PieceSettled piece_of piece_count
  ee_asked e h =
      (ee_ready s i j (old_sound a) e, bounded, record { which = h.which; there = h.there; has = h.has })
