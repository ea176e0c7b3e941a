-- The verdict of a pair, from those of its pieces.
use Rattle.std.specs.Prelude.{ℕ, zero, suc, ◌/◌, ◌%◌, min, max, ◌<◌, ◌≤◌, ◌≡◌, refl, Bool, true, false, ◌||◌}
use Rattle.std.proofs.Common.{sym, ap, subst, ◌∙◌, arith}
use Rattle.meaning.specs.Scene.{Scene, vertex_count, edge_count, triangle_count, ends_of, corners_of}
use Rattle.three_words.specs.Ready.{PointReady, EdgesReady, point_ready, edges_ready}
use Rattle.meaning.specs.Pieces.{Piece, piece_of, piece_count, moving_point, moving_triangle, moving_edge}
use Rattle.meaning.specs.Refusals.{not_there}
use Rattle.meaning.specs.Verdicts.{PieceIs, PairIs}
use Rattle.meaning.specs.declared.Kind.{Kind}
use Rattle.meaning.specs.declared.Kind.TheVariants.{PointTriangle, EdgeEdge}
use Rattle.meaning.specs.declared.Verdict.{Verdict}
use Rattle.meaning.specs.declared.Verdict.TheVariants.{Hit, Miss, Degenerate}
use Rattle.scene_parts.specs.There.{pt_there, ee_there}
use Rattle.scene_checks.specs.Facts.{Sound}
use Rattle.exact_signs.specs.BySigns.{told, either_of}
use Rattle.exact_signs.specs.declared.Signs.{Signs}
use Rattle.theory.specs.Computed.{joined, joined_below, piece_verdict, pair_verdict}
use Rattle.theory.proofs.OneVerdict.{piece_is, pair_is}

abbrev signs : Bool → Bool → Signs
signs h f = record { hit = h; flat = f }

-- pieces taken together tell what they tell one by one
together : (h f k g : Bool) → told (either_of (signs h f) (signs k g)) ≡ joined (told (signs h f)) (told (signs k g))
unfolding joined
together true f k g = refl
together false true true g = refl
together false true false true = refl
together false true false false = refl
together false false k g = refl

pub tells_either : {r : Signs} (a b : Signs) → r ≡ either_of a b → told r ≡ joined (told a) (told b)
tells_either a b e = ap (λ (s : Signs). told s) e ∙ together a.hit a.flat b.hit b.flat

-- a miss adds nothing
joined_miss : (v : Verdict) → joined v Miss ≡ v
unfolding joined
joined_miss Hit = refl
joined_miss Miss = refl
joined_miss Degenerate = refl

module _ (s : Scene) (i j : ℕ) where
  pub of_three : (a b c : Verdict) → PieceIs (piece_of s PointTriangle i j 0) a → PieceIs (piece_of s PointTriangle i j 1) b
      → PieceIs (piece_of s PointTriangle i j 2) c → PairIs s PointTriangle i j (joined a (joined b c))
  unfolding joined_below piece_count
  of_three a b c p q r =
      (pair_is s PointTriangle i j (joined a (joined b c))).1
      (rw ((piece_is s PointTriangle i j 0 a).0 p, (piece_is s PointTriangle i j 1 b).0 q, (piece_is s PointTriangle i j 2 c).0 r)
      (rw joined_miss refl))

  pub of_four : (a b c d : Verdict) → PieceIs (piece_of s EdgeEdge i j 0) a → PieceIs (piece_of s EdgeEdge i j 1) b
      → PieceIs (piece_of s EdgeEdge i j 2) c → PieceIs (piece_of s EdgeEdge i j 3) d
      → PairIs s EdgeEdge i j (joined a (joined b (joined c d)))
  unfolding joined_below piece_count
  of_four a b c d p q r t =
      (pair_is s EdgeEdge i j (joined a (joined b (joined c d)))).1
      (rw ((piece_is s EdgeEdge i j 0 a).0 p, (piece_is s EdgeEdge i j 1 b).0 q, (piece_is s EdgeEdge i j 2 c).0 r, (piece_is s EdgeEdge i j 3 d).0 t)
      (rw joined_miss refl))

  pub ee_smaller_there : not_there s EdgeEdge i j ≡ false → min i j < edge_count s
  ee_smaller_there e = omega (arith, ee_there s i j e)

  pub ee_larger_there : not_there s EdgeEdge i j ≡ false → max i j < edge_count s
  ee_larger_there e = omega (arith, ee_there s i j e)

  -- what the verdict asks is there
  pub pt_ready : Sound s → not_there s PointTriangle i j ≡ false → PointReady s.positions i (corners_of s j)
  pt_ready a e = point_ready a i j (pt_there s i j e).0 (pt_there s i j e).1

  pub ee_ready : Sound s → not_there s EdgeEdge i j ≡ false
      → EdgesReady s.positions (ends_of s (min i j)) (ends_of s (max i j))
  ee_ready a e = edges_ready a (min i j) (max i j) (ee_smaller_there e) (ee_larger_there e)
