-- Of `Rewritten`: what rests on its definitions.
use Rattle.std.specs.Prelude.{◌≡◌, refl, ◌↔◌, Bool}
use Rattle.std.proofs.Math.Path.{sym, ap, ap₂, fun_ext}
use Rattle.std.proofs.Common.{◌∙◌}
use mathlib.Core.List.{List, [], ◌∷◌, map}
use Prim.Native.Nat.{ℕ, ◌<◌}
use Rattle.meaning.specs.Scene.{Scene, scene_of, triangle_count, edge_end, same, rising, ends_of, corners_of}
use Rattle.meaning.specs.Pieces.{Event, Piece, piece_of}
use Rattle.meaning.specs.Verdicts.{PieceIs, PairIs}
use Rattle.meaning.specs.Resting.{PieceSettled, PairSettled}
use Rattle.meaning.specs.Refusals.{shares}
use Rattle.meaning.specs.Boxes.{Span, Axis, x_axis, y_axis, z_axis, triangle_span, meet, meet_on, listed, culled}
use Rattle.meaning.specs.Motion.{first_part, second_part}
use Rattle.meaning.specs.declared.Kind.{Kind}
use Rattle.meaning.specs.declared.Kind.TheVariants.{PointTriangle, EdgeEdge}
use Rattle.meaning.specs.declared.Verdict.{Verdict}
use Rattle.meaning.specs.declared.Settled.{Settled}
use Rattle.theory.specs.Bounds.{Every}
use Rattle.theory.specs.Alike.{alike_same, alike_piece, piece_for_piece, alike_pair, alike_word, alike_pair_word}
use Rattle.theory.specs.MovingParts.{SameParts, mapped, piece_follows}
use Rattle.theory.specs.Written.{ends_written, corners_written, ends_any_order, corners_any_order}
use Rattle.theory.specs.AnyOrder.{any, any_rearranged, shares_corners, shares_ends, triangle_box_is}
use Rattle.theory.specs.Rewritten.{Rewritten, PartsThere, WellMade, follows, vertex_boxes, box_rewritten, edge_box}

module _ {s t : Scene} (h : Rewritten s t) where
  pub same_parts : (kind : Kind) (i j : ℕ) → WellMade s kind i j → SameParts s t kind i j
  unfolding SameParts WellMade
  same_parts PointTriangle i j w =
      ap (λ (k : List ℕ). corners_of (scene_of [] [] t.triangles k) j) h.seams
      ∙ sym (corners_any_order s (h.triangles j w.0) w.1)
  same_parts EdgeEdge i j w = (edge i ∙ sym (ends_any_order s (h.edges i w.0) w.1), edge j ∙ sym (ends_any_order s (h.edges j w.2) w.3))
    where
      edge : (j : ℕ) → ends_of t j ≡ rising s (edge_end t j 0) (edge_end t j 1)
      edge j = ap (λ (k : List ℕ). ends_of (scene_of [] t.edges [] k) j) h.seams

  pub rewritten_piece : (kind : Kind) (i j : ℕ) → WellMade s kind i j → (k : ℕ) → piece_of t kind i j k ≡ piece_of s kind i j k
  rewritten_piece kind i j w k =
      piece_follows (follows h) kind i j (same_parts kind i j w) (all_pass (first_part s kind i)) (all_pass (second_part s kind j)) k
      ∙ unchanged (piece_of s kind i j k)
    where
      all_pass : (l : List ℕ) → Every (λ v. Unit {0}) l
      all_pass [] = tt
      all_pass (v ∷ l) = (tt, all_pass l)

      same_list : (l : List Event) → map (λ e. e) l ≡ l
      same_list [] = refl
      same_list (e ∷ l) = ap (λ (k : List Event). e ∷ k) (same_list l)

      unchanged : (p : Piece) → mapped (λ e. e) p ≡ p
      unchanged p = λ n. record { first = same_list p.first n; second = same_list p.second n }

  pub rewritten_keeps_pieces : (kind : Kind) (i j : ℕ) → WellMade s kind i j → (k : ℕ) (v : Verdict) → PieceIs (piece_of s kind i j k) v ↔ PieceIs (piece_of t kind i j k) v
  rewritten_keeps_pieces kind i j w k v = alike_piece (alike_same (sym (rewritten_piece kind i j w k))) v

  pub rewritten_keeps_pairs : (kind : Kind) (i j : ℕ) → WellMade s kind i j → (v : Verdict) → PairIs s kind i j v ↔ PairIs t kind i j v
  rewritten_keeps_pairs kind i j w v = alike_pair kind s t i j i j (piece_for_piece (λ k below. alike_same (sym (rewritten_piece kind i j w k)))) v

  pub rewritten_keeps_words : (kind : Kind) (i j : ℕ) → WellMade s kind i j → (k : ℕ) (v : Settled) → PieceSettled (piece_of s kind i j k) v ↔ PieceSettled (piece_of t kind i j k) v
  rewritten_keeps_words kind i j w k v = alike_word (alike_same (sym (rewritten_piece kind i j w k))) v

  pub rewritten_keeps_pair_words : (kind : Kind) (i j : ℕ) → WellMade s kind i j → (v : Settled) → PairSettled s kind i j v ↔ PairSettled t kind i j v
  rewritten_keeps_pair_words kind i j w v = alike_pair_word kind s t i j i j (piece_for_piece (λ k below. alike_same (sym (rewritten_piece kind i j w k)))) v

  -- the seams are the same, so vertices are alike in both
  alike : (v : ℕ) (l : List ℕ) → any (same t v) l ≡ any (same s v) l
  alike v l = ap (λ (k : List ℕ). any (same (scene_of [] [] [] k) v) l) h.seams

  pub rewritten_shares : (kind : Kind) (i j : ℕ) → PartsThere s kind i j → shares t kind i j ≡ shares s kind i j
  unfolding PartsThere
  rewritten_shares PointTriangle i j w =
      shares_corners t i j ∙ alike i (corners_written t j) ∙ sym (any_rearranged (same s i) (h.triangles j w)) ∙ sym (shares_corners s i j)
  rewritten_shares EdgeEdge i j w =
      shares_ends t i j ∙ ap (λ (f : ℕ → Bool). any f (ends_written t i)) (fun_ext (λ a. alike a (ends_written t j)))
      ∙ sym (any_rearranged (λ a. any (same s a) (ends_written t j)) (h.edges i w.0))
      ∙ ap (λ (f : ℕ → Bool). any f (ends_written s i)) (fun_ext (λ a. sym (any_rearranged (same s a) (h.edges j w.1))))
      ∙ sym (shares_ends s i j)

  pub triangle_box : (a : Axis) (j : ℕ) → j < triangle_count s → triangle_span t a j ≡ triangle_span s a j
  triangle_box a j w = triangle_box_is t a j ∙ box_rewritten h a (h.triangles j w) ∙ sym (triangle_box_is s a j)

  pub rewritten_meet : (kind : Kind) (i j : ℕ) → PartsThere s kind i j → (a : Axis) → meet_on t kind i j a ≡ meet_on s kind i j a
  unfolding meet_on PartsThere
  rewritten_meet PointTriangle i j w a = ap₂ meet (ap (λ (f : ℕ → Span). f i) (vertex_boxes h a)) (triangle_box a j w)
  rewritten_meet EdgeEdge i j w a = ap₂ meet (edge_box h a i w.0) (edge_box h a j w.1)

  module _ (kind : Kind) (i j : ℕ) (w : PartsThere s kind i j) where
    pub rewritten_listed : listed t kind i j ≡ listed s kind i j
    rewritten_listed = rw (rewritten_shares kind i j w, rewritten_meet kind i j w x_axis, rewritten_meet kind i j w y_axis, rewritten_meet kind i j w z_axis)

    pub rewritten_culled : culled t kind i j ≡ culled s kind i j
    rewritten_culled = rw (rewritten_shares kind i j w, rewritten_meet kind i j w x_axis, rewritten_meet kind i j w y_axis, rewritten_meet kind i j w z_axis)
