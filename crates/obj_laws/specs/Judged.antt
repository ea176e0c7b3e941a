-- The checks of a line are what its numbers say, below a scene that every call accepts.
use Rattle.std.specs.Prelude.{Bool, true, false, ◌||◌, ◌≡◌, leb, ltb, eqb, ℤ, pos, negsuc, neg_ℤ, nat_abs, length, take}
use mathlib.Core.List.{List, [], ◌∷◌, ◌++◌, append-nil, map}
use Rattle.std.proofs.Math.Path.{refl}
use Rattle.std.proofs.Common.{sym, ap, ◌∙◌, subst, arith}
use Prim.Native.Nat.{ℕ, zero, suc, ◌+◌, ◌-◌, ◌*◌, ◌/◌, ◌≤◌, ◌<◌}
use Rattle.meaning.specs.Limits.{coordinate_limit}
use Rattle.meaning.specs.Refusals.{Outcome, given, refused}
use Rattle.meaning.specs.Scene.{Scene}
use Rattle.meaning.specs.Text.{vertex, triangle, numbers_of, EntryJudged}
use Rattle.meaning.specs.declared.SceneCounts.{SceneCounts}
use Rattle.text_line.specs.Above.{Above}
use Rattle.text_line.specs.Reading.{sort_of}
use Rattle.text_line.specs.Judging.{FaultIs, far_in, Judging, Begun, entry_begun, judges_vertex, judges_triangle}
use Rattle.meaning.specs.ObjFile.{signed, place_at}
use Rattle.meaning.specs.declared.Hundredths.{Hundredths}
use Rattle.obj_records.specs.Faults.{VertexFault, FaceFault}

abs_signed : (h : Hundredths) → nat_abs (signed h) ≡ h.size
abs_signed h = go h.minus h.size
  where
    use_neg : (n : ℕ) → nat_abs (neg_ℤ (pos n)) ≡ n
    use_neg zero = refl
    use_neg (suc n) = refl

    go : (m : Bool) (n : ℕ) → nat_abs (signed (record { minus = m; size = n })) ≡ n
    go true n = use_neg n
    go false n = refl

again : (a b d : Bool) → a || b || d ≡ a || b || d || a || b || d
again true b d = refl
again false true d = refl
again false false true = refl
again false false false = refl

module _ {s : Scene} {c : SceneCounts} (a : Above s c) (o : Outcome (Unit {0})) where
  pub vertex_judged : (x y z : Hundredths) → VertexFault c x y z o → EntryJudged s (vertex (place_at x y z) (place_at x y z)) o
  unfolding Begun sort_of numbers_of
  vertex_judged x y z f =
      let sizes : List ℕ = x.size ∷ y.size ∷ z.size ∷ x.size ∷ y.size ∷ z.size ∷ [] in
      entry_begun c sizes o (vertex (place_at x y z) (place_at x y z)) refl
      (cc (abs_signed x, abs_signed y, abs_signed z))
      (judges_vertex c sizes o (again (ltb coordinate_limit x.size) (ltb coordinate_limit y.size) (ltb coordinate_limit z.size)) f)
      s a

  pub face_judged : (i j k : ℕ) → FaceFault c i j k o → EntryJudged s (triangle i j k) o
  unfolding Begun sort_of numbers_of
  face_judged i j k f =
      entry_begun c (i ∷ j ∷ k ∷ []) o (triangle i j k) refl refl (judges_triangle c (i ∷ j ∷ k ∷ []) o f) s a
