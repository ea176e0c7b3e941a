-- Each way out of the call that reads a text with its boxes.
use Rattle.std.specs.Prelude.{ℕ, ◌*◌, true, false, List, [], ℤ, take, Err, Ok, Result}
use Rattle.std.proofs.Math.Path.{◌≡◌, refl, ap, subst}
use Rattle.std.proofs.Common.{◌∙◌}
use native.Mathlib.Omega.{arith}
use Rattle.meaning.specs.Scene.{Scene}
use Rattle.meaning.specs.Refusals.{Outcome, given, refused, number_of, carrying, outcome_of}
use Rattle.meaning.specs.Text.{TextIs, counts_of, counts_told, filled, TextRead}
use Rattle.meaning.specs.StoredBoxes.{short_boxes, Filled, BoxedOutcome, FillsRead, BoxedRead}
use Rattle.meaning.specs.declared.Refusal.TheVariants.{ShortBuffer}
use Rattle.meaning.specs.declared.SceneCounts.{SceneCounts}
use Rattle.list_boxes.specs.Parts.{Drawn, accepted_drawn}
use Rattle.text_scene.specs.Unique.{text_unique}
use Rattle.text_scene.specs.Using.{Came, by_buffers, by_length, by_lines, came, front_of, FewOf, Fronts, few_read, fronts_read, holds_read, accepted_read, read_refusal_of}
use Rattle.stored_reading.specs.Front.{front_with, InFront}
use Rattle.meaning.specs.declared.Refused.{Refused}

-- what was read is the front of the buffers
module _ {text : List ℕ} {lent left : Scene} {c : SceneCounts} (a : TextRead text lent left (Ok c)) where
  not_refused : {n line : ℕ} → a.outcome ≡ refused n line → ⊥
  unfolding outcome_of counts_told
  not_refused p =
      let q : ◌≡◌ {A = Outcome SceneCounts} (given c) (counts_told a.outcome) = a.says in
      let z : ◌≡◌ {A = ℕ} 0 1 = cc (ap counts_told p) in
      omega arith

  pub outcome_front : a.outcome ≡ given (front_of c left)
  unfolding TextIs
  outcome_front = by_way (came text lent a.outcome a.right)
    where
      by_way : Came text lent a.outcome → a.outcome ≡ given (front_of c left)
      by_way (by_buffers x p) = absurd (not_refused p)
      by_way (by_length x y p) = absurd (not_refused p)
      by_way (by_lines x y t) = text_unique text a.outcome (given (front_of c left)) t (holds_read a refl)

-- ---- what filling in asks for

module _ {text : List ℕ} {lent left : Scene} {r : Result SceneCounts Refused} (a : TextRead text lent left r) {c : SceneCounts} (e : r ≡ Ok c) where
  abbrev given_so : TextRead text lent left (Ok c)
  given_so = subst (TextRead text lent left) e a

  counts : given c ≡ given (counts_of (front_of c left))
  unfolding outcome_of counts_told
  counts = given_so.says ∙ ap counts_told (outcome_front given_so)

  leaves : left ≡ filled (given (front_of c left)) lent
  leaves = given_so.leaves ∙ ap (λ o. filled o lent) (outcome_front given_so)

  pub read_in_front : InFront c left.positions left.edges left.triangles
  read_in_front =
      let few : FewOf c = few_read a e in
      let room : Fronts c left = fronts_read a e in
      record {
        few_vertices = few.vertices;
        few_edges = few.edges;
        few_triangles = few.triangles;
        positions = room.points;
        edges = room.sides;
        triangles = room.corners;
      }

  pub read_drawn : Drawn (front_with c left.positions left.edges left.triangles [])
  read_drawn = accepted_drawn {s = front_of c left} (accepted_read a e)

-- ---- the three ways out

module _ (text : List ℕ) (lent : Scene) (b : List ℤ) where
  pub boxed_short : short_boxes b ≡ true → BoxedRead text lent lent b b (Err (carrying ShortBuffer 0))
  unfolding outcome_of counts_told filled number_of FillsRead
  boxed_short e = record { outcome = refused 12 0; right = rw e refl; says = refl; leaves = refl; boxes = refl }

  module _ (long : short_boxes b ≡ false) {left : Scene} {r : Result SceneCounts Refused} (a : TextRead text lent left r) where
    with_boxes : {o : Outcome Scene} → Came text lent o → BoxedOutcome text lent b o
    with_boxes (by_buffers e p) = rw (long, e) p
    with_boxes (by_length e d p) = rw (long, e, d) p
    with_boxes (by_lines e d t) = rw (long, e, d) t

    pub boxed_refused : {x : Refused} → r ≡ Err x → BoxedRead text lent left b b (Err x)
    unfolding outcome_of counts_told filled FillsRead
    boxed_refused {x} e =
        let (kept, by) = read_refusal_of (subst (TextRead text lent left) e a) in
        record { outcome = refused (number_of x.why) x.carries; right = with_boxes by; says = refl; leaves = kept; boxes = refl }

    pub boxed_given : {c : SceneCounts} {b' : List ℤ} → r ≡ Ok c
        → ((w : List ℕ) → Filled (front_with c left.positions left.edges left.triangles w) b b')
        → BoxedRead text lent left b b' (Ok c)
    unfolding outcome_of counts_told FillsRead
    boxed_given {c} {b'} e f =
        let s : TextRead text lent left (Ok c) = subst (TextRead text lent left) e a in
        record {
          outcome = given (front_of c left);
          right = with_boxes (subst (Came text lent) (outcome_front s) (came text lent s.outcome s.right));
          says = counts a e;
          leaves = leaves a e;
          boxes = f (take (2 * c.seams) left.seams);
        }
