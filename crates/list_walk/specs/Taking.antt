-- Stored boxes are taken over number by number: the copy keeps the scene's boxes as well.
use Rattle.std.specs.Prelude.{ℕ, ◌+◌, ◌*◌, ◌≤◌, ◌<◌, List, ◌≡◌, refl, ℤ, pos, length, get_or, set}
use Rattle.std.proofs.Common.{⊎_elim, sym, ◌∙◌, not-suc-le-zero, arith, length-set, get_or-set_same, get_or-set_other}
use Rattle.sequences.specs.Range.{le_or_lt}
use Rattle.meaning.specs.Scene.{Scene, vertex_count, edge_count, triangle_count}
use Rattle.meaning.specs.StoredBoxes.{box_at, Boxed}
use Rattle.list_boxes.specs.Storing.{same_box}

-- the first k numbers of a list stand in front of another, which was l and is l'
pub record CopiedUpTo (from : List ℤ) (k : ℕ) (l l' : List ℤ) : Type 0 where
  pub front : (i : ℕ) → i < k → get_or l' i (pos 0) ≡ get_or from i (pos 0)
  pub behind : (i : ℕ) → k ≤ i → get_or l' i (pos 0) ≡ get_or l i (pos 0)
  pub same : length l' ≡ length l

pub copied_none : (from l : List ℤ) → CopiedUpTo from 0 l l
copied_none from l = record { front = λ i h. absurd (not-suc-le-zero h); behind = λ i h. refl; same = refl }

pub copied_more : {from l l' : List ℤ} {k : ℕ} → k < length l → CopiedUpTo from k l l'
    → CopiedUpTo from (k + 1) l (set l' k (get_or from k (pos 0)))
copied_more {from} {l} {l'} {k} h so =
    record {
      front = λ i p.
          ⊎_elim
          (λ le. let here : i ≡ k = omega arith in rw here (get_or-set_same l' k (get_or from k (pos 0)) (pos 0) (omega (arith, so.same))))
          (λ lt. get_or-set_other l' k i (get_or from k (pos 0)) (pos 0) (omega arith) ∙ so.front i lt)
          (le_or_lt k i);
      behind = λ i p. get_or-set_other l' k i (get_or from k (pos 0)) (pos 0) (omega arith) ∙ so.behind i (omega arith);
      same = length-set l' k (get_or from k (pos 0)) ∙ so.same;
    }

pub copied_all : {from l l' : List ℤ} {k n : ℕ} → k ≡ n → CopiedUpTo from k l l' → CopiedUpTo from n l l'
copied_all e so = rw e at so

module _ {s : Scene} {from l l' : List ℤ} {n : ℕ} (boxed : Boxed s from) (whole : n ≡ 6 * (vertex_count s + edge_count s + triangle_count s))
    (so : CopiedUpTo from n l l') where
  taken_box : (k : ℕ) → k < vertex_count s + edge_count s + triangle_count s → box_at l' k ≡ box_at from k
  taken_box k h = same_box from l' k (λ i p q. so.front i (omega arith))

  pub taken_boxed : n ≤ length l → Boxed s l'
  taken_boxed room =
      record {
        vertices = record { at = λ i h. taken_box (0 + i) (omega arith) ∙ boxed.vertices.at i h };
        edges = record { at = λ i h. taken_box (vertex_count s + i) (omega arith) ∙ boxed.edges.at i h };
        triangles = record { at = λ i h. taken_box (vertex_count s + edge_count s + i) (omega arith) ∙ boxed.triangles.at i h };
        room = omega (arith, so.same);
      }
