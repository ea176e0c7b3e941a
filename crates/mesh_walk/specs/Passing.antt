-- A node of a tree is passed by a walk that puts down all parts of a 16 that are met: what was put down, with what is left, is what was to be found.
use Rattle.std.specs.Prelude.{ℕ, ◌+◌, ◌*◌, ◌-◌, ◌≤◌, ◌<◌, Bool, false, List, [], ◌++◌, ◌≡◌, refl, ℤ, length, get_or}
use Rattle.std.proofs.Common.{sym, ap, ◌∙◌, arith}
use Rattle.sequences.specs.Chosen.{one, chosen}
use Rattle.sequences.specs.Gather.{gather_cut}
use Rattle.mesh_tree.specs.Levels.{nodes_at, first_under}
use Rattle.mesh_walk.specs.Places.{places_from, Stepped}
use Rattle.mesh_walk.specs.Steps.{Tree}
use Rattle.mesh_walk.specs.PutDown.{PutDown, down_none}

-- from the node r of level v a walk has come to the node r' of level v'; the list held o and holds o'
pub record NodePassed (m : ℕ → Bool) (n top v r v' r' : ℕ) (o : List ℕ) (k : ℕ) (o' : List ℕ) (k' : ℕ) : Type 0 where
  pub low : v' ≤ top
  pub found : List ℕ
  pub put : PutDown o k found o' k'
  pub rest : places_from m n (first_under v r) ≡ found ++ places_from m n (first_under v' r')
  pub falls : 17 * (n - first_under v' r') + v' < 17 * (n - first_under v r) + v

-- a step that has found nothing passes a node
pub passed_by : {m : ℕ → Bool} {n top v r v' r' : ℕ} (o : List ℕ) (k : ℕ) → Stepped m n top v r v' r' false → NodePassed m n top v r v' r' o k o k
passed_by o k s = record { low = s.low; found = []; put = down_none o k; rest = s.rest; falls = s.falls }

-- the parts from r up to e are passed at once
pub passed_parts : (m : ℕ → Bool) (n top v r e v' r' : ℕ) {o o' : List ℕ} {k k' : ℕ} → v ≡ 0 → v' ≤ top → top ≤ 16 → r < e → e ≤ n
    → first_under v' r' ≡ first_under 0 e → PutDown o k (chosen m (λ j. j) r e) o' k'
    → NodePassed m n top v r v' r' o k o' k'
unfolding first_under
passed_parts m n top v r e v' r' zero low most some inside next put =
    let here : first_under v r ≡ r = rw zero refl in
    record {
      low = low;
      found = chosen m (λ j. j) r e;
      put = put;
      rest =
          ap (places_from m n) here ∙ gather_cut (λ j. one (m j) j) r e n (omega arith) inside
          ∙ ap (λ (l : List ℕ). chosen m (λ j. j) r e ++ l) (ap (places_from m n) (sym next));
      falls = rw (next, here) (omega arith);
    }

-- all parts of a tree stand in its list
pub parts_inside : {l : List ℤ} {t : List ℕ} {n top : ℕ} → Tree l t n top → 6 * (get_or t 0 0 + n) ≤ length l
unfolding nodes_at
parts_inside tree = tree.inside 0 (omega arith)
