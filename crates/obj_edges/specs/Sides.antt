-- A side added behind so many edges, and the three sides of a face.
use Rattle.std.specs.Prelude.{Bool, true, false, List, ◌≡◌, refl, ℕ, ◌+◌, ◌*◌, ◌≤◌, ◌<◌, length, take}
use Rattle.std.proofs.Common.{sym, ap, ◌∙◌, arith}
use Rattle.sequences.specs.Pick.{pick, pick_true, pick_false}
use Rattle.meaning.specs.Limits.{edge_limit}
use Rattle.meaning.specs.ObjFile.{joined, with_side, with_sides}
use Rattle.obj_edges.specs.Chains.{sums, tabled, Knows, entered, knows_more, entered_front, entered_long}

-- so many edges stand in front and the table behind knows them
pub record Tabled (o : List ℕ) (count most : ℕ) : Type 0 where
  pub knows : Knows o count
  pub few : count ≤ most
  pub room : tabled ≤ length o

-- what stands in front is the edges with the side
pub record SideAdded (a b : ℕ) (o : List ℕ) (count : ℕ) (o' : List ℕ) (r : ℕ) : Type 0 where
  pub front : take (2 * r) o' ≡ with_side (take (2 * count) o) a b
  pub more : r ≤ count + 1
  pub same : length o' ≡ length o
  pub knows : Knows o' r

pub record SidesAdded (a b c : ℕ) (o : List ℕ) (count : ℕ) (o' : List ℕ) (r : ℕ) : Type 0 where
  pub front : take (2 * r) o' ≡ with_sides (take (2 * count) o) a b c
  pub more : r ≤ count + 3
  pub same : length o' ≡ length o
  pub knows : Knows o' r

module _ (a b : ℕ) (o : List ℕ) (count : ℕ) {t : Bool} (is : t ≡ joined a b (take (2 * count) o)) (known : Tabled o count (edge_limit + 2)) where
  pub side_there : t ≡ true → SideAdded a b o count o count
  side_there e = record { front = sym (pick_true _ _ (sym is ∙ e)); more = omega arith; same = refl; knows = known.knows }

  pub side_new : a + b < sums → t ≡ false → SideAdded a b o count (entered o count a b) (count + 1)
  side_new small e =
      record {
        front = entered_front o count a b small known.few known.room ∙ sym (pick_false _ _ (sym is ∙ e));
        more = omega arith;
        same = entered_long o count a b small known.few known.room;
        knows = knows_more o count a b small known.few known.room known.knows;
      }

pub sides_added : {a b c : ℕ} {o o₁ o₂ o₃ : List ℕ} {n p q r : ℕ} → SideAdded a b o n o₁ p → SideAdded b c o₁ p o₂ q → SideAdded c a o₂ q o₃ r
    → SidesAdded a b c o n o₃ r
sides_added {a} {b} {c} x y z =
    record {
      front = z.front ∙ ap (λ (l : List ℕ). with_side l c a) (y.front ∙ ap (λ (l : List ℕ). with_side l b c) x.front);
      more = omega (arith, x.more, y.more, z.more);
      same = z.same ∙ y.same ∙ x.same;
      knows = z.knows;
    }
