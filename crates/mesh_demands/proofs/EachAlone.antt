-- Each listed pair of a mesh as a part of its own: what is said of all of them is the report of the mesh.
use Rattle.std.specs.Prelude.{ℕ, suc, ◌<◌, ◌↔◌, ◌≡◌, length, get_or}
use mathlib.Core.List.Memᴰ
use mathlib.Core.List.{List, [], ◌∷◌, Memᴰ}
use Rattle.std.proofs.Common.{⊎_elim, sym, ◌∙◌, arith}
use Rattle.sequences.specs.Rising.{at_place}
use Rattle.meaning.specs.Scene.{Scene}
use Rattle.meaning.specs.List.{Pair, pair, pairs}
use Rattle.meaning.specs.declared.Kind.TheVariants.{PointTriangle}
use Rattle.meaning.specs.declared.Settled.{Settled}
use Rattle.mesh_demands.specs.Meshes.{Mesh}
use Rattle.mesh_demands.specs.CutOut.{cut_at}
use Rattle.mesh_demands.specs.Alone.{Apart, alone, alone_first, alone_second, four_of, edges_of, triangles_of, alone_there, first_back, second_back}
use Rattle.mesh_demands.proofs.Alone.{alone_is_a_part, alone_is_a_mesh}
use Rattle.mesh_demands.specs.Joined.{PartsOf, HoldAll, Reported, SomeReport}
use Rattle.mesh_demands.proofs.Joined.{reports_joined}
use Rattle.mesh_demands.specs.EachAlone.{listed_apart}

-- what stands in a list stands at some place of it
at_some_place : (l : List Pair) (d q : Pair) → Memᴰ q l → (n : ℕ) × (n < length l) × (get_or l n d ≡ q)
at_some_place [] d q m = absurd (Memᴰ.not-nil m)
at_some_place (p ∷ l) d q m =
    ⊎_elim (λ e. (0, omega arith, sym e)) (λ r. let (n, below, e) = at_some_place l d q r in (suc n, omega arith, e)) (Memᴰ.cases_cons m)

module _ {s : Scene} (mesh : Mesh s) where
  abbrev nth : ℕ → Pair
  nth n = get_or (pairs s) n (pair PointTriangle 0 0)

  nth_apart : (n : ℕ) → n < length (pairs s) → Apart s (nth n).kind (nth n).first (nth n).second
  nth_apart n below = listed_apart s (nth n) (at_place (pairs s) n (pair PointTriangle 0 0) below)

  pub each_alone : PartsOf s
  each_alone = record {
    many = length (pairs s);
    scene = λ n. alone s (nth n).kind (nth n).first (nth n).second;
    places = λ n.
        cut_at (four_of s (nth n).kind (nth n).first (nth n).second) (edges_of (nth n).kind (nth n).first (nth n).second)
        (triangles_of (nth n).kind (nth n).first (nth n).second);
    part = λ n below. alone_is_a_part mesh (nth n).kind (nth n).first (nth n).second (nth_apart n below);
    mesh = λ n below. alone_is_a_mesh mesh (nth n).kind (nth n).first (nth n).second (nth_apart n below);
  }

  pub each_alone_hold_all : HoldAll each_alone
  unfolding each_alone
  each_alone_hold_all q m =
      let (n, below, e) = at_some_place (pairs s) (pair PointTriangle 0 0) q m in (
        n,
        below,
        record {
          own = pair (nth n).kind (alone_first s (nth n).kind (nth n).first (nth n).second) (alone_second (nth n).kind);
          there = alone_there mesh (nth n).kind (nth n).first (nth n).second;
          is =
              (λ i. pair (nth n).kind (first_back mesh (nth n).kind (nth n).first (nth n).second i) (second_back mesh (nth n).kind (nth n).first (nth n).second i)) ∙ e;
        },
      )

  -- so the report of the mesh is what is said of its pairs, each alone
  pub reported_each_alone : (q : Pair) (w : Settled) → Reported s q w ↔ SomeReport each_alone q w
  reported_each_alone = reports_joined each_alone each_alone_hold_all
