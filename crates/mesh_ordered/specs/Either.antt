-- What the rows of a kind go by, whether an order is lent for their second parts or none; and that a forest has it for both kinds.
use Rattle.std.specs.Prelude.{ℕ, ◌+◌, ◌*◌, ◌≤◌, List, ◌≢◌, ◌≡◌, refl, ℤ, length}
use Rattle.std.proofs.Math.Path.{ap}
use Rattle.std.proofs.Common.{◌∙◌, arith}
use Rattle.meaning.specs.Limits.{part_limit}
use Rattle.meaning.specs.Scene.{Scene, vertex_count, edge_count, triangle_count}
use Rattle.meaning.specs.StoredBoxes.{box_at, edge_box, triangle_box}
use Rattle.meaning.specs.declared.Kind.{Kind}
use Rattle.meaning.specs.declared.Kind.TheVariants.{PointTriangle, EdgeEdge}
use Rattle.list_candidates.specs.Rows.{first_count, second_count}
use Rattle.mesh_orders.specs.Orders.{at}
use Rattle.mesh_boxes.specs.Led.{OrderLent, part_led}
use Rattle.mesh_trees.specs.Forest.{Forest}
use Rattle.mesh_runs.specs.Runs.{KindTree}
use Rattle.mesh_runs.specs.Stretch.{vertex_kind, edge_kind}
use Rattle.mesh_order_rows.specs.Led.{second_box, LedTree}

pub record EitherTree (s : Scene) (kind : Kind) (l : List ℤ) (t : List ℕ) (parts top offset : ℕ) (o : List ℕ) : Type 0 where
  pub plain : length o ≡ 0 → KindTree s kind l t parts top offset
  pub led : length o ≢ 0 → LedTree s kind l t parts top o
  pub all : parts ≡ second_count s kind
  pub few : second_count s kind ≤ part_limit
  pub few_rows : first_count s kind ≤ part_limit
  pub low : offset ≤ part_limit

-- what is lent as orders are orders, or empty; and a list of n numbers has room for the places of a row, and twice as many where an order is lent
pub record OrdersLent (s : Scene) (edge_order triangle_order : List ℕ) (n : ℕ) : Type 0 where
  pub edges : OrderLent (edge_count s) edge_order
  pub triangles : OrderLent (triangle_count s) triangle_order
  pub room : edge_count s + triangle_count s + 2 * (length edge_order + length triangle_order) ≤ n

-- the same where rows are entered as they are found: a list of n numbers is needed for sorting by an order alone
pub record OrdersRoomed (s : Scene) (edge_order triangle_order : List ℕ) (n : ℕ) : Type 0 where
  pub edges : OrderLent (edge_count s) edge_order
  pub triangles : OrderLent (triangle_count s) triangle_order
  pub room : 2 * (length edge_order + length triangle_order) ≤ n

module _ {s : Scene} {p q : List ℕ} {l : List ℤ} {e t : List ℕ} {edge_top triangle_top : ℕ} (so : Forest s p q l e t edge_top triangle_top) where
  pub vertex_either : (n : ℕ) → n ≡ triangle_count s → EitherTree s PointTriangle l t n triangle_top 0 q
  unfolding first_count second_count second_box
  vertex_either n k =
      record {
        plain = λ none. vertex_kind so none n k;
        led = λ some.
            rw k (record {
              tree = so.over_triangles;
              order = so.triangles_lent.order some;
              all = refl;
              leaves = λ j h.
                  ap (λ (m : ℕ). box_at l (m + j)) so.triangles_from ∙ so.boxed.triangles.at j h ∙ ap (triangle_box s) (part_led q j some);
              vertices = so.boxed.vertices;
              room = omega (arith, so.boxed.room);
              few = so.few_triangles;
              few_rows = so.few_vertices;
              ends = so.ends;
              corners = so.corners;
            });
        all = k;
        few = so.few_triangles;
        few_rows = so.few_vertices;
        low = omega arith;
      }

  pub edge_either : (n offset : ℕ) → n ≡ edge_count s → offset ≡ vertex_count s → EitherTree s EdgeEdge l e n edge_top offset p
  unfolding first_count second_count second_box
  edge_either n offset k o =
      record {
        plain = λ none. edge_kind so none n offset k o;
        led = λ some.
            rw k (record {
              tree = so.over_edges;
              order = so.edges_lent.order some;
              all = refl;
              leaves = λ j h.
                  ap (λ (m : ℕ). box_at l (m + j)) so.edges_from ∙ so.boxed.edges.at j h ∙ ap (edge_box s) (part_led p j some);
              vertices = so.boxed.vertices;
              room = omega (arith, so.boxed.room);
              few = so.few_edges;
              few_rows = so.few_edges;
              ends = so.ends;
              corners = so.corners;
            });
        all = k;
        few = so.few_edges;
        few_rows = so.few_edges;
        low = omega (arith, so.few_vertices);
      }

-- an order that is lent has a number for each part
module _ {s : Scene} {p q : List ℕ} {n : ℕ} (lent : OrdersLent s p q n) where
  pub triangle_room : (parts : ℕ) → parts ≡ triangle_count s → (parts ≤ n) × (length q ≢ 0 → 2 * parts ≤ n)
  triangle_room parts e =
      (omega (arith, lent.room), λ some. omega (arith, lent.room, (lent.triangles.order some).whole))

  pub edge_room : (parts : ℕ) → parts ≡ edge_count s → (parts ≤ n) × (length p ≢ 0 → 2 * parts ≤ n)
  edge_room parts e =
      (omega (arith, lent.room), λ some. omega (arith, lent.room, (lent.edges.order some).whole))

  pub lent_as : {m : ℕ} → m ≡ n → OrdersLent s p q m
  lent_as e = record { edges = lent.edges; triangles = lent.triangles; room = omega (arith, lent.room) }

  pub lent_roomed : OrdersRoomed s p q n
  lent_roomed = record { edges = lent.edges; triangles = lent.triangles; room = omega (arith, lent.room) }

  -- what sorting needs is a front of it
  pub front_roomed : OrdersRoomed s p q (2 * (length p + length q))
  front_roomed = record { edges = lent.edges; triangles = lent.triangles; room = omega arith }

module _ {s : Scene} {p q : List ℕ} {n : ℕ} (lent : OrdersRoomed s p q n) where
  pub triangle_sorting : (parts : ℕ) → parts ≡ triangle_count s → length q ≢ 0 → 2 * parts ≤ n
  triangle_sorting parts e some = omega (arith, lent.room, (lent.triangles.order some).whole)

  pub edge_sorting : (parts : ℕ) → parts ≡ edge_count s → length p ≢ 0 → 2 * parts ≤ n
  edge_sorting parts e some = omega (arith, lent.room, (lent.edges.order some).whole)

  pub roomed_as : {m : ℕ} → m ≡ n → OrdersRoomed s p q m
  roomed_as e = record { edges = lent.edges; triangles = lent.triangles; room = omega (arith, lent.room) }
