-- A stretch of rows that may be looked at: its scratch has room for boxes, trees and places, what was lent as orders are orders, and what is counted and
-- listed of the mesh that its table tells is said of the mesh.
use Rattle.std.specs.Prelude.{ℕ, ◌≤◌, false, ◌≡◌, ℤ, Err, Ok, Result}
use mathlib.Core.List.{List, []}
use Rattle.std.proofs.Math.Path.{refl}
use Rattle.std.proofs.Common.{sym, subst, arith, ne_eqb}
use Rattle.std.proofs.Math.ListN.{length}
use Rattle.meaning.specs.Scene.{Scene, edge_count, triangle_count}
use Rattle.meaning.specs.Refusals.{given, carrying, outcome_of}
use Rattle.meaning.specs.List.{leaves}
use Rattle.meaning.specs.MeshRows.{Lent, place_room, wrong_order, row_count, rows_in, RowsCounted, RowsListed}
use Rattle.meaning.specs.declared.Refusal.{Refusal}
use Rattle.meaning.specs.declared.RowPairs.{RowPairs}
use Rattle.answers.specs.Answering.{gives}
use Rattle.answers.specs.Below.{or_left, or_rest}
use Rattle.scene_seams.specs.Alone.{tabled}
use Rattle.mesh_orders.specs.Deciding.{order_of}
use Rattle.mesh_orders.specs.Told.{wrong_for}
use Rattle.mesh_boxes.specs.Led.{OrderLent}
use Rattle.mesh_trees.specs.Planting.{Plantable, mesh_plantable}
use Rattle.mesh_ordered.specs.Either.{OrdersLent}
use Rattle.mesh_stretch.specs.Stretching.{IsRowCount, StretchListed}
use Rattle.mesh_asked.specs.Asking.{RowsAsked, refused_first, passed_first}
use Rattle.meaning.specs.declared.Refused.{Refused}

-- the rows were counted first
pub by_count : {s : Scene} {l : Lent} {rows first end : ℕ} {t' : List ℕ} {asked : Result (Unit {0}) Refusal} → rows ≡ row_count s → RowsAsked s l rows first end t' asked
    → RowsAsked s l (row_count s) first end t' asked
by_count {s} {l} {first = first} {end = end} {t'} {asked} e p = subst (λ (n : ℕ). RowsAsked s l n first end t' asked) e p

-- what is lent as an order and is not wrong is one, or empty
lent_order : (n : ℕ) (o : List ℕ) → wrong_for n o ≡ false → OrderLent n o
lent_order n o e = record { order = λ some. order_of n o (rw (ne_eqb (length o) 0 some) at e) }

lent_orders : (s : Scene) (l : Lent) (n : ℕ) → wrong_order s l ≡ false → place_room s l ≤ n → OrdersLent s l.edge_order l.triangle_order n
lent_orders s l n e room =
    record {
      edges = lent_order (edge_count s) l.edge_order (or_left (wrong_for (edge_count s) l.edge_order) (wrong_for (triangle_count s) l.triangle_order) e);
      triangles =
          lent_order (triangle_count s) l.triangle_order (or_rest (wrong_for (edge_count s) l.edge_order) (wrong_for (triangle_count s) l.triangle_order) e);
      room = room;
    }

-- the mesh that a table tells
abbrev pub told_by : Scene → List ℕ → Scene
told_by s t = tabled s.positions s.edges s.triangles t

module _ {s : Scene} {l : Lent} {rows first end : ℕ} {t' : List ℕ} {asked : Result (Unit {0}) Refusal} (p : RowsAsked s l rows first end t' asked) (passed : asked ≡ Ok tt) where
  pub open_plantable : (b : List ℤ) → l.boxes ≡ length b → Plantable (told_by s t') b
  open_plantable b same =
      let o = p.opened passed in
      subst (λ (m : Scene). Plantable m b) (sym o.told) (mesh_plantable {s = s} b o.accepted (omega (arith, o.boxes, same)))

  pub open_lent : (n : ℕ) → n ≡ l.places → OrdersLent (told_by s t') l.edge_order l.triangle_order n
  open_lent n same =
      let o = p.opened passed in
      subst (λ (m : Scene). OrdersLent m l.edge_order l.triangle_order n) (sym o.told) (lent_orders s l n o.orders (omega (arith, o.places)))

  pub open_rows : (first ≤ end) × (end ≤ rows)
  open_rows = let o = p.opened passed in (o.rising, o.within)

  pub open_told : told_by s t' ≡ s
  open_told = (p.opened passed).told

module _ (w : RowPairs) (s : Scene) (l : Lent) (first end : ℕ) {t' : List ℕ} {asked : Result (Unit {0}) Refusal} (p : RowsAsked s l (row_count s) first end t' asked) where
  pub not_counted : (x : Refusal) → asked ≡ Err x → RowsCounted w s l first end (Err (carrying x 0))
  unfolding outcome_of
  not_counted x e = refused_first p (λ n. n ≡ length (rows_in w s first end)) [] x e

  pub not_listed : (o : List ℕ) (x : Refusal) → asked ≡ Err x
      → RowsListed w s l first end o o (Err (carrying x 0))
  unfolding outcome_of leaves
  not_listed o x e = record { answer = refused_first p (λ n. n ≡ length (rows_in w s first end)) _ x e; list = refl }

  module _ (passed : asked ≡ Ok tt) where
    pub counted : (n : ℕ) → IsRowCount w (told_by s t') first end n → RowsCounted w s l first end (Ok n)
    unfolding outcome_of
    counted n h =
        passed_first p (λ n. n ≡ length (rows_in w s first end)) [] (given n) passed
        (gives (λ n. n ≡ length (rows_in w s first end)) n (subst (λ (m : Scene). IsRowCount w m first end n) (open_told p passed) h))

    pub listed : {o o' : List ℕ} {r : Result ℕ Refused} → StretchListed w (told_by s t') first end (length o) o o' r → RowsListed w s l first end o o' r
    listed {o} {o'} {r} h =
        let k = subst (λ (m : Scene). StretchListed w m first end (length o) o o' r) (open_told p passed) h in
        record { answer = passed_first p (λ n. n ≡ length (rows_in w s first end)) _ (outcome_of r) passed k.answer; list = k.list }
