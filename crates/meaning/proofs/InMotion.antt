-- Of `InMotion`: what rests on its definitions.
use Rattle.std.specs.Prelude.{ℕ, ◌+◌, ◌≤◌, ◌<◌, [], ◌∷◌, ◌≡◌, ℤ, ◌+ℤ◌, ◌*ℤ◌}
use Rattle.std.proofs.Math.Path.{refl, sym, ap, fun_ext}
use Rattle.std.proofs.Common.{◌∙◌, subst, arith}
use Rattle.std.proofs.Math.IntN.{pos}
use Rattle.whole.specs.Vector.{Vector}
use Rattle.whole.specs.VectorLaws.{vector_eq}
use Rattle.whole.specs.Quote.{quotes, ring}
use Rattle.whole.specs.Order.{parts_lt}
use Rattle.meaning.specs.Scene.{Scene, start_of, end_of, edge_end, corner}
use Rattle.meaning.specs.Equations.{total}
use Rattle.meaning.specs.Boxes.{Axis, x_axis, y_axis, z_axis}
use Rattle.meaning.specs.Motion.{standing, first_part, second_part, TouchInMotion}
use Rattle.meaning.specs.declared.Kind.TheVariants.{PointTriangle, EdgeEdge}
use Rattle.meaning.specs.shown.InMotion.{weigh, of_one, of_two, of_three, PointMeets, EdgesMeet, at}

-- at the start it stands at its start, at the end at its end
stands_at_start : (s : Scene) (v : ℕ) → standing s 0 1 v ≡ start_of s v
stands_at_start s v = vector_eq (first (start_of s v).x (end_of s v).x) (first (start_of s v).y (end_of s v).y) (first (start_of s v).z (end_of s v).z)
  where
    first : (a b : ℤ) → pos 1 *ℤ a +ℤ pos 0 *ℤ b ≡ a
    first a b = ring (a ∷ b ∷ []) (search quotes depth 40 fits 9000) refl

stands_at_end : (s : Scene) (v : ℕ) → standing s 1 1 v ≡ end_of s v
stands_at_end s v = vector_eq (last (start_of s v).x (end_of s v).x) (last (start_of s v).y (end_of s v).y) (last (start_of s v).z (end_of s v).z)
  where
    last : (a b : ℤ) → pos 0 *ℤ a +ℤ pos 1 *ℤ b ≡ b
    last a b = ring (a ∷ b ∷ []) (search quotes depth 40 fits 9000) refl

module _ (s : Scene) (p q i j : ℕ) (within : p ≤ q) (positive : 0 < q) where
  pub point_touches_at : PointMeets s (standing s p q) i j → TouchInMotion s PointTriangle i j
  unfolding total weigh first_part second_part
  point_touches_at m = record {
    p = p;
    q = q;
    within = within;
    positive = positive;
    together = record {
      u = weigh ((m.a + m.b + m.c) ∷ []);
      v = weigh (m.a ∷ m.b ∷ m.c ∷ []);
      some = parts_lt (omega (arith, m.some));
      sums = ap pos (omega arith);
      xs = along x_axis (ap (λ (v : Vector). v.x) m.place);
      ys = along y_axis (ap (λ (v : Vector). v.y) m.place);
      zs = along z_axis (ap (λ (v : Vector). v.z) m.place);
    };
  }
    where
      along : (f : Axis) → pos (m.a + m.b + m.c) *ℤ f (at s p q i j within positive i) ≡ pos m.a *ℤ f (at s p q i j within positive (corner s j 0)) +ℤ pos m.b *ℤ f (at s p q i j within positive (corner s j 1)) +ℤ pos m.c *ℤ f (at s p q i j within positive (corner s j 2))
          → total f (λ n. pos (weigh ((m.a + m.b + m.c) ∷ []) n)) (at s p q i j within positive i ∷ []) ≡ total f (λ n. pos (weigh (m.a ∷ m.b ∷ m.c ∷ []) n)) (at s p q i j within positive (corner s j 0) ∷ at s p q i j within positive (corner s j 1) ∷ at s p q i j within positive (corner s j 2) ∷ [])
      along f e = of_one f (m.a + m.b + m.c) (at s p q i j within positive i) ∙ e ∙ sym (of_three f m.a m.b m.c (at s p q i j within positive (corner s j 0)) (at s p q i j within positive (corner s j 1)) (at s p q i j within positive (corner s j 2)))

  pub edges_touch_at : EdgesMeet s (standing s p q) i j → TouchInMotion s EdgeEdge i j
  unfolding total weigh first_part second_part
  edges_touch_at m = record {
    p = p;
    q = q;
    within = within;
    positive = positive;
    together = record {
      u = weigh (m.a ∷ m.b ∷ []);
      v = weigh (m.c ∷ m.d ∷ []);
      some = parts_lt (omega (arith, m.some));
      sums = ap pos (omega (arith, m.sums));
      xs = along x_axis (ap (λ (v : Vector). v.x) m.place);
      ys = along y_axis (ap (λ (v : Vector). v.y) m.place);
      zs = along z_axis (ap (λ (v : Vector). v.z) m.place);
    };
  }
    where
      along : (f : Axis) → pos m.a *ℤ f (at s p q i j within positive (edge_end s i 0)) +ℤ pos m.b *ℤ f (at s p q i j within positive (edge_end s i 1)) ≡ pos m.c *ℤ f (at s p q i j within positive (edge_end s j 0)) +ℤ pos m.d *ℤ f (at s p q i j within positive (edge_end s j 1))
          → total f (λ n. pos (weigh (m.a ∷ m.b ∷ []) n)) (at s p q i j within positive (edge_end s i 0) ∷ at s p q i j within positive (edge_end s i 1) ∷ []) ≡ total f (λ n. pos (weigh (m.c ∷ m.d ∷ []) n)) (at s p q i j within positive (edge_end s j 0) ∷ at s p q i j within positive (edge_end s j 1) ∷ [])
      along f e = of_two f m.a m.b (at s p q i j within positive (edge_end s i 0)) (at s p q i j within positive (edge_end s i 1)) ∙ e ∙ sym (of_two f m.c m.d (at s p q i j within positive (edge_end s j 0)) (at s p q i j within positive (edge_end s j 1)))

-- at the start and at the end
module _ (s : Scene) (i j : ℕ) where
  pub point_touches_at_start : PointMeets s (start_of s) i j → TouchInMotion s PointTriangle i j
  point_touches_at_start m = point_touches_at s 0 1 i j (omega arith) (omega arith) (subst (λ (at : ℕ → Vector). PointMeets s at i j) (sym (fun_ext (stands_at_start s))) m)

  pub point_touches_at_end : PointMeets s (end_of s) i j → TouchInMotion s PointTriangle i j
  point_touches_at_end m = point_touches_at s 1 1 i j (omega arith) (omega arith) (subst (λ (at : ℕ → Vector). PointMeets s at i j) (sym (fun_ext (stands_at_end s))) m)

  pub edges_touch_at_start : EdgesMeet s (start_of s) i j → TouchInMotion s EdgeEdge i j
  edges_touch_at_start m = edges_touch_at s 0 1 i j (omega arith) (omega arith) (subst (λ (at : ℕ → Vector). EdgesMeet s at i j) (sym (fun_ext (stands_at_start s))) m)

  pub edges_touch_at_end : EdgesMeet s (end_of s) i j → TouchInMotion s EdgeEdge i j
  edges_touch_at_end m = edges_touch_at s 1 1 i j (omega arith) (omega arith) (subst (λ (at : ℕ → Vector). EdgesMeet s at i j) (sym (fun_ext (stands_at_end s))) m)
