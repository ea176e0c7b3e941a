-- Of `Shapes`: what rests on its definitions.
use Rattle.std.specs.Prelude.{ℕ, zero, suc, ◌≡◌, refl, List, [], ◌∷◌, ℤ, pos, negsuc, neg_ℤ, ◌+ℤ◌, ◌-ℤ◌, ◌*ℤ◌}
use Rattle.std.proofs.Common.{sym, ◌∙◌, ap}
use Rattle.whole.specs.Vector.{Vector, origin}
use Rattle.whole.specs.Quote.{quotes, ring}
use Rattle.whole.specs.Cramer.{Four, each, weigh, volumes, all, dot4, balance, Place, p0, p1, p2, p3, pick, at_place, reads}
use Rattle.whole.proofs.Cramer.{proportional}
use Rattle.meaning.specs.Pieces.{Event}
use Rattle.meaning.specs.Equations.{one, total}
use Rattle.theory.specs.Differences.{differences, Form, alone, around, formed}
use Rattle.theory.specs.Solved.{Solved, weights_there}
use Rattle.theory.specs.Spread.{start_share, end_share, first_numbers, second_numbers, factor, weights_of}
use Rattle.theory.proofs.Spread.{spread, spread_sum}
use Rattle.theory.specs.Gathered.{Gathered}
use Rattle.theory.proofs.Gathered.{gather}
use Rattle.theory.specs.Shapes.{Linear, LinearList, E}

proportion : (d : Four Vector) (n : Four ℤ) → weigh n d ≡ origin → {g h : Four ℤ → ℤ} → Linear g → Linear h → g n *ℤ h (volumes d) ≡ h n *ℤ g (volumes d)
proportion d n e {g} {h} k l =
    ap (λ x. x *ℤ h (volumes d)) (k.is n) ∙ ap (λ x. dot4 n k.by *ℤ x) (l.is (volumes d)) ∙ proportional d n e k.by l.by
    ∙ sym (ap (λ x. x *ℤ g (volumes d)) (l.is n) ∙ ap (λ x. dot4 n l.by *ℤ x) (k.is (volumes d)))

linear_nil : LinearList (λ n. [])
linear_nil = record { entry = λ i. record { by = record { v0 = pos 0; v1 = pos 0; v2 = pos 0; v3 = pos 0 }; is = λ n. ring (all n) (search quotes depth 40 fits 9000) refl } }

linear_cons : {g : Four ℤ → ℤ} {l : Four ℤ → List ℤ} → Linear g → LinearList l → LinearList (λ n. g n ∷ l n)
linear_cons {g} {l} h k = record { entry = go }
  where
    go : (i : ℕ) → Linear (λ n. weights_of (g n ∷ l n) i)
    go zero = h
    go (suc i) = k.entry i

linear_place : (i : Place) → Linear (pick i)
linear_place i = record { by = at_place i; is = λ n. sym (reads i n) }

linear_less : Linear (λ n. neg_ℤ n.v0)
linear_less = record {
  by = record { v0 = negsuc 0; v1 = pos 0; v2 = pos 0; v3 = pos 0 };
  is = λ n. ring (all n) (search quotes depth 40 fits 9000) refl;
}

linear_start : (o : Four Event) → Linear (start_share o)
linear_start o = record { by = each (λ (e : Event). pos 1 -ℤ e.time) o; is = λ n. refl }

linear_end : (o : Four Event) → Linear (end_share o)
linear_end o = record { by = each (λ (e : Event). e.time) o; is = λ n. refl }

linear_three : Linear (λ n. n.v1 +ℤ n.v2 +ℤ n.v3)
linear_three = record {
  by = record { v0 = pos 0; v1 = pos 1; v2 = pos 1; v3 = pos 1 };
  is = λ n. ring (all n) (search quotes depth 40 fits 9000) refl;
}

linear_four : Linear (λ n. n.v0 +ℤ n.v1 +ℤ n.v2 +ℤ n.v3)
linear_four = record {
  by = record { v0 = pos 1; v1 = pos 1; v2 = pos 1; v3 = pos 1 };
  is = λ n. ring (all n) (search quotes depth 40 fits 9000) refl;
}

linear_factor : (form : Form) → Linear (factor form)
unfolding factor
linear_factor alone = linear_four
linear_factor around = linear_three

linear_first : (form : Form) (o : Four Event) → LinearList (first_numbers form o)
unfolding first_numbers
linear_first alone o = linear_cons (linear_start o) (linear_cons (linear_end o) linear_nil)
linear_first around o = linear_cons (linear_start o) (linear_cons linear_less (linear_cons (linear_end o) linear_nil))

linear_others : LinearList (λ n. n.v1 ∷ n.v2 ∷ n.v3 ∷ [])
linear_others = linear_cons (linear_place p1) (linear_cons (linear_place p2) (linear_cons (linear_place p3) linear_nil))

linear_second : (form : Form) → LinearList (second_numbers form)
unfolding second_numbers
linear_second alone = linear_cons (linear_place p0) linear_others
linear_second around = linear_others

module _ (form : Form) (p q : Vector) (o : Four Event) where
  gathered_sum : (u v : ℕ → ℤ) (g : Gathered form p q o u v) → factor form g.four ≡ total one u (formed form p q o).first
  gathered_sum u v g =
      sym (spread_sum p q o g.four form)
      ∙ sym (weights_there one u (weights_of (first_numbers form o g.four)) (formed form p q o).first g.first)

  pub solved : Solved (formed form p q o).first (formed form p q o).second (factor form (E form p q o)) (weights_of (first_numbers form o (E form p q o))) (weights_of (second_numbers form (E form p q o)))
  solved = record {
    balanced = spread p q o (E form p q o) form (balance (differences p q o));
    sum = spread_sum p q o (E form p q o) form;
    first = λ u v h i k. share u v (gather p q o u v form h) ((linear_first form o).entry i) ((gather p q o u v form h).first i k);
    second = λ u v h i k. share u v (gather p q o u v form h) ((linear_second form).entry i) ((gather p q o u v form h).second i k);
  }
    where
      share : (u v : ℕ → ℤ) (g : Gathered form p q o u v) {number : Four ℤ → ℤ} {w : ℤ} → Linear number → w ≡ number g.four → w *ℤ factor form (E form p q o) ≡ total one u (formed form p q o).first *ℤ number (E form p q o)
      share u v g {number} l e =
          ap (λ x. x *ℤ factor form (E form p q o)) e ∙ proportion (differences p q o) g.four g.combines l (linear_factor form)
          ∙ ap (λ x. x *ℤ number (E form p q o)) (gathered_sum u v g)
