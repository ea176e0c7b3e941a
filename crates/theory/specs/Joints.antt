-- The joint box of several boxes does not see their order.
use Rattle.std.specs.Prelude.{◌≡◌, ℤ, ◌≤ℤ◌}
use Rattle.std.proofs.Common.{◌∙◌, ap, arith}
use Rattle.whole.specs.Order.{ord}
use Rattle.meaning.specs.Boxes.{smaller, larger, Span, joint}
use Rattle.theory.specs.Spans.{around, smaller_greatest, larger_least}

-- an order, and the best that stands before two numbers in it
pub record Best (R : ℤ → ℤ → Type 0) (best : ℤ → ℤ → ℤ) : Type 0 where
  pub onward : (a b c : ℤ) → R a b → R b c → R a c
  pub same : (a b : ℤ) → R a b → R b a → a ≡ b
  pub left : (a b : ℤ) → R (best a b) a
  pub right : (a b : ℤ) → R (best a b) b
  pub above : (c a b : ℤ) → R c a → R c b → R c (best a b)

module _ {R : ℤ → ℤ → Type 0} {best : ℤ → ℤ → ℤ} (o : Best R best) where
  pub either_way : (a b : ℤ) → best a b ≡ best b a
  either_way a b = o.same _ _ (ahead a b) (ahead b a)
    where
      ahead : (a b : ℤ) → R (best a b) (best b a)
      ahead a b = o.above _ b a (o.right a b) (o.left a b)

  pub exchanged : (a b c : ℤ) → best a (best b c) ≡ best b (best a c)
  exchanged a b c = o.same _ _ (ahead a b c) (ahead b a c)
    where
      ahead : (a b c : ℤ) → R (best a (best b c)) (best b (best a c))
      ahead a b c =
          let inner = o.right a (best b c) in
          o.above _ b (best a c) (o.onward _ _ _ inner (o.left b c)) (o.above _ a c (o.left a (best b c)) (o.onward _ _ _ inner (o.right b c)))

pub lowest : Best (λ a b. a ≤ℤ b) smaller
lowest = record {
  onward = λ a b c p q. omega (arith, ord);
  same = λ a b p q. omega (arith, ord);
  left = λ a b. (around a b).low_left;
  right = λ a b. (around a b).low_right;
  above = smaller_greatest;
}

pub highest : Best (λ a b. b ≤ℤ a) larger
highest = record {
  onward = λ a b c p q. omega (arith, ord);
  same = λ a b p q. omega (arith, ord);
  left = λ a b. (around a b).high_left;
  right = λ a b. (around a b).high_right;
  above = larger_least;
}

pub joint_either_way : (p q : Span) → joint p q ≡ joint q p
joint_either_way p q = λ i. record { low = either_way lowest p.low q.low i; high = either_way highest p.high q.high i }

pub joint_exchanged : (p q r : Span) → joint p (joint q r) ≡ joint q (joint p r)
joint_exchanged p q r = λ i. record { low = exchanged lowest p.low q.low r.low i; high = exchanged highest p.high q.high r.high i }

pub joint_regrouped : (p q r : Span) → joint (joint p q) r ≡ joint p (joint q r)
joint_regrouped p q r = joint_either_way (joint p q) r ∙ joint_exchanged r p q ∙ ap (joint p) (joint_either_way r q)
