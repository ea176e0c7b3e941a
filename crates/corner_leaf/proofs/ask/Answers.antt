-- Three turns, from any one of them on: what the first that is not open says. Where the first is all of them, it is asked alone.
use mathlib.Core.Path.{◌≡◌, sym, ◌∙◌, ap}
use mathlib.Core.Bool.{Bool, true, false}
use mathlib.Core.List.{List}
use borrow.Author.Rules.{rules}
use native.Mathlib.Omega.{arith}
use Prim.Native.Nat.{ℕ, ◌+◌, ◌<◌}
use lib.IntN.{ℤ}
use Rattle.whole.specs.Cramer.{each}
use Rattle.corner_laws.specs.Others.{others_of}
use Rattle.corner_leaf.specs.declared.SixPoints.{SixPoints}
use Rattle.corner_leaf.specs.declared.Leaf.{Leaf}
use Rattle.corner_leaf.specs.declared.Leaf.TheVariants.{Open}
use Rattle.corner_leaf.specs.Points.{is_left, points_of, Placed, placed, SixIn}
use Rattle.corner_leaf.specs.Answer.{base_of, turn_of, otherwise, leaf_of, Across, one_turn}
use Rattle.corner_leaf.specs.Base.{base_is, based}
use Rattle.corner_leaf.specs.Right.{in_any_order}
use Rattle.corner_leaf.specs.InPlane.{one_turn_says_all}
use Rattle.corner_leaf.proofs.Tags.{not_open}
use Rattle.corner_leaf.proofs.ask.Goals as goal

module _ (ps : List ℤ) (six : SixPoints) (left : List Bool) (s e : ℕ) (p : s ≡ base_of six left false) (q : e ≡ base_of six left true) (f : ℕ) (l : Across ps six.at f) (g : SixIn ps six) where
  asked : (k : ℕ) → k < 6 → Placed ps six.at × (s < 6) × (e < 6) × (k < 6)
  asked k h = (placed g, rw p (base_is ps g.timed left false).there, rw q (base_is ps g.timed left true).there, h)

  abbrev turn : ℕ → Leaf
  turn = turn_of ps six left s e

  answer : otherwise (turn f) (otherwise (turn (f + 2)) (turn (f + 1))) ≡ leaf_of ps six left
  answer = rw (p, q) (in_any_order ps g.timed left f l.few)

  first : {r : Leaf} → r ≡ turn f → ((x : Leaf) → r ≡ otherwise r x) → r ≡ leaf_of ps six left
  first {r} h k = k (otherwise (turn (f + 2)) (turn (f + 1))) ∙ ap (λ z. otherwise z (otherwise (turn (f + 2)) (turn (f + 1)))) h ∙ answer

  second : {o r : Leaf} → o ≡ turn f → o ≡ Open → r ≡ turn (f + 2) → ((x : Leaf) → r ≡ otherwise r x) → r ≡ leaf_of ps six left
  unfolding otherwise
  second h z k w = w (turn (f + 1)) ∙ ap (λ z. otherwise z (turn (f + 1))) k ∙ ap (λ z. otherwise z (otherwise (turn (f + 2)) (turn (f + 1)))) (sym z ∙ h) ∙ answer

  third : {o o' r : Leaf} → o ≡ turn f → o ≡ Open → o' ≡ turn (f + 2) → o' ≡ Open → r ≡ turn (f + 1) → r ≡ leaf_of ps six left
  unfolding otherwise
  third h z h' z' k = k ∙ ap (λ z. otherwise z (turn (f + 1))) (sym z' ∙ h') ∙ ap (λ z. otherwise z (otherwise (turn (f + 2)) (turn (f + 1)))) (sym z ∙ h) ∙ answer

  only : {o : Leaf} → o ≡ turn f → o ≡ Open → {c : Bool} → c ≡ one_turn (each (is_left left) (others_of s e)) f → c ≡ true → Open ≡ leaf_of ps six left
  unfolding otherwise
  only h z w t = (λ i. otherwise (sym (sym h ∙ z) i) (otherwise (sym quiet.1 i) (sym quiet.0 i))) ∙ answer
    where
      quiet : (turn (f + 1) ≡ Open) × (turn (f + 2) ≡ Open)
      quiet =
          one_turn_says_all ps six left s e (asked 0 (omega arith)).1 (asked 0 (omega arith)).2 (rw (p, q) (based ps g.timed left).order.there) f l (sym w ∙ t) (sym h ∙ z)

pub base-s-requires : goal.base-s-requires
base-s-requires c = tt

pub base-e-requires : goal.base-e-requires
base-e-requires c = tt

pub turn-answer-requires : goal.turn-answer-requires
turn-answer-requires c =
    let z = c in
    let a = z.args in
    asked _ (points_of a.at.now a.ends.now a.first) _ _ _ c.base-s.ensures c.base-e.ensures _ z.requires.1 z.requires.0 _ (omega (arith, z.requires.1.few))

pub returns-in_default : goal.returns-in_default
returns-in_default c =
    let z = c in
    let a = z.args in
    first _ (points_of a.at.now a.ends.now a.first) _ _ _ c.base-s.ensures c.base-e.ensures _ z.requires.1 z.requires.0 c.turn-answer.ensures (not_open _ c.in_default.not-Open)

pub one_turn-requires : goal.one_turn-requires
one_turn-requires c = tt

pub returns-then-one_turn : goal.returns-then-one_turn
returns-then-one_turn c =
    let z = c in
    let a = z.args in
    c.in-Open.is ∙ only _ (points_of a.at.now a.ends.now a.first) _ _ _ c.base-s.ensures c.base-e.ensures _ z.requires.1 z.requires.0 c.turn-answer.ensures c.in-Open.is c.one_turn.ensures c.if-one_turn.true

pub overflow_add-plane : goal.overflow_add-plane
overflow_add-plane c = let h = c.requires.1.few in search rules

pub turn-second-requires : goal.turn-second-requires
turn-second-requires c =
    let z = c in
    let a = z.args in
    asked _ (points_of a.at.now a.ends.now a.first) _ _ _ c.base-s.ensures c.base-e.ensures _ z.requires.1 z.requires.0 _ (omega (arith, z.requires.1.few))

pub returns-in_default-second : goal.returns-in_default-second
returns-in_default-second c =
    let z = c in
    let a = z.args in
    second _ (points_of a.at.now a.ends.now a.first) _ _ _ c.base-s.ensures c.base-e.ensures _ z.requires.1 z.requires.0 c.turn-answer.ensures c.in-Open.is c.turn-second.ensures (not_open _ c.in_default-second.not-Open)

pub overflow_add-plane-2 : goal.overflow_add-plane-2
overflow_add-plane-2 c = let h = c.requires.1.few in search rules

pub turn-requires : goal.turn-requires
turn-requires c =
    let z = c in
    let a = z.args in
    asked _ (points_of a.at.now a.ends.now a.first) _ _ _ c.base-s.ensures c.base-e.ensures _ z.requires.1 z.requires.0 _ (omega (arith, z.requires.1.few))

pub returns : goal.returns
returns c =
    let z = c in
    let a = z.args in
    third _ (points_of a.at.now a.ends.now a.first) _ _ _ c.base-s.ensures c.base-e.ensures _ z.requires.1 z.requires.0 c.turn-answer.ensures c.in-Open.is c.turn-second.ensures c.in-Open-second.is c.turn.ensures
