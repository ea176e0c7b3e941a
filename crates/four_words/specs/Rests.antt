-- Where all vertices of a degenerate pair rest, the starts of its first piece say whether some piece touches.
use Rattle.std.specs.Prelude.{ℕ, ◌≡◌, Bool, true, false}
use Rattle.std.proofs.Common.{sym, ◌∙◌, subst}
use Rattle.meaning.specs.Scene.{Scene}
use Rattle.meaning.specs.Equations.{Touches}
use Rattle.meaning.specs.Verdicts.{PairIs}
use Rattle.meaning.specs.Resting.{PieceSettled}
use Rattle.meaning.specs.declared.Kind.{Kind}
use Rattle.meaning.specs.declared.Verdict.{Verdict}
use Rattle.corner_rest.specs.Rests.{pair_rests, all_still}
use Rattle.corner_leaf.specs.declared.SixPoints.{SixPoints}
use Rattle.corner_search.specs.Says.{Tells}
use Rattle.corner_search.specs.Sixes.{six_of, six_piece}
use Rattle.corner_search.specs.Starts.{starts_among, first_there, starts_are_weights, weights_on_starts}
use Rattle.four_words.specs.Words.{TouchSaid, some, none}
use Rattle.four_words.specs.Singular.{touch_settled}

module _ (s : Scene) where
  module _ (kind : Kind) (i j : ℕ) where
    pub starts_said : PairIs s kind i j Verdict.Degenerate → {c : Bool} → c ≡ pair_rests s kind i j → c ≡ true → {six : SixPoints} → six ≡ six_of s kind i j 0
        → (r : Bool) → Tells s.positions six (starts_among six.ends) r → TouchSaid s kind i j r
    unfolding Tells PieceSettled
    starts_said h e f {six} is r t = go r (subst (λ (x : SixPoints). Tells s.positions x (starts_among x.ends) r) is t)
      where
        first : SixPoints
        first = six_of s kind i j 0

        go : (r : Bool) → Tells s.positions first (starts_among first.ends) r → TouchSaid s kind i j r
        go true t = some (record {
          which = 0;
          there = first_there kind;
          has = touch_settled s kind i j h 0 (first_there kind) (subst Touches (six_piece s kind i j 0) (starts_are_weights s.positions first _ t));
        })
        go false t = none (λ u. t (weights_on_starts s kind i j u.which (all_still s kind i j (sym e ∙ f)) u.has.1))
