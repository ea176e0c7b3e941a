-- A line ends at the first LF, where a record's line is its body and an LF, and no body has one: so a text begins with a record's line
-- exactly when what stands before its first LF is the record's body, and a text without LF begins with none.
use mathlib.Core.List.{List, [], ◌∷◌, ◌++◌, append_assoc, nil≢cons, head-eq_of_cons-eq, tail-eq_of_cons-eq}
use Rattle.std.specs.Prelude.{◌≢◌, ◌≡◌, refl, ℕ, ◌<◌, length}
use Rattle.std.proofs.Common.{sym, ap, ◌∙◌, arith, length-append}
use Rattle.meaning.specs.Lines.{Grammar}
use Rattle.meaning.specs.Text.{line_feed}
use Rattle.text_laws.specs.Unique.{Readable}

unfoldable pub NoFeed : List ℕ → Type 0
NoFeed [] = Unit
NoFeed (b ∷ l) = (b ≢ line_feed) × NoFeed l

pub feed_append : (l k : List ℕ) → NoFeed l → NoFeed k → NoFeed (l ++ k)
unfolding NoFeed
feed_append [] k s t = t
feed_append (b ∷ l) k s t = (s.0, feed_append l k s.1 t)

pub feed_cancel : (l k x y : List ℕ) → NoFeed l → NoFeed k → l ++ (line_feed ∷ x) ≡ k ++ (line_feed ∷ y) → (l ≡ k) × (x ≡ y)
unfolding NoFeed
feed_cancel [] [] x y s t e = (refl, tail-eq_of_cons-eq e)
feed_cancel [] (b ∷ k) x y s t e = absurd (t.0 (sym (head-eq_of_cons-eq e)))
feed_cancel (a ∷ l) [] x y s t e = absurd (s.0 (head-eq_of_cons-eq e))
feed_cancel (a ∷ l) (b ∷ k) x y s t e =
    let (same, rest) = feed_cancel l k x y s.1 t.1 (tail-eq_of_cons-eq e) in
    (λ i. head-eq_of_cons-eq e i ∷ same i, rest)

pub feed_none : (l k y : List ℕ) → NoFeed l → l ≡ k ++ (line_feed ∷ y) → ⊥
unfolding NoFeed
feed_none [] [] y s e = nil≢cons e
feed_none [] (b ∷ k) y s e = nil≢cons e
feed_none (a ∷ l) [] y s e = s.0 (head-eq_of_cons-eq e)
feed_none (a ∷ l) (b ∷ k) y s e = feed_none l k y s.1 (tail-eq_of_cons-eq e)

pub record Bodies (g : Grammar) : Type 0 where
  pub body : g.Record → List ℕ
  pub ended : (r : g.Record) → g.line r ≡ body r ++ (line_feed ∷ [])
  pub unbroken : {s : g.State} (r : g.Record) → g.Formed s r → NoFeed (body r)

module _ {g : Grammar} (b : Bodies g) where
  ended_then : (r : g.Record) (y : List ℕ) → g.line r ++ y ≡ b.body r ++ (line_feed ∷ y)
  ended_then r y = ap (λ (l : List ℕ). l ++ y) (b.ended r) ∙ append_assoc (b.body r) (line_feed ∷ []) y

  pub first_line : {s : g.State} (l x y : List ℕ) (r : g.Record) → g.Formed s r → NoFeed l → l ++ (line_feed ∷ x) ≡ g.line r ++ y
      → (l ≡ b.body r) × (x ≡ y)
  first_line l x y r formed whole e = feed_cancel l (b.body r) x y whole (b.unbroken r formed) (e ∙ ended_then r y)

  pub no_line : (l y : List ℕ) (r : g.Record) → NoFeed l → l ≡ g.line r ++ y → ⊥
  no_line l y r whole e = feed_none l (b.body r) y whole (e ∙ ended_then r y)

  -- bodies that can be told apart make a text that means one thing
  pub bodies_readable : ((s : g.State) (r q : g.Record) → g.Formed s r → g.Formed s q → b.body r ≡ b.body q → r ≡ q) → Readable g
  bodies_readable apart =
      record {
        cancel = λ {s} r q x y formed formed' e.
            let (same, rest) =
            feed_cancel (b.body r) (b.body q) x y (b.unbroken r formed) (b.unbroken q formed') (sym (ended_then r x) ∙ e ∙ ended_then q y) in
            (apart s r q formed formed' same, rest);
        some = λ r. omega (arith, ap length (b.ended r), length-append (b.body r) (line_feed ∷ []));
      }
