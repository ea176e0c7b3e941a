-- What an answer to the check of edges says: a yes, that every side of every triangle is an edge and none stands twice; and only one answer is right.
use Rattle.std.specs.Prelude.{ℕ, ◌<◌, false, List, [], ◌≡◌, Err, Ok, Result}
use Rattle.std.proofs.Common.{true≢false, sym, ◌∙◌}
use Rattle.std.proofs.Math.Path.{refl, ap}
use Rattle.std.proofs.Math.Decide.{dec_lt}
use native.Mathlib.Omega.{arith}
use Rattle.meaning.specs.Scene.{Scene, edge_count}
use Rattle.meaning.specs.MeshEdges.{EdgesTold, whole, bare, twice, edges_say, EdgesAre, edges_checks, EdgesChecked}
use Rattle.meaning.specs.Refusals.{given, Answers, number_of}
use Rattle.answers.specs.Answering.{is_given, one_answer}
use Rattle.answers.specs.Speaking.{one_number}
use Rattle.mesh_orders.specs.Deciding.{order_of}
use Rattle.mesh_edges.specs.Sides.{EverySide, every_side}
use Rattle.mesh_edges.specs.Ends.{NoneTwice, none_twice}
use Rattle.mesh_edges.specs.Checking.{right_order, wrong_hints}
use Rattle.meaning.specs.declared.EdgesFound as Findings
use Rattle.meaning.specs.declared.Refusal.{Refusal}
use Rattle.meaning.specs.declared.EdgesFound.{EdgesFound}

nothing_left : {A : Type 0} (R : A → Type 0) (a : A) → Answers [] R (given a) → R a
unfolding Answers
nothing_left R a h = h

module _ (s : Scene) (sides order : List ℕ) (table places : ℕ) where
  -- what holds where a value is given
  given_right : (t : EdgesTold) → Answers (edges_checks s sides order table places) (EdgesAre s sides order) (given t)
      → (wrong_hints s sides order ≡ false) × EdgesAre s sides order t
  given_right t a =
      let (h1, a1) = is_given (EdgesAre s sides order) _ _ t a in
      let (h2, a2) = is_given (EdgesAre s sides order) _ _ t a1 in
      let (h3, a3) = is_given (EdgesAre s sides order) _ _ t a2 in
      let (h4, a4) = is_given (EdgesAre s sides order) _ _ t a3 in
      let (h5, a5) = is_given (EdgesAre s sides order) _ _ t a4 in
      let (h6, a6) = is_given (EdgesAre s sides order) _ _ t a5 in
      let (h7, a7) = is_given (EdgesAre s sides order) _ _ t a6 in
      (h7, nothing_left (EdgesAre s sides order) t a7)

  -- said yes
  pub whole_means : EdgesChecked s sides order table places (Ok Findings.TheVariants.Whole) → EverySide s × NoneTwice s
  unfolding edges_say EdgesAre
  whole_means a =
      let (right, are) = given_right whole a in
      let o = order_of (edge_count s) order (right_order s sides order right) in
      (every_side s sides order are.0, none_twice s sides order o (λ i h. are.1 i (omega (arith, o.whole))))

-- ---- only one answer is right

module _ (s : Scene) (sides order : List ℕ) where
  pub one_told : (t t' : EdgesTold) → EdgesAre s sides order t → EdgesAre s sides order t' → t ≡ t'
  unfolding EdgesAre
  one_told whole whole p q = refl
  one_told whole (bare k) p q = absurd (true≢false (sym q.2 ∙ p.0 k q.0))
  one_told whole (twice k) p q = absurd (true≢false (sym q.3 ∙ p.1 k q.0))
  one_told (bare k) whole p q = absurd (true≢false (sym p.2 ∙ q.0 k p.0))
  one_told (bare k) (bare l) p q = by_place (dec_lt k l) (dec_lt l k)
    where
      by_place : Dec (k < l) → Dec (l < k) → bare k ≡ bare l
      by_place (yes h) d = absurd (true≢false (sym p.2 ∙ q.1 k h))
      by_place (no h) (yes g) = absurd (true≢false (sym q.2 ∙ p.1 l g))
      by_place (no h) (no g) = let e : k ≡ l = omega arith in ap bare e
  one_told (bare k) (twice l) p q = absurd (true≢false (sym p.2 ∙ q.1 k p.0))
  one_told (twice k) whole p q = absurd (true≢false (sym p.3 ∙ q.1 k p.0))
  one_told (twice k) (bare l) p q = absurd (true≢false (sym q.2 ∙ p.1 l q.0))
  one_told (twice k) (twice l) p q = by_place (dec_lt k l) (dec_lt l k)
    where
      by_place : Dec (k < l) → Dec (l < k) → twice k ≡ twice l
      by_place (yes h) d = absurd (true≢false (sym p.3 ∙ q.2 k h))
      by_place (no h) (yes g) = absurd (true≢false (sym q.3 ∙ p.2 l g))
      by_place (no h) (no g) = let e : k ≡ l = omega arith in ap twice e

-- what an answer says tells the answer
edges_say_one : (r r' : Result EdgesFound Refusal) → edges_say r ≡ edges_say r' → r ≡ r'
unfolding edges_say
edges_say_one (Ok Findings.TheVariants.Whole) (Ok Findings.TheVariants.Whole) e = refl
edges_say_one (Ok Findings.TheVariants.Whole) (Ok (Findings.TheVariants.Bare k)) e = cc
edges_say_one (Ok Findings.TheVariants.Whole) (Ok (Findings.TheVariants.Twice k)) e = cc
edges_say_one (Ok Findings.TheVariants.Whole) (Err x) e = cc
edges_say_one (Ok (Findings.TheVariants.Bare k)) (Ok Findings.TheVariants.Whole) e = cc
edges_say_one (Ok (Findings.TheVariants.Bare k)) (Ok (Findings.TheVariants.Bare l)) e = cc
edges_say_one (Ok (Findings.TheVariants.Bare k)) (Ok (Findings.TheVariants.Twice l)) e = cc
edges_say_one (Ok (Findings.TheVariants.Bare k)) (Err x) e = cc
edges_say_one (Ok (Findings.TheVariants.Twice k)) (Ok Findings.TheVariants.Whole) e = cc
edges_say_one (Ok (Findings.TheVariants.Twice k)) (Ok (Findings.TheVariants.Bare l)) e = cc
edges_say_one (Ok (Findings.TheVariants.Twice k)) (Ok (Findings.TheVariants.Twice l)) e = cc
edges_say_one (Ok (Findings.TheVariants.Twice k)) (Err x) e = cc
edges_say_one (Err x) (Ok Findings.TheVariants.Whole) e = cc
edges_say_one (Err x) (Ok (Findings.TheVariants.Bare l)) e = cc
edges_say_one (Err x) (Ok (Findings.TheVariants.Twice l)) e = cc
edges_say_one (Err x) (Err y) e =
    let n : number_of x ≡ number_of y = cc in
    ap Err (one_number x y n)

pub one_edges_answer : (s : Scene) (sides order : List ℕ) (table places : ℕ) (r r' : Result EdgesFound Refusal) → EdgesChecked s sides order table places r
    → EdgesChecked s sides order table places r'
    → r ≡ r'
one_edges_answer s sides order table places r r' p q =
    edges_say_one r r' (one_answer (EdgesAre s sides order) (one_told s sides order) (edges_checks s sides order table places) (edges_say r) (edges_say r') p q)
