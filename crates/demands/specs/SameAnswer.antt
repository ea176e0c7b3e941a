-- Where two questions have the same checks and the same right verdicts, whatever meets the promises answers them alike: an ee pair asked for
-- in either order, and demand 3 as an integrator meets it, in answers.
use Rattle.std.specs.Prelude.{ℕ, Bool, false, ◌↔◌, ◌≡◌, leb, Result}
use mathlib.Core.List.{List, []}
use Rattle.std.proofs.Common.{sym, ◌∙◌}
use Rattle.std.proofs.Math.Path.{ap₂}
use Rattle.whole.specs.Vector.{Vector}
use Rattle.whole.specs.VectorLaws.{Matrix}
use Rattle.meaning.specs.Scene.{Scene, scene_of, Accepted}
use Rattle.meaning.specs.Pieces.{piece_count}
use Rattle.meaning.specs.Resting.{PairDecided, PieceDecided}
use Rattle.meaning.specs.Refusals.{Outcome, not_there, shares, PairJudged, PieceJudged}
use Rattle.meaning.specs.declared.Kind.{Kind}
use Rattle.meaning.specs.declared.Kind.TheVariants.{PointTriangle, EdgeEdge}
use Rattle.theory.specs.EitherOrder.{answer_either_order, piece_answer_either_order, settled_either_order, piece_settled_either_order}
use Rattle.theory.specs.Moved.{Moves}
use Rattle.answers.specs.Below.{or_left}
use Rattle.answers.specs.Deciding.{holds_or_not}
use Rattle.demands.specs.Demand1.{AskedTable, demand1_pair, demand1_piece, demand1_settled_pair, demand1_settled_piece}
use Rattle.demands.specs.Demand2.{ExactlyOne, demand2_verdicts}
use Rattle.demands.specs.Demand3.{demand3}
use Rattle.three_words.specs.OneResult.{one_pair, one_piece}
use Rattle.four_words.specs.OneResult.{one_settled_pair, one_settled_piece}
use Rattle.meaning.specs.declared.Refusal.{Refusal}
use Rattle.meaning.specs.declared.Settled.{Settled}
use Rattle.meaning.specs.declared.Verdict.{Verdict}
use Rattle.answers.specs.Speaking.{one_alone}

-- ---- in either order

pub pair_in_either_order : (s : Scene) (i j : ℕ) (r r' : Result Verdict Refusal) → PairJudged s EdgeEdge i j r → PairJudged s EdgeEdge j i r' → r ≡ r'
pair_in_either_order s i j r r' p q = one_pair s EdgeEdge j i r r' (answer_either_order s i j r p) q

pub piece_in_either_order : (s : Scene) (i j k : ℕ) (r r' : Result Verdict Refusal) → PieceJudged s EdgeEdge i j k r → PieceJudged s EdgeEdge j i k r' → r ≡ r'
piece_in_either_order s i j k r r' p q = one_piece s EdgeEdge j i k r r' (piece_answer_either_order s i j k r p) q

pub word_in_either_order : (s : Scene) (i j : ℕ) (r r' : Result Settled Refusal) → PairDecided s EdgeEdge i j r → PairDecided s EdgeEdge j i r' → r ≡ r'
word_in_either_order s i j r r' p q = one_settled_pair s EdgeEdge j i r r' (settled_either_order s i j r p) q

pub piece_word_in_either_order : (s : Scene) (i j k : ℕ) (r r' : Result Settled Refusal) → PieceDecided s EdgeEdge i j k r → PieceDecided s EdgeEdge j i k r' → r ≡ r'
piece_word_in_either_order s i j k r r' p q = one_settled_piece s EdgeEdge j i k r r' (piece_settled_either_order s i j k r p) q

-- ---- of two accepted scenes

module _ {W : Type 0} {s t : Scene} {missing shared other : Bool} {Is Be : W → Type 0} {o o' : Outcome W} (a : Accepted s) (b : Accepted t)
    (p : AskedTable s missing shared Is o) (q : AskedTable t missing other Be o') where
  pub answered_alike : (missing ≡ false → other ≡ shared) → ExactlyOne Is → (missing ≡ false → shared ≡ false → (v : W) → Is v ↔ Be v) → o ≡ o'
  answered_alike shares one same =
      holds_or_not missing
      (λ m. p.no5.1 (a, m) ∙ sym (q.no5.1 (b, m)))
      (λ m.
      holds_or_not shared
      (λ h. p.no6.1 (a, (m, h)) ∙ sym (q.no6.1 (b, (m, shares m ∙ h))))
      (λ h.
      (p.judged one.verdict).1 (a, (m, h, one.is))
      ∙ sym ((q.judged one.verdict).1 (b, (m, shares m ∙ h, (same m h one.verdict).0 one.is)))))

-- ---- demand 3, in answers

module _ {m : Matrix} {d e : Vector} {s t : Scene} (h : Moves m d e s t) where
  pub there_alike : (kind : Kind) (i j : ℕ) → not_there t kind i j ≡ not_there s kind i j
  unfolding not_there
  there_alike PointTriangle i j = rw (h.size, h.triangles)
  there_alike EdgeEdge i j = rw h.edges

  pub shares_alike : (kind : Kind) (i j : ℕ) → shares t kind i j ≡ shares s kind i j
  unfolding shares
  shares_alike PointTriangle i j = ap₂ (λ (l w : List ℕ). shares (scene_of [] [] l w) PointTriangle i j) h.triangles h.seams
  shares_alike EdgeEdge i j = ap₂ (λ (l w : List ℕ). shares (scene_of [] l [] w) EdgeEdge i j) h.edges h.seams

  module _ (a : Accepted s) (b : Accepted t) (kind : Kind) (i j : ℕ) where
    pub pair_answer_kept : (r r' : Result Verdict Refusal) → PairJudged s kind i j r → PairJudged t kind i j r' → r ≡ r'
    pair_answer_kept r r' p q =
        one_alone r r'
        (answered_alike a b (demand1_pair s kind i j r p) (rw (there_alike kind i j) at (demand1_pair t kind i j r' q))
        (λ n. shares_alike kind i j) (demand2_verdicts s kind i j).pair.one (λ n f. (demand3 h a b kind i j n f).pair))

    pub piece_answer_kept : (k : ℕ) (r r' : Result Verdict Refusal) → PieceJudged s kind i j k r → PieceJudged t kind i j k r' → r ≡ r'
    piece_answer_kept k r r' p q =
        one_alone r r'
        (answered_alike a b (demand1_piece s kind i j k r p) (rw (there_alike kind i j) at (demand1_piece t kind i j k r' q))
        (λ n. shares_alike kind i j) ((demand2_verdicts s kind i j).pieces k).one
        (λ n f. (demand3 h a b kind i j (or_left (not_there s kind i j) (leb (piece_count kind) k) n) f).pieces k))

    pub word_kept : (r r' : Result Settled Refusal) → PairDecided s kind i j r → PairDecided t kind i j r' → r ≡ r'
    word_kept r r' p q =
        one_alone r r'
        (answered_alike a b (demand1_settled_pair s kind i j r p) (rw (there_alike kind i j) at (demand1_settled_pair t kind i j r' q))
        (λ n. shares_alike kind i j) (demand2_verdicts s kind i j).pair.one_word (λ n f. (demand3 h a b kind i j n f).pair_word))

    pub piece_word_kept : (k : ℕ) (r r' : Result Settled Refusal) → PieceDecided s kind i j k r → PieceDecided t kind i j k r' → r ≡ r'
    piece_word_kept k r r' p q =
        one_alone r r'
        (answered_alike a b (demand1_settled_piece s kind i j k r p) (rw (there_alike kind i j) at (demand1_settled_piece t kind i j k r' q))
        (λ n. shares_alike kind i j) ((demand2_verdicts s kind i j).pieces k).one_word
        (λ n f. (demand3 h a b kind i j (or_left (not_there s kind i j) (leb (piece_count kind) k) n) f).piece_words k))
