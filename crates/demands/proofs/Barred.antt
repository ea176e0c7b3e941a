-- Of `Barred`: what rests on its definitions.
use Rattle.std.specs.Prelude.{ℕ, ◌≢◌, ◌≡◌, Ok, Result}
use Rattle.std.proofs.Common.{arith}
use Rattle.meaning.specs.Pieces.{piece_count}
use Rattle.meaning.specs.Resting.{PairDecided}
use Rattle.meaning.specs.Refusals.{PairJudged, PieceJudged}
use Rattle.meaning.specs.declared.Kind.TheVariants.{PointTriangle}
use Rattle.meaning.specs.declared.Verdict.TheVariants.{Hit, Miss, Degenerate}
use Rattle.meaning.specs.declared.Settled as Words
use Rattle.theory.specs.Bounds.{Every, every_imp}
use Rattle.corner_search.specs.Decided.{verdict_of_word}
use Rattle.demands.specs.Table.{cases, numbered, IsRight}
use Rattle.demands.proofs.Cases.{twelve_cases}
use Rattle.demands.specs.Barred.{judges, judges_pieces, settles, settles_pieces, Answered, Settled_so, PairAnswered, WordAnswered}
use Rattle.meaning.specs.declared.Refusal.{Refusal}
use Rattle.meaning.specs.declared.Settled.{Settled}
use Rattle.meaning.specs.declared.Verdict.{Verdict}

pub cases_answered : Every Answered cases
cases_answered =
    every_imp IsRight Answered
    (λ c h k below r p. judges_pieces c.scene c.kind c.first c.second h.accepted h.there h.apart k below _ (h.verdicts k below) r p)
    cases twelve_cases

pub cases_settled : Every Settled_so cases
cases_settled =
    every_imp IsRight Settled_so
    (λ c h k below r p. settles_pieces c.scene c.kind c.first c.second h.accepted h.there h.apart k below _ (h.each k below) r p)
    cases twelve_cases

pub pairs_answered : Every PairAnswered cases
pairs_answered =
    every_imp IsRight PairAnswered
    (λ c h r p. judges c.scene c.kind c.first c.second h.accepted h.there h.apart _ h.pair_verdict r p)
    cases twelve_cases

pub hit_in_case_1 : (r : Result Verdict Refusal) → PairJudged (numbered 1).scene PointTriangle 3 0 r → r ≡ Ok Hit
unfolding verdict_of_word
hit_in_case_1 = pairs_answered.0

pub miss_in_case_2 : (r : Result Verdict Refusal) → PairJudged (numbered 2).scene PointTriangle 3 0 r → r ≡ Ok Miss
unfolding verdict_of_word
miss_in_case_2 = pairs_answered.1.0

pub degenerate_in_case_7 : (r : Result Verdict Refusal) → PairJudged (numbered 7).scene PointTriangle 3 0 r → r ≡ Ok Degenerate
unfolding verdict_of_word
degenerate_in_case_7 = pairs_answered.1.1.1.1.1.1.0

pub words_answered : Every WordAnswered cases
words_answered =
    every_imp IsRight WordAnswered
    (λ c h r p. settles c.scene c.kind c.first c.second h.accepted h.there h.apart _ h.pair_word r p)
    cases twelve_cases

pub apart_in_case_6 : (r : Result Settled Refusal) → PairDecided (numbered 6).scene PointTriangle 3 0 r → r ≡ Ok Words.TheVariants.Apart
apart_in_case_6 = words_answered.1.1.1.1.1.0

pub touch_in_case_7 : (r : Result Settled Refusal) → PairDecided (numbered 7).scene PointTriangle 3 0 r → r ≡ Ok Words.TheVariants.Touch
touch_in_case_7 = words_answered.1.1.1.1.1.1.0

pub pieces_differ : (r r' : Result Verdict Refusal) → PieceJudged (numbered 1).scene PointTriangle 3 0 0 r → PieceJudged (numbered 1).scene PointTriangle 3 0 1 r' → r ≢ r'
unfolding piece_count verdict_of_word
pieces_differ r r' p q e =
    let a : r ≡ Ok Miss = cases_answered.0 0 (omega arith) r p in
    let b : r' ≡ Ok Hit = cases_answered.0 1 (omega arith) r' q in
    let z : ◌≡◌ {A = ℕ} 0 1 = cc in
    omega arith
