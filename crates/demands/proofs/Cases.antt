-- Of `Cases`: what rests on its definitions.
use Rattle.std.specs.Prelude.{ℕ, ◌<◌, Bool, true, false, not, cond, ◌||◌, List, [], ◌∷◌, ◌≡◌, refl, eqb, length, get_or}
use Rattle.std.proofs.Common.{true≢false, sym, ◌∙◌, eqb-true}
use Rattle.std.proofs.lemmas.Bool.{not-false}
use Rattle.whole.specs.Vector.{volume, axis}
use Rattle.meaning.specs.Scene.{Scene, wrong_shape, out_of_range, unknown_vertex, broken_seam, repeated_vertex, some_below, stood_for}
use Rattle.meaning.specs.Pieces.{piece_of, piece_count}
use Rattle.meaning.specs.Verdicts.{PairIs, SomePiece}
use Rattle.meaning.specs.Resting.{SomeSettled, PairSettled}
use Rattle.meaning.specs.Refusals.{not_there, shares}
use Rattle.meaning.specs.Boxes.{meet_on, listed}
use Rattle.meaning.specs.SceneWords.{byte_of}
use Rattle.meaning.specs.declared.Kind.{Kind}
use Rattle.meaning.specs.declared.Settled.{Settled}
use Rattle.meaning.specs.declared.Settled.TheVariants.{Hit, Miss, Touch, Apart}
use Rattle.theory.specs.Bounds.{Every}
use Rattle.theory.specs.Reading.{verdict_of, agreeing}
use Rattle.theory.specs.Computed.{piece_verdict, joined, joined_below, point_differences, edge_differences, start_sum, end_sum}
use Rattle.exact_signs.specs.BySigns.{keep}
use Rattle.exact_signs.specs.OneWay.{one_way}
use Rattle.corner_leaf.specs.First.{first_of}
use Rattle.corner_laws.specs.Others.{skip}
use Rattle.corner_laws.specs.Filled.{slot, next}
use Rattle.corner_leaf.specs.Answer.{base_in, judged_in, turn_of, otherwise, leaf_of}
use Rattle.corner_search.specs.Sixes.{point_six, edges_six, six_of}
use Rattle.corner_search.specs.Decided.{by_leaf, touching, settled_by, verdict_of_word, piece_word, is_touch, pair_word, piece_word_is, word_verdict, some_hit, pair_word_is}
use Rattle.answers.specs.Below.{or_left, or_rest, none_passes}
use Rattle.demands.specs.Standing.{stands_is}
use Rattle.demands.specs.Table.{Case, cases, StandsIf, IsRight}

unlike : Settled → Settled → Bool
unlike v w = not (eqb (byte_of v) (byte_of w))

abbrev differs : Case → ℕ → Bool
differs c k = unlike (get_or c.pieces k Miss) (piece_word c.scene c.kind c.first c.second k)

fault : Case → Bool
fault c =
    wrong_shape c.scene || out_of_range c.scene || unknown_vertex c.scene || broken_seam c.scene || repeated_vertex c.scene
    || not_there c.scene c.kind c.first c.second
    || shares c.scene c.kind c.first c.second
    || not (eqb (length c.pieces) (piece_count c.kind))
    || some_below (piece_count c.kind) (differs c)
    || unlike c.word (pair_word c.scene c.kind c.first c.second)
    || cond c.in_list (not (listed c.scene c.kind c.first c.second)) (listed c.scene c.kind c.first c.second)

faults : List Case → Bool
faults [] = false
faults (c ∷ l) = fault c || faults l

no_faults : faults cases ≡ false
unfolding faults fault unlike some_below stood_for not_there piece_count byte_of piece_verdict joined_below joined point_differences edge_differences start_sum end_sum volume verdict_of agreeing shares meet_on pair_word is_touch piece_word settled_by touching by_leaf leaf_of otherwise turn_of judged_in base_in first_of skip slot next axis one_way keep six_of point_six edges_six
no_faults = refl

like : (v w : Settled) → unlike v w ≡ false → v ≡ w
unfolding unlike byte_of
like Hit Hit e = refl
like Hit Miss e = absurd (true≢false e)
like Hit Touch e = absurd (true≢false e)
like Hit Apart e = absurd (true≢false e)
like Miss Hit e = absurd (true≢false e)
like Miss Miss e = refl
like Miss Touch e = absurd (true≢false e)
like Miss Apart e = absurd (true≢false e)
like Touch Hit e = absurd (true≢false e)
like Touch Miss e = absurd (true≢false e)
like Touch Touch e = refl
like Touch Apart e = absurd (true≢false e)
like Apart Hit e = absurd (true≢false e)
like Apart Miss e = absurd (true≢false e)
like Apart Touch e = absurd (true≢false e)
like Apart Apart e = refl

stands_if : (b : Bool) (s : Scene) (kind : Kind) (i j : ℕ) → not_there s kind i j ≡ false → cond b (not (listed s kind i j)) (listed s kind i j) ≡ false → StandsIf b s kind i j
unfolding StandsIf
stands_if true s kind i j there e = (stands_is s kind i j there).1 (not-false (listed s kind i j) e)
stands_if false s kind i j there e = λ m. true≢false (sym ((stands_is s kind i j there).0 m) ∙ e)

-- a pair has the verdict that its word stands for, since a piece has
module _ (s : Scene) (kind : Kind) (i j : ℕ) where
  some_verdict : (w : Settled) → SomeSettled s kind i j w → SomePiece s kind i j (verdict_of_word w)
  some_verdict w h = record { which = h.which; there = h.there; has = word_verdict (piece_of s kind i j h.which) w h.has }

  pair_word_verdict : (w : Settled) → PairSettled s kind i j w → PairIs s kind i j (verdict_of_word w)
  unfolding PairSettled PairIs verdict_of_word
  pair_word_verdict Hit h = some_verdict Hit h
  pair_word_verdict Miss h = (λ t. h.0 ((some_hit s kind i j).0 t), h.1)
  pair_word_verdict Touch h = (λ t. h.0 ((some_hit s kind i j).0 t), some_verdict Touch h.1)
  pair_word_verdict Apart h = (λ t. h.0 ((some_hit s kind i j).0 t), h.2)

faultless : (c : Case) → fault c ≡ false → IsRight c
unfolding fault
faultless c e =
    let there : not_there c.scene c.kind c.first c.second ≡ false = search (or_left, or_rest) depth 12 in
    let same : some_below (piece_count c.kind) (differs c) ≡ false = search (or_left, or_rest) depth 12 in
    let word = worded (search (or_left, or_rest) depth 12) in
    record {
      accepted = record {
        shapely = search (or_left, or_rest) depth 12;
        in_range = search (or_left, or_rest) depth 12;
        known = search (or_left, or_rest) depth 12;
        sewn_well = search (or_left, or_rest) depth 12;
        distinct = search (or_left, or_rest) depth 12;
      };
      there = there;
      apart = search (or_left, or_rest) depth 12;
      as_many = eqb-true _ _ (not-false _ (search (or_left, or_rest) depth 12));
      each = λ k h.
          (piece_word_is c.scene c.kind c.first c.second k (get_or c.pieces k Miss)).1 (alike same k h);
      verdicts = λ k h.
          word_verdict (piece_of c.scene c.kind c.first c.second k) (get_or c.pieces k Miss)
          ((piece_word_is c.scene c.kind c.first c.second k (get_or c.pieces k Miss)).1 (alike same k h));
      pair_word = word;
      pair_verdict = pair_word_verdict c.scene c.kind c.first c.second c.word word;
      list = stands_if c.in_list c.scene c.kind c.first c.second there (search (or_left, or_rest) depth 12);
    }
  where
    alike : some_below (piece_count c.kind) (differs c) ≡ false → (k : ℕ) → k < piece_count c.kind
        → get_or c.pieces k Miss ≡ piece_word c.scene c.kind c.first c.second k
    alike same k h =
        like (get_or c.pieces k Miss) (piece_word c.scene c.kind c.first c.second k) (none_passes (differs c) (piece_count c.kind) same k h)

    worded : unlike c.word (pair_word c.scene c.kind c.first c.second) ≡ false
        → PairSettled c.scene c.kind c.first c.second c.word
    worded e =
        (pair_word_is c.scene c.kind c.first c.second c.word).1 (like c.word (pair_word c.scene c.kind c.first c.second) e)

all_right : (l : List Case) → faults l ≡ false → Every IsRight l
unfolding faults
all_right [] e = tt
all_right (c ∷ l) e = (faultless c (or_left (fault c) (faults l) e), all_right l (or_rest (fault c) (faults l) e))

pub twelve_cases : Every IsRight cases
twelve_cases = all_right cases no_faults
