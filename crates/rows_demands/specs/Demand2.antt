-- Demand 2 of meshes, of whatever size: a stretch of rows holds exactly the pairs without a shared vertex whose swept boxes meet, in order, and near rows those
-- that are not far; every verdict and word is as demanded; what rows leave out touches in no piece and at no time; and what a call leaves in lent lists is
-- each pair's entry and word.
use Rattle.std.specs.Prelude.{ℕ, ◌≤◌, ◌<◌, true, false, ◌↔◌, ◌≡◌, ltb, length, Result}
use Rattle.std.proofs.Common.{true≢false, ⊎_elim, sym, ◌∙◌, arith, ltb-false}
use mathlib.Core.List.{List, map}
use Rattle.std.proofs.Math.Path.{ap}
use Rattle.std.proofs.Math.ListN.{get_or}
use Rattle.std.proofs.lemmas.List.{length-map}
use Rattle.sequences.specs.Lists.{Lists, lists_as}
use Rattle.sequences.specs.Mapped.{map_at}
use Rattle.sequences.specs.Pick.{either}
use Rattle.sequences.specs.Wrote.{written_in_front}
use Rattle.meaning.specs.Scene.{Scene}
use Rattle.meaning.specs.Refusals.{Outcome, given, shares, outcome_of}
use Rattle.meaning.specs.Near.{far}
use Rattle.meaning.specs.List.{Pair, leaves}
use Rattle.meaning.specs.Resting.{PairSettled}
use Rattle.meaning.specs.SceneWords.{byte_of}
use Rattle.meaning.specs.MeshRows.{Lent, row_test, row_count, rows_in, mesh_number, mesh_entries, RowsSettled}
use Rattle.meaning.specs.declared.Kind.{Kind}
use Rattle.meaning.specs.declared.RowPairs.{RowPairs}
use Rattle.meaning.specs.declared.RowPairs.TheVariants.{Listed, Near}
use Rattle.meaning.specs.declared.Settled.{Settled}
use Rattle.theory.specs.Rational.{touch_rational}
use Rattle.answers.specs.Below.{or_left, or_rest}
use Rattle.corner_search.specs.Decided.{pair_word_is}
use Rattle.list_pairs.specs.InOrder.{Earlier}
use Rattle.list_words.specs.Listed.{no_pair, word_of_pair, words_of, bytes_of, all_judged, bytes_at, bytes_length, word_of_byte, byte_back}
use Rattle.list_words.specs.OneResult.{all_judged_one}
use Rattle.mesh_laws.specs.Rows.{all_rows}
use Rattle.near_laws.specs.Far.{far_apart, far_apart_in_motion, far_never_meets}
use Rattle.near_laws.specs.Near.{away_far, near_is}
use Rattle.meaning.specs.Pieces.{piece_of}
use Rattle.demands.specs.Demand2.{VerdictsAsDemanded, demand2_verdicts, ListAsDemanded, demand2_list, ApartAsDemanded}
use Rattle.rows_demands.specs.Refused.{RowsAsked}
use Rattle.rows_demands.specs.Demand1.{demand1_settle}
use Rattle.rows_demands.specs.Stretches.{InStretch, row_there, stretch_is, stretch_only, stretch_once, NearPair, near_asked}
use Rattle.meaning.specs.declared.Refused.{Refused}

-- ---- what rows leave out

-- as of a culled pair
pub demand2_far : (s : Scene) (kind : Kind) (i j : ℕ) → far s kind i j ≡ true → ApartAsDemanded s kind i j
demand2_far s kind i j f =
    record {
      in_motion = far_apart_in_motion s kind i j f;
      in_pieces = far_apart s kind i j f;
      in_rationals = λ k m. far_apart s kind i j f k ((touch_rational (piece_of s kind i j k).first (piece_of s kind i j k).second).1 m);
      not_hit = (far_never_meets s kind i j f).0;
      not_touch = (far_never_meets s kind i j f).1;
    }

-- a pair without a shared vertex that is in no row is far, so it does not touch
left_far : (w : RowPairs) (s : Scene) (kind : Kind) (i j : ℕ) → shares s kind i j ≡ false → row_test w s kind i j ≡ false → far s kind i j ≡ true
unfolding row_test
left_far Listed s kind i j apart none = away_far s kind i j (rw apart at none)
left_far Near s kind i j apart none =
    ⊎_elim
    (λ f. f)
    (λ (e : far s kind i j ≡ false). absurd (true≢false (sym (near_is s kind i j ∙ rw (apart, e)) ∙ none)))
    (either (far s kind i j))

-- ---- the rows

pub record RowsAsDemanded (w : RowPairs) (s : Scene) (first end : ℕ) : Type 0 where
  pub exactly : Lists Earlier (InStretch w s first end) (rows_in w s first end)
  pub only : (l : List Pair) → Lists Earlier (InStretch w s first end) l → l ≡ rows_in w s first end
  pub once : (i j : ℕ) (d : Pair) → i < length (rows_in w s first end) → j < length (rows_in w s first end)
      → get_or (rows_in w s first end) i d ≡ get_or (rows_in w s first end) j d → i ≡ j
  pub verdicts : (kind : Kind) (i j : ℕ) → VerdictsAsDemanded s kind i j
  pub left_out : (kind : Kind) (i j : ℕ) → shares s kind i j ≡ false → row_test w s kind i j ≡ false → ApartAsDemanded s kind i j

pub demand2_rows : (w : RowPairs) (s : Scene) (first end : ℕ) → end ≤ row_count s → RowsAsDemanded w s first end
demand2_rows w s first end h =
    record {
      exactly = stretch_is w s first end h;
      only = stretch_only w s first end h;
      once = stretch_once w s first end h;
      verdicts = demand2_verdicts s;
      left_out = λ kind i j apart none. demand2_far s kind i j (left_far w s kind i j apart none);
    }

-- all rows are the list of document 01
pub demand2_all_rows : (s : Scene) → ListAsDemanded s (rows_in Listed s 0 (row_count s))
demand2_all_rows s = rw (all_rows s) (demand2_list s)

-- and all near rows are exactly the pairs without a shared vertex that are not far, in order
pub demand2_near_rows : (s : Scene) → Lists Earlier (NearPair s) (rows_in Near s 0 (row_count s))
demand2_near_rows s =
    lists_as
    (λ p. (
      λ a. (near_asked s p).0 a.asked,
      λ a. let asked = (near_asked s p).1 a in record { asked = asked; from = omega arith; to = row_there Near s p asked },
    ))
    (stretch_is Near s 0 (row_count s) (omega arith))

-- ---- what a call leaves

module _ {A : Type 0} {x : Outcome A} {a : A} (e : x ≡ given a) where
  pub stands_in_front : (l o : List ℕ) {o' : List ℕ} → o' ≡ leaves x l o → (k : ℕ) → k < length l → get_or o' k 0 ≡ get_or l k 0
  unfolding leaves
  stands_in_front l o p k h =
      ap (λ (m : List ℕ). get_or m k 0) (p ∙ ap (λ (y : Outcome A). leaves y l o) e) ∙ written_in_front l o k 0 h

-- the k-th pair of the stretch has its entry and its word in the k-th place
pub record SettledAsDemanded (w : RowPairs) (s : Scene) (l : Lent) (first end : ℕ) (o' b' : List ℕ) : Type 0 where
  pub asked : RowsAsked s l (row_count s) first end
  pub rows : RowsAsDemanded w s first end
  pub entry : (k : ℕ) → k < length (rows_in w s first end) → get_or o' k 0 ≡ mesh_number (get_or (rows_in w s first end) k no_pair)
  pub word : (k : ℕ) → k < length (rows_in w s first end) → (v : Settled)
      → (get_or b' k 0 ≡ byte_of v)
      ↔ PairSettled s (get_or (rows_in w s first end) k no_pair).kind (get_or (rows_in w s first end) k no_pair).first
      (get_or (rows_in w s first end) k no_pair).second v

pub rows_there : {s : Scene} {l : Lent} {rows first end : ℕ} → RowsAsked s l rows first end → (first ≤ end) × (end ≤ rows)
rows_there {rows = rows} {first} {end} a =
    (ltb-false end first (or_left (ltb end first) (ltb rows end) a.there), ltb-false rows end (or_rest (ltb end first) (ltb rows end) a.there))

pub byte_of_word : (s : Scene) (q : Pair) (n : ℕ) → n ≡ byte_of (word_of_pair s q)
    → (v : Settled) → (n ≡ byte_of v) ↔ PairSettled s q.kind q.first q.second v
byte_of_word s q n is v = (
  λ e. (pair_word_is s q.kind q.first q.second v).1 (sym (byte_back v) ∙ ap word_of_byte (sym e ∙ is) ∙ byte_back (word_of_pair s q)),
  λ h. is ∙ ap byte_of (sym ((pair_word_is s q.kind q.first q.second v).0 h)),
)

pub demand2_settled : (w : RowPairs) (s : Scene) (l : Lent) (first end : ℕ) (o o' b b' : List ℕ) (r : Result ℕ Refused) → RowsSettled w s l first end o o' b b' r
    → (n : ℕ) → outcome_of r ≡ given n → SettledAsDemanded w s l first end o' b'
demand2_settled w s l first end o o' b b' r p n e =
    let stretch = rows_in w s first end in
    let asked = (((demand1_settle w s l first end o o' b b' r p).table.gives n).0 e).0 in
    let words = all_judged_one s stretch p.words (words_of s stretch) p.right (all_judged s stretch) in
    let bytes : b' ≡ leaves (outcome_of r) (bytes_of s stretch) b = p.bytes ∙ ap (λ (ws : List Settled). leaves (outcome_of r) (map byte_of ws) b) words in
    record {
      asked = asked;
      rows = demand2_rows w s first end (rows_there asked).1;
      entry = λ k h.
          stands_in_front e (mesh_entries stretch) o p.list k (rw (length-map stretch mesh_number) h) ∙ map_at mesh_number stretch k no_pair 0 h;
      word = λ k h.
          byte_of_word s (get_or stretch k no_pair) (get_or b' k 0)
          (stands_in_front e (bytes_of s stretch) b bytes k (rw (bytes_length s stretch) h) ∙ bytes_at s stretch k h);
    }
