-- Document 02, §11: what a yes means, when a call of claims refuses, and what it leaves in the lent buffer.
use Rattle.std.specs.Prelude.{ℕ, zero, suc, ◌+◌, ◌≤◌, ◌<◌, Bool, true, false, ◌↔◌, ◌⊎◌, ◌≡◌, refl, length, Result}
use Rattle.std.proofs.Common.{true≢false, sym, ap, ◌∙◌, subst, arith, lit≤, lt-ltb, le-ltb}
use mathlib.Core.List.{List, [], ◌∷◌, map, Memᴰ}
use Rattle.std.proofs.Math.Logic.{⊎_elim}
use Rattle.std.proofs.lemmas.List.{length-map}
use Rattle.std.specs.Int.Signed.{lt_z_yes}
use Rattle.sequences.specs.Pick.{either}
use Rattle.sequences.specs.Wrote.{Wrote, written, wrote_written}
use Rattle.meaning.specs.Limits.{weight_limit}
use Rattle.meaning.specs.Scene.{Scene, stood_for}
use Rattle.meaning.specs.Pieces.{Piece, moving_triangle, piece_of, piece_count}
use Rattle.meaning.specs.Equations.{total, Touches}
use Rattle.meaning.specs.Verdicts.{PieceIs}
use Rattle.meaning.specs.Resting.{PieceSettled, PairSettled}
use Rattle.meaning.specs.Refusals.{Outcome, given, refused, not_there, shares, outcome_of}
use Rattle.meaning.specs.Boxes.{boxes_meet}
use Rattle.meaning.specs.List.{pair}
use Rattle.meaning.specs.Lines as Lines
use Rattle.meaning.specs.Lines.{AllSound, unformed, misplaced}
use Rattle.meaning.specs.Claims.{Claim, weight_at, BorneOut, AnswerIs, claim_checks, claim_lines, AllAnswered, claims_first, FirstIs, ClaimsOutcome, before, faulty, read, how_many_told, answer_byte, answers_left, ClaimsChecked}
use Rattle.meaning.specs.declared.Kind.{Kind}
use Rattle.meaning.specs.declared.Kind.TheVariants.{PointTriangle}
use Rattle.meaning.specs.declared.Settled.TheVariants.{Hit, Miss, Touch, Apart}
use Rattle.theory.specs.Rational.{touch_rational}
use Rattle.theory.specs.RationalVerdicts.{Meets}
use Rattle.answers.specs.Answering.{refuses, lets_pass, gives}
use Rattle.list_pairs.specs.InOrder.{FirstBelow, ToList}
use Rattle.claim_answers.specs.Checking.{one_outcome, few_told}
use Rattle.answers.specs.Deciding.{number_known}
use Rattle.demands.specs.Demand2.{demand2_verdicts, demand2_culled}
use Rattle.demands.specs.Table.{numbered}
use Rattle.meaning.specs.declared.Refused.{Refused}

-- ---- a yes

-- 'Yes exactly when each weight is at most 2^40, both simplices sum to the same number above 0, and the weighted x, y, z and time agree.'
pub yes_exactly : (p : Piece) (ws : List ℕ) (b : Bool) → AnswerIs p ws b → (b ≡ true) ↔ BorneOut p ws
unfolding AnswerIs
yes_exactly p ws true h = (λ e. h, λ t. refl)
yes_exactly p ws false h = (λ e. absurd (true≢false (sym e)), λ t. absurd (h t))

-- 'A yes then means that the piece truly meets, singular or not.' So it is hit or touch, and its pair is no miss and not apart; and where the
-- pair shares no vertex its boxes meet, so that it is listed.
pub record YesMeans (s : Scene) (kind : Kind) (i j k : ℕ) : Type 0 where
  pub touches : Touches (piece_of s kind i j k)
  pub meets : Meets (piece_of s kind i j k)
  pub word : PieceSettled (piece_of s kind i j k) Hit ⊎ PieceSettled (piece_of s kind i j k) Touch
  pub not_miss : ¬ PieceSettled (piece_of s kind i j k) Miss
  pub not_apart : ¬ PieceSettled (piece_of s kind i j k) Apart
  pub pair_not_miss : k < piece_count kind → ¬ PairSettled s kind i j Miss
  pub pair_not_apart : k < piece_count kind → ¬ PairSettled s kind i j Apart
  pub boxes : shares s kind i j ≡ false → boxes_meet s kind i j ≡ true
  pub listed : not_there s kind i j ≡ false → FirstBelow kind i j → shares s kind i j ≡ false → ToList s (pair kind i j)

borne_touches : (p : Piece) (ws : List ℕ) → BorneOut p ws → Touches p
borne_touches p ws b =
    record { u = weight_at ws; v = λ i. weight_at ws (length p.first + i); balanced = b.balanced; some = b.some }

module _ (s : Scene) (kind : Kind) (i j k : ℕ) (t : Touches (piece_of s kind i j k)) where
  -- a culled pair touches in no piece
  meet : shares s kind i j ≡ false → boxes_meet s kind i j ≡ true
  meet apart =
      ⊎_elim (λ e. e) (λ e. absurd ((demand2_culled s kind i j apart e).in_pieces k t)) (either (boxes_meet s kind i j))

  said : PieceSettled (piece_of s kind i j k) Hit ⊎ PieceSettled (piece_of s kind i j k) Touch
  said =
      ((demand2_verdicts s kind i j).pieces k).weights.0
      ((touch_rational (piece_of s kind i j k).first (piece_of s kind i j k).second).0 t)

  touching_means : YesMeans s kind i j k
  unfolding PieceSettled PieceIs PairSettled
  touching_means =
      record {
        touches = t;
        meets = (touch_rational (piece_of s kind i j k).first (piece_of s kind i j k).second).0 t;
        word = said;
        not_miss = λ h. h.1 t;
        not_apart = λ h. h.1 t;
        pair_not_miss = λ l h. ⊎_elim (λ w. h.0 (record { which = k; there = l; has = w })) (λ w. h.1 (record { which = k; there = l; has = w.0 })) said;
        pair_not_apart = λ l h. ⊎_elim (λ w. h.0 (record { which = k; there = l; has = w })) (λ w. h.1 (record { which = k; there = l; has = w })) said;
        boxes = meet;
        listed = λ there ordered apart. record { there = there; ordered = ordered; apart = apart; meet = meet apart };
      }

pub demand2_yes : (s : Scene) (kind : Kind) (i j k : ℕ) (ws : List ℕ) → AnswerIs (piece_of s kind i j k) ws true → YesMeans s kind i j k
unfolding AnswerIs
demand2_yes s kind i j k ws h = touching_means s kind i j k (borne_touches (piece_of s kind i j k) ws h)

-- 'Case 1, piece 1: weights 2, 2 against 2, 0, 1, 1.'
pub weights_claimed : BorneOut (piece_of (numbered 1).scene PointTriangle 3 0 1) (2 ∷ 2 ∷ 2 ∷ 0 ∷ 1 ∷ 1 ∷ [])
unfolding total piece_of moving_triangle stood_for
weights_claimed = record {
  light = light;
  balanced = record { sums = refl; xs = refl; ys = refl; zs = refl; times = refl };
  some = lt_z_yes tt;
}
  where
    light : (i : ℕ) → i < 6 → weight_at (2 ∷ 2 ∷ 2 ∷ 0 ∷ 1 ∷ 1 ∷ []) i ≤ weight_limit
    light zero h = lit≤ tt
    light (suc zero) h = lit≤ tt
    light (suc (suc zero)) h = lit≤ tt
    light (suc (suc (suc zero))) h = lit≤ tt
    light (suc (suc (suc (suc zero)))) h = lit≤ tt
    light (suc (suc (suc (suc (suc zero))))) h = lit≤ tt
    light (suc (suc (suc (suc (suc (suc i)))))) h = absurd (omega arith)

-- ---- refused only when the table says so

-- 'The scene's first, 8 for the claims, then the first faulty claim line, in it 9, 5, 6, last 7': each is given exactly where it is due, and
-- the outcome is one of these and no other
pub record ClaimsTable (s : Scene) (text : List ℕ) (room : ℕ) (o : Outcome (List Bool)) : Type 0 where
  pub first : (n c : ℕ) → FirstIs s text (refused n c) → o ≡ refused n c
  pub line : (n line : ℕ) → FirstIs s text (given tt) → Lines.FaultyAt (claim_lines s) tt text n line → o ≡ refused n line
  pub full : (cs : List Claim) → FirstIs s text (given tt) → AllSound (claim_lines s) tt text cs → room < length cs → o ≡ refused 7 (length cs)
  pub answered : (cs : List Claim) (bs : List Bool) → FirstIs s text (given tt) → AllSound (claim_lines s) tt text cs → length cs ≤ room
      → AllAnswered s cs bs
      → o ≡ given bs
  pub only : ClaimsOutcome s text room o

claims_table : (s : Scene) (text : List ℕ) (room : ℕ) (o : Outcome (List Bool)) → ClaimsOutcome s text room o → ClaimsTable s text room o
claims_table s text room o h =
    record {
      first = λ n c p. one_outcome s text room o (refused n c) h (before n c refl p);
      line = λ n line p f. one_outcome s text room o (refused n line) h (faulty n line refl p f);
      full = λ cs p sound more.
          one_outcome s text room o (refused 7 (length cs)) h (read cs p sound (refuses _ _ _ _ (lt-ltb room (length cs) more) refl));
      answered = λ cs bs p sound few right.
          one_outcome s text room o (given bs) h
          (read cs p sound (lets_pass _ _ _ _ (le-ltb room (length cs) few) (gives (AllAnswered s cs) bs right)));
      only = h;
    }

-- the numbers: 1, 2, 3, 15, 4 and 8 before the lines; 9, 5 and 6 in a line
pub first_numbers : (s : Scene) (text : List ℕ) (n c : ℕ) → FirstIs s text (refused n c) → Memᴰ n (1 ∷ 2 ∷ 3 ∷ 15 ∷ 4 ∷ 8 ∷ [])
first_numbers s text n c p = number_known (λ t. Unit {0}) (claims_first s text) (refused n c) p n c refl

pub line_numbers : (s : Scene) (text : List ℕ) (n : ℕ) → Lines.Fault (claim_lines s) tt text n → Memᴰ n (9 ∷ 5 ∷ 6 ∷ [])
line_numbers s text n (unformed e some never) = Memᴰ.head e
line_numbers s text n (misplaced c rest formed e j) =
    Memᴰ.tail (number_known (λ t. Unit {0}) (claim_checks s c) (refused n 0) j n 0 refl)

-- of the call: the table, and 'in each case no claim is answered'; after success the answers are in front, and behind them nothing changed
pub record CallAsDemanded (s : Scene) (text o o' : List ℕ) (r : Result ℕ Refused) : Type 0 where
  pub outcome : Outcome (List Bool)
  pub table : ClaimsTable s text (length o) outcome
  pub says : outcome_of r ≡ how_many_told outcome
  pub unchanged : (n c : ℕ) → outcome ≡ refused n c → o' ≡ o
  pub in_front : (bs : List Bool) → outcome ≡ given bs → Wrote o 0 (map answer_byte bs) o' (length bs)

pub demand1_claims : (s : Scene) (text o o' : List ℕ) (r : Result ℕ Refused) → ClaimsChecked s text o o' r → CallAsDemanded s text o o' r
unfolding answers_left
demand1_claims s text o o' r h =
    record {
      outcome = h.outcome;
      table = claims_table s text (length o) h.outcome h.right;
      says = h.says;
      unchanged = λ n c e. h.leaves ∙ ap (λ x. answers_left x o) e;
      in_front = λ bs e.
          let many : length (map answer_byte bs) ≡ length bs = length-map bs answer_byte in
          let few : length bs ≤ length o = few_told s text (length o) h.outcome bs h.right e in
          let left : o' ≡ written (map answer_byte bs) o = h.leaves ∙ ap (λ x. answers_left x o) e in
          subst (λ (l : List ℕ). Wrote o 0 (map answer_byte bs) l (length bs)) (sym left)
          (subst (λ (n : ℕ). Wrote o 0 (map answer_byte bs) (written (map answer_byte bs) o) n) many (wrote_written (map answer_byte bs) o (omega (arith, many))));
    }
