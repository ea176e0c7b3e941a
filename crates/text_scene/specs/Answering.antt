-- How the reader's answer is shown right, whichever way it comes about.
use Rattle.std.specs.Prelude.{true, false, List, ◌≡◌, ℕ, ◌*◌, ◌≤◌, ◌<◌, length, take, Err, Ok, Result}
use Rattle.std.proofs.Math.Path.{refl, ap}
use Rattle.std.proofs.Common.{◌∙◌}
use borrow.Author.Tests.{lt-ltb, le-ltb, ltb-false}
use Rattle.sequences.specs.Wrote.{written}
use Rattle.answers.specs.Below.{or_left, or_rest}
use Rattle.meaning.specs.Limits.{text_limit}
use Rattle.meaning.specs.Scene.{Scene}
use Rattle.meaning.specs.Refusals.{Outcome, given, refused, number_of, carrying, outcome_of}
use Rattle.meaning.specs.Text.{SceneFaultyAt, TextIs, short_buffer, TextOutcome, counts_told, filled, TextRead}
use Rattle.meaning.specs.declared.Refusal.TheVariants.{ShortBuffer, LongText}
use Rattle.meaning.specs.declared.SceneCounts.{SceneCounts}
use Rattle.text_line.specs.Above.{Bounded, lengths_count}
use Rattle.text_record.specs.Putting.{Roomy}
use Rattle.text_record.specs.Drafting.{Fronts}
use Rattle.text_draft.specs.Reading.{DraftRead, DraftIs}
use Rattle.meaning.specs.declared.Refused.{Refused}

pub roomy : (lent : Scene) → short_buffer lent ≡ false → Roomy lent
roomy lent e =
    record {
      positions = ltb-false _ _ (search (or_left, or_rest));
      edges = ltb-false _ _ (search (or_left, or_rest));
      triangles = ltb-false _ _ (search (or_left, or_rest));
      seams = ltb-false _ _ (search (or_left, or_rest));
    }

-- ---- the draft copied

-- so many numbers of each of its buffers are in front of the lent ones
pub record Copied (c : SceneCounts) (own lent left : Scene) : Type 0 where
  pub positions : left.positions ≡ written (take (6 * c.vertices) own.positions) lent.positions
  pub edges : left.edges ≡ written (take (2 * c.edges) own.edges) lent.edges
  pub triangles : left.triangles ≡ written (take (3 * c.triangles) own.triangles) lent.triangles
  pub seams : left.seams ≡ written (take (2 * c.seams) own.seams) lent.seams

copied_filled : {c : SceneCounts} {own lent left s : Scene} → Fronts own s c → Copied c own lent left → left ≡ filled (given s) lent
unfolding filled
copied_filled {lent} {left} {s} f k =
    let positions : left.positions ≡ written s.positions lent.positions = k.positions ∙ ap (λ l. written l lent.positions) f.positions in
    let edges : left.edges ≡ written s.edges lent.edges = k.edges ∙ ap (λ l. written l lent.edges) f.edges in
    let triangles : left.triangles ≡ written s.triangles lent.triangles = k.triangles ∙ ap (λ l. written l lent.triangles) f.triangles in
    let seams : left.seams ≡ written s.seams lent.seams = k.seams ∙ ap (λ l. written l lent.seams) f.seams in
    λ i. record { positions = positions i; edges = edges i; triangles = triangles i; seams = seams i }

-- ---- the answer

module _ (text : List ℕ) (own : Scene) (table : List ℕ) {r : Result SceneCounts Refused} (d : DraftIs text own table r) where
  faulty : {x : Refused} → r ≡ Err x → SceneFaultyAt text (number_of x.why) x.carries
  unfolding DraftIs
  faulty e = rw e at d

  held : {c : SceneCounts} → r ≡ Ok c → DraftRead text own table c
  unfolding DraftIs
  held e = rw e at d

  pub draft_bounded : {c : SceneCounts} → r ≡ Ok c → Bounded c
  draft_bounded e = (held e).drafted.above.bounded

module _ (text : List ℕ) (lent : Scene) where
  pub read_short : short_buffer lent ≡ true → TextRead text lent lent (Err (carrying ShortBuffer 0))
  unfolding outcome_of counts_told filled number_of
  read_short e = record { outcome = refused 12 0; right = rw e refl; says = refl; leaves = refl }

  module _ (wide : short_buffer lent ≡ false) where
    pub read_long : text_limit < length text → TextRead text lent lent (Err (carrying LongText 0))
    unfolding outcome_of counts_told filled number_of
    read_long h = record { outcome = refused 8 0; right = rw (wide, lt-ltb text_limit (length text) h) refl; says = refl; leaves = refl }

    module _ (brief : length text ≤ text_limit) where
      -- what the draft found is the outcome
      outcome : (o : Outcome Scene) → TextIs text o → TextOutcome text lent o
      outcome o t = rw (wide, le-ltb text_limit (length text) brief) t

      module _ (own : Scene) (table : List ℕ) {r : Result SceneCounts Refused} (d : DraftIs text own table r) where
        pub read_refused : {x : Refused} → r ≡ Err x → TextRead text lent lent (Err x)
        unfolding TextIs outcome_of counts_told filled
        read_refused {x} e =
            record {
              outcome = refused (number_of x.why) x.carries;
              right = outcome (refused (number_of x.why) x.carries) (faulty text own table d e);
              says = refl;
              leaves = refl;
            }

        pub read_given : {c : SceneCounts} {left : Scene} → r ≡ Ok c → Copied c own lent left → TextRead text lent left (Ok c)
        unfolding TextIs outcome_of counts_told
        read_given e k =
            let h : DraftRead text own table _ = held text own table d e in
            record {
              outcome = given h.scene;
              right = outcome (given h.scene) h.holds;
              says = ap given (lengths_count h.drafted.above.lengths);
              leaves = copied_filled h.drafted.fronts k;
            }
