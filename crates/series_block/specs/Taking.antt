-- What one line of a block gives, in the grammar's words.
use Rattle.std.specs.Prelude.{Result, Ok, Err, ℕ, ◌+◌, ◌/◌, ◌≤◌, ◌<◌, Bool, true, false, cond, List, [], ◌∷◌, ◌≡◌, refl, leb, ℤ, drop}
use Rattle.std.proofs.Math.Path.{sym, subst}
use Rattle.std.proofs.Common.{◌∙◌, ⊎_elim, arith, length-drop, drop_of_length-le, le-leb, lt-ltb}
use Rattle.std.proofs.Math.ListN.{length}
use Rattle.std.proofs.lemmas.Bool.{lt-leb}
use Rattle.whole.specs.Vector.{Vector}
use Rattle.sequences.specs.Range.{le_or_lt}
use Rattle.sequences.specs.Stands.{Stands}
use Rattle.meaning.specs.Scene.{Scene, vertex_count}
use Rattle.meaning.specs.Refusals.{given, refused}
use Rattle.meaning.specs.Lines.{Fault, misplaced, nothing, RecordJudged}
use Rattle.answers.specs.Answering.{refuses}
use Rattle.meaning.specs.SeriesText.{ends, next, item_line, SoFar, with_item, ItemFormed, block_short, wrong_length, item_checks, series_lines}
use Rattle.series_line.specs.Reading.{EndsGot, BlockLineRead}
use Rattle.series_line.specs.declared.BlockLine.{BlockLine}
use Rattle.series_line.specs.declared.BlockLine.TheVariants as Lines
use Rattle.series_line.specs.declared.LineFault.{LineFault}
use Rattle.series_line.specs.declared.LineFault.TheVariants as LineFaults
use Rattle.series_block.specs.Moving.{fault_number, end_says, EndReady, EndIs}
use Rattle.series_block.specs.Block.{InBlock, draft_vertices, short_is, end_judged, end_goes}
use Rattle.series_block.specs.declared.BlockFault as Faults
use Rattle.series_block.specs.declared.BlockFault.{BlockFault}
use Rattle.series_block.specs.declared.LineTaken as Takes
use Rattle.series_block.specs.declared.LineTaken.{LineTaken}

-- what is wrong with the line is wrong with the block
abbrev pub fault_of : LineFault → BlockFault
fault_of LineFaults.Late = Faults.TheVariants.Late
fault_of LineFaults.Bad = Faults.TheVariants.Form

abbrev pub closed_or : ℕ → ℕ → Result LineTaken BlockFault
closed_or vertices k = cond (leb vertices k) (Ok Takes.TheVariants.Closed) (Err Faults.TheVariants.Length)

pub record LineAsked (text : List ℕ) (at k : ℕ) (p : List ℤ) (w sizes : List ℕ) (minus : List Bool) : Type 0 where
  pub inside : at < length text
  pub sized : 6 ≤ length sizes
  pub signed : 6 ≤ length minus
  pub ready : EndReady k p w sizes minus

-- with buffers as long
pub ready_again : {k : ℕ} {p : List ℤ} {w sizes sizes' : List ℕ} {minus minus' : List Bool} → EndReady k p w sizes minus → 3 ≤ length sizes' → 3 ≤ length minus'
    → EndReady k p w sizes' minus'
ready_again r sized signed = record { within = r.within; even = r.even; sewable = r.sewable; sized = sized; signed = signed }

-- ---- the promise

-- the next vertex has gone on
pub record MovedTo (text : List ℕ) (at : ℕ) (x : SoFar) (s : Scene) (k : ℕ) (p' : List ℤ) (w : List ℕ) (after : ℕ) : Type 0 where
  pub place : Vector
  pub formed : ItemFormed x (ends place)
  pub judged : RecordJudged series_lines x (ends place) (nothing (drop after text)) (given tt)
  pub stands : Stands text at (item_line (ends place)) after
  pub block : InBlock (with_item x (ends place)) s (k + 1) p' w

-- an `n` stands here, and the block above it is whole
pub record ClosedAt (text : List ℕ) (at : ℕ) (s : Scene) (k : ℕ) (p p' : List ℤ) : Type 0 where
  pub stands : Stands text at (item_line next) (at + 2)
  pub whole : vertex_count s ≤ k
  pub same : p' ≡ p

unfoldable pub TakenIs : List ℕ → ℕ → SoFar → Scene → ℕ → List ℤ → List ℤ → List ℕ → Result LineTaken BlockFault → Type 0
TakenIs text at x s k p p' w (Err f) = Fault series_lines x (drop at text) (fault_number f)
TakenIs text at x s k p p' w (Ok Takes.TheVariants.Closed) = ClosedAt text at s k p p'
TakenIs text at x s k p p' w (Ok (Takes.TheVariants.Moved after)) = MovedTo text at x s k p' w after

-- below whatever series stands above
abbrev pub BlockTaken : List ℕ → ℕ → ℕ → List ℤ → List ℤ → List ℕ → Result LineTaken BlockFault → Type 0
BlockTaken text at k p p' w r = (x : SoFar) (s : Scene) → InBlock x s k p w → TakenIs text at x s k p p' w r

-- ---- the laws

pub last_is : (l : List ℕ) (n : ℕ) → nothing (drop n l) ≡ leb (length l) n
unfolding nothing
last_is l n =
    ⊎_elim
    (λ past. rw (le-leb (length l) n past, drop_of_length-le l {i = n} past) none)
    (λ below. rw (lt-leb (length l) n below) (some (drop n l) (omega (arith, length-drop n l))))
    (le_or_lt (length l) n)
  where
    none : nothing [] ≡ true
    none = refl

    some : (k : List ℕ) → 0 < length k → nothing k ≡ false
    some [] h = absurd (omega arith)
    some (c ∷ k) h = refl

module _ (text : List ℕ) (at k : ℕ) (p : List ℤ) (w sizes : List ℕ) (minus : List Bool) {l : Result BlockLine LineFault} (read : BlockLineRead text at sizes minus l) where
  pub taken_wrong : {f : LineFault} → l ≡ Err f → BlockTaken text at k p p w (Err (fault_of f))
  unfolding BlockLineRead TakenIs fault_number
  taken_wrong {f = LineFaults.Late} e x s b =
      let fault : BlockLineRead text at sizes minus (Err LineFaults.Late) = rw e at read in
      fault x b.begun
  taken_wrong {f = LineFaults.Bad} e x s b =
      let fault : BlockLineRead text at sizes minus (Err LineFaults.Bad) = rw e at read in
      fault x b.begun

  pub taken_next : {after : ℕ} {r : Result LineTaken BlockFault} → l ≡ Ok (Lines.Next after) → r ≡ closed_or (length p / 6) k → BlockTaken text at k p p w r
  unfolding BlockLineRead TakenIs fault_number item_line item_checks wrong_length ItemFormed
  taken_next {after} {r} e is x s b =
      let stands : Stands text at (item_line next) after = subst (BlockLineRead text at sizes minus) e read in
      subst (TakenIs text at x s k p p w) (sym is) (⊎_elim (whole stands) (short stands) (le_or_lt (length p / 6) k))
    where
      whole : Stands text at (item_line next) after → length p / 6 ≤ k → TakenIs text at x s k p p w (closed_or (length p / 6) k)
      whole stands h =
          let place : after ≡ at + 2 = stands.place in
          rw (le-leb (length p / 6) k h)
          (record {
            stands = subst (λ (n : ℕ). Stands text at (item_line next) n) place stands;
            whole = omega (arith, draft_vertices b);
            same = refl;
          })

      short : Stands text at (item_line next) after → k < length p / 6 → TakenIs text at x s k p p w (closed_or (length p / 6) k)
      short stands h =
          let unfinished : block_short x ≡ true = short_is b ∙ lt-ltb k (vertex_count s) (omega (arith, draft_vertices b)) in
          let wrong : wrong_length x next (nothing (drop after text)) ≡ true = rw unfinished refl in
          rw (lt-leb (length p / 6) k h)
          (misplaced next (drop after text) tt stands.here (refuses (λ t. Unit {0}) _ _ (refused 13 0) wrong refl))

  module _ {after : ℕ} {last : Bool} {p' : List ℤ} {e : Result (Unit {0}) BlockFault} (is : l ≡ Ok (Lines.Ends after)) (lastly : last ≡ leb (length text) after)
      (end : EndIs last k w sizes minus p p' e) where
    got_here : EndsGot text at sizes minus after
    unfolding BlockLineRead
    got_here = subst (BlockLineRead text at sizes minus) is read

    end_judged_so : (x : SoFar) (s : Scene) → InBlock x s k p w
        → RecordJudged series_lines x (ends got_here.place) (nothing (drop after text)) (end_says e)
    end_judged_so x s b =
        subst (λ (c : Bool). RecordJudged series_lines x (ends got_here.place) c (end_says e)) (lastly ∙ sym (last_is text after))
        (end_judged b got_here.place got_here.front last (end_says e) end.answer)

    pub taken_fault : {f : BlockFault} → e ≡ Err f → BlockTaken text at k p p' w (Err f)
    unfolding TakenIs end_says ItemFormed
    taken_fault {f} q x s b =
        let judged : RecordJudged series_lines x (ends got_here.place) (nothing (drop after text)) (end_says (Err f)) =
        subst (λ (t : Result (Unit {0}) BlockFault). RecordJudged series_lines x (ends got_here.place) (nothing (drop after text)) (end_says t)) q
        (end_judged_so x s b) in
        misplaced (ends got_here.place) (drop after text) (b.begun, got_here.short) got_here.stands.here judged

    pub taken_end : e ≡ Ok tt → BlockTaken text at k p p' w (Ok (Takes.TheVariants.Moved after))
    unfolding TakenIs end_says ItemFormed
    taken_end q x s b =
        let judged : RecordJudged series_lines x (ends got_here.place) (nothing (drop after text)) (end_says (Ok tt)) =
        subst (λ (t : Result (Unit {0}) BlockFault). RecordJudged series_lines x (ends got_here.place) (nothing (drop after text)) (end_says t)) q
        (end_judged_so x s b) in
        record {
          place = got_here.place;
          formed = (b.begun, got_here.short);
          judged = judged;
          stands = got_here.stands;
          block = end_goes b got_here.place got_here.front (subst (EndIs last k w sizes minus p p') q end);
        }
