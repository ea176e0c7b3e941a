-- Document 02, §7, of the calls: what is read from a buffer that a scene was saved into, what is saved of a scene that was read, and the
-- length asked for.
use Rattle.std.specs.Prelude.{ℕ, ◌≤◌, ◌<◌, Bool, true, false, List, [], ◌∷◌, ◌++◌, ◌≡◌, refl, take, drop, Ok, Result}
use Rattle.std.proofs.Common.{true≢false, sym, ◌∙◌, subst, arith, ltb-false, le-ltb}
use Rattle.std.proofs.Math.Path.{ap}
use Rattle.std.proofs.Math.ListN.{length}
use Rattle.std.proofs.Math.Seq.{take-append_seam}
use Rattle.sequences.specs.Wrote.{written}
use Rattle.meaning.specs.Limits.{text_limit}
use Rattle.meaning.specs.Scene.{Scene, Accepted}
use Rattle.meaning.specs.Refusals.{Outcome, given, refused, number_of, Answers, outcome_of}
use Rattle.meaning.specs.List.{leaves}
use Rattle.meaning.specs.Text.{Holds, TextIs, short_buffer, long_text, TextOutcome, counts_of, counts_told, filled, TextRead}
use Rattle.meaning.specs.declared.SceneCounts.{SceneCounts}
use Rattle.answers.specs.Answering.{is_given}
use Rattle.text_scene.specs.Using.{front_of, Came, came, by_buffers, by_length, by_lines, holds_read, accepted_read, short_read}
use Rattle.text_scene.specs.Unique.{text_unique}
use Rattle.meaning.specs.Saved.{saved_text, saved_checks, save_checks, Measured, Saved}
use Rattle.saved_scene.specs.Answering.{IsLength, measured_given, measured_is, saved_given}
use Rattle.scene_checks.specs.Accepting.{accepted_checked}
use Rattle.saved_demands.specs.Records.{same_bytes}
use Rattle.saved_demands.specs.ReadBack.{reads_back}
use Rattle.saved_scene.specs.OneSave.{one_saved}
use Rattle.meaning.specs.declared.Refused.{Refused}

-- ---- a scene that was saved

module _ {s : Scene} {o o' : List ℕ} {n : ℕ} (p : Saved s o o' (Ok n)) where
  told : Answers (save_checks s (length o)) (IsLength s) (given n)
  unfolding outcome_of
  told = p.answer

  pub record SaidGiven : Type 0 where
    pub accepted : Accepted s
    pub brief : length (saved_text s) ≤ text_limit
    pub room : length (saved_text s) ≤ length o
    pub last : Answers [] (IsLength s) (given n)

  pub said_given : SaidGiven
  said_given =
      let (h1, a1) = is_given (IsLength s) _ _ n told in
      let (h2, a2) = is_given (IsLength s) _ _ n a1 in
      let (h3, a3) = is_given (IsLength s) _ _ n a2 in
      let (h4, a4) = is_given (IsLength s) _ _ n a3 in
      let (h5, a5) = is_given (IsLength s) _ _ n a4 in
      let (h6, a6) = is_given (IsLength s) _ _ n a5 in
      let (h7, a7) = is_given (IsLength s) _ _ n a6 in
      record {
        accepted = record { shapely = h1; in_range = h2; known = h3; sewn_well = h4; distinct = h5 };
        brief = ltb-false text_limit (length (saved_text s)) h6;
        room = ltb-false (length o) (length (saved_text s)) h7;
        last = a7;
      }

  pub saved_many : n ≡ length (saved_text s)
  unfolding Answers
  saved_many = said_given.last

  -- its text stands in front, and the rest is unchanged
  pub saved_front : take n o' ≡ saved_text s
  unfolding outcome_of leaves
  saved_front =
      let w : o' ≡ written (saved_text s) o = p.buffer in
      cc (saved_many, take-append_seam (saved_text s) (drop (length (saved_text s)) o))

  pub saved_holds : Holds (take n o') s
  saved_holds = rw saved_front (reads_back s said_given.accepted)

  -- 'Reading it back gives the same scene, seams included': a reader with buffers that are long enough finds the scene's four lists
  pub saved_read : {lent left : Scene} {r : Result SceneCounts Refused} → short_buffer lent ≡ false → TextRead (take n o') lent left r
      → (outcome_of r ≡ given (counts_of s)) × (left ≡ filled (given s) lent)
  unfolding counts_told TextIs
  saved_read {lent} {left} {r} wide a =
      let is : a.outcome ≡ given s = by_way (came (take n o') lent a.outcome a.right) in
      (a.says ∙ ap counts_told is, a.leaves ∙ ap (λ (x : Outcome Scene). filled x lent) is)
    where
      long : length (take n o') ≤ text_limit
      long = rw saved_front said_given.brief

      by_way : {x : Outcome Scene} → Came (take n o') lent x → x ≡ given s
      by_way (by_buffers e q) = absurd (true≢false (sym e ∙ wide))
      by_way (by_length e d q) = absurd (true≢false (sym d ∙ le-ltb text_limit (length (take n o')) long))
      by_way {x} (by_lines e d q) = text_unique (take n o') x (given s) q saved_holds

-- ---- a text that was read

-- 'Writing what was read from an accepted text gives the same bytes', where there is room for them
pub read_saved : {text : List ℕ} {lent left : Scene} {c : SceneCounts} → TextRead text lent left (Ok c)
    → {o o' : List ℕ} {r : Result ℕ Refused} → length text ≤ length o → Saved (front_of c left) o o' r
    → (r ≡ Ok (length text)) × (o' ≡ written text o)
read_saved {text} {lent} {left} {c} a {o} {o'} {r} room p =
    let s : Scene = front_of c left in
    let same : saved_text s ≡ text = same_bytes (holds_read a refl) in
    let brief : length (saved_text s) ≤ text_limit = rw same (short_read a refl) in
    let fits : length (saved_text s) ≤ length o = rw same room in
    let measured : Measured s (Ok (length (saved_text s))) =
    measured_given s {checked = Ok tt} (accepted_checked s (accepted_read a refl)) refl refl brief in
    let whole : Saved s o (written (saved_text s) o) (Ok (length (saved_text s))) = saved_given s measured refl o fits refl in
    let (answers, buffers) = one_saved p whole in
    (answers ∙ ap (λ (t : List ℕ). Ok (length t)) same, buffers ∙ ap (λ (t : List ℕ). written t o) same)

-- ---- the length asked for is the length written

pub length_written : {s : Scene} {o o' : List ℕ} {m n : ℕ} → Measured s (Ok m) → Saved s o o' (Ok n) → m ≡ n
length_written {s} p q = measured_is s p refl ∙ sym (saved_many q)
