-- From the calls to what is printed.
use Rattle.std.specs.Prelude.{ℕ, ◌+◌, ◌≤◌, ◌<◌, Bool, ◌≡◌, length, Err, Ok, Result}
use Rattle.std.proofs.Math.Bool.{true, false}
use mathlib.Core.List.{List, [], ◌∷◌}
use Rattle.std.proofs.Math.Path.{refl, subst}
use Rattle.std.proofs.Common.{sym, ap, ◌∙◌, arith}
use Rattle.std.proofs.Math.Nat.{zero-add}
use Rattle.std.proofs.Math.Dec.{ltb}
use borrow.Author.Tests.{ltb-false, le-ltb}
use Rattle.sequences.specs.Wrote.{Wrote, written, wrote_patched, wrote_front}
use Rattle.answers.specs.Answering.{is_given, is_past}
use Rattle.scene_checks.specs.Accepting.{past_accepted}
use Rattle.meaning.specs.Limits.{text_limit}
use Rattle.meaning.specs.Scene.{Scene, Accepted}
use Rattle.meaning.specs.Refusals.{Outcome, given, refused, number_of, Check, Answers, carrying, outcome_of}
use Rattle.meaning.specs.List.{leaves}
use Rattle.meaning.specs.Text.{short_buffer}
use Rattle.meaning.specs.Report.{refused_line}
use Rattle.meaning.specs.Saved.{saved_text, save_checks, Saved}
use Rattle.meaning.specs.ObjPair as Pair
use Rattle.meaning.specs.ObjPair.{read, refused_in, PairOutcome, Imported}
use Rattle.meaning.specs.ObjPrinted.{file_line, Prints, SceneText, PairPrinted}
use Rattle.meaning.specs.declared.Refusal.{Refusal}
use Rattle.meaning.specs.declared.SceneCounts.{SceneCounts}
use Rattle.meaning.specs.declared.WhichFile.{WhichFile}
use Rattle.text_scene.specs.Using.{front_of}
use Rattle.pair_report.specs.Sizes.{report_length}
use Rattle.scene_report.specs.Whole.{SceneReported}
use Rattle.obj_scene.specs.Using.{SceneImported, scene_imported, front_imported, import_refusal, import_refusal_in}
use Rattle.obj_report.specs.declared.Asked.{Asked}
use Rattle.obj_report.specs.declared.Asked.TheVariants.{Report, Text}
use Rattle.obj_report.specs.Asking.{shown_for, Shown}
use Rattle.meaning.specs.declared.Refused.{Refused}
use Rattle.meaning.specs.declared.ImportRefusal.{ImportRefusal}
use Rattle.meaning.specs.declared.ImportRefusal.TheVariants.{In, Of}

-- ---- the text of a scene

wrote_written : (l o : List ℕ) → length l ≤ length o → Wrote o 0 l (written l o) (length l)
wrote_written l o h = rw zero-add at (wrote_patched o 0 l (omega arith))

module _ (s : Scene) (o : List ℕ) where
  abbrev IsLength : ℕ → Type 0
  IsLength n = n ≡ length (saved_text s)

  -- 8, then 7
  abbrev eight : Check
  eight = record { number = 8; holds = ltb text_limit (length (saved_text s)); carries = 0 }

  abbrev seven : Check
  seven = record { number = 7; holds = ltb (length o) (length (saved_text s)); carries = length (saved_text s) }

  decided : (q : Outcome ℕ) → Accepted s → Answers (save_checks s (length o)) IsLength q → Answers (eight ∷ seven ∷ []) IsLength q
  decided q accepted a = past_accepted s (eight ∷ seven ∷ []) IsLength q accepted a

  -- what is given is the length of a text that is not too long
  short_text : (n : ℕ) → Answers (eight ∷ seven ∷ []) IsLength (given n)
      → (ltb text_limit (length (saved_text s)) ≡ false) × (length (saved_text s) ≤ length o) × (n ≡ length (saved_text s))
  unfolding Answers
  short_text n a =
      let (short, more) = is_given IsLength eight (seven ∷ []) n a in
      let (fits, last) = is_given IsLength seven [] n more in
      (short, ltb-false (length o) (length (saved_text s)) fits, last)

  -- what is refused is too long: the buffer is longer than a text may be
  too_long_lem : (n c : ℕ) → length o ≡ report_length → Answers (eight ∷ seven ∷ []) IsLength (refused n c) → ltb text_limit (length (saved_text s)) ≡ true
  unfolding Answers
  too_long_lem n c room a = go (ltb text_limit (length (saved_text s))) refl
    where
      go : (t : Bool) → ltb text_limit (length (saved_text s)) ≡ t → t ≡ true
      go true q = refl
      go false q =
          let more : Answers (seven ∷ []) IsLength (refused n c) = is_past IsLength eight (seven ∷ []) (refused n c) q a in
          let fits : ltb (length o) (length (saved_text s)) ≡ false =
          le-ltb (length o) (length (saved_text s)) (omega (arith, room, ltb-false text_limit (length (saved_text s)) q)) in
          absurd (is_past IsLength seven [] (refused n c) fits more)

  module _ (accepted : Accepted s) (room : length o ≡ report_length) {o' : List ℕ} {r : Result ℕ Refused} (w : Saved s o o' r) where
    said : {x : Result ℕ Refused} → r ≡ x → Answers (eight ∷ seven ∷ []) IsLength (outcome_of x)
    said {x} e =
        decided (outcome_of x) accepted (subst (λ (x : Result ℕ Refused). Answers (save_checks s (length o)) IsLength (outcome_of x)) e w.answer)

    left : {x : Result ℕ Refused} → r ≡ x → o' ≡ leaves (outcome_of x) (saved_text s) o
    left e = w.buffer ∙ ap (λ (x : Result ℕ Refused). leaves (outcome_of x) (saved_text s) o) e

    pub text_shown : {n : ℕ} → r ≡ Ok n → Shown (SceneText s) o o' n
    unfolding outcome_of leaves SceneText
    text_shown {n} e =
        let (short, fits, many) = short_text n (said e) in
        let buffer : o' ≡ written (saved_text s) o = left e in
        record { shown = saved_text s; right = rw short refl; wrote = rw (many, buffer) (wrote_written (saved_text s) o fits) }

    pub eight_shown : {x : Refusal} {c : ℕ} → r ≡ Err (carrying x c) → {o'' : List ℕ} {n : ℕ} → Wrote o' 0 (refused_line 8 0) o'' n
        → Shown (SceneText s) o o'' n
    unfolding outcome_of leaves SceneText
    eight_shown {x} {c} e {o''} {n} v =
        let same : o' ≡ o = left e in
        record {
          shown = refused_line 8 0;
          right = rw (too_long_lem (number_of x) c room (said e)) refl;
          wrote = subst (λ (l : List ℕ). Wrote l 0 (refused_line 8 0) o'' n) same v;
        }

-- ---- what is asked for

pub report_asked : {a : Asked} {s : Scene} {o o' : List ℕ} {n : ℕ} → a ≡ Report → SceneReported s o o' n → Shown (shown_for a s) o o' n
unfolding shown_for
report_asked e w = rw e (record { shown = w.report; right = w.right; wrote = w.wrote })

pub text_asked : {a : Asked} (s : Scene) {o o' : List ℕ} {n : ℕ} → a ≡ Text → Shown (SceneText s) o o' n → Shown (shown_for a s) o o' n
unfolding shown_for
text_asked s e w = rw e (record { shown = w.shown; right = w.right; wrote = w.wrote })

-- ---- from a scene to its two files

module _ (Right : Scene → List ℕ → Type 0) {start end : List ℕ} {lent left : Scene} {r : Result SceneCounts ImportRefusal} (a : Imported start end lent left r) where
  pub printed_scene : {c : SceneCounts} → r ≡ Ok c → {o o' : List ℕ} {n : ℕ} → Shown (Right (front_of c left)) o o' n → PairPrinted Right start end o o' n
  unfolding Prints
  printed_scene {c} e w =
      let i : SceneImported start end lent left a.outcome c = scene_imported a e in
      record {
        report = w.shown;
        right = record {
          outcome = read i.scene;
          right = i.right;
          prints = subst (λ (s : Scene). Right s w.shown) (front_imported i) w.right;
        };
        length_is = w.wrote.place ∙ zero-add (length w.shown);
        buffer = wrote_front w.wrote;
      }

  module _ (fits : short_buffer lent ≡ false) where
    pub printed_refusal : {x : Refusal} → r ≡ Err (Of x) → {o o' : List ℕ} {n : ℕ} → Wrote o 0 (refused_line (number_of x) 0) o' n → PairPrinted Right start end o o' n
    unfolding Prints
    printed_refusal {x} e w =
        let right : PairOutcome start end (Pair.refused (number_of x)) = rw fits at (import_refusal a e).1 in
        record {
          report = refused_line (number_of x) 0;
          right = record { outcome = Pair.refused (number_of x); right = right; prints = refl };
          length_is = w.place ∙ zero-add (length (refused_line (number_of x) 0));
          buffer = wrote_front w;
        }

    pub printed_refusal_in : {f : WhichFile} {x : Refused} → r ≡ Err (In f x) → {o o' : List ℕ} {n : ℕ}
        → Wrote o 0 (file_line f (number_of x.why) x.carries) o' n → PairPrinted Right start end o o' n
    unfolding Prints
    printed_refusal_in {f} {x} e w =
        let right : PairOutcome start end (refused_in f (number_of x.why) x.carries) = rw fits at (import_refusal_in a e).1 in
        record {
          report = file_line f (number_of x.why) x.carries;
          right = record { outcome = refused_in f (number_of x.why) x.carries; right = right; prints = refl };
          length_is = w.place ∙ zero-add (length (file_line f (number_of x.why) x.carries));
          buffer = wrote_front w;
        }
