-- The whole report: of an accepted scene, and of a text.
use Rattle.std.specs.Prelude.{ℕ, zero, suc, ◌≤◌, ◌<◌, List, [], ◌∷◌, ◌++◌, ◌≡◌, refl, ℤ, length, get_or}
use Rattle.std.proofs.Common.{sym, ap, ◌∙◌, subst, not-suc-le-zero, le_of_suc-le-suc, zero-add}
use Rattle.std.proofs.lemmas.List.{length-map}
use Rattle.sequences.specs.Gather.{gather}
use Rattle.sequences.specs.Wrote.{Wrote, written, wrote_front}
use Rattle.meaning.specs.Limits.{report_room, text_limit}
use Rattle.meaning.specs.Scene.{Scene, scene_of}
use Rattle.meaning.specs.List.{Pair, pairs}
use Rattle.meaning.specs.Text.{Holds}
use Rattle.meaning.specs.Report.{pair_line, pair_lines, total_line, refused_line, ReportOf, Reported}
use Rattle.meaning.specs.SceneLines.{SceneReport, no_room, judged}
use Rattle.meaning.specs.declared.Settled.TheVariants.{Hit}
use Rattle.list_words.specs.Listed.{ListStands, word_of_pair, words_of, bytes_of, all_judged, no_pair, word_of_its_byte, byte_in_front}
use Rattle.report_words.specs.Lines.{wrote_as}
use Rattle.pair_report.specs.Rendered.{verdict_at, line_at, verdicts_in, gather_is, lines_are}

pub record SceneReported (s : Scene) (o o' : List ℕ) (n : ℕ) : Type 0 where
  pub report : List ℕ
  pub right : SceneReport s report
  pub wrote : Wrote o 0 report o' n

-- ---- the list and its verdicts, as they stand in their buffers

verdicts_at : (s : Scene) (ps : List Pair) (k : ℕ) → k < length ps → get_or (words_of s ps) k Hit ≡ word_of_pair s (get_or ps k no_pair)
verdicts_at s [] k h = absurd (not-suc-le-zero h)
verdicts_at s (p ∷ ps) zero h = refl
verdicts_at s (p ∷ ps) (suc k) h = verdicts_at s ps k (le_of_suc-le-suc h)

module _ (s : Scene) {l b : List ℕ} (b₀ : List ℕ) (stands : ListStands s l) (bytes : b ≡ written (bytes_of s (pairs s)) b₀) where
  verdict_stands : (k : ℕ) → k < length (pairs s) → verdict_at b k ≡ get_or (words_of s (pairs s)) k Hit
  verdict_stands k h =
      sym (word_of_its_byte (word_of_pair s (get_or (pairs s) k no_pair)) (byte_in_front s b₀ bytes k h))
      ∙ sym (verdicts_at s (pairs s) k h)

  long : length (words_of s (pairs s)) ≡ length (pairs s)
  long = length-map (pairs s) (word_of_pair s)

  pub lines_stand : (n : ℕ) → n ≡ length (pairs s) → gather (line_at l b) 0 n ≡ pair_lines (pairs s) (words_of s (pairs s))
  lines_stand n e =
      ap (λ (m : ℕ). gather (line_at l b) 0 m) e
      ∙ lines_are (pairs s) (words_of s (pairs s)) (line_at l b) long (λ k h t. pair_line (stands.at k h t) (verdict_stands k h t)) 0

  pub verdicts_stand : (n : ℕ) → n ≡ length (pairs s) → verdicts_in b 0 n ≡ words_of s (pairs s)
  verdicts_stand n e =
      ap (λ (m : ℕ). verdicts_in b 0 m) (e ∙ sym long)
      ∙ gather_is (words_of s (pairs s)) (verdict_at b) Hit (λ k h. verdict_stands k (rw long at h)) 0

  pub report_stands : {o o' : List ℕ} {n r : ℕ} → n ≡ length (pairs s) → length (pairs s) ≤ report_room
      → Wrote o 0 (gather (line_at l b) 0 n ++ total_line (verdicts_in b 0 n)) o' r → SceneReported s o o' r
  report_stands {o} {o'} {n} {r} e few w =
      record {
        report = pair_lines (pairs s) (words_of s (pairs s)) ++ total_line (words_of s (pairs s));
        right = judged (words_of s (pairs s)) few (all_judged s (pairs s));
        wrote = wrote_as (λ t. lines_stand n e t ++ total_line (verdicts_stand n e t)) w;
      }

pub room_refused : (s : Scene) {o o' : List ℕ} {n r : ℕ} → n ≡ length (pairs s) → report_room < length (pairs s)
    → Wrote o 0 (refused_line 7 n) o' r → SceneReported s o o' r
room_refused s {o} {o'} {n} {r} e h w =
    record {
      report = refused_line 7 (length (pairs s));
      right = no_room h;
      wrote = wrote_as (ap (refused_line 7) e) w;
    }

-- the report of a scene with seams that are said in another way
pub reported_as : {p : List ℤ} {e t w w' : List ℕ} {o o' : List ℕ} {n : ℕ} → w ≡ w' → SceneReported (scene_of p e t w) o o' n
    → SceneReported (scene_of p e t w') o o' n
reported_as {p} {e} {t} {o} {o'} {n} same r = subst (λ (l : List ℕ). SceneReported (scene_of p e t l) o o' n) same r

-- ---- from a scene's report to a text's

pub scene_to_text : {text o o' : List ℕ} {n : ℕ} (s : Scene) → length text ≤ text_limit → Holds text s → SceneReported s o o' n → Reported text o o' n
scene_to_text {text} {o} {o'} {n} s short holds w =
    record {
      report = w.report;
      right = as_text w.report w.right;
      length_is = w.wrote.place ∙ zero-add (length w.report);
      buffer = wrote_front w.wrote;
    }
  where
    as_text : (l : List ℕ) → SceneReport s l → ReportOf text l
    as_text l (SceneReport.no_room h) = ReportOf.no_room s short holds h
    as_text l (SceneReport.judged vs few right) = ReportOf.judged s vs short holds few right

-- a text that is refused
pub refused_text : {text o o' : List ℕ} {n : ℕ} (number line : ℕ) → ReportOf text (refused_line number line)
    → Wrote o 0 (refused_line number line) o' n → Reported text o o' n
refused_text {text} {o} {o'} {n} number line right w =
    record {
      report = refused_line number line;
      right = right;
      length_is = w.place ∙ zero-add (length (refused_line number line));
      buffer = wrote_front w;
    }
