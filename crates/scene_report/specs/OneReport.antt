-- Two reports that meet the promise are equal, lent buffer too.
use Rattle.std.specs.Prelude.{ℕ, List, ◌++◌, ◌≡◌, refl, length}
use Rattle.std.proofs.Common.{ap, arith}
use Rattle.meaning.specs.Scene.{Scene}
use Rattle.meaning.specs.List.{pairs}
use Rattle.meaning.specs.SceneWords.{AllSettled}
use Rattle.meaning.specs.Report.{refused_line, pair_lines, total_line, ReportOf, too_long, faulty, no_room, judged, Reported}
use Rattle.meaning.specs.declared.Settled.{Settled}
use Rattle.list_words.specs.OneResult.{all_judged_one}
use Rattle.text_scene.specs.OneReading.{same_scene, held_or_faulty, faulty_one}
use Rattle.list_pairs.specs.OneRoom.{many_or_few}
use Rattle.answers.specs.Printed.{one_in_front}

judged_one : {s t : Scene} (vs ws : List Settled) → s ≡ t → AllSettled s (pairs s) vs → AllSettled t (pairs t) ws
    → pair_lines (pairs s) vs ++ total_line vs ≡ pair_lines (pairs t) ws ++ total_line ws
judged_one {s} {t} vs ws e h k =
    let h' : AllSettled t (pairs t) vs = rw e at h in
    let f : vs ≡ ws = all_judged_one t (pairs t) vs ws h' k in
    λ i. pair_lines (pairs (e i)) (f i) ++ total_line (f i)

pub one_report : {text r r' : List ℕ} → ReportOf text r → ReportOf text r' → r ≡ r'
one_report (too_long h) (too_long k) = refl
one_report (too_long h) (faulty m place k g) = absurd (omega arith)
one_report (too_long h) (no_room t k b n) = absurd (omega arith)
one_report (too_long h) (judged t ws k b m w) = absurd (omega arith)
one_report (faulty n line h f) (too_long k) = absurd (omega arith)
one_report (faulty n line h f) (faulty m place k g) = faulty_one f g
one_report (faulty n line h f) (no_room t k b m) = absurd (held_or_faulty b f)
one_report (faulty n line h f) (judged t ws k b m w) = absurd (held_or_faulty b f)
one_report (no_room s h a n) (too_long k) = absurd (omega arith)
one_report (no_room s h a n) (faulty m place k g) = absurd (held_or_faulty a g)
one_report (no_room s h a n) (no_room t k b m) = ap (λ (u : Scene). refused_line 7 (length (pairs u))) (same_scene a b)
one_report (no_room s h a n) (judged t ws k b m w) = absurd (many_or_few (same_scene a b) n m)
one_report (judged s vs h a n v) (too_long k) = absurd (omega arith)
one_report (judged s vs h a n v) (faulty m place k g) = absurd (held_or_faulty a g)
one_report (judged s vs h a n v) (no_room t k b m) = absurd (many_or_few (same_scene b a) m n)
one_report (judged s vs h a n v) (judged t ws k b m w) = judged_one vs ws (same_scene a b) v w

pub one_reported : (text o o' o'' : List ℕ) (n n' : ℕ) → Reported text o o' n → Reported text o o'' n' → (n ≡ n') × (o' ≡ o'')
one_reported text o o' o'' n n' p q =
    one_in_front (ReportOf text) (λ l k h j. one_report h j) p q
