-- Two files print one text: what `obj` prints, and what `import` prints.
use Rattle.std.specs.Prelude.{ℕ, Bool, true, false, cond, List, ◌++◌, ◌≡◌, refl, ltb, length, take}
use Rattle.std.proofs.Math.Path.{sym}
use Rattle.std.proofs.Common.{ap, ◌∙◌, subst}
use Rattle.meaning.specs.Limits.{text_limit}
use Rattle.meaning.specs.Scene.{Scene}
use Rattle.meaning.specs.List.{pairs}
use Rattle.meaning.specs.Report.{pair_lines, total_line, refused_line, OfAllRead}
use Rattle.meaning.specs.shown.ReadShown.{front_read}
use Rattle.meaning.specs.SceneLines.{SceneReport, no_room, judged}
use Rattle.meaning.specs.Saved.{saved_text}
use Rattle.meaning.specs.ObjPair.{ImportOutcome, read, refused, refused_in}
use Rattle.meaning.specs.ObjPrinted.{Prints, SceneText, PrintedOf, PairPrinted}
use Rattle.meaning.specs.declared.Settled.{Settled}
use Rattle.list_words.specs.OneResult.{all_judged_one}
use Rattle.list_pairs.specs.OneRoom.{many_or_few}
use Rattle.obj_scene.specs.OneImport.{pair_one}
use Rattle.answers.specs.Printed.{one_in_front}

-- of one scene
pub one_scene_report : {s : Scene} {l k : List ℕ} → SceneReport s l → SceneReport s k → l ≡ k
one_scene_report (no_room h) (no_room k) = refl
one_scene_report (no_room h) (judged ws few w) = absurd (many_or_few refl h few)
one_scene_report (judged vs few v) (no_room k) = absurd (many_or_few refl k few)
one_scene_report {s} (judged vs few v) (judged ws more w) =
    ap (λ (us : List Settled). pair_lines (pairs s) us ++ total_line us) (all_judged_one s (pairs s) vs ws v w)

pub one_scene_text : (s : Scene) (l k : List ℕ) → SceneText s l → SceneText s k → l ≡ k
unfolding SceneText
one_scene_text s l k = go (ltb text_limit (length (saved_text s)))
  where
    go : (t : Bool) → cond t (l ≡ refused_line 8 0) (l ≡ saved_text s) → cond t (k ≡ refused_line 8 0) (k ≡ saved_text s) → l ≡ k
    go true p q = p ∙ sym q
    go false p q = p ∙ sym q

module _ (Shown : Scene → List ℕ → Type 0) (one : (s : Scene) (l k : List ℕ) → Shown s l → Shown s k → l ≡ k) (start end : List ℕ) where
  prints_one : (x : ImportOutcome) (l k : List ℕ) → Prints Shown x l → Prints Shown x k → l ≡ k
  unfolding Prints
  prints_one (read s) l k p q = one s l k p q
  prints_one (refused n) l k p q = p ∙ sym q
  prints_one (refused_in f n line) l k p q = p ∙ sym q

  printed_one : {l k : List ℕ} → PrintedOf Shown start end l → PrintedOf Shown start end k → l ≡ k
  printed_one {l} {k} p q =
      let same : p.outcome ≡ q.outcome = pair_one start end p.outcome q.outcome p.right q.right in
      prints_one q.outcome l k (subst (λ (x : ImportOutcome). Prints Shown x l) same p.prints) q.prints

  one_pair_printed : {o o' o'' : List ℕ} {n n' : ℕ} → PairPrinted Shown start end o o' n → PairPrinted Shown start end o o'' n' → (n ≡ n') × (o' ≡ o'')
  one_pair_printed p q = one_in_front (PrintedOf Shown start end) (λ l k h j. printed_one h j) p q

pub one_obj_reported : (start end o o' o'' : List ℕ) (n n' : ℕ) → PairPrinted SceneReport start end o o' n → PairPrinted SceneReport start end o o'' n'
    → (n ≡ n') × (o' ≡ o'')
one_obj_reported start end o o' o'' n n' p q = one_pair_printed SceneReport (λ s l k a b. one_scene_report a b) start end p q

pub one_import_printed : (start end o o' o'' : List ℕ) (n n' : ℕ) → PairPrinted SceneText start end o o' n → PairPrinted SceneText start end o o'' n'
    → (n ≡ n') × (o' ≡ o'')
one_import_printed start end o o' o'' n n' p q = one_pair_printed SceneText one_scene_text start end p q

-- of what was read: there are always files of which that was read
module _ (start end o o' o'' : List ℕ) (count behind n n' : ℕ) where
  abbrev Read : (Scene → List ℕ → Type 0) → List ℕ → ℕ → Type 0
  Read Shown l m = OfAllRead (λ (s : List ℕ). OfAllRead (λ (t : List ℕ). PairPrinted Shown s t o l m) end behind) start count

  pub one_obj_read : Read SceneReport o' n → Read SceneReport o'' n' → (n ≡ n') × (o' ≡ o'')
  one_obj_read p q =
      let s = take count start in
      let t = take behind end in
      one_obj_reported s t o o' o'' n n' (p s (front_read start count) t (front_read end behind)) (q s (front_read start count) t (front_read end behind))

  pub one_import_read : Read SceneText o' n → Read SceneText o'' n' → (n ≡ n') × (o' ≡ o'')
  one_import_read p q =
      let s = take count start in
      let t = take behind end in
      one_import_printed s t o o' o'' n n' (p s (front_read start count) t (front_read end behind)) (q s (front_read start count) t (front_read end behind))
