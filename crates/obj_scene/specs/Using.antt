-- What whoever calls the import has of its answer: after success the front of the buffers is the scene of the two files, and it is accepted; a
-- refusal left them as they were.
use Rattle.std.specs.Prelude.{Bool, true, false, List, ◌≡◌, refl, ℕ, Err, Ok, Result}
use Rattle.std.proofs.Math.Bool.{cond}
use Rattle.std.proofs.Common.{sym, ◌∙◌, arith}
use Rattle.std.proofs.Math.Path.{ap, subst}
use Rattle.meaning.specs.Scene.{Scene, Accepted}
use Rattle.meaning.specs.Refusals.{given, number_of}
use Rattle.meaning.specs.Text.{short_buffer, long_text, counts_of, filled}
use Rattle.meaning.specs.ObjPair.{ImportOutcome, read, refused, refused_in, FilesAre, PairOutcome, ImportIs, counts, number, number_in, import_says, import_told, import_left, Imported}
use Rattle.meaning.specs.declared.Refusal.{Refusal}
use Rattle.meaning.specs.declared.SceneCounts.{SceneCounts}
use Rattle.meaning.specs.declared.WhichFile.{WhichFile}
use Rattle.meaning.specs.declared.WhichFile.TheVariants.{Start, End}
use Rattle.text_scene.specs.Using.{front_of, FewOf, Fronts, FilledWith, few_filled, fronts_filled, front_filled, accepted_filled}
use Rattle.obj_scene.specs.AcceptedImport.{imports_accepted}
use Rattle.meaning.specs.declared.ImportRefusal.TheVariants.{In, Of}
use Rattle.meaning.specs.declared.ImportRefusal.{ImportRefusal}
use Rattle.meaning.specs.declared.Refused.{Refused}

-- ---- which outcome an answer tells

pub outcome_read : {c : SceneCounts} (o : ImportOutcome) → counts c ≡ import_told o → (s : Scene) × (o ≡ read s) × (c ≡ counts_of s)
unfolding import_told
outcome_read (read s) e = (s, refl, cc)
outcome_read (refused n) e = let z : ◌≡◌ {A = ℕ} 0 1 = cc in absurd (omega arith)
outcome_read (refused_in f n line) e = let z : ◌≡◌ {A = ℕ} 0 1 = cc in absurd (omega arith)

pub outcome_refused : {n : ℕ} (o : ImportOutcome) → number n ≡ import_told o → o ≡ refused n
unfolding import_told
outcome_refused (read s) e = let z : ◌≡◌ {A = ℕ} 0 1 = cc in absurd (omega arith)
outcome_refused (refused n) e = cc
outcome_refused (refused_in f n line) e = let z : ◌≡◌ {A = ℕ} 0 1 = cc in absurd (omega arith)

pub outcome_refused_in : {f : WhichFile} {n line : ℕ} (o : ImportOutcome) → number_in f n line ≡ import_told o → o ≡ refused_in f n line
unfolding import_told
outcome_refused_in (read s) e = let z : ◌≡◌ {A = ℕ} 0 1 = cc in absurd (omega arith)
outcome_refused_in (refused n) e = let z : ◌≡◌ {A = ℕ} 0 1 = cc in absurd (omega arith)
outcome_refused_in (refused_in f n line) e = cc

no_scene_refused : {s : Scene} {n : ℕ} → read s ≡ refused n → ⊥
no_scene_refused e = let z : ◌≡◌ {A = ℕ} 0 1 = cc in omega arith

no_scene_refused_in : {s : Scene} {f : WhichFile} {n line : ℕ} → read s ≡ refused_in f n line → ⊥
no_scene_refused_in e = let z : ◌≡◌ {A = ℕ} 0 1 = cc in omega arith

-- ---- the files of a scene

module _ (start end : List ℕ) (s : Scene) where
  pub files_of : PairOutcome start end (read s) → FilesAre start end (read s)
  files_of = go (long_text start) (long_text end)
    where
      go : (b c : Bool) → cond b (read s ≡ refused_in Start 8 0) (cond c (read s ≡ refused_in End 8 0) (FilesAre start end (read s)))
          → FilesAre start end (read s)
      go true c h = absurd (no_scene_refused_in h)
      go false true h = absurd (no_scene_refused_in h)
      go false false h = h

  pub pair_accepted : PairOutcome start end (read s) → Accepted s
  unfolding FilesAre
  pair_accepted h = let (b, e) = files_of h in subst Accepted (sym e) (imports_accepted b)

  -- 12 is not what gave it
  pub behind_it : (short : Bool) → cond short (read s ≡ refused 12) (PairOutcome start end (read s)) → PairOutcome start end (read s)
  behind_it true h = absurd (no_scene_refused h)
  behind_it false h = h

-- ---- after success

pub record SceneImported (start end : List ℕ) (lent left : Scene) (o : ImportOutcome) (c : SceneCounts) : Type 0 where
  pub scene : Scene
  pub is : o ≡ read scene
  pub right : PairOutcome start end (read scene)
  pub accepted : Accepted scene
  pub counts : c ≡ counts_of scene
  pub leaves : left ≡ filled (given scene) lent

module _ {start end : List ℕ} {lent left : Scene} {o : ImportOutcome} {c : SceneCounts} where
  -- whichever buffers 12 asks for
  pub scene_behind : (short : Bool) → cond short (o ≡ refused 12) (PairOutcome start end o) → counts c ≡ import_told o → left ≡ import_left o lent
      → SceneImported start end lent left o c
  unfolding import_left
  scene_behind short right says leaves =
      let (s, is, many) = outcome_read o says in
      let pair : PairOutcome start end (read s) =
      behind_it start end s short (subst (λ (q : ImportOutcome). cond short (q ≡ refused 12) (PairOutcome start end q)) is right) in
      record {
        scene = s;
        is = is;
        right = pair;
        accepted = pair_accepted start end s pair;
        counts = many;
        leaves = leaves ∙ ap (λ (q : ImportOutcome). import_left q lent) is;
      }

  module _ (i : SceneImported start end lent left o c) where
    abbrev in_front : FilledWith lent left c
    in_front = record { scene = i.scene; accepted = i.accepted; counts = i.counts; leaves = i.leaves }

    pub few_imported : FewOf c
    few_imported = few_filled in_front

    pub fronts_imported : Fronts c left
    fronts_imported = fronts_filled in_front

    -- as much of the buffers as the counts say is the scene
    pub front_imported : front_of c left ≡ i.scene
    front_imported = front_filled in_front

    pub accepted_imported : Accepted (front_of c left)
    accepted_imported = accepted_filled in_front

-- ---- an answer that turned out so

module _ {start end : List ℕ} {lent left : Scene} {r : Result SceneCounts ImportRefusal} (a : Imported start end lent left r) where
  pub scene_imported : {c : SceneCounts} → r ≡ Ok c → SceneImported start end lent left a.outcome c
  unfolding import_says
  scene_imported e = scene_behind (short_buffer lent) a.right (ap import_says (sym e) ∙ a.says) a.leaves

  pub import_refusal : {x : Refusal} → r ≡ Err (Of x) → (left ≡ lent) × ImportIs start end lent (refused (number_of x))
  unfolding import_says import_left
  import_refusal e =
      let is = outcome_refused a.outcome (ap import_says (sym e) ∙ a.says) in
      (a.leaves ∙ ap (λ (o : ImportOutcome). import_left o lent) is, subst (ImportIs start end lent) is a.right)

  pub import_refusal_in : {f : WhichFile} {x : Refused} → r ≡ Err (In f x)
      → (left ≡ lent) × ImportIs start end lent (refused_in f (number_of x.why) x.carries)
  unfolding import_says import_left
  import_refusal_in e =
      let is = outcome_refused_in a.outcome (ap import_says (sym e) ∙ a.says) in
      (a.leaves ∙ ap (λ (o : ImportOutcome). import_left o lent) is, subst (ImportIs start end lent) is a.right)
