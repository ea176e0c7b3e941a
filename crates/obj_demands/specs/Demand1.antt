-- Demand 1 of an import: '12, then 8 for either file, then line faults in the order of 01, the start file first .. 14 last', each exactly when it is
-- due, with its file and its line, and no other number; a scene is brought in exactly when none does. A refusal leaves every lent number.
use Rattle.std.specs.Prelude.{ℕ, ◌+◌, ◌<◌, Bool, true, false, cond, ◌||◌, ◌↔◌, ◌⊎◌, refl, ℤ, Result}
use mathlib.Core.List.{List, [], ◌∷◌, Memᴰ}
use Rattle.std.proofs.Common.{inl, inr, sym, ◌∙◌, subst, arith}
use Rattle.std.proofs.Math.Path.{◌≡◌, ap}
use Rattle.meaning.specs.Scene.{Scene}
use Rattle.meaning.specs.Lines.{FaultyAt}
use Rattle.meaning.specs.Text.{none, short_buffer, long_text, counts_of}
use Rattle.meaning.specs.StoredBoxes.{short_boxes}
use Rattle.meaning.specs.ObjFile.{obj_lines}
use Rattle.meaning.specs.ObjPair.{imported, ImportOutcome, read, refused, refused_in, FileRead, BothRead, FilesAre, PairOutcome, ImportSaid, counts, number, number_in, import_says, import_told, import_left}
use Rattle.meaning.specs.ObjBoxes.{FillsImported, BoxedImport}
use Rattle.meaning.specs.declared.SceneCounts.{SceneCounts}
use Rattle.meaning.specs.declared.WhichFile.{WhichFile}
use Rattle.meaning.specs.declared.WhichFile.TheVariants.{Start, End}
use Rattle.answers.specs.Deciding.{holds_or_not}
use Rattle.obj_scene.specs.OneImport.{files_one}
use Rattle.obj_scene.specs.Using.{outcome_read, outcome_refused, outcome_refused_in}
use Rattle.obj_demands.specs.Faults.{in_file, fault_in_file}
use Rattle.meaning.specs.declared.ImportRefusal.{ImportRefusal}

-- neither 12 nor 8
abbrev pub Passed : Bool → List ℕ → List ℕ → Type 0
Passed short start end = (short ≡ false) × (long_text start ≡ false) × (long_text end ≡ false)

-- the start file has no fault, and the end file has this one
abbrev pub EndFaulty : List ℕ → List ℕ → ℕ → ℕ → Type 0
EndFaulty start end n line = ((s : Scene) × FileRead start s) × FaultyAt obj_lines none end n line

-- the scene of the two files, and its counts
pub record PairReads (start end : List ℕ) (c : SceneCounts) : Type 0 where
  pub files : BothRead start end false
  pub counts : c ≡ counts_of (imported files.starts files.ends)

pub record ImportRows (short : Bool) (start end : List ℕ) (o : ImportSaid) : Type 0 where
  pub no12 : (o ≡ number 12) ↔ (short ≡ true)
  pub start8 : (o ≡ number_in Start 8 0) ↔ ((short ≡ false) × (long_text start ≡ true))
  pub end8 : (o ≡ number_in End 8 0) ↔ ((short ≡ false) × (long_text start ≡ false) × (long_text end ≡ true))
  pub start_fault : (n line : ℕ) → 0 < line → (o ≡ number_in Start n line) ↔ (Passed short start end × FaultyAt obj_lines none start n line)
  pub end_fault : (n line : ℕ) → 0 < line → (o ≡ number_in End n line) ↔ (Passed short start end × EndFaulty start end n line)
  pub no14 : (o ≡ number 14) ↔ (Passed short start end × BothRead start end true)
  pub brought : (c : SceneCounts) → (o ≡ counts c) ↔ (Passed short start end × PairReads start end c)
  pub only : (n : ℕ) → o ≡ number n → Memᴰ n (12 ∷ 14 ∷ [])
  pub only_in : (f : WhichFile) (n line : ℕ) → o ≡ number_in f n line → Memᴰ n (8 ∷ in_file)

module _ (short : Bool) (start end : List ℕ) (x : ImportOutcome) (p : cond short (x ≡ refused 12) (PairOutcome start end x)) where
  first : short ≡ true → x ≡ refused 12
  first e = rw e at p

  second : short ≡ false → long_text start ≡ true → x ≡ refused_in Start 8 0
  second e f = rw (e, f) at p

  third : short ≡ false → long_text start ≡ false → long_text end ≡ true → x ≡ refused_in End 8 0
  third e f g = rw (e, f, g) at p

  lines : Passed short start end → FilesAre start end x
  lines h = rw (h.0, h.1, h.2) at p

  by_stage : {P : Type 0} → (short ≡ true → P) → (short ≡ false → long_text start ≡ true → P)
      → (short ≡ false → long_text start ≡ false → long_text end ≡ true → P)
      → (Passed short start end → P)
      → P
  by_stage a b c d =
      holds_or_not short a (λ e. holds_or_not (long_text start) (b e) (λ f. holds_or_not (long_text end) (c e f) (λ g. d (e, f, g))))

  -- what the outcome is where the files decide
  exactly : (o : ImportOutcome) → Passed short start end → FilesAre start end o → x ≡ o
  exactly o h f = files_one start end x o (lines h) f

  is12 : x ≡ refused 12 → short ≡ true
  unfolding FilesAre
  is12 e =
      by_stage (λ h. h) (λ h k. clash e (second h k)) (λ h k l. clash e (third h k l))
      (λ h. absurd (omega (arith, (subst (FilesAre start end) e (lines h)).1)))
    where
      clash : {P : Type 0} {f : WhichFile} {n line : ℕ} → x ≡ refused 12 → x ≡ refused_in f n line → P
      clash q r = let z : ◌≡◌ {A = ℕ} 0 1 = cc in absurd (omega arith)

  no_line : (f : WhichFile) (n : ℕ) → FilesAre start end (refused_in f n 0) → ⊥
  unfolding FilesAre
  no_line Start n h = omega (arith, h.place)
  no_line End n h = omega (arith, h.1.place)

  other : {n m : ℕ} {f : WhichFile} {line : ℕ} {P : Type 0} → x ≡ refused m → x ≡ refused_in f n line → P
  other q r = let z : ◌≡◌ {A = ℕ} 0 1 = cc in absurd (omega arith)

  start_not_end : {n m line place : ℕ} {P : Type 0} → x ≡ refused_in Start n line → x ≡ refused_in End m place → P
  start_not_end q r = let z : ◌≡◌ {A = ℕ} 0 1 = cc in absurd (omega arith)

  is_start8 : x ≡ refused_in Start 8 0 → (short ≡ false) × (long_text start ≡ true)
  is_start8 e =
      by_stage (λ h. other (first h) e) (λ h k. (h, k)) (λ h k l. start_not_end e (third h k l))
      (λ h. absurd (no_line Start 8 (subst (FilesAre start end) e (lines h))))

  is_end8 : x ≡ refused_in End 8 0 → (short ≡ false) × (long_text start ≡ false) × (long_text end ≡ true)
  is_end8 e =
      by_stage (λ h. other (first h) e) (λ h k. start_not_end (second h k) e) (λ h k l. (h, k, l))
      (λ h. absurd (no_line End 8 (subst (FilesAre start end) e (lines h))))

  line_differs : {f g : WhichFile} {n m line : ℕ} {P : Type 0} → 0 < line → x ≡ refused_in f n line → x ≡ refused_in g m 0 → P
  line_differs {line = line} h q r = let z : line ≡ 0 = cc in absurd (omega (arith, z))

  is_fault : {f : WhichFile} {n line : ℕ} → 0 < line → x ≡ refused_in f n line → Passed short start end × FilesAre start end (refused_in f n line)
  is_fault l e =
      by_stage (λ h. other (first h) e) (λ h k. line_differs l e (second h k)) (λ h k m. line_differs l e (third h k m))
      (λ h. (h, subst (FilesAre start end) e (lines h)))

  is14 : x ≡ refused 14 → Passed short start end × BothRead start end true
  unfolding FilesAre
  is14 e =
      by_stage (λ h. absurd (omega (arith, number_is e (first h)))) (λ h k. other e (second h k)) (λ h k l. other e (third h k l))
      (λ h. (h, (subst (FilesAre start end) e (lines h)).0))
    where
      number_is : {n m : ℕ} → x ≡ refused n → x ≡ refused m → n ≡ m
      number_is q r = cc

  is_read : (s : Scene) → x ≡ read s → Passed short start end × FilesAre start end (read s)
  is_read s e =
      by_stage (λ h. none_such (first h)) (λ h k. none_in (second h k)) (λ h k l. none_in (third h k l))
      (λ h. (h, subst (FilesAre start end) e (lines h)))
    where
      none_such : {n : ℕ} {P : Type 0} → x ≡ refused n → P
      none_such q = let z : ◌≡◌ {A = ℕ} 0 1 = cc in absurd (omega arith)

      none_in : {f : WhichFile} {n line : ℕ} {P : Type 0} → x ≡ refused_in f n line → P
      none_in q = let z : ◌≡◌ {A = ℕ} 0 1 = cc in absurd (omega arith)

  known : (n : ℕ) → x ≡ refused n → Memᴰ n (12 ∷ 14 ∷ [])
  unfolding FilesAre
  known n e =
      by_stage (λ h. Memᴰ.head (same (first h))) (λ h k. other e (second h k)) (λ h k l. other e (third h k l))
      (λ h. Memᴰ.tail (Memᴰ.head (subst (FilesAre start end) e (lines h)).1))
    where
      same : {m : ℕ} → x ≡ refused m → n ≡ m
      same q = cc

  known_in : (f : WhichFile) (n line : ℕ) → x ≡ refused_in f n line → Memᴰ n (8 ∷ in_file)
  unfolding FilesAre
  known_in f n line e =
      by_stage (λ h. other (first h) e) (λ h k. Memᴰ.head (same (second h k))) (λ h k l. Memᴰ.head (same (third h k l)))
      (λ h. Memᴰ.tail (of f (subst (FilesAre start end) e (lines h))))
    where
      same : {g : WhichFile} {m place : ℕ} → x ≡ refused_in g m place → n ≡ m
      same q = cc

      of : (g : WhichFile) → FilesAre start end (refused_in g n line) → Memᴰ n in_file
      of Start h = fault_in_file h
      of End h = fault_in_file h.1

  pub rows_of : ImportRows short start end (import_told x)
  unfolding FilesAre import_told
  rows_of =
      record {
        no12 = (λ e. is12 (outcome_refused x (sym e)), λ h. ap import_told (first h));
        start8 = (λ e. is_start8 (outcome_refused_in x (sym e)), λ h. ap import_told (second h.0 h.1));
        end8 = (λ e. is_end8 (outcome_refused_in x (sym e)), λ h. ap import_told (third h.0 h.1 h.2));
        start_fault = λ n line l. (
          λ e. is_fault l (outcome_refused_in x (sym e)),
          λ h. ap import_told (exactly (refused_in Start n line) h.0 h.1),
        );
        end_fault = λ n line l. (
          λ e. is_fault l (outcome_refused_in x (sym e)),
          λ h. ap import_told (exactly (refused_in End n line) h.0 h.1),
        );
        no14 = (λ e. is14 (outcome_refused x (sym e)), λ h. ap import_told (exactly (refused 14) h.0 (h.1, refl)));
        brought = λ c. (
          λ e.
              let (s, is, many) = outcome_read x (sym e) in
              let (h, f) = is_read s is in
              (h, record { files = f.0; counts = many ∙ ap counts_of f.1 }),
          λ h.
              let b = h.1.files in
              ap import_told (exactly (read (imported b.starts b.ends)) h.0 (b, refl)) ∙ ap counts (sym h.1.counts),
        );
        only = λ n e. known n (outcome_refused x (sym e));
        only_in = λ f n line e. known_in f n line (outcome_refused_in x (sym e));
      }

pub demand1_import : (start end : List ℕ) (lent left : Scene) (b b' : List ℤ) (r : Result SceneCounts ImportRefusal) → BoxedImport start end lent left b b' r
    → ImportRows (short_boxes b || short_buffer lent) start end (import_says r)
demand1_import start end lent left b b' r p =
    rw p.says (rows_of (short_boxes b || short_buffer lent) start end p.outcome p.right)

-- a refusal leaves the five buffers as they were
pub import_unchanged : (start end : List ℕ) (lent left : Scene) (b b' : List ℤ) (r : Result SceneCounts ImportRefusal) → BoxedImport start end lent left b b' r
    → ((c : SceneCounts) → import_says r ≡ counts c → ⊥) → (left ≡ lent) × (b' ≡ b)
unfolding import_told import_left FillsImported
import_unchanged start end lent left b b' r p never = go p.outcome p.says p.leaves p.boxes
  where
    go : (x : ImportOutcome) → import_says r ≡ import_told x → left ≡ import_left x lent → FillsImported x b b' → (left ≡ lent) × (b' ≡ b)
    go (read s) e l f = absurd (never (counts_of s) e)
    go (refused n) e l f = (l, f)
    go (refused_in g n line) e l f = (l, f)
