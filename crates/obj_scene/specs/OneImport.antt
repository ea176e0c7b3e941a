-- Two results that meet the promise of an import are equal: the answer and every lent number.
use Rattle.std.specs.Prelude.{Bool, true, false, cond, List, ◌≡◌, ℕ, Err, Ok, Result}
use Rattle.std.proofs.Common.{true≢false, ◌∙◌}
use Rattle.std.proofs.Math.Path.{sym, ap}
use Rattle.answers.specs.Speaking.{one_number}
use Rattle.meaning.specs.Scene.{Scene}
use Rattle.meaning.specs.Refusals.{carrying}
use Rattle.meaning.specs.Lines.{after_all}
use Rattle.meaning.specs.Text.{none, short_buffer, long_text}
use Rattle.meaning.specs.ObjFile.{obj_lines}
use Rattle.meaning.specs.ObjPair.{differing, imported, ImportOutcome, read, refused, refused_in, FileRead, BothRead, FilesAre, PairOutcome, import_says, import_told, import_left, Imported}
use Rattle.meaning.specs.declared.WhichFile.TheVariants.{Start, End}
use Rattle.text_laws.specs.Unique.{records_unique, sound_or_faulty, faulty_unique}
use Rattle.obj_laws.specs.Ended.{obj_readable}
use Rattle.meaning.specs.declared.ImportRefusal.TheVariants.{In, Of}
use Rattle.meaning.specs.declared.ImportRefusal.{ImportRefusal}
use Rattle.meaning.specs.declared.SceneCounts.{SceneCounts}
use Rattle.meaning.specs.declared.Refusal.{Refusal}

pub file_one : {text : List ℕ} {s s' : Scene} → FileRead text s → FileRead text s' → s ≡ s'
file_one h k = h.scene ∙ ap (after_all obj_lines none) (records_unique obj_readable h.sound k.sound) ∙ sym k.scene

module _ (start end : List ℕ) where
  both_one : {t u : Bool} (h : BothRead start end t) (k : BothRead start end u) → (h.starts ≡ k.starts) × (h.ends ≡ k.ends)
  both_one h k = (file_one h.first k.first, file_one h.second k.second)

  not_both : BothRead start end true → BothRead start end false → ⊥
  not_both h k =
      let (a, b) = both_one h k in
      let same : differing h.starts h.ends ≡ differing k.starts k.ends = λ i. differing (a i) (b i) in
      true≢false (sym h.compared ∙ same ∙ k.compared)

  pub files_one : (o o' : ImportOutcome) → FilesAre start end o → FilesAre start end o' → o ≡ o'
  unfolding FilesAre
  files_one (read s) (read s') h k =
      let (a, b) = both_one h.0 k.0 in
      let same : imported h.0.starts h.0.ends ≡ imported k.0.starts k.0.ends = λ i. imported (a i) (b i) in
      ap read (h.1 ∙ same ∙ sym k.1)
  files_one (read s) (refused n) h k = absurd (not_both k.0 h.0)
  files_one (read s) (refused_in Start n line) h k = absurd (sound_or_faulty obj_readable h.0.first.sound k)
  files_one (read s) (refused_in End n line) h k = absurd (sound_or_faulty obj_readable h.0.second.sound k.1)
  files_one (refused n) (read s) h k = absurd (not_both h.0 k.0)
  files_one (refused n) (refused m) h k = ap refused (h.1 ∙ sym k.1)
  files_one (refused n) (refused_in Start m line) h k = absurd (sound_or_faulty obj_readable h.0.first.sound k)
  files_one (refused n) (refused_in End m line) h k = absurd (sound_or_faulty obj_readable h.0.second.sound k.1)
  files_one (refused_in Start n line) (read s) h k = absurd (sound_or_faulty obj_readable k.0.first.sound h)
  files_one (refused_in Start n line) (refused m) h k = absurd (sound_or_faulty obj_readable k.0.first.sound h)
  files_one (refused_in Start n line) (refused_in Start m place) h k =
      let (a, b) = faulty_unique obj_readable h k in
      λ i. refused_in Start (a i) (b i)
  files_one (refused_in Start n line) (refused_in End m place) h k = absurd (sound_or_faulty obj_readable k.0.1.sound h)
  files_one (refused_in End n line) (read s) h k = absurd (sound_or_faulty obj_readable k.0.second.sound h.1)
  files_one (refused_in End n line) (refused m) h k = absurd (sound_or_faulty obj_readable k.0.second.sound h.1)
  files_one (refused_in End n line) (refused_in Start m place) h k = absurd (sound_or_faulty obj_readable h.0.1.sound k)
  files_one (refused_in End n line) (refused_in End m place) h k =
      let (a, b) = faulty_unique obj_readable h.1 k.1 in
      λ i. refused_in End (a i) (b i)

  -- the files' own outcome, and the one behind 12, whichever buffers 12 asks for
  pub pair_one : (o o' : ImportOutcome) → PairOutcome start end o → PairOutcome start end o' → o ≡ o'
  pair_one o o' = go (long_text start) (long_text end)
    where
      go : (b c : Bool) → cond b (o ≡ refused_in Start 8 0) (cond c (o ≡ refused_in End 8 0) (FilesAre start end o))
          → cond b (o' ≡ refused_in Start 8 0) (cond c (o' ≡ refused_in End 8 0) (FilesAre start end o'))
          → o ≡ o'
      go true c h k = h ∙ sym k
      go false true h k = h ∙ sym k
      go false false h k = files_one o o' h k

  pub behind_twelve : (short : Bool) (o o' : ImportOutcome) → cond short (o ≡ refused 12) (PairOutcome start end o)
      → cond short (o' ≡ refused 12) (PairOutcome start end o')
      → o ≡ o'
  behind_twelve true o o' h k = h ∙ sym k
  behind_twelve false o o' h k = pair_one o o' h k

  pub said_one : (r r' : Result SceneCounts ImportRefusal) → import_says r ≡ import_says r' → r ≡ r'
  unfolding import_says
  said_one (Ok c) (Ok d) e = ap Ok (cc)
  said_one (Ok c) (Err (Of y)) e = cc
  said_one (Ok c) (Err (In g y)) e = cc
  said_one (Err (Of x)) (Ok d) e = cc
  said_one (Err (Of x)) (Err (Of y)) e = ap (λ (z : Refusal). Err (Of z)) (one_number x y (cc))
  said_one (Err (Of x)) (Err (In g y)) e = cc
  said_one (Err (In f x)) (Ok d) e = cc
  said_one (Err (In f x)) (Err (Of y)) e = cc
  said_one (Err (In f x)) (Err (In g y)) e =
      let a : f ≡ g = cc in
      let b : x.why ≡ y.why = one_number x.why y.why (cc) in
      let c : x.carries ≡ y.carries = cc in
      λ i. Err (In (a i) (carrying (b i) (c i)))

  pub one_imported : (lent l l' : Scene) (r r' : Result SceneCounts ImportRefusal) → Imported start end lent l r → Imported start end lent l' r' → (r ≡ r') × (l ≡ l')
  one_imported lent l l' r r' h k =
      let same : h.outcome ≡ k.outcome = behind_twelve (short_buffer lent) h.outcome k.outcome h.right k.right in (
        said_one r r' (h.says ∙ ap import_told same ∙ sym k.says),
        h.leaves ∙ ap (λ (o : ImportOutcome). import_left o lent) same ∙ sym k.leaves,
      )
