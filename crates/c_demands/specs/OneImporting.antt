-- Two OBJ files through the functions for C and Rust: the promise determines the number and every lent buffer, and what a caller hears in the number
-- is right.
use Rattle.std.specs.Prelude.{ℕ, List, ◌≡◌, ℤ, Result}
use Rattle.std.proofs.Common.{sym, ap, ◌∙◌}
use Rattle.meaning.specs.Scene.{Scene}
use Rattle.meaning.specs.ObjPair.{ImportSaid, import_says, import_told, import_left}
use Rattle.meaning.specs.ObjBoxes.{BoxedImportIs, FillsImported}
use Rattle.stored_reading.specs.ImportOnce.{one_boxed_import}
use Rattle.meaning.specs.Numbers.{Numbered}
use Rattle.meaning.specs.ImportNumbers.{import_number, import_counts, ImportInto}
use Rattle.c_numbers.specs.ImportSmall.{import_near}
use Rattle.c_numbers.specs.ImportBack.{import_heard, import_heard_lem, said_counts, counts_said}
use Rattle.meaning.specs.declared.ImportRefusal.{ImportRefusal}
use Rattle.meaning.specs.declared.SceneCounts.{SceneCounts}

pub one_import_told : (start end : List ℕ) (lent left left' : Scene) (b b₁ b₂ : List ℤ) (l l₁ l₂ : List ℕ) (r r' : ℕ)
    → Numbered import_number (ImportInto start end lent left b b₁ l l₁) r → Numbered import_number (ImportInto start end lent left' b b₂ l l₂) r'
    → (r ≡ r') × (left ≡ left') × (b₁ ≡ b₂) × (l₁ ≡ l₂)
one_import_told start end lent left left' b b₁ b₂ l l₁ l₂ r r' p q =
    let (same, scene, boxes) = one_boxed_import start end lent left left' b b₁ b₂ p.answer q.answer p.right.scene q.right.scene in (
      p.is ∙ ap import_number same ∙ sym q.is,
      scene,
      boxes,
      p.right.counts ∙ ap (λ (a : Result SceneCounts ImportRefusal). import_counts a l) same ∙ sym q.right.counts,
    )

-- the number and the array of counts together tell the outcome; the buffers are as it leaves them
pub import_told_heard : (start end : List ℕ) (lent left : Scene) (b b' : List ℤ) (l l' : List ℕ) (r : ℕ)
    → (p : Numbered import_number (ImportInto start end lent left b b' l l') r)
    → BoxedImportIs start end lent b p.right.scene.outcome × (import_heard l' r ≡ import_told p.right.scene.outcome)
    × (left ≡ import_left p.right.scene.outcome lent)
    × FillsImported p.right.scene.outcome b b'
    × (l' ≡ said_counts (import_heard l' r) l)
import_told_heard start end lent left b b' l l' r p =
    let a = p.answer in
    let says : import_heard l' r ≡ import_says a = rw (p.is, p.right.counts) (import_heard_lem a l (import_near p.right.scene)) in (
      p.right.scene.right,
      says ∙ p.right.scene.says,
      p.right.scene.leaves,
      p.right.scene.boxes,
      p.right.counts ∙ counts_said a l ∙ ap (λ (x : ImportSaid). said_counts x l) (sym says),
    )
