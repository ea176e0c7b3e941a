-- After an import each stored box is the one worked out from the positions, and its promise leaves nothing open: the answer, the scene's buffers
-- and the box buffer.
use Rattle.std.specs.Prelude.{◌||◌, List, ◌≡◌, ℕ, ℤ, Ok, Result}
use Rattle.std.proofs.Common.{sym, ap, ◌∙◌, subst}
use Rattle.meaning.specs.Scene.{Scene}
use Rattle.meaning.specs.Text.{short_buffer}
use Rattle.meaning.specs.StoredBoxes.{Boxed, Filled, short_boxes}
use Rattle.meaning.specs.ObjPair.{ImportOutcome, read, refused, refused_in, import_says, import_told, import_left}
use Rattle.meaning.specs.ObjBoxes.{FillsImported, BoxedImport}
use Rattle.meaning.specs.declared.SceneCounts.{SceneCounts}
use Rattle.list_boxes.specs.Once.{one_filling}
use Rattle.text_scene.specs.Using.{front_of}
use Rattle.obj_scene.specs.Using.{SceneImported, scene_behind, front_imported}
use Rattle.obj_scene.specs.OneImport.{behind_twelve, said_one}
use Rattle.meaning.specs.declared.ImportRefusal.{ImportRefusal}

-- 'After .. import .. each stored box equals the one worked out from the positions'
pub import_boxed : {start end : List ℕ} {lent left : Scene} {b b' : List ℤ} {c : SceneCounts} → BoxedImport start end lent left b b' (Ok c)
    → Boxed (front_of c left) b'
unfolding import_says FillsImported
import_boxed {start} {end} {lent} {left} {b} {b'} {c} h =
    let i : SceneImported start end lent left h.outcome c = scene_behind (short_boxes b || short_buffer lent) h.right h.says h.leaves in
    let boxes : Filled i.scene b b' = rw i.is at h.boxes in
    rw (front_imported i) boxes.boxed

one_fill : (o : ImportOutcome) (b b₁ b₂ : List ℤ) → FillsImported o b b₁ → FillsImported o b b₂ → b₁ ≡ b₂
unfolding FillsImported
one_fill (read s) b b₁ b₂ p q = one_filling s p q
one_fill (refused n) b b₁ b₂ p q = p ∙ sym q
one_fill (refused_in f n line) b b₁ b₂ p q = p ∙ sym q

pub one_boxed_import : (start end : List ℕ) (lent left left' : Scene) (b b₁ b₂ : List ℤ) (r r' : Result SceneCounts ImportRefusal)
    → BoxedImport start end lent left b b₁ r → BoxedImport start end lent left' b b₂ r' → (r ≡ r') × (left ≡ left') × (b₁ ≡ b₂)
one_boxed_import start end lent left left' b b₁ b₂ r r' h k =
    let same : h.outcome ≡ k.outcome =
    behind_twelve start end (short_boxes b || short_buffer lent) h.outcome k.outcome h.right k.right in (
      said_one start end r r' (h.says ∙ ap import_told same ∙ sym k.says),
      h.leaves ∙ ap (λ (o : ImportOutcome). import_left o lent) same ∙ sym k.leaves,
      one_fill k.outcome b b₁ b₂ (subst (λ (o : ImportOutcome). FillsImported o b b₁) same h.boxes) k.boxes,
    )
