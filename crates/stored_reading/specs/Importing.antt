-- How the answer of an import with boxes is shown right: by that of an import, and by the boxes of the scene in front.
use Rattle.std.specs.Prelude.{true, false, List, [], ◌≡◌, ℕ, ◌*◌, ℤ, take, Err, Ok, Result}
use Rattle.std.proofs.Math.Path.{refl, ap, subst}
use Rattle.std.proofs.Common.{sym, ◌∙◌}
use Rattle.meaning.specs.Scene.{Scene}
use Rattle.meaning.specs.Refusals.{number_of}
use Rattle.meaning.specs.StoredBoxes.{short_boxes, Filled}
use Rattle.meaning.specs.ObjPair.{ImportOutcome, refused, refused_in, ImportIs, import_says, import_told, import_left, Imported}
use Rattle.meaning.specs.ObjBoxes.{BoxedImportIs, FillsImported, BoxedImport}
use Rattle.meaning.specs.declared.Refusal.TheVariants.{ShortBuffer}
use Rattle.meaning.specs.declared.SceneCounts.{SceneCounts}
use Rattle.text_scene.specs.Using.{FewOf, Fronts}
use Rattle.list_boxes.specs.Parts.{Drawn, accepted_drawn}
use Rattle.stored_reading.specs.Front.{front_with, InFront}
use Rattle.obj_scene.specs.Using.{SceneImported, scene_imported, fronts_imported, few_imported, front_imported, accepted_imported, import_refusal, import_refusal_in}
use Rattle.meaning.specs.declared.ImportRefusal.TheVariants.{In, Of}
use Rattle.meaning.specs.declared.ImportRefusal.{ImportRefusal}

-- what filling in asks for
module _ {start end : List ℕ} {lent left : Scene} {r : Result SceneCounts ImportRefusal} (a : Imported start end lent left r) {c : SceneCounts} (e : r ≡ Ok c) where
  pub import_in_front : InFront c left.positions left.edges left.triangles
  import_in_front =
      let i : SceneImported start end lent left a.outcome c = scene_imported a e in
      let few : FewOf c = few_imported i in
      let room : Fronts c left = fronts_imported i in
      record {
        few_vertices = few.vertices;
        few_edges = few.edges;
        few_triangles = few.triangles;
        positions = room.points;
        edges = room.sides;
        triangles = room.corners;
      }

  pub import_drawn : Drawn (front_with c left.positions left.edges left.triangles [])
  import_drawn = accepted_drawn (accepted_imported (scene_imported a e))

module _ (start end : List ℕ) (lent : Scene) (b : List ℤ) where
  pub boxed_short : short_boxes b ≡ true → BoxedImport start end lent lent b b (Err (Of ShortBuffer))
  unfolding import_says import_told import_left number_of FillsImported
  boxed_short q = record { outcome = refused 12; right = rw q refl; says = refl; leaves = refl; boxes = refl }

  module _ (wide : short_boxes b ≡ false) where
    behind : (o : ImportOutcome) → ImportIs start end lent o → BoxedImportIs start end lent b o
    behind o h = rw wide h

    module _ {left : Scene} {r : Result SceneCounts ImportRefusal} (a : Imported start end lent left r) where
      pub boxed_refused : {x : ImportRefusal} → r ≡ Err x → BoxedImport start end lent left b b (Err x)
      unfolding import_says import_told import_left FillsImported
      boxed_refused {x = Of x} e =
          let (same, right) = import_refusal a e in
          record { outcome = refused (number_of x); right = behind (refused (number_of x)) right; says = refl; leaves = same; boxes = refl }
      boxed_refused {x = In f x} e =
          let (same, right) = import_refusal_in a e in
          record {
            outcome = refused_in f (number_of x.why) x.carries;
            right = behind (refused_in f (number_of x.why) x.carries) right;
            says = refl;
            leaves = same;
            boxes = refl;
          }

      module _ {c : SceneCounts} (e : r ≡ Ok c) where
        pub boxed_read : {b' : List ℤ}
            → ((w : List ℕ) → Filled (front_with c left.positions left.edges left.triangles w) b b')
            → BoxedImport start end lent left b b' (Ok c)
        unfolding import_says import_told import_left FillsImported
        boxed_read {b'} f =
            let i : SceneImported start end lent left a.outcome c = scene_imported a e in
            let boxes : Filled i.scene b b' = subst (λ (s : Scene). Filled s b b') (front_imported i) (f (take (2 * c.seams) left.seams)) in
            record {
              outcome = a.outcome;
              right = behind a.outcome a.right;
              says = ap import_says (sym e) ∙ a.says;
              leaves = a.leaves;
              boxes = rw i.is boxes;
            }
