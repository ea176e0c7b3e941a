-- 12, the scene's own checks and 17 are asked first; a scene that passes them is accepted and its stored boxes are right, so that a list
-- made from them is that of the scene.
use Rattle.std.specs.Prelude.{ℕ, true, false, cond, List, [], ◌++◌, ◌≡◌, refl, ℤ, length, Err, Ok, Result}
use Rattle.std.proofs.Common.{arith}
use Rattle.meaning.specs.Scene.{Scene, scene_of, Accepted}
use Rattle.meaning.specs.Refusals.{Outcome, given, refused, number_of, Check, Answers, SceneChecked, outcome_alone}
use Rattle.meaning.specs.StoredBoxes.{Boxed, box_numbers, short_boxes, stale_box, box_checks, stale_checks}
use Rattle.meaning.specs.declared.Refusal.{Refusal}
use Rattle.meaning.specs.declared.Refusal.TheVariants.{ShortBuffer, StaleBox}
use borrow.Author.Tests.{ltb-false}
use Rattle.answers.specs.Answering.{is_given, refused_before, given_before}
use Rattle.answers_order.specs.InOrder.{Checked, refused_if, one_check_lem}
use Rattle.scene_checks.specs.Accepting.{accepted_by}
use Rattle.scene_checks.specs.Checking as SceneChecking
use Rattle.scene_checks.specs.Checking.{Stitched, from_table}
use Rattle.list_boxes.specs.Parts.{Drawn, accepted_drawn}
use Rattle.scene_checks.specs.Facts.{accepted_sized}
use Rattle.stored_laws.specs.Checks.{short_boxes_lem, boxed_refused, boxed_accepted}
use Rattle.stored_look.specs.Looked.{boxes_right}

abbrev Fine : Unit {0} → Type 0
Fine t = Unit {0}

-- the parts of a scene that was checked and accepted are there, so that its boxes can be looked over
pub drawn_by : {p : List ℤ} {e t w u u' : List ℕ} {r : Result (Unit {0}) Refusal} → SceneChecking.Checked (scene_of p e t w) u u' r
    → r ≡ Ok tt → Drawn (scene_of p e t [])
drawn_by {p} {e} {t} {w} c h = accepted_drawn (accepted_by (scene_of p e t w) h c.checked)

-- 12, the scene's, 17
abbrev pub look_checks : Scene → List ℤ → List Check
look_checks s b = box_checks s b ++ stale_checks s b

-- the answer of the look is right; the table is made with the check of the scene, unless 12 came before it
pub record LookedAt (s : Scene) (b : List ℤ) (t t' : List ℕ) (r : Result (Unit {0}) Refusal) : Type 0 where
  pub answer : Answers (look_checks s b) Fine (outcome_alone r)
  pub table : cond (short_boxes b) (t' ≡ t) (Stitched s t t')

pub look_short : (s : Scene) (b : List ℤ) {t : List ℕ} → short_boxes b ≡ true → LookedAt s b t t (Err ShortBuffer)
unfolding outcome_alone number_of
look_short s b h = record { answer = short_boxes_lem s b (stale_checks s b) Fine h; table = rw h refl }

pub stale_told : (s : Scene) (b : List ℤ) → Checked (stale_checks s b) (refused_if (stale_box s b) StaleBox)
unfolding number_of
stale_told s b = one_check_lem (stale_box s b) StaleBox

module _ (s : Scene) (b : List ℤ) {t t' : List ℕ} where
  module _ (long : short_boxes b ≡ false) (into : Stitched s t t') where
    pub look_refused : {r : Result (Unit {0}) Refusal} (x : Refusal) → r ≡ Err x → SceneChecked s r
        → LookedAt s b t t' (Err x)
    unfolding outcome_alone
    look_refused x e p = record { answer = boxed_refused s b (stale_checks s b) Fine long e p; table = rw long into }

    -- 17 alone is left
    pub look_behind : (r : Result (Unit {0}) Refusal) → Accepted s → Checked (stale_checks s b) r → LookedAt s b t t' r
    look_behind r a p = record { answer = boxed_accepted s b (stale_checks s b) Fine long (outcome_alone r) a p; table = rw long into }

-- ---- a scene that passes is accepted, and its boxes are right

pub record Passed (s : Scene) (b : List ℤ) (t t' : List ℕ) : Type 0 where
  pub accepted : Accepted s
  pub boxed : Boxed s b
  pub into : Stitched s t t'

module _ {s : Scene} {b : List ℤ} {t t' : List ℕ} {r : Result (Unit {0}) Refusal} (p : LookedAt s b t t' r) where
  pub passed : r ≡ Ok tt → Passed s b t t'
  unfolding outcome_alone
  passed e =
      let q : Answers (look_checks s b) Fine (given tt) = rw e at p.answer in
      let (long, q0) = is_given Fine _ _ tt q in
      let (h1, q1) = is_given Fine _ _ tt q0 in
      let (h2, q2) = is_given Fine _ _ tt q1 in
      let (h3, q3) = is_given Fine _ _ tt q2 in
      let (h4, q4) = is_given Fine _ _ tt q3 in
      let (h5, q5) = is_given Fine _ _ tt q4 in
      let (fresh, q6) = is_given Fine _ _ tt q5 in
      let a : Accepted s = record { shapely = h1; in_range = h2; known = h3; sewn_well = h4; distinct = h5 } in
      let sized = accepted_sized a in
      record {
        accepted = a;
        boxed = boxes_right s b (omega (arith, ltb-false (length b) box_numbers long, sized.few_vertices, sized.few_edges, sized.few_triangles)) fresh;
        into = rw long at p.table;
      }

  -- a refusal of the look stands, whatever comes after it
  pub refused_too : {A : Type 0} (more : List Check) (Right : A → Type 0) (x : Refusal) → r ≡ Err x
      → Answers (look_checks s b ++ more) Right (refused (number_of x) 0)
  unfolding outcome_alone
  refused_too more Right x e = refused_before Fine Right (look_checks s b) more (number_of x) 0 (rw e at p.answer)

  pub accepted_too : {A : Type 0} (more : List Check) (Right : A → Type 0) (o : Outcome A) → r ≡ Ok tt
      → Answers more Right o → Answers (look_checks s b ++ more) Right o
  unfolding outcome_alone
  accepted_too more Right o e q = given_before Fine Right (look_checks s b) more tt o (rw e at p.answer) q
