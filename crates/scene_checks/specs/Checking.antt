-- The check of a scene makes the table of its seams: what each way out of it gives.
use Rattle.std.specs.Prelude.{ℕ, false, List, ◌≡◌, length, Result}
use Rattle.std.proofs.Common.{sym, ap, subst, arith, ltb-false}
use Rattle.meaning.specs.Scene.{Scene, scene_of, Accepted, wrong_shape, unknown_vertex}
use Rattle.meaning.specs.Refusals.{SceneChecked}
use Rattle.answers.specs.Below.{or_left, or_rest}
use Rattle.scene_checks.specs.Facts.{none_over, known_inside}
use Rattle.scene_seams.specs.Table.{seams_of}
use Rattle.scene_seams.specs.Alone.{tabled}
use Rattle.scene_seams.specs.Sewing.{Blank, Sewable}
use Rattle.scene_checks.specs.Ways.{stitched_by, Way}
use Rattle.meaning.specs.declared.Refusal.{Refusal}

-- the seams are taken into the table once 1, 2 and 3 have passed
abbrev pub stitched : Scene → List ℕ → List ℕ
stitched s t = stitched_by (wrong_shape s) s t

-- of a table that was t and is t': it has the scene's seams where the scene is accepted
pub record Stitched (s : Scene) (t t' : List ℕ) : Type 0 where
  pub table : t' ≡ stitched s t
  pub tells : Accepted s → seams_of t' ≡ s.seams

-- the scene that the table tells is then the scene
pub one_scene : {s : Scene} {t t' : List ℕ} → Stitched s t t' → Accepted s → tabled s.positions s.edges s.triangles t' ≡ s
one_scene {s} h a = ap (scene_of s.positions s.edges s.triangles) (h.tells a)

-- what holds of the scene holds of the one that the table tells, and back
pub to_table : {s : Scene} {t t' : List ℕ} (P : Scene → Type 0) → Stitched s t t' → Accepted s → P s → P (tabled s.positions s.edges s.triangles t')
to_table P h a p = subst P (sym (one_scene h a)) p

pub from_table : {s : Scene} {t t' : List ℕ} (P : Scene → Type 0) → Stitched s t t' → Accepted s → P (tabled s.positions s.edges s.triangles t') → P s
from_table P h a p = subst P (one_scene h a) p

-- the answer is right, and the table is made
pub record Checked (s : Scene) (t t' : List ℕ) (r : Result (Unit {0}) Refusal) : Type 0 where
  pub checked : SceneChecked s r
  pub into : Stitched s t t'

module _ (s : Scene) (t : List ℕ) where
  pub sewable : Blank s.seams t → wrong_shape s ≡ false → unknown_vertex s ≡ false → Sewable s.positions s.seams t
  sewable b h u = record {
    blank = b;
    even = omega (arith, none_over (length s.seams) 2 (search (or_left, or_rest)));
    few = ltb-false _ _ (search (or_left, or_rest));
    inside = known_inside _ s.seams (search (or_left, or_rest));
  }

-- each way out of the five checks (Ways)
pub by_way : {s : Scene} {t t' : List ℕ} {r : Result (Unit {0}) Refusal} → Way (wrong_shape s) s t t' r → Checked s t t' r
by_way w = record {
  checked = w.checked;
  into = record { table = w.table; tells = λ a. w.tells a.shapely a.in_range a.known a.sewn_well };
}
