-- What each way out of the call over rows of edges gives: a refusal of what comes first is passed on, and what is listed of the mesh that its table tells is
-- said of the mesh.
use Rattle.std.specs.Prelude.{ℕ, List, ◌≡◌, refl, length, Err, Ok, Result}
use Rattle.std.proofs.Common.{sym, subst}
use Rattle.meaning.specs.Scene.{Scene, edge_count}
use Rattle.meaning.specs.List.{leaves}
use Rattle.meaning.specs.MeshRows.{Lent}
use Rattle.meaning.specs.PiercedRows.{through_rows, PiercedListed}
use Rattle.meaning.specs.declared.Frame.{Frame}
use Rattle.meaning.specs.declared.Refusal.{Refusal}
use Rattle.scene_checks.specs.Facts.{Sound}
use Rattle.mesh_check_laws.specs.Facts.{mesh_sound}
use Rattle.mesh_asked.specs.Asking.{RowsAsked, refused_first, passed_first}
use Rattle.mesh_list.specs.Answering.{told_by, open_told}
use Rattle.through_laws.specs.Deciding.{answers_of, all_answered}
use Rattle.pierced_walk.specs.Stretching.{IsThroughCount, room_asked, ThroughListed}
use Rattle.meaning.specs.declared.Refused.{Refused}
use Rattle.meaning.specs.Refusals.{carrying, outcome_of}

-- the edges were counted first
pub by_edges : {s : Scene} {l : Lent} {rows first end : ℕ} {t' : List ℕ} {asked : Result (Unit {0}) Refusal} → rows ≡ edge_count s → RowsAsked s l rows first end t' asked
    → RowsAsked s l (edge_count s) first end t' asked
by_edges {s} {l} {first = first} {end = end} {t'} {asked} e p = subst (λ (n : ℕ). RowsAsked s l n first end t' asked) e p

pub open_sound : {s : Scene} {l : Lent} {rows first end : ℕ} {t' : List ℕ} {asked : Result (Unit {0}) Refusal} → RowsAsked s l rows first end t' asked
    → asked ≡ Ok tt → Sound (told_by s t')
open_sound {s} p passed = subst (λ (m : Scene). Sound m) (sym (open_told p passed)) (mesh_sound (p.opened passed).accepted)

module _ (f : Frame) (s : Scene) (l : Lent) (first end : ℕ) {t' : List ℕ} {asked : Result (Unit {0}) Refusal} (p : RowsAsked s l (edge_count s) first end t' asked) where
  pub not_listed : (o : List ℕ) (x : Refusal) → asked ≡ Err x
      → PiercedListed f s l first end o o (Err (carrying x 0))
  unfolding outcome_of leaves
  not_listed o x e =
      record {
        answers = answers_of f s (through_rows f s first end);
        right = all_answered f s (through_rows f s first end);
        answer = refused_first p (IsThroughCount f s first end) (room_asked f s first end (length o)) x e;
        list = refl;
      }

  pub listed : {o o' : List ℕ} {r : Result ℕ Refused} → asked ≡ Ok tt
      → ThroughListed (room_asked f (told_by s t') first end (length o)) f (told_by s t') first end o o' r → PiercedListed f s l first end o o' r
  listed {o} {o'} {r} passed h =
      let k = subst (λ (m : Scene). ThroughListed (room_asked f m first end (length o)) f m first end o o' r) (open_told p passed) h in
      record {
        answers = answers_of f s (through_rows f s first end);
        right = all_answered f s (through_rows f s first end);
        answer = passed_first p (IsThroughCount f s first end) (room_asked f s first end (length o)) (outcome_of r) passed k.answer;
        list = k.list;
      }
