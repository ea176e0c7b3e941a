-- The three lists turned round are the scene turned round. It has no seams before and none after.
use Rattle.std.specs.Prelude.{ℕ, ◌*◌, ◌/◌, ◌≤◌, List, map, ◌≡◌, refl, ℤ, pos, length, Err, Ok, Result}
use Rattle.std.proofs.Common.{sym, ◌∙◌, arith, ext_get_or}
use Rattle.meaning.specs.Limits.{vertex_limit}
use Rattle.meaning.specs.Scene.{Scene, scene_of, Accepted, vertex_count}
use Rattle.meaning.specs.Refusals.{SceneChecked, outcome_alone}
use Rattle.meaning.specs.Backwards.{from_last, turned_round, turned_left, Turning}
use Rattle.meaning.specs.declared.Refusal.{Refusal}
use Rattle.scene_seams.specs.Alone.{only_positions}
use Rattle.scene_checks.specs.Accepting.{accepted_checked}
use Rattle.answers.specs.Below.{or_left, or_rest}
use Rattle.scene_checks.specs.Facts.{known_inside, accepted_sized}
use Rattle.turning_laws.specs.Turned.{as_long, coordinate}
use Rattle.turning.specs.Exchanging.{Exchanging, exchanging_ends}
use Rattle.turning.specs.Renumbering.{AllBelow}

-- the positions of the scene turned round, of which vertices alone are read
abbrev pub positions_turned : List ℤ → List ℤ
positions_turned l = (turned_round (only_positions l)).positions

pub positions_turned_lem : {l l' : List ℤ} {i : ℕ} → Exchanging (length l / 6) l l' i → 3 * (length l / 6) ≤ i → l' ≡ positions_turned l
positions_turned_lem {l} {l'} e h =
    let s = only_positions l in
    ext_get_or (pos 0) l' (positions_turned l) (e.long ∙ sym (as_long s)) (λ x k. exchanging_ends e h x ∙ sym (coordinate s x))

-- the vertex numbers of an accepted scene are below the count
pub ends_below : {s : Scene} → Accepted s → AllBelow (vertex_count s) s.edges
ends_below {s} a = known_inside (vertex_count s) s.edges (search (or_left, or_rest))

pub corners_below : {s : Scene} → Accepted s → AllBelow (vertex_count s) s.triangles
corners_below {s} a = known_inside (vertex_count s) s.triangles (search (or_left, or_rest))

pub few_vertices_lem : {s : Scene} → Accepted s → vertex_count s ≤ vertex_limit
few_vertices_lem a = (accepted_sized a).few_vertices

pub few_positions : {s : Scene} → Accepted s → length s.positions ≤ 6 * vertex_limit
few_positions a = let z = accepted_sized a in omega arith

-- the call's promise, accepted and refused
pub turned_scene : (s : Scene) → Accepted s → {p : List ℤ} {e k : List ℕ} → p ≡ positions_turned s.positions
    → e ≡ map (from_last (vertex_count s)) s.edges
    → k ≡ map (from_last (vertex_count s)) s.triangles → Turning s (scene_of p e k s.seams) (Ok tt)
unfolding outcome_alone turned_left turned_round
turned_scene s a h i j = record { answer = accepted_checked s a; scene = λ x. record { positions = h x; edges = i x; triangles = j x; seams = s.seams } }

pub scene_refused : (s : Scene) {r : Result (Unit {0}) Refusal} (why : Refusal) → r ≡ Err why
    → SceneChecked s r → Turning s s (Err why)
unfolding outcome_alone turned_left
scene_refused s why e p = record { answer = rw e at p; scene = refl }
