-- A mesh that is no scene: 513 vertices in one place, without edges, triangles and seams. The checks of a mesh accept it, those of a scene do not.
use Rattle.std.specs.Prelude.{true, [], ◌≡◌, refl, ℤ, pos, length, get_or, replicate}
use Rattle.std.proofs.lemmas.List.{length-replicate, get_or-replicate}
use Rattle.std.proofs.Common.{arith}
use Rattle.meaning.specs.Limits.{contact_limit}
use Rattle.meaning.specs.Scene.{Scene, scene_of, beyond, outside, some_below, wrong_shape}
use Rattle.answers.specs.Below.{none_below}
use Rattle.scene_checks.specs.Facts.{SoundWithin, Sound}
use Rattle.mesh_checks.specs.Meshes.{AcceptedMesh}
use Rattle.mesh_check_laws.specs.Facts.{mesh_sound, mesh_sound_within}

abbrev pub one_too_many : Scene
one_too_many = scene_of (replicate {A = ℤ} 3_078 (pos 0)) [] [] []

pub too_many_for_a_scene : wrong_shape one_too_many ≡ true
too_many_for_a_scene = refl

pub accepted_as_mesh : AcceptedMesh one_too_many
unfolding some_below
accepted_as_mesh =
    record {
      shapely = refl;
      in_range =
          none_below (λ i. outside (get_or one_too_many.positions i (pos 0))) (length one_too_many.positions)
          (λ i h. rw (get_or-replicate {A = ℤ} 3_078 i (pos 0) (pos 0) (omega (arith, h, length-replicate {A = ℤ} 3_078 (pos 0)))));
      known = refl;
      sewn_well = refl;
      distinct = refl;
    }

-- so it is sound
pub sound_shown : Sound one_too_many
sound_shown = mesh_sound accepted_as_mesh

-- and in the range of contacts
pub near_shown : SoundWithin contact_limit one_too_many
near_shown =
    mesh_sound_within accepted_as_mesh
    (none_below (λ i. beyond contact_limit (get_or one_too_many.positions i (pos 0))) (length one_too_many.positions)
    (λ i h. rw (get_or-replicate {A = ℤ} 3_078 i (pos 0) (pos 0) (omega (arith, h, length-replicate {A = ℤ} 3_078 (pos 0))))))
