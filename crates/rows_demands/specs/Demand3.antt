-- Demand 3 of meshes, of whatever size: of two accepted meshes of which one is the other sent through a matrix and shifted, every pair without a shared
-- vertex, and each of its pieces, keeps its verdict and its word, and of a hit the contact; one that is culled or far in either is hit and touched in
-- neither. In the words of `demands/Demand3`, whose proof this is.
use Rattle.std.specs.Prelude.{ℕ, true, false, ◌↔◌, ◌⊎◌, ◌≡◌}
use Rattle.whole.specs.Vector.{Vector}
use Rattle.whole.specs.VectorLaws.{Matrix}
use Rattle.meaning.specs.Limits.{contact_limit}
use Rattle.meaning.specs.Scene.{Scene, reaches_beyond}
use Rattle.meaning.specs.Near.{far}
use Rattle.meaning.specs.Verdicts.{PairIs}
use Rattle.meaning.specs.Resting.{PairSettled}
use Rattle.meaning.specs.Refusals.{not_there, shares}
use Rattle.meaning.specs.WholeContacts.{WholeContactIs}
use Rattle.meaning.specs.declared.Kind.{Kind}
use Rattle.meaning.specs.declared.Verdict.TheVariants.{Hit}
use Rattle.meaning.specs.declared.Settled.TheVariants.{Touch}
use Rattle.meaning.specs.declared.WholeContact.{WholeContact}
use Rattle.theory.specs.Moved.{Moves, Known}
use Rattle.near_laws.specs.Moved.{far_in_either_hit_in_neither, far_in_either_meets_in_neither}
use Rattle.mesh_checks.specs.Meshes.{AcceptedMesh}
use Rattle.mesh_check_laws.specs.Facts.{mesh_sound}
use Rattle.demands.specs.Demand3.{KeepsVerdicts, vertices_known, demand3_known}
use Rattle.contact_demands.specs.Demand3.{contacts_moved}

pub record MeshKeeps (s t : Scene) (kind : Kind) (i j : ℕ) : Type 0 where
  pub verdicts : KeepsVerdicts s t kind i j
  pub far_in_either : (far s kind i j ≡ true) ⊎ (far t kind i j ≡ true) → ¬ PairIs s kind i j Hit × ¬ PairIs t kind i j Hit
  pub far_touch_in_neither : (far s kind i j ≡ true) ⊎ (far t kind i j ≡ true) → ¬ PairSettled s kind i j Touch × ¬ PairSettled t kind i j Touch

module _ {m : Matrix} {a b : Vector} {s t : Scene} (moves : Moves m a b s t) (accepted : AcceptedMesh s) (also : AcceptedMesh t)
    (kind : Kind) (i j : ℕ) (there : not_there s kind i j ≡ false) (apart : shares s kind i j ≡ false) where
  known : Known s kind i j
  known = vertices_known (mesh_sound accepted) kind i j there

  pub demand3_mesh : MeshKeeps s t kind i j
  demand3_mesh =
      record {
        verdicts = demand3_known moves kind i j known;
        far_in_either = far_in_either_hit_in_neither moves kind i j known;
        far_touch_in_neither = λ f. let n = far_in_either_meets_in_neither moves kind i j known f in (n.0.1, n.1.1);
      }

  -- both within the range of contacts: the same word, and of a hit the same piece, k and shares
  pub demand3_mesh_contacts : reaches_beyond contact_limit s ≡ false → reaches_beyond contact_limit t ≡ false
      → (x : WholeContact) → WholeContactIs s kind i j x ↔ WholeContactIs t kind i j x
  demand3_mesh_contacts within too = contacts_moved moves kind i j known
