-- A scene or a mesh that is clean at the start, and whose list has no hit and no touch, is clean at the end.
use Rattle.meaning.specs.Scene.{Scene, Accepted}
use Rattle.meaning.specs.declared.Frame.TheVariants.{Start, End}
use Rattle.mesh_checks.specs.Meshes.{AcceptedMesh}
use Rattle.clean_demands.specs.Mesh.{scene_well_made, mesh_well_made, SidesAreEdges, CleanAt}
use Rattle.clean_demands.proofs.Mesh.{clean_at_the_end}
use Rattle.clean_demands.specs.Listed.{ListUntroubled, nothing_touched}

-- an accepted scene, or mesh, whose sides are edges: clean at the start and no pair of its list hit or touch, so clean at the end
pub scene_stays_clean : {s : Scene} → Accepted s → SidesAreEdges s → ListUntroubled s → CleanAt s Start → CleanAt s End
scene_stays_clean {s} accepted sides list = clean_at_the_end (scene_well_made accepted) sides (nothing_touched s list)

pub mesh_stays_clean : {s : Scene} → AcceptedMesh s → SidesAreEdges s → ListUntroubled s → CleanAt s Start → CleanAt s End
mesh_stays_clean {s} accepted sides list = clean_at_the_end (mesh_well_made accepted) sides (nothing_touched s list)
