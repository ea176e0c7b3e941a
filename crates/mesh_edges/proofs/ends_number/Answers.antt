-- `ends_number`: the lower of the two stands in front.
use mathlib.Core.Path.{◌∙◌}
use Rattle.scene_seams.specs.Alone.{only_edges}
use Rattle.mesh_edges.specs.Ends.{number_joined, number_told}
use Rattle.mesh_edges.proofs.ends_number.Goals as goal

pub returns : goal.returns
returns c = c.joined.ensures ∙ number_joined _ _ _ _ c.min.ensures c.max.ensures ∙ number_told (only_edges c.args.edges.now) c.args.j
