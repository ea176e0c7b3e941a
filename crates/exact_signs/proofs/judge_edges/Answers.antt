use borrow.Author.Rules.{rules}
use mathlib.Core.Path.{◌∙◌, ap}
use Rattle.exact_signs.specs.BySigns.{edge_verdict}
use Rattle.exact.specs.Volumes.{holds_small, holds_same}
use Rattle.exact_signs.proofs.judge_edges.Goals as goal

pub edge_verdict-requires : goal.edge_verdict-requires
edge_verdict-requires c = holds_small c.volumes_at.ensures

pub returns : goal.returns
returns c = c.edge_verdict.ensures ∙ ap (edge_verdict _) (holds_same c.volumes_at.ensures)
