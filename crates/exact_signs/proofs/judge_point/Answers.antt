use borrow.Author.Rules.{rules}
use mathlib.Core.Path.{◌∙◌, ap}
use Rattle.exact_signs.specs.BySigns.{point_verdict}
use Rattle.exact.specs.Volumes.{holds_small, holds_same}
use Rattle.exact_signs.proofs.judge_point.Goals as goal

pub point_verdict-requires : goal.point_verdict-requires
point_verdict-requires c = holds_small c.volumes_at.ensures

pub returns : goal.returns
returns c = c.point_verdict.ensures ∙ ap point_verdict (holds_same c.volumes_at.ensures)
