-- The time of a hit piece, and none of another.
use mathlib.Core.Path.{sym, ◌∙◌}
use Rattle.contact_times.specs.Or.{time_hit, time_missed, time_degenerate}
use Rattle.contact_times.proofs.numbers.edge_time.Goals as goal

pub share-requires : goal.share-requires
share-requires c =
    let s = c in
    let p = s.requires in
    (p.1, p.2, p.3 (sym c.edge_verdict.ensures ∙ c.in-Hit.is))

pub returns-in-Hit : goal.returns-in-Hit
returns-in-Hit c = time_hit _ _ _ c.edge_verdict.ensures _ c.in-Hit.is c.share.ensures

pub returns-in-Miss : goal.returns-in-Miss
returns-in-Miss c = time_missed _ _ _ c.edge_verdict.ensures c.in-Miss.is

pub returns-in-Degenerate : goal.returns-in-Degenerate
returns-in-Degenerate c = time_degenerate _ _ _ c.edge_verdict.ensures c.in-Degenerate.is
