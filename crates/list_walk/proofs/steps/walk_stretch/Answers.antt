use Rattle.std.proofs.Common.{◌≡◌, arith}
use Rattle.scene_seams.specs.Alone.{tabled}
use Rattle.list_entries.specs.UpTo.{walking_starts}
use Rattle.list_entries.proofs.UpTo.{walking_next, walked_length}
use Rattle.list_candidates.specs.Rows.{stretch_short, few_seconds}
use Rattle.list_walk.proofs.steps.walk_stretch.Goals as goal

pub loop-j-init : goal.loop-j-init
loop-j-init c = walking_starts _ _ _ _

pub walk_one-k-requires : goal.walk_one-k-requires
walk_one-k-requires c =
    let a = c.args in
    let s = tabled a.positions.now a.edges.now a.triangles.now a.stands.now in
    let before = c.loop-j.invariant.done in
    let few = few_seconds s a.kind c.requires.prepared.0.accepted in
    let short = stretch_short s a.kind a.i a.first c.loop-j.j in
    record {
      prepared = (c.requires.prepared.0, c.requires.prepared.1, omega (arith, c.requires.prepared));
      most_in_bounds = (omega (arith, c.requires.most_in_bounds, walked_length before), omega (arith, c.requires, before.counts));
    }

pub loop-j-preserved : goal.loop-j-preserved
loop-j-preserved c = walking_next _ c.loop-j.invariant c.walk_one-k.ensures

pub returns : goal.returns
returns c =
    let all : c.loop-j.j ≡ c.args.end = omega (arith, c.requires.prepared) in
    rw all at c.loop-j.invariant.done
