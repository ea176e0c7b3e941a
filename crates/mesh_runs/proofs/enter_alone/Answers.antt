use native.Mathlib.Omega.{arith}
use Prim.Native.Nat.{ℕ, ◌+◌}
use mathlib.Core.Path.{◌≡◌, sym, subst}
use Rattle.scene_seams.specs.Alone.{tabled}
use Rattle.mesh_entries.specs.Entering.{up_to_starts, up_to_next, entered_length}
use Rattle.mesh_rows.specs.Rows.{RowTree}
use Rattle.mesh_runs.specs.Going.{kind_few}
use Rattle.mesh_runs.proofs.enter_alone.Goals as goal

pub loop-i-init : goal.loop-i-init
loop-i-init c = up_to_starts _ _ _ _

pub walk_row-k-requires : goal.walk_row-k-requires
walk_row-k-requires c =
    let start = c in
    let a = start.args in
    let s = tabled a.positions.now a.edges.now a.triangles.now a.stands.now in
    let pre = start.requires.kind_tree in
    let loop = c.loop-i in
    let below = c.loop-i-test.true in
    let few = kind_few a.which pre.0 a.first loop.i (omega (arith, pre.3)) in
    record {
      row_tree = subst (λ (f : ℕ). RowTree s a.kind loop.i a.boxes.now a.levels.now a.parts a.top (a.offset + loop.i) f) (sym c.first_second-from.ensures) (pre.0.row loop.i (omega (arith, pre.3)));
      most_in_bounds = (omega (arith, start.requires.most_in_bounds, entered_length loop.invariant.done), omega (arith, start.requires.most_in_bounds, pre.2, loop.invariant.done.counts));
    }

pub loop-i-preserved : goal.loop-i-preserved
loop-i-preserved c = up_to_next _ c.loop-i.invariant c.walk_row-k.ensures

pub returns : goal.returns
returns c =
    let loop = c.loop-i in
    let all : loop.i ≡ c.args.end = omega (arith, c.loop-i-test.false, loop.auto.i-end c.requires.kind_tree.1) in
    rw all at loop.invariant.done
