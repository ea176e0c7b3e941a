use native.Mathlib.Omega.{arith}
use Prim.Native.Nat.{◌<◌}
use mathlib.Core.Path.{◌∙◌, ◌≡◌}
use Rattle.std.proofs.Common.{inl, inr}
use lib.ListN.{length}
use Rattle.mesh_tree.specs.Grown.{growing_starts, level_starts, level_fits, level_again, nodes_again, levels_again, level_ends, told_first, told_itself, told_from, fewer_nodes}
use Rattle.mesh_tree.proofs.grow.Goals as goal

pub put_level-requires : goal.put_level-requires
put_level-requires c = omega (arith, c.requires)

pub loop-level-init : goal.loop-level-init
loop-level-init c =
    let start = c in
    let told = told_first {t = start.args.levels.now} start.args.first start.args.parts start.args.to (omega (arith, start.requires)) c.put_level.ensures in
    (level_starts _ _ _, growing_starts _ _ _ _, told_itself told)

pub fill_runs-requires : goal.fill_runs-requires
fill_runs-requires c =
    let start = c in
    let loop = c.loop-level in
    let tall = c.if-count-le-TOP_NODES.false in
    let low : loop.level < 16 = omega arith in
    let long = loop.invariant.1.same in
    let fits = level_fits start.requires.0 loop.invariant.0 low (length start.args.boxes.now) start.requires.2 in
    let few = fewer_nodes start.args.parts loop.level in
    let many = loop.invariant.0.many in
    (fits.0, omega (arith, start.requires), omega (arith, fits.1))

pub runs_of-count-requires : goal.runs_of-count-requires
runs_of-count-requires c =
    let start = c in
    let loop = c.loop-level in
    let few = fewer_nodes start.args.parts loop.level in
    let many = loop.invariant.0.many in
    omega (arith, start.requires)

pub put_level-requires-in-loop-level : goal.put_level-requires-in-loop-level
put_level-requires-in-loop-level c =
    let start = c in
    let loop = c.loop-level in
    let tall = c.if-count-le-TOP_NODES.false in
    let low : loop.level < 16 = omega arith in
    let first = told_first {t = start.args.levels.now} start.args.first start.args.parts start.args.to (omega (arith, start.requires)) c.put_level.ensures in
    omega (arith, start.requires, first.same, loop.invariant.2.same)

pub overflow_add-free : goal.overflow_add-free
overflow_add-free c =
    let start = c in
    let loop = c.loop-level in
    let tall = c.if-count-le-TOP_NODES.false in
    let low : loop.level < 16 = omega arith in
    let fits = level_fits start.requires.0 loop.invariant.0 low (length start.args.boxes.now) start.requires.2 in
    omega (arith, c.runs_of-count.ensures, fits.1)

pub loop-level-preserved : goal.loop-level-preserved
loop-level-preserved c =
    let start = c in
    let loop = c.loop-level in
    let tall = c.if-count-le-TOP_NODES.false in
    let low : loop.level < 16 = omega arith in
    let runs = c.runs_of-count.ensures in
    let apart = start.requires.0 in
    let first = told_first {t = start.args.levels.now} start.args.first start.args.parts start.args.to (omega (arith, start.requires)) c.put_level.ensures in (
      level_again apart loop.invariant.0 low tall runs,
      nodes_again apart loop.invariant.0 low tall runs loop.invariant.1 c.fill_runs.ensures,
      levels_again apart loop.invariant.0 low tall runs loop.invariant.2 (omega (arith, start.requires, first.same)) c.put_level-in-loop-level.ensures,
    )

pub shape_of-boxes-then-count-le-TOP_NODES : goal.shape_of-boxes-then-count-le-TOP_NODES
shape_of-boxes-then-count-le-TOP_NODES c = c.loop-level.invariant.1.same

pub shape_of-levels-then-count-le-TOP_NODES : goal.shape_of-levels-then-count-le-TOP_NODES
shape_of-levels-then-count-le-TOP_NODES c =
    let first = told_first {t = c.args.levels.now} c.args.first c.args.parts c.args.to (omega (arith, c.requires)) c.put_level.ensures in
    c.loop-level.invariant.2.same ∙ first.same

pub returns-then-count-le-TOP_NODES : goal.returns-then-count-le-TOP_NODES
returns-then-count-le-TOP_NODES c =
    let loop = c.loop-level in
    let first = told_first {t = c.args.levels.now} c.args.first c.args.parts c.args.to (omega (arith, c.requires)) c.put_level.ensures in
    record {
      height = level_ends loop.invariant.0 (inl c.if-count-le-TOP_NODES.true);
      nodes = loop.invariant.1;
      levels = told_from first loop.invariant.2;
    }

pub shape_of-boxes : goal.shape_of-boxes
shape_of-boxes c = c.loop-level.invariant.1.same

pub shape_of-levels : goal.shape_of-levels
shape_of-levels c =
    let first = told_first {t = c.args.levels.now} c.args.first c.args.parts c.args.to (omega (arith, c.requires)) c.put_level.ensures in
    c.loop-level.invariant.2.same ∙ first.same

pub returns : goal.returns
returns c =
    let first = told_first {t = c.args.levels.now} c.args.first c.args.parts c.args.to (omega (arith, c.requires)) c.put_level.ensures in
    let all : c.loop-level.level ≡ 16 = omega arith in
    let done = rw all at c.loop-level.invariant in
    record {
      height = level_ends done.0 (inr (omega arith));
      nodes = done.1;
      levels = told_from first done.2;
    }
