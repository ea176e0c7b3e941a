use native.Mathlib.Omega.{arith}
use lib.ListN.{length-set}
use Rattle.c_meshes.specs.Telling.{six_written}
use Rattle.c_meshes.proofs.put_kept.Goals as goal

pub bounds-told-1 : goal.bounds-told-1
bounds-told-1 c = simp length-set (omega (arith, c.requires))

pub bounds-told-2 : goal.bounds-told-2
bounds-told-2 c = simp length-set (omega (arith, c.requires))

pub bounds-told-3 : goal.bounds-told-3
bounds-told-3 c = simp length-set (omega (arith, c.requires))

pub bounds-told-4 : goal.bounds-told-4
bounds-told-4 c = simp length-set (omega (arith, c.requires))

pub bounds-told-5 : goal.bounds-told-5
bounds-told-5 c = simp length-set (omega (arith, c.requires))

pub returns : goal.returns
returns c =
    six_written c.args.told.now c.args.kept.count c.args.kept.listed c.args.kept.hits c.args.kept.misses
    c.args.kept.touches
    c.args.kept.aparts
    c.requires
