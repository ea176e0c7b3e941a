-- `copying::copy_three`: three stores side by side, each of a number that was read.
use native.Mathlib.Omega.{arith}
use lib.IntN.{pos}
use lib.ListN.{get_or, length-set}
use Prim.Native.Nat.{◌+◌}
use mir.Facts.{to_z-of_z}
use borrow.Author.Rules.{sfits_of}
use Rattle.sequences.specs.Wrote.{wrote_three_as}
use Rattle.obj_scene.proofs.copying.copy_three.Goals as goal

pub bounds-lent-at-2 : goal.bounds-lent-at-2
bounds-lent-at-2 c = simp length-set (omega arith)

pub bounds-lent-at-3 : goal.bounds-lent-at-3
bounds-lent-at-3 c = simp length-set (omega arith)

pub returns : goal.returns
returns c =
    let own = c.args.own.now in
    let at = c.args.at in
    wrote_three_as _ _ _ _ _ (to_z-of_z {w = mir.Syntax.w32} {z = get_or own at (pos 0)} (sfits_of c.lent-1.given))
    (to_z-of_z {w = mir.Syntax.w32} {z = get_or own (at + 1) (pos 0)} (sfits_of c.lent-2-1.given))
    (to_z-of_z {w = mir.Syntax.w32} {z = get_or own (at + 2) (pos 0)} (sfits_of c.lent-3-1.given))
    (omega arith)
