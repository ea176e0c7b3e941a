use Rattle.std.proofs.Common.{◌+◌, ◌-◌, ◌≡◌, sym, arith}
use Rattle.answers.specs.Below.{some_more}
use Rattle.scene_seams.specs.Scanning.{none_yet}
use Rattle.scene_checks.proofs.faults.written_behind.Goals as goal

pub loop-j-init : goal.loop-j-init
loop-j-init c = let none : c.args.first - c.args.first ≡ 0 = omega arith in rw none (sym (none_yet _))

pub loop-j-preserved : goal.loop-j-preserved
loop-j-preserved c =
    let first = c.args.first in
    let j = c.loop-j.j in
    let next : j + 1 - first ≡ j - first + 1 = omega arith in
    let this : first + (j - first) ≡ j = omega arith in
    rw (next, some_more _ (j - first), c.loop-j.invariant, c.written_twice_in_triangle-found.ensures, this)
