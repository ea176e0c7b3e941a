-- `sew`: the entry is stored, or there is no place for it.
use Prim.Native.Nat.{◌-◌}
use mathlib.Core.Path.{sym}
use native.Mathlib.Omega.{arith}
use borrow.Author.Rules.{rules}
use lib.Seq.{set_out}
use Rattle.scene_seams.proofs.sew.Goals as goal

pub returns-then-v-stands : goal.returns-then-v-stands
returns-then-v-stands c = rw (c.wide-v.ensures, c.saturating_sub.ensures)

pub returns-else-v-stands : goal.returns-else-v-stands
returns-else-v-stands c =
    let a = c.args in
    sym (set_out a.stands.now a.i (a.i - a.j) (omega (arith, c.wide-v.ensures)))
