-- `replaced`: the entry is looked up, or there is none.
use native.Mathlib.Omega.{arith}
use lib.ListN.{get_or-eq_default}
use Rattle.mesh_seams.proofs.replaced.Goals as goal

pub returns-then-v-stands : goal.returns-then-v-stands
returns-then-v-stands c = rw c.wide.ensures

pub returns-else-v-stands : goal.returns-else-v-stands
returns-else-v-stands c =
    let a = c.args in
    rw (get_or-eq_default a.stands.now 0 {n = a.v} (omega arith))
