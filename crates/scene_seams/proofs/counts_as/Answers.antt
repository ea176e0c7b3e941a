-- `counts_as`: the entry is looked up, or there is none.
use Prim.Native.Nat.{◌-◌}
use mathlib.Core.Path.{sym, ◌∙◌, ap}
use native.Mathlib.Omega.{arith}
use borrow.Author.Rules.{rules}
use lib.ListN.{get_or-eq_default}
use Rattle.scene_seams.specs.Table.{looked_up}
use Rattle.scene_seams.proofs.counts_as.Goals as goal

pub returns-then-v-stands : goal.returns-then-v-stands
returns-then-v-stands c =
    let a = c.args in
    c.saturating_sub.ensures ∙ ap (λ d. a.v - d) c.wide.ensures ∙ sym (looked_up a.stands.now a.v)

pub returns-else-v-stands : goal.returns-else-v-stands
returns-else-v-stands c =
    let a = c.args in
    let none = get_or-eq_default a.stands.now 0 {n = a.v} (omega arith) in
    omega (arith, looked_up a.stands.now a.v)
