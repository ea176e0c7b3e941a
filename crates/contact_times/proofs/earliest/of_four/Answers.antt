-- The smallest of four: the smaller of the first two against the smaller of the last two.
use mathlib.Core.Path.{refl}
use native.Mathlib.Omega.{arith}
use Rattle.contact_times.specs.Earliest.{four_by}
use Rattle.contact_times.proofs.earliest.of_four.Goals as goal

pub returns-then-a-b : goal.returns-then-a-b
returns-then-a-b c =
    let m = c in
    let a = m.args in
    let p = m.min.ensures in
    let q = m.min-2.ensures in
    four_by a.a a.b a.c a.d 0 a.a (omega arith) refl (omega arith) (omega arith) (omega arith) (omega arith) (λ h. absurd (omega arith)) (λ h. absurd (omega arith)) (λ h. absurd (omega arith))

pub returns-else-a-b : goal.returns-else-a-b
returns-else-a-b c =
    let m = c in
    let a = m.args in
    let p = m.min.ensures in
    let q = m.min-2.ensures in
    four_by a.a a.b a.c a.d 1 a.b (omega arith) refl (omega arith) (omega arith) (omega arith) (omega arith) (λ h. omega arith) (λ h. absurd (omega arith)) (λ h. absurd (omega arith))

pub returns-then-c-d : goal.returns-then-c-d
returns-then-c-d c =
    let m = c in
    let a = m.args in
    let p = m.min.ensures in
    let q = m.min-2.ensures in
    four_by a.a a.b a.c a.d 2 a.c (omega arith) refl (omega arith) (omega arith) (omega arith) (omega arith) (λ h. omega arith) (λ h. omega arith) (λ h. absurd (omega arith))

pub returns-else-c-d : goal.returns-else-c-d
returns-else-c-d c =
    let m = c in
    let a = m.args in
    let p = m.min.ensures in
    let q = m.min-2.ensures in
    four_by a.a a.b a.c a.d 3 a.d (omega arith) refl (omega arith) (omega arith) (omega arith) (omega arith) (λ h. omega arith) (λ h. omega arith) (λ h. omega arith)
