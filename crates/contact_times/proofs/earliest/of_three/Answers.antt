-- The smallest of three: each return is right by the two tests that led to it.
use mathlib.Core.Path.{refl}
use native.Mathlib.Omega.{arith}
use Rattle.contact_times.specs.Earliest.{three_by}
use Rattle.contact_times.proofs.earliest.of_three.Goals as goal

pub returns-then-a-c : goal.returns-then-a-c
returns-then-a-c c =
    let a = c.args in
    three_by a.a a.b a.c 0 a.a (omega arith) refl (omega arith) (omega arith) (omega arith) (λ h. absurd (omega arith)) (λ h. absurd (omega arith))

pub returns-else-a-c : goal.returns-else-a-c
returns-else-a-c c =
    let a = c.args in
    three_by a.a a.b a.c 2 a.c (omega arith) refl (omega arith) (omega arith) (omega arith) (λ h. omega arith) (λ h. omega arith)

pub returns-then-b-c : goal.returns-then-b-c
returns-then-b-c c =
    let a = c.args in
    three_by a.a a.b a.c 1 a.b (omega arith) refl (omega arith) (omega arith) (omega arith) (λ h. omega arith) (λ h. absurd (omega arith))

pub returns-else-b-c : goal.returns-else-b-c
returns-else-b-c c =
    let a = c.args in
    three_by a.a a.b a.c 2 a.c (omega arith) refl (omega arith) (omega arith) (omega arith) (λ h. omega arith) (λ h. omega arith)
