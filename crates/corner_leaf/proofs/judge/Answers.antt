-- Nothing yet where all volumes are 0, else by the two tests.
use mathlib.Core.Path.{◌≡◌, ◌∙◌, sym}
use mathlib.Core.Bool.{Bool, true, false, ◌&&◌}
use Rattle.corner_leaf.specs.Answer.{judged_open, judged_yes, judged_no}
use Rattle.corner_leaf.proofs.judge.Goals as goal

joined : {a b a' b' : Bool} (c : Bool) → a ≡ a' → b ≡ b' → a && b ≡ c → a' && b' ≡ c
joined c p q h = sym (λ i. p i && q i) ∙ h

pub zero_but-requires : goal.zero_but-requires
zero_but-requires c = tt

pub returns-then-zero_but : goal.returns-then-zero_but
returns-then-zero_but c = judged_open _ _ _ _ _ _ _ (sym c.zero_but.ensures ∙ c.if-zero_but.true)

pub bounds-left-q0 : goal.bounds-left-q0
bounds-left-q0 c = c.requires.1

pub bounds-left-q1 : goal.bounds-left-q1
bounds-left-q1 c = c.requires.2

pub bounds-left-q2 : goal.bounds-left-q2
bounds-left-q2 c = c.requires.3

pub bounds-left-q3 : goal.bounds-left-q3
bounds-left-q3 c = c.requires.4

pub zero_but-out-requires : goal.zero_but-out-requires
zero_but-out-requires c = tt

pub bounds-ends-q0 : goal.bounds-ends-q0
bounds-ends-q0 c = c.requires.1

pub bounds-ends-q1 : goal.bounds-ends-q1
bounds-ends-q1 c = c.requires.2

pub bounds-ends-q2 : goal.bounds-ends-q2
bounds-ends-q2 c = c.requires.3

pub bounds-ends-q3 : goal.bounds-ends-q3
bounds-ends-q3 c = c.requires.4

pub one_way-signs-requires : goal.one_way-signs-requires
one_way-signs-requires c = c.requires.0

pub returns-then-out-signs : goal.returns-then-out-signs
returns-then-out-signs c =
    let z = c in
    let y = z in
    judged_yes _ _ _ _ _ _ _ (sym y.zero_but.ensures ∙ y.if-zero_but.false) (joined true z.zero_but-out.ensures c.one_way-signs.ensures c.if-out-signs.true)

pub returns-else-out-signs : goal.returns-else-out-signs
returns-else-out-signs c =
    let z = c in
    let y = z in
    judged_no _ _ _ _ _ _ _ (sym y.zero_but.ensures ∙ y.if-zero_but.false) (joined false z.zero_but-out.ensures c.one_way-signs.ensures c.if-out-signs.false)
