use Prim.Native.Nat.{zero-le}
use mathlib.Core.Path.{refl}
use mir.Syntax.{w64}
use Rattle.whole.proofs.Sizes.{back}
use Rattle.claim_sums.proofs.balanced.Goals as goal

pub side-some-requires : goal.side-some-requires
side-some-requires c =
    let p = c.requires in
    (p.0, p.1, zero-le, p.0.timed.split)

pub returns : goal.returns
returns c =
    let c₅ = c in
    let c₄ = c₅ in
    let c₃ = c₄ in
    let c₂ = c₃ in
    let c₁ = c₂ in
    rw (c₁.agree-x.ensures, c₂.agree-y.ensures, c₃.agree-z.ensures, c₄.agree-times.ensures, c₅.agree-sums.ensures, (back w64 c.side-some.ensures tt).same) refl
