use borrow.Author.Rules.{rules}
use mir.Syntax.{w64}
use Rattle.whole.proofs.Sizes.{back}
use Rattle.exact_signs.proofs.ways.all_not_below.Goals as goal

pub returns : goal.returns
returns c =
    let c₄ = c in
    let c₃ = c₄ in
    let c₂ = c₃ in
    let c₁ = c₂ in
    let s = c₁ in
    simp
    (c₁.not_below.ensures, c₂.not_below-2.ensures, c₃.not_below-3.ensures, c₄.not_below-4.ensures, c.sum_not_below.ensures, c.sum_not_below-2.ensures, (back w64 s.requires.is0 tt).same, (back w64 s.requires.is1 tt).same, (back w64 s.requires.is2 tt).same, (back w64 s.requires.is3 tt).same)
