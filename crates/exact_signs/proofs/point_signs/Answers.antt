use borrow.Author.Rules.{rules}
use mathlib.Core.Path.{refl, sym, ◌∙◌, ap}
use Rattle.exact.specs.Volumes.{held_small}
use Rattle.exact_signs.specs.BySigns.{signs_of}
use Rattle.exact_signs.specs.OneSign.{one_sign, with_nought, point_one_sign}
use Rattle.exact_signs.proofs.Held.{same_signs}
use Rattle.exact_signs.proofs.point_signs.Goals as goal

pub by_signs-requires : goal.by_signs-requires
by_signs-requires c = let p = c.requires in held_small p.is0 p.is1 p.is2 p.is3

pub returns : goal.returns
returns c =
    let p = c.requires in
    same_signs c.sum_of.ensures p.is0 p.is1 p.is2 p.is3 refl
    c.by_signs.ensures
    ∙ ap signs_of (with_nought _ _ _ _ _ ∙ sym (point_one_sign _))
