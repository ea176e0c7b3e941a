-- Two edges' verdict: the signs are those of the exact numbers; the sum without the first volume begins with a 0.
use borrow.Author.Rules.{rules}
use mathlib.Core.Path.{◌≡◌, sym, ◌∙◌, ap}
use mathlib.Core.Bool.{true, false}
use lib.IntN.{ℤ, ◌+ℤ◌, +ℤ_idl}
use mir.Syntax.{w64}
use Rattle.whole.specs.Cramer.{Four}
use Rattle.whole.proofs.Sizes.{fits}
use Rattle.exact_signs.specs.BySigns.{signs_of, sum, keep, kept}
use Rattle.exact_signs.specs.OneSign.{edge_one_sign}
use Rattle.exact.specs.Volumes.{four, four_of, turned, held_small}
use Rattle.exact_signs.proofs.Held.{same_signs}
use Rattle.exact_signs.proofs.edge_signs.Goals as goal

without-first : (e : Four ℤ) → sum (kept (four false true true true) e) ≡ e.v1 +ℤ e.v2 +ℤ e.v3
unfolding keep
without-first e = ap (λ z. z +ℤ e.v2 +ℤ e.v3) (+ℤ_idl e.v1)

pub overflow_sub-v : goal.overflow_sub-v
overflow_sub-v c = fits w64 (turned c.requires.is0) tt

pub by_signs-requires : goal.by_signs-requires
by_signs-requires c =
    let p = c.requires in
    held_small (turned p.is0) p.is1 p.is2 p.is3

pub returns : goal.returns
returns c =
    let s = c in
    let p = s.requires in
    let x = s.args in
    same_signs
    (s.sum_where-d.ensures ∙ without-first (four_of x.v))
    (turned p.is0)
    p.is1
    p.is2
    p.is3
    (rw (s.alike-3.ensures, s.alike-2.ensures, s.alike.ensures) at s.sum_where-own.ensures)
    c.by_signs.ensures
    ∙ ap signs_of (sym (edge_one_sign (four_of x.v) x.t0 x.t1 x.t2 x.t3))
