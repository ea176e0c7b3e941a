use mathlib.Core.Path.{sym, subst, ◌∙◌}
use Rattle.meaning.specs.Claims.{AnswerIs}
use Rattle.corner_leaf.specs.Points.{piece_at}
use Rattle.claim_sums.specs.Decides.{light, heavy_no, decides}
use Rattle.claim_sums.proofs.borne_out.Goals as goal

pub returns-then-heavy : goal.returns-then-heavy
returns-then-heavy c = heavy_no _ _ (sym c.heavy.ensures ∙ c.if-heavy.true)

pub balanced-requires : goal.balanced-requires
balanced-requires c = (c.requires, light _ (sym c.heavy.ensures ∙ c.if-heavy.false))

pub returns : goal.returns
returns c =
    let d = c in
    let a = d.args in
    let ws = a.weights.now in
    subst (AnswerIs (piece_at a.positions.now a.six) ws) (sym c.balanced.ensures)
    (decides a.positions.now a.six ws d.requires.timed.split (light ws (sym d.heavy.ensures ∙ c.if-heavy.false)))
