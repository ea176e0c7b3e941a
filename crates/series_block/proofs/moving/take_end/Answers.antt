use mathlib.Core.Path.{sym, ◌∙◌}
use Rattle.series_block.specs.Moving.{end_wrong, end_far, end_moves, end_apart, end_good}
use Rattle.series_block.proofs.moving.take_end.Goals as goal

pub returns-then-wrong_here : goal.returns-then-wrong_here
returns-then-wrong_here c = end_wrong _ _ _ _ _ _ (sym c.wrong_here.ensures ∙ c.if-wrong_here.true)

pub returns-then-far_end : goal.returns-then-far_end
returns-then-far_end c = end_far _ _ _ _ _ _ (sym c.wrong_here.ensures ∙ c.if-wrong_here.false) (sym c.far_end.ensures ∙ c.if-far_end.true)

pub move_on-requires : goal.move_on-requires
move_on-requires c = let m = end_moves c.args.last _ c.requires (sym c.wrong_here.ensures ∙ c.if-wrong_here.false) (sym c.far_end.ensures ∙ c.if-far_end.false) in record { v_in_bounds = m.0; in_bounds = m.1; in_bounds_2 = m.2; near = m.3 }

pub returns-then-apart_here : goal.returns-then-apart_here
returns-then-apart_here c = end_apart _ _ _ _ _ _ (sym c.wrong_here.ensures ∙ c.if-wrong_here.false) (sym c.far_end.ensures ∙ c.if-far_end.false) c.move_on.ensures (sym c.apart_here.ensures ∙ c.if-apart_here.true)

pub returns : goal.returns
returns c = end_good _ _ _ _ _ _ (sym c.wrong_here.ensures ∙ c.if-wrong_here.false) (sym c.far_end.ensures ∙ c.if-far_end.false) c.move_on.ensures (sym c.apart_here.ensures ∙ c.if-apart_here.false)
