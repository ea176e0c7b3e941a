-- `wants`: by the word.
use Rattle.mesh_keep.specs.Keeping.{wants_hit, wants_miss, wants_touch, wants_apart}
use Rattle.mesh_keep.proofs.wants.Goals as goal

pub returns-in-Hit : goal.returns-in-Hit
returns-in-Hit c = wants_hit c.args.wanted c.in-Hit.is

pub returns-in-Miss : goal.returns-in-Miss
returns-in-Miss c = wants_miss c.args.wanted c.in-Miss.is

pub returns-in-Touch : goal.returns-in-Touch
returns-in-Touch c = wants_touch c.args.wanted c.in-Touch.is

pub returns-in-Apart : goal.returns-in-Apart
returns-in-Apart c = wants_apart c.args.wanted c.in-Apart.is
