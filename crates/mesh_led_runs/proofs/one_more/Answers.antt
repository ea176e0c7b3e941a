-- `one_more`: one more, or not.
use Rattle.mesh_led_runs.proofs.one_more.Goals as goal

pub returns-then-more : goal.returns-then-more
returns-then-more c = rw c.if-more.true

pub returns-else-more : goal.returns-else-more
returns-else-more c = rw c.if-more.false
