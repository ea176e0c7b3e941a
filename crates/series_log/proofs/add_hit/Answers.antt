use borrow.Author.Tests.{lt-ltb, le-ltb}
use Rattle.series_log.specs.Logged.{logged}
use Rattle.series_log.proofs.add_hit.Goals as goal

pub returns-then-held-lt-LOG_ROOM : goal.returns-then-held-lt-LOG_ROOM
unfolding logged
returns-then-held-lt-LOG_ROOM c = rw (lt-ltb _ _ c.if-held-lt-LOG_ROOM.true)

pub returns : goal.returns
unfolding logged
returns c = simp (le-ltb _ _ c.if-held-lt-LOG_ROOM.false, c.one_more.ensures)
