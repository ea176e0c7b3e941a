-- `room_answer`: 7 where a step had no room.
use borrow.Author.Tests.{lt-ltb, le-ltb}
use mathlib.Core.Path.{refl}
use Rattle.series_walk.proofs.room_answer.Goals as goal

pub returns-then-all-gt0 : goal.returns-then-all-gt0
returns-then-all-gt0 c = rw (lt-ltb _ _ c.if-all-gt0.true, c.refused.ensures) refl

pub returns : goal.returns
returns c = rw (le-ltb _ _ c.if-all-gt0.false) refl
