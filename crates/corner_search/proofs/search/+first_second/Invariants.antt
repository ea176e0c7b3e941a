-- The two steps, which call each other. Twice the corners left, and one more where the points were not handed over as they are, falls with
-- each call. The loop has tried the step's own corners up to i.
use Rattle.corner_leaf.specs.Points.{points_of}
use Rattle.corner_search.specs.Says.{NoneWithout}
use Rattle.corner_search.specs.Step.{to_try}
use Rattle.corner_search.proofs.search.+first_second.Given as goal

abbrev pub decreases-first : goal.decreases-first
decreases-first l = to_try l.left.now l.tried

abbrev pub decreases-second : goal.decreases-second
decreases-second l = to_try l.left.now l.tried

abbrev pub invariant-first-loop-i : goal.invariant-first-loop-i
invariant-first-loop-i l = NoneWithout l.positions (points_of l.at l.ends l.split) l.left 0 l.i

abbrev pub invariant-second-loop-i : goal.invariant-second-loop-i
invariant-second-loop-i l = NoneWithout l.positions (points_of l.at l.ends l.split) l.left l.split l.i
