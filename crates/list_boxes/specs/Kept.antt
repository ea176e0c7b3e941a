-- What is worked out of boxes: the joint box of two, whether two meet, and the span of a vertex.
use Rattle.std.specs.Prelude.{ℕ, ◌+◌, Bool, ◌&&◌, List, ℤ, pos, get_or}
use Rattle.meaning.specs.Boxes.{Span, smaller, larger, joint, meet}
use Rattle.meaning.specs.StoredBoxes.{Box}

-- the joint box of two, and whether two meet on all three axes
abbrev pub joint_box : Box → Box → Box
joint_box p q = record { x = joint p.x q.x; y = joint p.y q.y; z = joint p.z q.z }

abbrev pub meet_boxes : Box → Box → Bool
meet_boxes p q = meet p.x q.x && meet p.y q.y && meet p.z q.z

-- from the smaller of two numbers to the larger
abbrev pub between : ℤ → ℤ → Span
between a b = record { low = smaller a b; high = larger a b }

-- a vertex's numbers, of start and end, stand three places apart
abbrev pub numbers_between : List ℤ → ℕ → Span
numbers_between p i = between (get_or p i (pos 0)) (get_or p (i + 3) (pos 0))
