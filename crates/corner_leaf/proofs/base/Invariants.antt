-- The first that stands: what is found from i on is what is found from 0 on.
use Rattle.std.proofs.Common.{◌≡◌, ℕ, ◌-◌, Bool, false, cond, ◌&&◌, List, get_or}
use Rattle.corner_leaf.specs.First.{first_of}
use Rattle.corner_leaf.specs.Points.{is_left}
use Rattle.corner_leaf.specs.Answer.{same_bool, base_in}
use Rattle.corner_leaf.proofs.base.Given as goal

abbrev pub test : List Bool → List Bool → Bool → ℕ → Bool
test ends left end i = is_left left i && same_bool (get_or ends i false) end

abbrev pub invariant-loop-i : goal.invariant-loop-i
invariant-loop-i l = first_of (test l.ends l.left l.end) l.i (6 - l.i) (cond l.end 5 0) ≡ base_in l.ends l.left l.end
