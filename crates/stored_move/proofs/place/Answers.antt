-- `place`: the start, then the end.
use mathlib.Core.Path.{◌∙◌, ap}
use mathlib.Core.List.{List}
use lib.IntN.{ℤ}
use Prim.Native.Nat.{◌+◌, ◌*◌}
use Rattle.stored_laws.specs.Placed.{three_placed, placed_halves}
use Rattle.stored_move.proofs.place.Goals as goal

pub returns : goal.returns
returns c =
    let a = c.args in
    c.place_three-2.ensures
    ∙ ap (λ (p : List ℤ). three_placed p (6 * a.v + 3) a.coordinates.now 3) c.place_three.ensures
    ∙ placed_halves a.positions.now a.v a.coordinates.now
