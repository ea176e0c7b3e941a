-- `obj_edges::add_sides` meets its contract: one side after the other.
use mathlib.Core.Path.{◌∙◌}
use native.Mathlib.Omega.{arith}
use borrow.Author.Rules.{rules}
use Rattle.obj_edges.specs.Sides.{sides_added}
use Rattle.obj_edges.proofs.add_sides.Goals as goal

pub add_side-one-requires : goal.add_side-one-requires
add_side-one-requires c = record { tabled = record { knows = c.requires.tabled.knows; few = omega (arith, c.requires.tabled.few); room = c.requires.tabled.room }; b_bound = omega (arith, c.requires.a_lt_vertex_limit.0, c.requires.a_lt_vertex_limit.1) }

pub add_side-two-requires : goal.add_side-two-requires
add_side-two-requires c = let one = c.add_side-one.ensures in record { tabled = record { knows = one.knows; few = omega (arith, c.requires.tabled.few, one.more); room = omega (arith, c.requires.tabled.room, one.same) }; b_bound = omega (arith, c.requires.a_lt_vertex_limit.1, c.requires.a_lt_vertex_limit.2) }

pub add_side-requires : goal.add_side-requires
add_side-requires c =
    let two = c.add_side-two.ensures in
    let one = c.add_side-one.ensures in record {
      tabled = record {
        knows = two.knows;
        few = omega (arith, c.requires.tabled.few, one.more, two.more);
        room = omega (arith, c.requires.tabled.room, one.same, two.same);
      };
      b_bound = omega (arith, c.requires.a_lt_vertex_limit.2, c.requires.a_lt_vertex_limit.0);
    }

pub shape_of-edges : goal.shape_of-edges
shape_of-edges c = c.add_side.ensures.same ∙ c.add_side-two.ensures.same ∙ c.add_side-one.ensures.same

pub returns : goal.returns
returns c = sides_added c.add_side-one.ensures c.add_side-two.ensures c.add_side.ensures
