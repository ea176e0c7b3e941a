-- `leave_last`: copied, its boxes filled in, and listed.
use borrow.Author.Rules.{rules}
use native.Mathlib.Omega.{arith}
use mathlib.Core.Path.{refl, sym, ◌∙◌}
use lib.Seq.{length-take-le}
use Rattle.meaning.specs.Scene.{scene_of}
use Rattle.series_leave.specs.Leaving.{front_of, front_drawn, front_accepted, front_listed}
use Rattle.series_leave.proofs.leave_last.Goals as goal

pub slice_bounds-fill-end : goal.slice_bounds-fill-end
slice_bounds-fill-end c = sym (length-take-le _ _ (omega (arith, c.requires.bounded.vertices, c.requires.own_room.positions)))

pub slice_bounds-fill-end-2 : goal.slice_bounds-fill-end-2
slice_bounds-fill-end-2 c = sym (length-take-le _ _ (omega (arith, c.requires.bounded.edges, c.requires.own_room.edges)))

pub slice_bounds-fill-end-3 : goal.slice_bounds-fill-end-3
slice_bounds-fill-end-3 c = sym (length-take-le _ _ (omega (arith, c.requires.bounded.triangles, c.requires.own_room.triangles)))

pub fill-requires : goal.fill-requires
fill-requires c = (front_drawn c.requires, c.requires.boxes)

pub slice_bounds-list_accepted-end : goal.slice_bounds-list_accepted-end
slice_bounds-list_accepted-end c = sym (length-take-le _ _ (omega (arith, c.requires.bounded.vertices, c.requires.own_room.positions)))

pub slice_bounds-list_accepted-end-2 : goal.slice_bounds-list_accepted-end-2
slice_bounds-list_accepted-end-2 c = sym (length-take-le _ _ (omega (arith, c.requires.bounded.edges, c.requires.own_room.edges)))

pub slice_bounds-list_accepted-end-3 : goal.slice_bounds-list_accepted-end-3
slice_bounds-list_accepted-end-3 c = sym (length-take-le _ _ (omega (arith, c.requires.bounded.triangles, c.requires.own_room.triangles)))

pub list_accepted-listed-requires : goal.list_accepted-listed-requires
list_accepted-listed-requires c = (front_accepted c.requires, search rules)

pub returns : goal.returns
returns c =
    let a = c.args in
    let made = front_listed c.requires refl c.list_accepted-listed.ensures in
    record {
      scene = c.copy_scene.ensures;
      filled = c.fill.ensures (front_of a.c (scene_of a.p.now a.e.now a.t.now a.w.now)).seams;
      listed = made.0;
      counts = c.count_of.ensures ∙ made.1;
    }
