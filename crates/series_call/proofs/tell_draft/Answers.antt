-- `tell_draft`: the lists of the scene, each as long as it is, go to the steps.
use native.Mathlib.Omega.{arith}
use mathlib.Core.Path.{sym, ◌∙◌}
use lib.Seq.{length-take-le}
use Rattle.meaning.specs.Scene.{scene_of}
use Rattle.series_call.specs.Answering.{first_step, draft_told}
use Rattle.series_call.proofs.tell_draft.Goals as goal

pub slice_bounds-tell_steps-end-2 : goal.slice_bounds-tell_steps-end-2
slice_bounds-tell_steps-end-2 c = sym (length-take-le _ _ (omega (arith, c.requires.0.drafted.above.bounded.vertices, c.requires.1.positions)))

pub slice_bounds-tell_steps-end-3 : goal.slice_bounds-tell_steps-end-3
slice_bounds-tell_steps-end-3 c = sym (length-take-le _ _ (omega (arith, c.requires.0.drafted.above.bounded.edges, c.requires.1.edges)))

pub slice_bounds-tell_steps-end-4 : goal.slice_bounds-tell_steps-end-4
slice_bounds-tell_steps-end-4 c = sym (length-take-le _ _ (omega (arith, c.requires.0.drafted.above.bounded.triangles, c.requires.1.triangles)))

pub slice_bounds-tell_steps-end-5 : goal.slice_bounds-tell_steps-end-5
slice_bounds-tell_steps-end-5 c = sym (length-take-le _ _ (omega (arith, c.requires.0.drafted.above.bounded.seams, c.requires.1.seams)))

pub tell_steps-requires : goal.tell_steps-requires
tell_steps-requires c = first_step c.requires.0 c.requires.2

pub returns : goal.returns
returns c =
    let a = c.args in
    let pre = c.requires in
    draft_told a.text.now a.room (scene_of a.p.now a.e.now a.t.now a.w.now) a.c c.tell_steps.result _
    (c.tell_steps.auto.positions ∙ length-take-le _ _ (omega (arith, pre.0.drafted.above.bounded.vertices, pre.1.positions))) c.tell_steps.ensures
