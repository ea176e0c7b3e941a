-- `skipping::run_meets`: both boxes stand where they are looked for.
use borrow.Author.Rules.{rules}
use native.Mathlib.Omega.{arith}
use Rattle.meaning.specs.Scene.{scene_of}
use Rattle.list_candidates.specs.Rows.{few_firsts, few_seconds}
use Rattle.list_walk.specs.Skipping.{meets_run, places_inside}
use Rattle.list_walk.proofs.skipping.run_meets.Goals as goal

pub first_place-first-requires : goal.first_place-first-requires
first_place-first-requires c =
    let start = c in
    omega (arith, start.requires, few_firsts _ start.args.kind start.requires.0.accepted)

pub run_place-second-requires : goal.run_place-second-requires
run_place-second-requires c =
    let start = c in
    (start.requires.0.accepted, omega (arith, start.requires, few_seconds _ start.args.kind start.requires.0.accepted))

pub boxes_meet-requires : goal.boxes_meet-requires
boxes_meet-requires c =
    let start = c in
    let inside = places_inside start.requires.0 start.args.kind start.args.i start.args.run start.requires.1 start.requires.2 in
    (rw c.first_place-first.ensures inside.0, rw c.run_place-second.ensures inside.1)

pub returns : goal.returns
returns c =
    let start = c in
    meets_run start.requires.0 start.args.kind start.args.i start.args.run start.requires.1 start.requires.2
    (rw (← c.first_place-first.ensures, ← c.run_place-second.ensures) c.boxes_meet.ensures)
