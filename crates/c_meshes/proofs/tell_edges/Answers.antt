use mathlib.Core.Path.{ap, ◌∙◌}
use Rattle.std.specs.Prelude.{Ok}
use Rattle.meaning.specs.declared.EdgesFound.{EdgesFound}
use Rattle.c_meshes.specs.Telling.{edges_whole, edges_bare, edges_twice, edges_refused}
use Rattle.c_meshes.proofs.tell_edges.Goals as goal

pub returns-in-Ok-Whole : goal.returns-in-Ok-Whole
returns-in-Ok-Whole c =
    let found = rw c.in-Ok-Whole.is at c.in-Ok-Whole.field-0-is in
    edges_whole c.args.told.now (c.in-Ok-Whole.is ∙ ap (λ (f : EdgesFound). Ok f) found) c.put_two.ensures

pub returns-in-Ok-Bare : goal.returns-in-Ok-Bare
returns-in-Ok-Bare c =
    let found = rw c.in-Ok-Bare.is at c.in-Ok-Bare.field-0-is in
    edges_bare c.args.told.now (c.in-Ok-Bare.is ∙ ap (λ (f : EdgesFound). Ok f) found) c.put_two-in-Ok-Bare.ensures

pub returns-in-Ok-Twice : goal.returns-in-Ok-Twice
returns-in-Ok-Twice c =
    let found = rw c.in-Ok-Twice.is at c.in-Ok-Twice.field-0-is in
    edges_twice c.args.told.now (c.in-Ok-Twice.is ∙ ap (λ (f : EdgesFound). Ok f) found) c.put_two-in-Ok-Twice.ensures

pub returns-in-Err : goal.returns-in-Err
returns-in-Err c = edges_refused c.args.told.now c.in-Err.is c.small_number.ensures
