-- `put_near`: one place more exactly when a part was found.
use borrow.Author.Rules.{rules}
use mathlib.Core.Path.{refl}
use Rattle.mesh_entries.specs.Entering.{entered_if, entered_else}
use Rattle.near_walk.proofs.put_near.Goals as goal

pub put_place-requires : goal.put_place-requires
put_place-requires c = c.requires.0 c.if-found.true

pub returns-then-found : goal.returns-then-found
returns-then-found c =
    let a = c.args in
    entered_if a.found a.place refl c.if-found.true c.put_place.ensures

pub returns-else-found : goal.returns-else-found
returns-else-found c =
    let a = c.args in
    entered_else a.found a.place refl c.if-found.false
