-- `keep_pair`: the word is counted, and entered where it is asked for.
use mathlib.Core.Path.{◌∙◌, ap}
use Rattle.meaning.specs.List.{pair}
use Rattle.scene_seams.specs.Alone.{tabled}
use Rattle.list_entries.specs.UpTo.{kept}
use Rattle.mesh_keep.specs.Keeping.{kept_yes, kept_no}
use Rattle.mesh_keep.proofs.keep_pair.Goals as goal

pub returns-then-wants : goal.returns-then-wants
returns-then-wants c =
    let a = c.args in
    kept_yes (tabled a.positions.now a.edges.now a.triangles.now a.stands.now) a.wanted (pair a.kind a.i a.j) _ c.word-found.ensures c.wants.ensures a.most a.list.now a.words.now a.going c.add-tally.ensures c.if-wants.true
    c.put_below.ensures (c.put_byte.ensures ∙ ap (λ b. kept a.most a.going.count b a.words.now) c.byte_of.ensures)

pub returns-else-wants : goal.returns-else-wants
returns-else-wants c =
    let a = c.args in
    kept_no (tabled a.positions.now a.edges.now a.triangles.now a.stands.now) a.wanted (pair a.kind a.i a.j) _ c.word-found.ensures c.wants.ensures a.most a.list.now a.words.now a.going c.add-tally.ensures c.if-wants.false
