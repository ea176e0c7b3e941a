-- `text_scene::read_scene` meets its contract: 12, 8, then what the draft found; and only where it found no fault is it copied into the lent
-- buffers.
use mathlib.Core.List.{[]}
use mathlib.Core.Path.{refl}
use Rattle.std.proofs.lemmas.Result.{err_from_is_err_and}
use Rattle.text_draft.specs.Reading.{own_table, own_room, same_roomy}
use Rattle.text_scene.specs.Answering.{roomy, draft_bounded, read_short, read_long, read_refused, read_given}
use Rattle.text_scene.proofs.read_scene.Goals as goal

pub returns-then-few-triangles : goal.returns-then-few-triangles
returns-then-few-triangles c = rw c.from.ensures (read_short _ _ c.if-few-triangles.true)

pub returns-then-text-gt-TEXT_LIMIT : goal.returns-then-text-gt-TEXT_LIMIT
returns-then-text-gt-TEXT_LIMIT c = rw c.from-then-text-gt-TEXT_LIMIT.ensures (read_long _ _ c.if-few-triangles.false c.if-text-gt-TEXT_LIMIT.true)

pub draft_text-requires : goal.draft_text-requires
draft_text-requires c = record { roomy = own_room; blank_table = own_table }

pub copy_scene-requires : goal.copy_scene-requires
copy_scene-requires c =
    let d = c in record {
      bounded = draft_bounded _ _ _ d.draft_text.ensures c.in_ok-counts.was;
      roomy = same_roomy {table₀ = []} {table = []} own_room (record {
        positions = d.draft_text.auto.positions;
        edges = d.draft_text.auto.edges;
        triangles = d.draft_text.auto.triangles;
        seams = d.draft_text.auto.seams;
        sewn = refl;
      });
      roomy_2 = roomy _ d.if-few-triangles.false;
    }

pub returns-in_err-counts : goal.returns-in_err-counts
returns-in_err-counts c =
    let (y, is, same) = err_from_is_err_and c.from_residual.result c.from_residual.ensures.1 in
    rw (is, same) (read_refused _ _ c.if-few-triangles.false c.if-text-gt-TEXT_LIMIT.false _ _ c.draft_text.ensures c.in_err-counts.was)

pub returns : goal.returns
returns c =
    read_given _ _ c.if-few-triangles.false c.if-text-gt-TEXT_LIMIT.false _ _ c.draft_text.ensures c.in_ok-counts.was c.copy_scene.ensures
