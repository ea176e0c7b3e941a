use native.Mathlib.Omega.{arith}
use lib.ListN.{drop_of_length-le}
use Rattle.sequences.specs.Writing.{writing_starts_front, writing_as, writing_room, writing_step, writing_ends_front}
use Rattle.scene_seams.specs.Alone.{tabled}
use Rattle.list_words.specs.Listed.{bytes_of}
use Rattle.mesh_words.specs.Asked.{mesh_pairs_in, mesh_bytes_length, mesh_left}
use Rattle.mesh_words.proofs.settle_mesh_entries.Goals as goal

pub loop-k-init : goal.loop-k-init
loop-k-init c =
    let start = c in
    let l = mesh_bytes_length start.args.count start.args.list.now start.requires.1 (tabled start.args.positions.now start.args.edges.now start.args.triangles.now start.args.stands.now) in
    writing_starts_front _ _ (rw l start.requires.3)

pub settle_entry-requires : goal.settle_entry-requires
settle_entry-requires c =
    let p = c.requires in
    (p.0, omega (arith, p.1), p.2 c.loop-k.k (omega arith))

-- what is left begins with the byte of the entry
pub bounds-out-k : goal.bounds-out-k
bounds-out-k c =
    let start = c in
    writing_room (writing_as (mesh_left start.args.count start.args.list.now start.requires.1 _ c.loop-k.k (omega arith)) c.loop-k.invariant)

pub loop-k-preserved : goal.loop-k-preserved
loop-k-preserved c =
    let start = c in
    rw c.settle_entry.ensures (writing_step (writing_as (mesh_left start.args.count start.args.list.now start.requires.1 _ c.loop-k.k (omega arith)) c.loop-k.invariant))

pub shape_of-out : goal.shape_of-out
shape_of-out c = c.loop-k.invariant.same

pub returns : goal.returns
returns c =
    let start = c in
    let s = tabled start.args.positions.now start.args.edges.now start.args.triangles.now start.args.stands.now in
    writing_ends_front
    (writing_as (drop_of_length-le (bytes_of s (mesh_pairs_in start.args.count start.args.list.now)) {i = c.loop-k.k} (rw (mesh_bytes_length start.args.count start.args.list.now start.requires.1 s) (omega arith))) c.loop-k.invariant)
