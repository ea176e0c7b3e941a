use Rattle.std.proofs.Common.{drop_of_length-le, arith}
use Rattle.sequences.specs.Writing.{writing_starts_front, writing_as, writing_step, writing_ends_front}
use Rattle.scene_seams.specs.Alone.{tabled}
use Rattle.list_words.specs.Listed.{bytes_of, pairs_in, bytes_in_length, left_in}
use Rattle.list_words.proofs.settle_entries.Goals as goal

pub loop-k-init : goal.loop-k-init
loop-k-init c =
    let a = c.args in
    let long = bytes_in_length a.count a.list.now c.requires.1 (tabled a.positions.now a.edges.now a.triangles.now a.stands.now) in
    writing_starts_front _ _ (rw long c.requires.3)

pub settle_entry-requires : goal.settle_entry-requires
settle_entry-requires c = (c.requires.0, omega (arith, c.requires.1), c.requires.2 c.loop-k.k (omega arith))

-- what is left begins with the byte of the entry
pub loop-k-preserved : goal.loop-k-preserved
loop-k-preserved c =
    let left = left_in c.args.count c.args.list.now c.requires.1 _ c.loop-k.k (omega arith) in
    rw c.settle_entry.ensures (writing_step (writing_as left c.loop-k.invariant))

pub returns : goal.returns
returns c =
    let a = c.args in
    let s = tabled a.positions.now a.edges.now a.triangles.now a.stands.now in
    let none = drop_of_length-le (bytes_of s (pairs_in a.count a.list.now)) {i = c.loop-k.k} (rw (bytes_in_length a.count a.list.now c.requires.1 s) (omega arith)) in
    writing_ends_front (writing_as none c.loop-k.invariant)
