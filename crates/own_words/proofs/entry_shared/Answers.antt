-- `entry_shared`: the entry is taken apart, and its parts are compared as its kind says.
use Rattle.scene_seams.specs.Alone.{tabled}
use Rattle.meaning.specs.List.{pair}
use Rattle.scene_parts.specs.There.{pt_there, ee_there}
use Rattle.own_words.specs.Faults.{shared_is, read_there}
use Rattle.own_words.proofs.entry_shared.Goals as goal

pub shares_pt-requires : goal.shares_pt-requires
shares_pt-requires c =
    let start = c in
    let a = start.args in
    let first = c in
    let there = read_there _ a.entry (pair c.kind_of.result first.first_of-first.result c.second_of-second.result) c.kind_of.ensures first.first_of-first.ensures c.second_of-second.ensures start.requires in
    (pt_there (tabled a.positions.now a.edges.now a.triangles.now a.stands.now) first.first_of-first.result c.second_of-second.result (rw c.in-PointTriangle.is at there)).1

pub shares_ee-requires : goal.shares_ee-requires
shares_ee-requires c =
    let start = c in
    let a = start.args in
    let first = c in
    let there = read_there _ a.entry (pair c.kind_of.result first.first_of-first.result c.second_of-second.result) c.kind_of.ensures first.first_of-first.ensures c.second_of-second.ensures start.requires in
    ee_there (tabled a.positions.now a.edges.now a.triangles.now a.stands.now) first.first_of-first.result c.second_of-second.result (rw c.in-EdgeEdge.is at there)

pub returns-in-PointTriangle : goal.returns-in-PointTriangle
returns-in-PointTriangle c =
    let start = c in
    let kind = c in
    shared_is _ start.args.entry (pair kind.kind_of.result kind.first_of-first.result kind.second_of-second.result) kind.kind_of.ensures kind.first_of-first.ensures kind.second_of-second.ensures _
    (rw c.in-PointTriangle.is (c.shares_pt.ensures _ _))

pub returns-in-EdgeEdge : goal.returns-in-EdgeEdge
returns-in-EdgeEdge c =
    let start = c in
    let kind = c in
    shared_is _ start.args.entry (pair kind.kind_of.result kind.first_of-first.result kind.second_of-second.result) kind.kind_of.ensures kind.first_of-first.ensures kind.second_of-second.ensures _
    (rw c.in-EdgeEdge.is (c.shares_ee.ensures _ _))
