use borrow.Author.Rules.{rules}
use Rattle.meaning.specs.Scene.{Scene, scene_of}
use Rattle.meaning.specs.Pieces.{piece_of}
use Rattle.exact.specs.Volumes.{holds_small}
use Rattle.exact_signs.specs.BySigns.{told}
use Rattle.exact_signs.specs.BySignsLaws.{tells}
use Rattle.theory.specs.Computed.{point_differences}
use Rattle.three_words.specs.Pairs.{of_three, tells_either}
use Rattle.three_words.specs.Ready.{moving}
use Rattle.three_words.specs.Right.{point_held}
use Rattle.three_words.proofs.accepted.point_pair.Goals as goal

pub returns : goal.returns
unfolding piece_of point_differences
returns c =
    let d = c in
    let a = d.args in
    let v = d.point_volumes-v.ensures in
    λ e t w j same.
    let s : Scene = scene_of a.positions.now e t w in
    let one = d.point_signs-a.result in
    let two = d.point_signs-b.result in
    let three = d.point_signs-d.result in
    rw (c.verdict_of.ensures, tells_either one c.either.result c.either-2.ensures, tells_either two three c.either.ensures)
    (of_three s a.p j (told d.point_signs-a.result) (told d.point_signs-b.result) (told d.point_signs-d.result)
    (rw same (point_held s a.p a.c 0 (told d.point_signs-a.result) v.holds0 (tells d.point_signs-a.ensures)))
    (rw same (point_held s a.p a.c 1 (told d.point_signs-b.result) v.holds1 (tells d.point_signs-b.ensures)))
    (rw same (point_held s a.p a.c 2 (told d.point_signs-d.result) v.holds2 (tells d.point_signs-d.ensures))))

pub point_volumes-v-requires : goal.point_volumes-v-requires
point_volumes-v-requires c = let r = c.requires in (moving r.point, moving r.low, moving r.middle, moving r.high, r.bounded)

pub point_signs-a-requires : goal.point_signs-a-requires
point_signs-a-requires c = holds_small c.point_volumes-v.ensures.holds0

pub point_signs-b-requires : goal.point_signs-b-requires
point_signs-b-requires c = holds_small c.point_volumes-v.ensures.holds1

pub point_signs-d-requires : goal.point_signs-d-requires
point_signs-d-requires c = holds_small c.point_volumes-v.ensures.holds2
