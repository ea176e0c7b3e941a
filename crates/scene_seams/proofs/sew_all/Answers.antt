use Rattle.std.proofs.Common.{◌+◌, ◌∷◌, [], ◌++◌, ◌≡◌, length, length-append, ◌∙◌}
use Rattle.scene_seams.specs.Sewing.{seam_fits, sewing_starts, sewing_goes}
use Rattle.scene_seams.proofs.Pairs.{NextPair, next_pair}
use Rattle.scene_seams.proofs.sew_all.Goals as goal

pub loop-seam-init : goal.loop-seam-init
loop-seam-init c =
    rw c.into_iter-seam-iterator.ensures.into_iter_gives
    (record {
      taken = sewing_starts _ _ _ c.requires.blank.none;
      in_pairs = c.chunks_exact-seam-items.ensures.size;
      left = c.chunks_exact-seam-items.ensures.rest;
    })

pub loop-seam-preserved : goal.loop-seam-preserved
loop-seam-preserved c =
    let before = c.loop-seam.invariant in
    let steps = c.in-Some.ensures.steps in
    let here : NextPair c.args.seams.now c.in-Some.seam.now c.next.new.self.rest.now (length c.loop-seam.yielded) =
    next_pair before.left steps.1.0 (steps.1.1 ∙ before.in_pairs) in
    let called = c.sew_next-broken.ensures in
    let one_more : length (c.loop-seam.yielded ++ (c.in-Some.seam ∷ [])) ≡ length c.loop-seam.yielded + 1 = length-append c.loop-seam.yielded (c.in-Some.seam ∷ []) in
    rw (one_more, called.1, c.wide-least.ensures, here.first, here.second)
    (record {
      taken = sewing_goes _ _ _ before.taken here.there (seam_fits c.requires _ here.there) _ (rw (here.first, here.second) at called.0);
      in_pairs = steps.0 ∙ before.in_pairs;
      left = here.left;
    })
