-- `sew_next`: what its calls ensure, put together.
use Rattle.mesh_seams.proofs.sew_next.Goals as goal

pub returns : goal.returns
returns c =
    let d = c in
    (rw (d.breaks_rules-broken.ensures, d.wide.ensures, d.wide-2.ensures), c.sew.ensures)

pub breaks_rules-broken-requires : goal.breaks_rules-broken-requires
breaks_rules-broken-requires c = rw (c.wide.ensures, c.wide-2.ensures) c.requires
