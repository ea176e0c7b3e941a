use Rattle.mesh_seams.proofs.breaks_rules.Goals as goal

pub returns : goal.returns
returns c = rw (c.replaced.ensures, c.comes_apart.ensures)
