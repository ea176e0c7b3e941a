-- The volumes of two edges: each is the volume of three of six differences, with the minors of two neighbours among them.
use borrow.Author.Rules.{rules}
use Rattle.exact.specs.Minors.{minors_small, standing_first, standing_last}
use Rattle.exact.specs.Volumes.{held_small, held_in_turn}
use Rattle.exact.specs.Shared.{at_start_lem, at_end_lem}
use Rattle.exact.proofs.shared.edge_volumes.Goals as goal

pub returns : goal.returns
returns c =
    record {
      holds0 = held_in_turn (standing_first c.volume_with-ghl.ensures c.minors_at-hl.ensures)
          (standing_first c.volume_with-rhl.ensures c.minors_at-hl.ensures)
          (standing_last c.volume_with-rgl.ensures c.minors_at-rg.ensures)
          (standing_last c.volume_with-rgh.ensures c.minors_at-rg.ensures)
          c.in_turn-aa.ensures;
      holds1 = held_in_turn (standing_first c.volume_with-gkl.ensures c.minors_at-kl.ensures)
          (standing_first c.volume_with-rkl.ensures c.minors_at-kl.ensures)
          (standing_last c.volume_with-rgl.ensures c.minors_at-rg.ensures)
          (standing_last c.volume_with-rgk.ensures c.minors_at-rg.ensures)
          c.in_turn-ab.ensures;
      holds2 = held_in_turn (standing_first c.volume_with-ghl.ensures c.minors_at-hl.ensures)
          (standing_first c.volume_with-shl.ensures c.minors_at-hl.ensures)
          (standing_last c.volume_with-sgl.ensures c.minors_at-sg.ensures)
          (standing_last c.volume_with-sgh.ensures c.minors_at-sg.ensures)
          c.in_turn-ba.ensures;
      holds3 = held_in_turn (standing_first c.volume_with-gkl.ensures c.minors_at-kl.ensures)
          (standing_first c.volume_with-skl.ensures c.minors_at-kl.ensures)
          (standing_last c.volume_with-sgl.ensures c.minors_at-sg.ensures)
          (standing_last c.volume_with-sgk.ensures c.minors_at-sg.ensures)
          c.in_turn-bb.ensures;
    }

pub minors_at-rg-requires : goal.minors_at-rg-requires
minors_at-rg-requires c = let p = c.requires in (at_start_lem p.1 p.0, at_start_lem p.2 p.0, p.4)

pub minors_at-sg-requires : goal.minors_at-sg-requires
minors_at-sg-requires c = let p = c.requires in (at_end_lem p.0 p.1, at_start_lem p.2 p.0, p.4)

pub minors_at-hl-requires : goal.minors_at-hl-requires
minors_at-hl-requires c = let p = c.requires in (at_start_lem p.3 p.0, at_end_lem p.3 p.1, p.4)

pub minors_at-kl-requires : goal.minors_at-kl-requires
minors_at-kl-requires c = let p = c.requires in (at_end_lem p.2 p.1, at_end_lem p.3 p.1, p.4)

pub volume_with-ghl-requires : goal.volume_with-ghl-requires
volume_with-ghl-requires c = let p = c.requires in (at_start_lem p.2 p.0, minors_small c.minors_at-hl.ensures, p.4)

pub volume_with-rhl-requires : goal.volume_with-rhl-requires
volume_with-rhl-requires c = let p = c.requires in (at_start_lem p.1 p.0, minors_small c.minors_at-hl.ensures, p.4)

pub volume_with-rgl-requires : goal.volume_with-rgl-requires
volume_with-rgl-requires c = let p = c.requires in (at_end_lem p.3 p.1, minors_small c.minors_at-rg.ensures, p.4)

pub volume_with-rgh-requires : goal.volume_with-rgh-requires
volume_with-rgh-requires c = let p = c.requires in (at_start_lem p.3 p.0, minors_small c.minors_at-rg.ensures, p.4)

pub volume_with-gkl-requires : goal.volume_with-gkl-requires
volume_with-gkl-requires c = let p = c.requires in (at_start_lem p.2 p.0, minors_small c.minors_at-kl.ensures, p.4)

pub volume_with-rkl-requires : goal.volume_with-rkl-requires
volume_with-rkl-requires c = let p = c.requires in (at_start_lem p.1 p.0, minors_small c.minors_at-kl.ensures, p.4)

pub volume_with-rgk-requires : goal.volume_with-rgk-requires
volume_with-rgk-requires c = let p = c.requires in (at_end_lem p.2 p.1, minors_small c.minors_at-rg.ensures, p.4)

pub volume_with-shl-requires : goal.volume_with-shl-requires
volume_with-shl-requires c = let p = c.requires in (at_end_lem p.0 p.1, minors_small c.minors_at-hl.ensures, p.4)

pub volume_with-sgl-requires : goal.volume_with-sgl-requires
volume_with-sgl-requires c = let p = c.requires in (at_end_lem p.3 p.1, minors_small c.minors_at-sg.ensures, p.4)

pub volume_with-sgh-requires : goal.volume_with-sgh-requires
volume_with-sgh-requires c = let p = c.requires in (at_start_lem p.3 p.0, minors_small c.minors_at-sg.ensures, p.4)

pub volume_with-skl-requires : goal.volume_with-skl-requires
volume_with-skl-requires c = let p = c.requires in (at_end_lem p.0 p.1, minors_small c.minors_at-kl.ensures, p.4)

pub volume_with-sgk-requires : goal.volume_with-sgk-requires
volume_with-sgk-requires c = let p = c.requires in (at_end_lem p.2 p.1, minors_small c.minors_at-sg.ensures, p.4)

pub in_turn-aa-requires : goal.in_turn-aa-requires
in_turn-aa-requires c =
    held_small (standing_first c.volume_with-ghl.ensures c.minors_at-hl.ensures)
    (standing_first c.volume_with-rhl.ensures c.minors_at-hl.ensures)
    (standing_last c.volume_with-rgl.ensures c.minors_at-rg.ensures)
    (standing_last c.volume_with-rgh.ensures c.minors_at-rg.ensures)

pub in_turn-ab-requires : goal.in_turn-ab-requires
in_turn-ab-requires c =
    held_small (standing_first c.volume_with-gkl.ensures c.minors_at-kl.ensures)
    (standing_first c.volume_with-rkl.ensures c.minors_at-kl.ensures)
    (standing_last c.volume_with-rgl.ensures c.minors_at-rg.ensures)
    (standing_last c.volume_with-rgk.ensures c.minors_at-rg.ensures)

pub in_turn-ba-requires : goal.in_turn-ba-requires
in_turn-ba-requires c =
    held_small (standing_first c.volume_with-ghl.ensures c.minors_at-hl.ensures)
    (standing_first c.volume_with-shl.ensures c.minors_at-hl.ensures)
    (standing_last c.volume_with-sgl.ensures c.minors_at-sg.ensures)
    (standing_last c.volume_with-sgh.ensures c.minors_at-sg.ensures)

pub in_turn-bb-requires : goal.in_turn-bb-requires
in_turn-bb-requires c =
    held_small (standing_first c.volume_with-gkl.ensures c.minors_at-kl.ensures)
    (standing_first c.volume_with-skl.ensures c.minors_at-kl.ensures)
    (standing_last c.volume_with-sgl.ensures c.minors_at-sg.ensures)
    (standing_last c.volume_with-sgk.ensures c.minors_at-sg.ensures)
