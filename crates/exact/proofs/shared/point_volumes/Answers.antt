-- The volumes of a point against a triangle: each is the volume of three of six differences, with the minors of two neighbours among them.
use borrow.Author.Rules.{rules}
use Rattle.exact.specs.Minors.{minors_small, standing_first, standing_last}
use Rattle.exact.specs.Volumes.{held_small, held_in_turn}
use Rattle.exact.specs.Shared.{at_start_lem, at_end_lem}
use Rattle.exact.proofs.shared.point_volumes.Goals as goal

pub returns : goal.returns
returns c =
    record {
      holds0 = held_in_turn (standing_first c.volume_with-bcf.ensures c.minors_at-cf.ensures)
          (standing_first c.volume_with-acf.ensures c.minors_at-cf.ensures)
          (standing_last c.volume_with-abf.ensures c.minors_at-ab.ensures)
          (standing_last c.volume_with-abc.ensures c.minors_at-ab.ensures)
          c.in_turn-first.ensures;
      holds1 = held_in_turn (standing_first c.volume_with-bef.ensures c.minors_at-ef.ensures)
          (standing_first c.volume_with-aef.ensures c.minors_at-ef.ensures)
          (standing_last c.volume_with-abf.ensures c.minors_at-ab.ensures)
          (standing_last c.volume_with-abe.ensures c.minors_at-ab.ensures)
          c.in_turn-second.ensures;
      holds2 = held_in_turn (standing_first c.volume_with-def.ensures c.minors_at-ef.ensures)
          (standing_first c.volume_with-aef.ensures c.minors_at-ef.ensures)
          (standing_last c.volume_with-adf.ensures c.minors_at-ad.ensures)
          (standing_last c.volume_with-ade.ensures c.minors_at-ad.ensures)
          c.in_turn-third.ensures;
    }

pub minors_at-ab-requires : goal.minors_at-ab-requires
minors_at-ab-requires c = let p = c.requires in (at_start_lem p.1 p.0, at_start_lem p.2 p.0, p.4)

pub minors_at-ad-requires : goal.minors_at-ad-requires
minors_at-ad-requires c = let p = c.requires in (at_start_lem p.1 p.0, at_end_lem p.1 p.0, p.4)

pub minors_at-cf-requires : goal.minors_at-cf-requires
minors_at-cf-requires c = let p = c.requires in (at_start_lem p.3 p.0, at_end_lem p.3 p.0, p.4)

pub minors_at-ef-requires : goal.minors_at-ef-requires
minors_at-ef-requires c = let p = c.requires in (at_end_lem p.2 p.0, at_end_lem p.3 p.0, p.4)

pub volume_with-bcf-requires : goal.volume_with-bcf-requires
volume_with-bcf-requires c = let p = c.requires in (at_start_lem p.2 p.0, minors_small c.minors_at-cf.ensures, p.4)

pub volume_with-acf-requires : goal.volume_with-acf-requires
volume_with-acf-requires c = let p = c.requires in (at_start_lem p.1 p.0, minors_small c.minors_at-cf.ensures, p.4)

pub volume_with-abf-requires : goal.volume_with-abf-requires
volume_with-abf-requires c = let p = c.requires in (at_end_lem p.3 p.0, minors_small c.minors_at-ab.ensures, p.4)

pub volume_with-abc-requires : goal.volume_with-abc-requires
volume_with-abc-requires c = let p = c.requires in (at_start_lem p.3 p.0, minors_small c.minors_at-ab.ensures, p.4)

pub volume_with-bef-requires : goal.volume_with-bef-requires
volume_with-bef-requires c = let p = c.requires in (at_start_lem p.2 p.0, minors_small c.minors_at-ef.ensures, p.4)

pub volume_with-aef-requires : goal.volume_with-aef-requires
volume_with-aef-requires c = let p = c.requires in (at_start_lem p.1 p.0, minors_small c.minors_at-ef.ensures, p.4)

pub volume_with-abe-requires : goal.volume_with-abe-requires
volume_with-abe-requires c = let p = c.requires in (at_end_lem p.2 p.0, minors_small c.minors_at-ab.ensures, p.4)

pub volume_with-def-requires : goal.volume_with-def-requires
volume_with-def-requires c = let p = c.requires in (at_end_lem p.1 p.0, minors_small c.minors_at-ef.ensures, p.4)

pub volume_with-adf-requires : goal.volume_with-adf-requires
volume_with-adf-requires c = let p = c.requires in (at_end_lem p.3 p.0, minors_small c.minors_at-ad.ensures, p.4)

pub volume_with-ade-requires : goal.volume_with-ade-requires
volume_with-ade-requires c = let p = c.requires in (at_end_lem p.2 p.0, minors_small c.minors_at-ad.ensures, p.4)

pub in_turn-first-requires : goal.in_turn-first-requires
in_turn-first-requires c =
    held_small (standing_first c.volume_with-bcf.ensures c.minors_at-cf.ensures)
    (standing_first c.volume_with-acf.ensures c.minors_at-cf.ensures)
    (standing_last c.volume_with-abf.ensures c.minors_at-ab.ensures)
    (standing_last c.volume_with-abc.ensures c.minors_at-ab.ensures)

pub in_turn-second-requires : goal.in_turn-second-requires
in_turn-second-requires c =
    held_small (standing_first c.volume_with-bef.ensures c.minors_at-ef.ensures)
    (standing_first c.volume_with-aef.ensures c.minors_at-ef.ensures)
    (standing_last c.volume_with-abf.ensures c.minors_at-ab.ensures)
    (standing_last c.volume_with-abe.ensures c.minors_at-ab.ensures)

pub in_turn-third-requires : goal.in_turn-third-requires
in_turn-third-requires c =
    held_small (standing_first c.volume_with-def.ensures c.minors_at-ef.ensures)
    (standing_first c.volume_with-aef.ensures c.minors_at-ef.ensures)
    (standing_last c.volume_with-adf.ensures c.minors_at-ad.ensures)
    (standing_last c.volume_with-ade.ensures c.minors_at-ad.ensures)
