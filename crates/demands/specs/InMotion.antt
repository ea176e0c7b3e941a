-- Shown cases in straight motion, of which only the cull speaks: what the table lists as hit touches in motion too, at the start (case 4),
-- at the end (case 3) and half-way (cases 1, 8 and 9), and so such pairs are not culled.
use Rattle.std.specs.Prelude.{refl}
use Rattle.std.proofs.Common.{arith}
use Rattle.meaning.specs.Motion.{TouchInMotion}
use Rattle.meaning.proofs.InMotion.{point_touches_at, edges_touch_at, point_touches_at_start, point_touches_at_end}
use Rattle.demands.specs.Table.{Case, numbered}

abbrev pub TouchesInMotion : Case → Type 0
TouchesInMotion c = TouchInMotion c.scene c.kind c.first c.second

-- (1,1,0) has the weights 2, 1, 1 of the corners
pub case4_at_start : TouchesInMotion (numbered 4)
case4_at_start = point_touches_at_start (numbered 4).scene 3 0 (record { a = 2; b = 1; c = 1; some = omega arith; place = refl })

pub case3_at_end : TouchesInMotion (numbered 3)
case3_at_end = point_touches_at_end (numbered 3).scene 3 0 (record { a = 2; b = 1; c = 1; some = omega arith; place = refl })

pub case1_half_way : TouchesInMotion (numbered 1)
case1_half_way = point_touches_at (numbered 1).scene 1 2 3 0 (omega arith) (omega arith) (record { a = 2; b = 1; c = 1; some = omega arith; place = refl })

-- a corner of the triangle is a place of it
pub case8_half_way : TouchesInMotion (numbered 8)
case8_half_way = point_touches_at (numbered 8).scene 1 2 3 0 (omega arith) (omega arith) (record { a = 0; b = 1; c = 0; some = omega arith; place = refl })

pub case9_half_way : TouchesInMotion (numbered 9)
case9_half_way =
    edges_touch_at (numbered 9).scene 1 2 0 1 (omega arith) (omega arith) (record { a = 1; b = 1; c = 1; d = 1; some = omega arith; sums = refl; place = refl })
