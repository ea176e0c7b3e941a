-- The piece that is hit first: its volumes are the point's against the triangle's piece, and its numbers are cut from their sums.
use mathlib.Core.Path.{◌≡◌}
use mathlib.Core.Bool.{true, false}
use native.Mathlib.Omega.{arith}
use Rattle.three_words.specs.Ready.{moving}
use Rattle.contact_times.specs.Hits.{point_known_0, point_known_1, point_known_2, point_asked, point_timed, point_parts, point_times, point_hit, point_met, point_contact_numbers_is}
use Rattle.contact_times.proofs.point_contact_numbers.Goals as goal

pub point_time-a-requires : goal.point_time-a-requires
point_time-a-requires c =
    let s = c in
    let k = point_known_0 s.args.positions.now s.requires.1 s.args.p s.args.c c.point_pieces-v.ensures.holds0 in
    (k.small, k.range, point_asked k)

pub point_time-b-requires : goal.point_time-b-requires
point_time-b-requires c =
    let s = c in
    let k = point_known_1 s.args.positions.now s.requires.1 s.args.p s.args.c c.point_pieces-v.ensures.holds1 in
    (k.small, k.range, point_asked k)

pub point_time-d-requires : goal.point_time-d-requires
point_time-d-requires c =
    let s = c in
    let k = point_known_2 s.args.positions.now s.requires.1 s.args.p s.args.c c.point_pieces-v.ensures.holds2 in
    (k.small, k.range, point_asked k)

pub point_numbers-requires : goal.point_numbers-requires
point_numbers-requires c =
    let m = c in
    let s = m in
    let w = m.point_pieces-v.ensures in
    let k0 = point_known_0 s.args.positions.now s.requires.1 s.args.p s.args.c w.holds0 in
    let k1 = point_known_1 s.args.positions.now s.requires.1 s.args.p s.args.c w.holds1 in
    let k2 = point_known_2 s.args.positions.now s.requires.1 s.args.p s.args.c w.holds2 in
    let is : m.of_three-piece.result ≡ 0 = c.if-piece-eq0.true in
    let t = point_times (rw is at m.of_three-piece.ensures) (point_timed k0 _ m.point_time-a.ensures) (point_timed k1 _ m.point_time-b.ensures) (point_timed k2 _ m.point_time-d.ensures) s.requires.2 in
    (k0.small, k0.range, point_parts k0 (point_hit t))

pub returns-then-piece-eq0 : goal.returns-then-piece-eq0
returns-then-piece-eq0 c =
    let m = c in
    let s = m in
    let w = m.point_pieces-v.ensures in
    let k0 = point_known_0 s.args.positions.now s.requires.1 s.args.p s.args.c w.holds0 in
    let k1 = point_known_1 s.args.positions.now s.requires.1 s.args.p s.args.c w.holds1 in
    let k2 = point_known_2 s.args.positions.now s.requires.1 s.args.p s.args.c w.holds2 in
    let is : m.of_three-piece.result ≡ 0 = c.if-piece-eq0.true in
    let t = point_times (rw is at m.of_three-piece.ensures) (point_timed k0 _ m.point_time-a.ensures) (point_timed k1 _ m.point_time-b.ensures) (point_timed k2 _ m.point_time-d.ensures) s.requires.2 in
    point_contact_numbers_is s.args.positions.now s.args.p s.args.c _ (point_met t true false k0 c.point_numbers.ensures)

pub point_numbers-requires-then-piece-eq1 : goal.point_numbers-requires-then-piece-eq1
point_numbers-requires-then-piece-eq1 c =
    let m = c in
    let s = m in
    let w = m.point_pieces-v.ensures in
    let k0 = point_known_0 s.args.positions.now s.requires.1 s.args.p s.args.c w.holds0 in
    let k1 = point_known_1 s.args.positions.now s.requires.1 s.args.p s.args.c w.holds1 in
    let k2 = point_known_2 s.args.positions.now s.requires.1 s.args.p s.args.c w.holds2 in
    let is : m.of_three-piece.result ≡ 1 = c.if-piece-eq1.true in
    let t = point_times (rw is at m.of_three-piece.ensures) (point_timed k0 _ m.point_time-a.ensures) (point_timed k1 _ m.point_time-b.ensures) (point_timed k2 _ m.point_time-d.ensures) s.requires.2 in
    (k1.small, k1.range, point_parts k1 (point_hit t))

pub returns-then-piece-eq1 : goal.returns-then-piece-eq1
returns-then-piece-eq1 c =
    let m = c in
    let s = m in
    let w = m.point_pieces-v.ensures in
    let k0 = point_known_0 s.args.positions.now s.requires.1 s.args.p s.args.c w.holds0 in
    let k1 = point_known_1 s.args.positions.now s.requires.1 s.args.p s.args.c w.holds1 in
    let k2 = point_known_2 s.args.positions.now s.requires.1 s.args.p s.args.c w.holds2 in
    let is : m.of_three-piece.result ≡ 1 = c.if-piece-eq1.true in
    let t = point_times (rw is at m.of_three-piece.ensures) (point_timed k0 _ m.point_time-a.ensures) (point_timed k1 _ m.point_time-b.ensures) (point_timed k2 _ m.point_time-d.ensures) s.requires.2 in
    point_contact_numbers_is s.args.positions.now s.args.p s.args.c _ (point_met t false false k1 c.point_numbers-then-piece-eq1.ensures)

pub point_numbers-requires-2 : goal.point_numbers-requires-2
point_numbers-requires-2 c =
    let m = c in
    let s = m in
    let w = m.point_pieces-v.ensures in
    let k0 = point_known_0 s.args.positions.now s.requires.1 s.args.p s.args.c w.holds0 in
    let k1 = point_known_1 s.args.positions.now s.requires.1 s.args.p s.args.c w.holds1 in
    let k2 = point_known_2 s.args.positions.now s.requires.1 s.args.p s.args.c w.holds2 in
    let is : m.of_three-piece.result ≡ 2 = omega (arith, m.of_three-piece.ensures.there, c.if-piece-eq1.false, c.if-piece-eq0.false) in
    let t = point_times (rw is at m.of_three-piece.ensures) (point_timed k0 _ m.point_time-a.ensures) (point_timed k1 _ m.point_time-b.ensures) (point_timed k2 _ m.point_time-d.ensures) s.requires.2 in
    (k2.small, k2.range, point_parts k2 (point_hit t))

pub returns : goal.returns
returns c =
    let m = c in
    let s = m in
    let w = m.point_pieces-v.ensures in
    let k0 = point_known_0 s.args.positions.now s.requires.1 s.args.p s.args.c w.holds0 in
    let k1 = point_known_1 s.args.positions.now s.requires.1 s.args.p s.args.c w.holds1 in
    let k2 = point_known_2 s.args.positions.now s.requires.1 s.args.p s.args.c w.holds2 in
    let is : m.of_three-piece.result ≡ 2 = omega (arith, m.of_three-piece.ensures.there, c.if-piece-eq1.false, c.if-piece-eq0.false) in
    let t = point_times (rw is at m.of_three-piece.ensures) (point_timed k0 _ m.point_time-a.ensures) (point_timed k1 _ m.point_time-b.ensures) (point_timed k2 _ m.point_time-d.ensures) s.requires.2 in
    point_contact_numbers_is s.args.positions.now s.args.p s.args.c _ (point_met t false true k2 c.point_numbers-2.ensures)

pub point_pieces-v-requires : goal.point_pieces-v-requires
point_pieces-v-requires c = let r = c.requires.0 in (moving r.point, moving r.low, moving r.middle, moving r.high, r.bounded)
