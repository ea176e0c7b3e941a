-- The piece that is hit first: its volumes are the two edges', and its numbers are cut from their sums, the first turned round in piece A.
use mathlib.Core.Path.{◌≡◌}
use mathlib.Core.Bool.{true, false}
use native.Mathlib.Omega.{arith}
use Rattle.exact.specs.Volumes.{holds_small}
use Rattle.three_words.specs.Ready.{moving}
use Rattle.contact_times.specs.Hits.{edges_known_aa, edges_known_ab, edges_known_ba, edges_known_bb, edges_asked, edges_timed, edges_parts, edges_times, edges_hit, edges_met, edges_contact_numbers_is}
use Rattle.contact_times.proofs.edges_contact_numbers.Goals as goal

pub edge_time-a-requires : goal.edge_time-a-requires
edge_time-a-requires c =
    let s = c in
    let w = c.edge_pieces-v.ensures in
    let k = edges_known_aa s.args.positions.now s.requires.1 s.args.first s.args.second w.holds0 c.turn_first-aa_turned.ensures in
    (k.small, k.small_turned, k.range, edges_asked k)

pub edge_time-b-requires : goal.edge_time-b-requires
edge_time-b-requires c =
    let s = c in
    let w = c.edge_pieces-v.ensures in
    let k = edges_known_ab s.args.positions.now s.requires.1 s.args.first s.args.second w.holds1 c.turn_first-ab_turned.ensures in
    (k.small, k.small_turned, k.range, edges_asked k)

pub edge_time-c-requires : goal.edge_time-c-requires
edge_time-c-requires c =
    let s = c in
    let w = c.edge_pieces-v.ensures in
    let k = edges_known_ba s.args.positions.now s.requires.1 s.args.first s.args.second w.holds2 in
    (k.small, k.small_turned, k.range, edges_asked k)

pub edge_time-d-requires : goal.edge_time-d-requires
edge_time-d-requires c =
    let s = c in
    let w = c.edge_pieces-v.ensures in
    let k = edges_known_bb s.args.positions.now s.requires.1 s.args.first s.args.second w.holds3 in
    (k.small, k.small_turned, k.range, edges_asked k)

pub edge_numbers-requires : goal.edge_numbers-requires
edge_numbers-requires c =
    let m = c in
    let s = m in
    let w = m.edge_pieces-v.ensures in
    let k0 = edges_known_aa s.args.positions.now s.requires.1 s.args.first s.args.second w.holds0 m.turn_first-aa_turned.ensures in
    let k1 = edges_known_ab s.args.positions.now s.requires.1 s.args.first s.args.second w.holds1 m.turn_first-ab_turned.ensures in
    let k2 = edges_known_ba s.args.positions.now s.requires.1 s.args.first s.args.second w.holds2 in
    let k3 = edges_known_bb s.args.positions.now s.requires.1 s.args.first s.args.second w.holds3 in
    let is : m.of_four-piece.result ≡ 0 = c.if-piece-eq0.true in
    let t = edges_times (rw is at m.of_four-piece.ensures) (edges_timed k0 _ m.edge_time-a.ensures) (edges_timed k1 _ m.edge_time-b.ensures) (edges_timed k2 _ m.edge_time-c.ensures) (edges_timed k3 _ m.edge_time-d.ensures) s.requires.2 in
    (k0.small_turned, k0.range, edges_parts k0 (edges_hit t))

pub returns-then-piece-eq0 : goal.returns-then-piece-eq0
returns-then-piece-eq0 c =
    let m = c in
    let s = m in
    let w = m.edge_pieces-v.ensures in
    let k0 = edges_known_aa s.args.positions.now s.requires.1 s.args.first s.args.second w.holds0 m.turn_first-aa_turned.ensures in
    let k1 = edges_known_ab s.args.positions.now s.requires.1 s.args.first s.args.second w.holds1 m.turn_first-ab_turned.ensures in
    let k2 = edges_known_ba s.args.positions.now s.requires.1 s.args.first s.args.second w.holds2 in
    let k3 = edges_known_bb s.args.positions.now s.requires.1 s.args.first s.args.second w.holds3 in
    let is : m.of_four-piece.result ≡ 0 = c.if-piece-eq0.true in
    let t = edges_times (rw is at m.of_four-piece.ensures) (edges_timed k0 _ m.edge_time-a.ensures) (edges_timed k1 _ m.edge_time-b.ensures) (edges_timed k2 _ m.edge_time-c.ensures) (edges_timed k3 _ m.edge_time-d.ensures) s.requires.2 in
    edges_contact_numbers_is s.args.positions.now s.args.first s.args.second _ (edges_met t false false k0 c.edge_numbers.ensures)

pub edge_numbers-requires-then-piece-eq1 : goal.edge_numbers-requires-then-piece-eq1
edge_numbers-requires-then-piece-eq1 c =
    let m = c in
    let s = m in
    let w = m.edge_pieces-v.ensures in
    let k0 = edges_known_aa s.args.positions.now s.requires.1 s.args.first s.args.second w.holds0 m.turn_first-aa_turned.ensures in
    let k1 = edges_known_ab s.args.positions.now s.requires.1 s.args.first s.args.second w.holds1 m.turn_first-ab_turned.ensures in
    let k2 = edges_known_ba s.args.positions.now s.requires.1 s.args.first s.args.second w.holds2 in
    let k3 = edges_known_bb s.args.positions.now s.requires.1 s.args.first s.args.second w.holds3 in
    let is : m.of_four-piece.result ≡ 1 = c.if-piece-eq1.true in
    let t = edges_times (rw is at m.of_four-piece.ensures) (edges_timed k0 _ m.edge_time-a.ensures) (edges_timed k1 _ m.edge_time-b.ensures) (edges_timed k2 _ m.edge_time-c.ensures) (edges_timed k3 _ m.edge_time-d.ensures) s.requires.2 in
    (k1.small_turned, k1.range, edges_parts k1 (edges_hit t))

pub returns-then-piece-eq1 : goal.returns-then-piece-eq1
returns-then-piece-eq1 c =
    let m = c in
    let s = m in
    let w = m.edge_pieces-v.ensures in
    let k0 = edges_known_aa s.args.positions.now s.requires.1 s.args.first s.args.second w.holds0 m.turn_first-aa_turned.ensures in
    let k1 = edges_known_ab s.args.positions.now s.requires.1 s.args.first s.args.second w.holds1 m.turn_first-ab_turned.ensures in
    let k2 = edges_known_ba s.args.positions.now s.requires.1 s.args.first s.args.second w.holds2 in
    let k3 = edges_known_bb s.args.positions.now s.requires.1 s.args.first s.args.second w.holds3 in
    let is : m.of_four-piece.result ≡ 1 = c.if-piece-eq1.true in
    let t = edges_times (rw is at m.of_four-piece.ensures) (edges_timed k0 _ m.edge_time-a.ensures) (edges_timed k1 _ m.edge_time-b.ensures) (edges_timed k2 _ m.edge_time-c.ensures) (edges_timed k3 _ m.edge_time-d.ensures) s.requires.2 in
    edges_contact_numbers_is s.args.positions.now s.args.first s.args.second _ (edges_met t false true k1 c.edge_numbers-then-piece-eq1.ensures)

pub edge_numbers-requires-then-piece-eq2 : goal.edge_numbers-requires-then-piece-eq2
edge_numbers-requires-then-piece-eq2 c =
    let m = c in
    let s = m in
    let w = m.edge_pieces-v.ensures in
    let k0 = edges_known_aa s.args.positions.now s.requires.1 s.args.first s.args.second w.holds0 m.turn_first-aa_turned.ensures in
    let k1 = edges_known_ab s.args.positions.now s.requires.1 s.args.first s.args.second w.holds1 m.turn_first-ab_turned.ensures in
    let k2 = edges_known_ba s.args.positions.now s.requires.1 s.args.first s.args.second w.holds2 in
    let k3 = edges_known_bb s.args.positions.now s.requires.1 s.args.first s.args.second w.holds3 in
    let is : m.of_four-piece.result ≡ 2 = c.if-piece-eq2.true in
    let t = edges_times (rw is at m.of_four-piece.ensures) (edges_timed k0 _ m.edge_time-a.ensures) (edges_timed k1 _ m.edge_time-b.ensures) (edges_timed k2 _ m.edge_time-c.ensures) (edges_timed k3 _ m.edge_time-d.ensures) s.requires.2 in
    (k2.small_turned, k2.range, edges_parts k2 (edges_hit t))

pub returns-then-piece-eq2 : goal.returns-then-piece-eq2
returns-then-piece-eq2 c =
    let m = c in
    let s = m in
    let w = m.edge_pieces-v.ensures in
    let k0 = edges_known_aa s.args.positions.now s.requires.1 s.args.first s.args.second w.holds0 m.turn_first-aa_turned.ensures in
    let k1 = edges_known_ab s.args.positions.now s.requires.1 s.args.first s.args.second w.holds1 m.turn_first-ab_turned.ensures in
    let k2 = edges_known_ba s.args.positions.now s.requires.1 s.args.first s.args.second w.holds2 in
    let k3 = edges_known_bb s.args.positions.now s.requires.1 s.args.first s.args.second w.holds3 in
    let is : m.of_four-piece.result ≡ 2 = c.if-piece-eq2.true in
    let t = edges_times (rw is at m.of_four-piece.ensures) (edges_timed k0 _ m.edge_time-a.ensures) (edges_timed k1 _ m.edge_time-b.ensures) (edges_timed k2 _ m.edge_time-c.ensures) (edges_timed k3 _ m.edge_time-d.ensures) s.requires.2 in
    edges_contact_numbers_is s.args.positions.now s.args.first s.args.second _ (edges_met t true false k2 c.edge_numbers-then-piece-eq2.ensures)

pub edge_numbers-requires-2 : goal.edge_numbers-requires-2
edge_numbers-requires-2 c =
    let m = c in
    let s = m in
    let w = m.edge_pieces-v.ensures in
    let k0 = edges_known_aa s.args.positions.now s.requires.1 s.args.first s.args.second w.holds0 m.turn_first-aa_turned.ensures in
    let k1 = edges_known_ab s.args.positions.now s.requires.1 s.args.first s.args.second w.holds1 m.turn_first-ab_turned.ensures in
    let k2 = edges_known_ba s.args.positions.now s.requires.1 s.args.first s.args.second w.holds2 in
    let k3 = edges_known_bb s.args.positions.now s.requires.1 s.args.first s.args.second w.holds3 in
    let is : m.of_four-piece.result ≡ 3 = omega (arith, m.of_four-piece.ensures.there, c.if-piece-eq2.false, c.if-piece-eq1.false, c.if-piece-eq0.false) in
    let t = edges_times (rw is at m.of_four-piece.ensures) (edges_timed k0 _ m.edge_time-a.ensures) (edges_timed k1 _ m.edge_time-b.ensures) (edges_timed k2 _ m.edge_time-c.ensures) (edges_timed k3 _ m.edge_time-d.ensures) s.requires.2 in
    (k3.small_turned, k3.range, edges_parts k3 (edges_hit t))

pub returns : goal.returns
returns c =
    let m = c in
    let s = m in
    let w = m.edge_pieces-v.ensures in
    let k0 = edges_known_aa s.args.positions.now s.requires.1 s.args.first s.args.second w.holds0 m.turn_first-aa_turned.ensures in
    let k1 = edges_known_ab s.args.positions.now s.requires.1 s.args.first s.args.second w.holds1 m.turn_first-ab_turned.ensures in
    let k2 = edges_known_ba s.args.positions.now s.requires.1 s.args.first s.args.second w.holds2 in
    let k3 = edges_known_bb s.args.positions.now s.requires.1 s.args.first s.args.second w.holds3 in
    let is : m.of_four-piece.result ≡ 3 = omega (arith, m.of_four-piece.ensures.there, c.if-piece-eq2.false, c.if-piece-eq1.false, c.if-piece-eq0.false) in
    let t = edges_times (rw is at m.of_four-piece.ensures) (edges_timed k0 _ m.edge_time-a.ensures) (edges_timed k1 _ m.edge_time-b.ensures) (edges_timed k2 _ m.edge_time-c.ensures) (edges_timed k3 _ m.edge_time-d.ensures) s.requires.2 in
    edges_contact_numbers_is s.args.positions.now s.args.first s.args.second _ (edges_met t true true k3 c.edge_numbers-2.ensures)

pub edge_pieces-v-requires : goal.edge_pieces-v-requires
edge_pieces-v-requires c = let r = c.requires.0 in (moving r.low, moving r.high, moving r.other_low, moving r.other_high, r.bounded)

pub turn_first-aa_turned-requires : goal.turn_first-aa_turned-requires
turn_first-aa_turned-requires c = holds_small c.edge_pieces-v.ensures.holds0

pub turn_first-ab_turned-requires : goal.turn_first-ab_turned-requires
turn_first-ab_turned-requires c = holds_small c.edge_pieces-v.ensures.holds1
