-- A hit pair, and from the numbers of its pieces to its contact.
use Rattle.std.specs.Prelude.{ℕ, zero, suc, ◌+◌, ◌*◌, ◌/◌, ◌%◌, ◌≤◌, ◌<◌, min, max, ◌≡◌, refl, Bool, List, [], ◌∷◌, ℤ, nat_abs, length}
use Rattle.std.proofs.Common.{sym, subst, arith, le_trans}
use Rattle.std.proofs.Math.Bool.{true, false}
use Rattle.whole.specs.Cramer.{Four}
use Rattle.whole.specs.Signs.{nat_abs_positive}
use Rattle.whole.specs.Sizes.{within_neg}
use Rattle.cutting.specs.Cut.{unit, cut_at_most}
use Rattle.meaning.specs.Limits.{contact_limit}
use Rattle.meaning.specs.Scene.{Scene, scene_of, corners_of, ends_of}
use Rattle.meaning.specs.Pieces.{Piece, piece_of, piece_count, moving_point, moving_triangle, moving_edge}
use Rattle.meaning.specs.Verdicts.{PieceIs}
use Rattle.meaning.specs.Contacts.{TimeIs, FirstShareIs, SecondShareIs, corner_of_point, end_of_point, at_corner, at_higher_end}
use Rattle.meaning.specs.WholeContacts.{NotBefore, SharesAre, ContactNumbersAre}
use Rattle.meaning.specs.declared.Kind.TheVariants.{PointTriangle, EdgeEdge}
use Rattle.meaning.specs.declared.Corners.{Corners}
use Rattle.meaning.specs.declared.Ends.{Ends}
use Rattle.meaning.specs.declared.Verdict.{Verdict}
use Rattle.meaning.specs.declared.Verdict.TheVariants.{Hit, Miss, Degenerate}
use Rattle.meaning.specs.declared.ContactNumbers.{ContactNumbers}
use Rattle.exact.specs.Places.{Bounded}
use Rattle.exact.specs.Bounds.{apart_short}
use Rattle.exact.specs.Volumes.{four, four_of, volumes_at, Small, Holds, holds_small, holds_same}
use Rattle.exact.specs.declared.Volumes.{Volumes}
use Rattle.exact_signs.specs.BySigns.{sum, kept, point_verdict, edge_verdict}
use Rattle.exact_shares.specs.InRange.{InRange, Part, volumes_in_range}
use Rattle.theory.specs.Computed.{point_differences, edge_differences}
use Rattle.theory.specs.OneVerdict.{one_piece_verdict}
use Rattle.three_words.specs.Right.{flags, point_held, edges_held}
use Rattle.contact_laws.specs.Told.{Told}
use Rattle.contact_laws.specs.Numbers.{all_four, last_three, point_ends, is_b, turned_in, point_time_lem, point_share, edge_time_lem, edge_first, edge_second}
use Rattle.contact_times.specs.Earliest.{Earliest, number_at, below_three, below_four}
use Rattle.contact_times.specs.Sums.{no_time, PartIfHit, TimeOr, point_time, low_share, middle_share, high_share, PointParts, PointNumbers, edge_time, first_share, second_share, EdgeParts, EdgeNumbers}

-- some piece is hit
pub record PointHits (ps : List ℤ) (p : ℕ) (c : Corners) : Type 0 where
  pub which : ℕ
  pub there : which < 3
  pub has : PieceIs (record { first = moving_point ps p; second = moving_triangle ps c which }) Hit

pub record EdgesHit (ps : List ℤ) (e f : Ends) : Type 0 where
  pub which : ℕ
  pub there : which < 4
  pub has : PieceIs (record { first = moving_edge ps e (which / 2); second = moving_edge ps f (which % 2) }) Hit

-- ---- the time of one piece

-- its time if it is hit, else no time
pub record PieceTime (p : Piece) (n : ℕ) : Type 0 where
  pub verdict : Verdict
  pub is : PieceIs p verdict
  pub hit : PieceIs p Hit → TimeIs p n
  pub small : PieceIs p Hit → n ≤ unit
  pub none : ¬ PieceIs p Hit → n ≡ no_time

abbrev pub ToldIn : Piece → Four Bool → Four Bool → Four ℤ → (ℕ → Type 0) → Type 0
ToldIn p part whole e Means = Told p (sum (kept whole e)) (sum (kept part e)) Means

pub told_part : {p : Piece} {part whole : Four Bool} {e : Four ℤ} {Means : ℕ → Type 0} → ToldIn p part whole e Means → PieceIs p Hit → Part part whole e
told_part t h = record { some = t.some h; fits = t.fits h }

module _ (p : Piece) (w : Verdict) (is : PieceIs p w) where
  pub hit_of : w ≡ Hit → PieceIs p Hit
  hit_of e = subst (PieceIs p) e is

  pub of_hit : PieceIs p Hit → w ≡ Hit
  of_hit h = one_piece_verdict p w Hit is h

  module _ (part whole : Four Bool) (e : Four ℤ) (t : ToldIn p part whole e (TimeIs p)) where
    pub part_if_hit : PartIfHit w part whole e
    part_if_hit h = told_part t (hit_of h)

    pub piece_time : (n : ℕ) → TimeOr w part whole e n → PieceTime p n
    piece_time n o = record {
      verdict = w;
      is = is;
      hit = λ h. t.means h n (o.hit (of_hit h));
      small = λ h. cut_at_most _ (nat_abs (sum (kept whole e))) n (nat_abs_positive _ (t.some h)) (t.fits h) (o.hit (of_hit h));
      none = λ h. o.none (λ e. h (hit_of e));
    }

-- what is not larger than a time is a hit piece's
time_of_hit : (p : Piece) (n : ℕ) → PieceTime p n → n ≤ unit → PieceIs p Hit
time_of_hit p n t small = go t.verdict t.is
  where
    not_so : (w : Verdict) → PieceIs p w → ¬ (w ≡ Hit) → ⊥
    not_so w is other =
        let e : n ≡ no_time = t.none (λ h. other (one_piece_verdict p w Hit is h)) in
        omega arith

    go : (w : Verdict) → PieceIs p w → PieceIs p Hit
    go Hit is = is
    go Miss is = absurd (not_so Miss is (λ e. miss_no_hit e))
      where
        miss_no_hit : Miss ≡ Hit → ⊥
        miss_no_hit e = let z : ◌≡◌ {A = ℕ} 0 1 = cc in omega arith
    go Degenerate is = absurd (not_so Degenerate is (λ e. degenerate_no_hit e))
      where
        degenerate_no_hit : Degenerate ≡ Hit → ⊥
        degenerate_no_hit e = let z : ◌≡◌ {A = ℕ} 0 1 = cc in omega arith

-- ---- the piece that is hit first

module _ (pieces : ℕ → Piece) (l : List ℕ) (e : ℕ) (first : Earliest l e) (times : (q : ℕ) → q < length l → PieceTime (pieces q) (number_at l q)) where
  pub first_hit : (which : ℕ) → which < length l → PieceIs (pieces which) Hit → PieceIs (pieces e) Hit
  first_hit which there has =
      time_of_hit (pieces e) (number_at l e) (times e first.there) (le_trans (first.least which there) ((times which there).small has))

  pub first_time : PieceIs (pieces e) Hit → TimeIs (pieces e) (number_at l e)
  first_time h = (times e first.there).hit h

  pub none_before : (q : ℕ) → q < length l → PieceIs (pieces q) Hit → NotBefore (pieces q) q e (number_at l e)
  none_before q h hit =
      record { number = number_at l q; time = (times q h).hit hit; not_smaller = first.least q h; lowest = first.lowest q h }

-- ---- of a point and a triangle

-- a scene with these positions
abbrev bare : List ℤ → Scene
bare ps = scene_of ps [] [] []

abbrev pub point_at : List ℤ → ℕ → Corners → ℕ → Piece
point_at ps p c q = record { first = moving_point ps p; second = moving_triangle ps c q }

-- what is known of piece q and of its volumes, as the machine holds them
pub record PointKnown (early late : Bool) (p : Piece) (q : ℕ) (v : Volumes) : Type 0 where
  pub small : Small v
  pub range : InRange (four_of v)
  pub is : PieceIs p (point_verdict (four_of v))
  pub time : ToldIn p (point_time early late) all_four (four_of v) (TimeIs p)
  pub low : ToldIn p (low_share early late) all_four (four_of v) (SecondShareIs p (at_corner q 0))
  pub middle : ToldIn p (middle_share early late) all_four (four_of v) (SecondShareIs p (at_corner q 1))
  pub high : ToldIn p (high_share early late) all_four (four_of v) (SecondShareIs p (at_corner q 2))

module _ (ps : List ℤ) (b : Bounded contact_limit ps) (p : ℕ) (c : Corners) where
  range_of : {v : Volumes} (o base : Four ℕ) → Holds v (volumes_at ps o base) → InRange (four_of v)
  range_of o base h =
      subst InRange (sym (holds_same h))
      (volumes_in_range _ (apart_short b o.v0 base.v0) (apart_short b o.v1 base.v1) (apart_short b o.v2 base.v2) (apart_short b o.v3 base.v3))

  told_held : {piece : Piece} {e : Four ℤ} {v : Volumes} (part whole : Four Bool) {Means : ℕ → Type 0} → Holds v e → ToldIn piece part whole e Means → ToldIn piece part whole (four_of v) Means
  told_held {piece} part whole {Means} h t = subst (λ (e : Four ℤ). ToldIn piece part whole e Means) (sym (holds_same h)) t

  pub point_known_0 : {v : Volumes} → Holds v (volumes_at ps (four (6 * c.low) (6 * c.middle) (6 * c.high) (6 * c.high + 3)) (four (6 * p) (6 * p) (6 * p) (6 * p + 3)))
      → PointKnown true false (point_at ps p c 0) 0 v
  unfolding point_differences point_ends corner_of_point
  point_known_0 {v} h = record {
    small = holds_small h;
    range = range_of _ _ h;
    is = point_held (bare ps) p c 0 (point_verdict (four_of v)) h refl;
    time = told_held (point_time true false) all_four h (point_time_lem (bare ps) p c 0);
    low = told_held (low_share true false) all_four h (point_share (bare ps) p c 0 (at_corner 0 0));
    middle = told_held (middle_share true false) all_four h (point_share (bare ps) p c 0 (at_corner 0 1));
    high = told_held (high_share true false) all_four h (point_share (bare ps) p c 0 (at_corner 0 2));
  }

  pub point_known_1 : {v : Volumes} → Holds v (volumes_at ps (four (6 * c.low) (6 * c.middle) (6 * c.middle + 3) (6 * c.high + 3)) (four (6 * p) (6 * p) (6 * p + 3) (6 * p + 3)))
      → PointKnown false false (point_at ps p c 1) 1 v
  unfolding point_differences point_ends corner_of_point
  point_known_1 {v} h = record {
    small = holds_small h;
    range = range_of _ _ h;
    is = point_held (bare ps) p c 1 (point_verdict (four_of v)) h refl;
    time = told_held (point_time false false) all_four h (point_time_lem (bare ps) p c 1);
    low = told_held (low_share false false) all_four h (point_share (bare ps) p c 1 (at_corner 1 0));
    middle = told_held (middle_share false false) all_four h (point_share (bare ps) p c 1 (at_corner 1 1));
    high = told_held (high_share false false) all_four h (point_share (bare ps) p c 1 (at_corner 1 2));
  }

  pub point_known_2 : {v : Volumes} → Holds v (volumes_at ps (four (6 * c.low) (6 * c.low + 3) (6 * c.middle + 3) (6 * c.high + 3)) (four (6 * p) (6 * p + 3) (6 * p + 3) (6 * p + 3)))
      → PointKnown false true (point_at ps p c 2) 2 v
  unfolding point_differences point_ends corner_of_point
  point_known_2 {v} h = record {
    small = holds_small h;
    range = range_of _ _ h;
    is = point_held (bare ps) p c 2 (point_verdict (four_of v)) h refl;
    time = told_held (point_time false true) all_four h (point_time_lem (bare ps) p c 2);
    low = told_held (low_share false true) all_four h (point_share (bare ps) p c 2 (at_corner 2 0));
    middle = told_held (middle_share false true) all_four h (point_share (bare ps) p c 2 (at_corner 2 1));
    high = told_held (high_share false true) all_four h (point_share (bare ps) p c 2 (at_corner 2 2));
  }

module _ {early late : Bool} {p : Piece} {q : ℕ} {v : Volumes} (k : PointKnown early late p q v) where
  pub point_asked : PartIfHit (point_verdict (four_of v)) (point_time early late) all_four (four_of v)
  point_asked = part_if_hit p (point_verdict (four_of v)) k.is (point_time early late) all_four (four_of v) k.time

  pub point_timed : (n : ℕ) → TimeOr (point_verdict (four_of v)) (point_time early late) all_four (four_of v) n → PieceTime p n
  point_timed = piece_time p (point_verdict (four_of v)) k.is (point_time early late) all_four (four_of v) k.time

  pub point_parts : PieceIs p Hit → PointParts early late (four_of v)
  point_parts h = record { low = told_part k.low h; middle = told_part k.middle h; high = told_part k.high h }

-- the contact, by the pieces of these corners
pub record PointContactNumbers (ps : List ℤ) (p : ℕ) (c : Corners) (m : ContactNumbers) : Type 0 where
  pub there : m.piece < 3
  pub hit : PieceIs (point_at ps p c m.piece) Hit
  pub time : TimeIs (point_at ps p c m.piece) m.k
  pub low : SecondShareIs (point_at ps p c m.piece) (at_corner m.piece 0) m.first
  pub middle : SecondShareIs (point_at ps p c m.piece) (at_corner m.piece 1) m.second
  pub high : SecondShareIs (point_at ps p c m.piece) (at_corner m.piece 2) m.third
  pub smallest : (q : ℕ) → q < 3 → PieceIs (point_at ps p c q) Hit → NotBefore (point_at ps p c q) q m.piece m.k

point_here : (s : Scene) (p j : ℕ) (m : ContactNumbers) → PointContactNumbers s.positions p (corners_of s j) m → ContactNumbersAre s PointTriangle p j m
unfolding piece_of piece_count SharesAre
point_here s p j m h =
    record { there = h.there; hit = h.hit; time = h.time; shares = (h.low, h.middle, h.high); smallest = h.smallest }

pub point_contact_numbers_is : (ps : List ℤ) (p : ℕ) (c : Corners) (m : ContactNumbers) → PointContactNumbers ps p c m → (s : Scene) (j : ℕ) → s.positions ≡ ps → corners_of s j ≡ c → ContactNumbersAre s PointTriangle p j m
point_contact_numbers_is ps p c m h s j same corners =
    point_here s p j m
    (subst (λ (qs : List ℤ). PointContactNumbers qs p (corners_of s j) m) (sym same) (subst (λ (d : Corners). PointContactNumbers ps p d m) (sym corners) h))

-- the three together, and which of them is first
pub record PointTimes (ps : List ℤ) (p : ℕ) (c : Corners) (a b d e : ℕ) : Type 0 where
  pub first : Earliest (a ∷ b ∷ d ∷ []) e
  pub times : (q : ℕ) → q < 3 → PieceTime (point_at ps p c q) (number_at (a ∷ b ∷ d ∷ []) q)
  pub hit : PointHits ps p c

pub point_times : {ps : List ℤ} {p : ℕ} {c : Corners} {a b d e : ℕ} → Earliest (a ∷ b ∷ d ∷ []) e → PieceTime (point_at ps p c 0) a → PieceTime (point_at ps p c 1) b → PieceTime (point_at ps p c 2) d → PointHits ps p c
    → PointTimes ps p c a b d e
point_times {ps} {p} {c} {a} {b} {d} f x y z h =
    record { first = f; times = below_three (λ q. PieceTime (point_at ps p c q) (number_at (a ∷ b ∷ d ∷ []) q)) x y z; hit = h }

module _ {ps : List ℤ} {p : ℕ} {c : Corners} {a b d e : ℕ} (t : PointTimes ps p c a b d e) where
  pub point_hit : PieceIs (point_at ps p c e) Hit
  point_hit = first_hit (point_at ps p c) (a ∷ b ∷ d ∷ []) e t.first t.times t.hit.which t.hit.there t.hit.has

  -- the hit piece's numbers make the contact
  pub point_met : (early late : Bool) {v : Volumes} {m : ContactNumbers} → PointKnown early late (point_at ps p c e) e v → PointNumbers early late (four_of v) e (number_at (a ∷ b ∷ d ∷ []) e) m
      → PointContactNumbers ps p c m
  point_met early late {v} {m} k n =
      record {
        there = rw n.same_piece t.first.there;
        hit = rw n.same_piece point_hit;
        time = rw (n.same_piece, n.same_k) (first_time (point_at ps p c) (a ∷ b ∷ d ∷ []) e t.first t.times point_hit);
        low = rw n.same_piece (k.low.means point_hit m.first n.low);
        middle = rw n.same_piece (k.middle.means point_hit m.second n.middle);
        high = rw n.same_piece (k.high.means point_hit m.third n.high);
        smallest = rw (n.same_piece, n.same_k) (none_before (point_at ps p c) (a ∷ b ∷ d ∷ []) e t.first t.times);
      }

-- ---- of two edges

abbrev pub edges_at : List ℤ → Ends → Ends → ℕ → Piece
edges_at ps e f q = record { first = moving_edge ps e (q / 2); second = moving_edge ps f (q % 2) }

pub record EdgesKnown (b later : Bool) (p : Piece) (i j : ℕ) (v w : Volumes) : Type 0 where
  pub small : Small v
  pub small_turned : Small w
  pub range : InRange (four_of w)
  pub is : PieceIs p (edge_verdict (four b false later true) (four_of v))
  pub time : ToldIn p (edge_time later) last_three (four_of w) (TimeIs p)
  pub one : ToldIn p (first_share later) last_three (four_of w) (FirstShareIs p (at_higher_end i))
  pub other : ToldIn p (second_share later) last_three (four_of w) (SecondShareIs p (at_higher_end j))

turned_in_range : (i : ℕ) {n : Four ℤ} → InRange n → InRange (turned_in i n)
unfolding turned_in
turned_in_range zero h = record { in0 = within_neg h.in0; in1 = h.in1; in2 = h.in2; in3 = h.in3 }
turned_in_range (suc i) h = h

-- the volumes as they count: the first turned round in piece A
held_turned : (i : ℕ) {n : Four ℤ} {v w : Volumes} → Holds v n → Holds w (turned_in i (four_of v)) → Holds w (turned_in i n)
held_turned i {n} {v} {w} h k = subst (λ (e : Four ℤ). Holds w (turned_in i e)) (holds_same h) k

module _ (ps : List ℤ) (b : Bounded contact_limit ps) (e f : Ends) where
  in_range_lem : (o base : Four ℕ) → InRange (volumes_at ps o base)
  in_range_lem o base =
      volumes_in_range _ (apart_short b o.v0 base.v0) (apart_short b o.v1 base.v1) (apart_short b o.v2 base.v2) (apart_short b o.v3 base.v3)

  told_as : {piece : Piece} {n : Four ℤ} {w : Volumes} (part whole : Four Bool) {Means : ℕ → Type 0} → Holds w n → ToldIn piece part whole n Means → ToldIn piece part whole (four_of w) Means
  told_as {piece} part whole {Means} h t = subst (λ (e : Four ℤ). ToldIn piece part whole e Means) (sym (holds_same h)) t

  ranged : {n : Four ℤ} {w : Volumes} → Holds w n → InRange n → InRange (four_of w)
  ranged h r = subst InRange (sym (holds_same h)) r

  pub edges_known_aa : {v w : Volumes} → Holds v (volumes_at ps (four (6 * e.high) (6 * f.low) (6 * f.high) (6 * f.high + 3)) (four (6 * e.low) (6 * e.low) (6 * e.low) (6 * e.high + 3)))
      → Holds w (turned_in 0 (four_of v)) → EdgesKnown false false (edges_at ps e f 0) 0 0 v w
  unfolding edge_differences flags is_b end_of_point
  edges_known_aa {v} {w} h k =
      let t = held_turned 0 h k in
      record {
        small = holds_small h;
        small_turned = holds_small t;
        range = ranged t (turned_in_range 0 (in_range_lem _ _));
        is = edges_held (bare ps) e 0 f 0 (edge_verdict (four false false false true) (four_of v)) h refl;
        time = told_as (edge_time false) last_three t (edge_time_lem (bare ps) e f 0 0);
        one = told_as (first_share false) last_three t (edge_first (bare ps) e f 0 0);
        other = told_as (second_share false) last_three t (edge_second (bare ps) e f 0 0 (at_higher_end 0));
      }

  pub edges_known_ab : {v w : Volumes} → Holds v (volumes_at ps (four (6 * e.high) (6 * f.low) (6 * f.low + 3) (6 * f.high + 3)) (four (6 * e.low) (6 * e.low) (6 * e.high + 3) (6 * e.high + 3)))
      → Holds w (turned_in 0 (four_of v)) → EdgesKnown false true (edges_at ps e f 1) 0 1 v w
  unfolding edge_differences flags is_b end_of_point
  edges_known_ab {v} {w} h k =
      let t = held_turned 0 h k in
      record {
        small = holds_small h;
        small_turned = holds_small t;
        range = ranged t (turned_in_range 0 (in_range_lem _ _));
        is = edges_held (bare ps) e 0 f 1 (edge_verdict (four false false true true) (four_of v)) h refl;
        time = told_as (edge_time true) last_three t (edge_time_lem (bare ps) e f 0 1);
        one = told_as (first_share true) last_three t (edge_first (bare ps) e f 0 1);
        other = told_as (second_share true) last_three t (edge_second (bare ps) e f 0 1 (at_higher_end 1));
      }

  pub edges_known_ba : {v : Volumes} → Holds v (volumes_at ps (four (6 * e.low + 3) (6 * f.low) (6 * f.high) (6 * f.high + 3)) (four (6 * e.high + 3) (6 * e.low) (6 * e.low) (6 * e.high + 3)))
      → EdgesKnown true false (edges_at ps e f 2) 1 0 v v
  unfolding edge_differences flags is_b end_of_point turned_in
  edges_known_ba {v} h =
      record {
        small = holds_small h;
        small_turned = holds_small h;
        range = ranged h (in_range_lem _ _);
        is = edges_held (bare ps) e 1 f 0 (edge_verdict (four true false false true) (four_of v)) h refl;
        time = told_as (edge_time false) last_three h (edge_time_lem (bare ps) e f 1 0);
        one = told_as (first_share false) last_three h (edge_first (bare ps) e f 1 0);
        other = told_as (second_share false) last_three h (edge_second (bare ps) e f 1 0 (at_higher_end 0));
      }

  pub edges_known_bb : {v : Volumes} → Holds v (volumes_at ps (four (6 * e.low + 3) (6 * f.low) (6 * f.low + 3) (6 * f.high + 3)) (four (6 * e.high + 3) (6 * e.low) (6 * e.high + 3) (6 * e.high + 3)))
      → EdgesKnown true true (edges_at ps e f 3) 1 1 v v
  unfolding edge_differences flags is_b end_of_point turned_in
  edges_known_bb {v} h =
      record {
        small = holds_small h;
        small_turned = holds_small h;
        range = ranged h (in_range_lem _ _);
        is = edges_held (bare ps) e 1 f 1 (edge_verdict (four true false true true) (four_of v)) h refl;
        time = told_as (edge_time true) last_three h (edge_time_lem (bare ps) e f 1 1);
        one = told_as (first_share true) last_three h (edge_first (bare ps) e f 1 1);
        other = told_as (second_share true) last_three h (edge_second (bare ps) e f 1 1 (at_higher_end 1));
      }

module _ {b later : Bool} {p : Piece} {i j : ℕ} {v w : Volumes} (k : EdgesKnown b later p i j v w) where
  pub edges_asked : PartIfHit (edge_verdict (four b false later true) (four_of v)) (edge_time later) last_three (four_of w)
  edges_asked = part_if_hit p (edge_verdict (four b false later true) (four_of v)) k.is (edge_time later) last_three (four_of w) k.time

  pub edges_timed : (n : ℕ) → TimeOr (edge_verdict (four b false later true) (four_of v)) (edge_time later) last_three (four_of w) n → PieceTime p n
  edges_timed = piece_time p (edge_verdict (four b false later true) (four_of v)) k.is (edge_time later) last_three (four_of w) k.time

  pub edges_parts : PieceIs p Hit → EdgeParts later (four_of w)
  edges_parts h = record { one = told_part k.one h; other = told_part k.other h }

pub record EdgesContactNumbers (ps : List ℤ) (e f : Ends) (m : ContactNumbers) : Type 0 where
  pub there : m.piece < 4
  pub hit : PieceIs (edges_at ps e f m.piece) Hit
  pub time : TimeIs (edges_at ps e f m.piece) m.k
  pub one : FirstShareIs (edges_at ps e f m.piece) (at_higher_end (m.piece / 2)) m.first
  pub other : SecondShareIs (edges_at ps e f m.piece) (at_higher_end (m.piece % 2)) m.second
  pub nothing : m.third ≡ 0
  pub smallest : (q : ℕ) → q < 4 → PieceIs (edges_at ps e f q) Hit → NotBefore (edges_at ps e f q) q m.piece m.k

edges_here : (s : Scene) (i j : ℕ) (m : ContactNumbers) → EdgesContactNumbers s.positions (ends_of s (min i j)) (ends_of s (max i j)) m → ContactNumbersAre s EdgeEdge i j m
unfolding piece_of piece_count SharesAre
edges_here s i j m h =
    record { there = h.there; hit = h.hit; time = h.time; shares = (h.one, h.other, h.nothing); smallest = h.smallest }

pub edges_contact_numbers_is : (ps : List ℤ) (e f : Ends) (m : ContactNumbers) → EdgesContactNumbers ps e f m → (s : Scene) (i j : ℕ) → s.positions ≡ ps → ends_of s (min i j) ≡ e → ends_of s (max i j) ≡ f → ContactNumbersAre s EdgeEdge i j m
edges_contact_numbers_is ps e f m h s i j same low high =
    edges_here s i j m
    (subst (λ (qs : List ℤ). EdgesContactNumbers qs (ends_of s (min i j)) (ends_of s (max i j)) m) (sym same)
    (subst (λ (g : Ends). EdgesContactNumbers ps g (ends_of s (max i j)) m) (sym low) (subst (λ (g : Ends). EdgesContactNumbers ps e g m) (sym high) h)))

pub record EdgesTimes (ps : List ℤ) (e f : Ends) (a b c d x : ℕ) : Type 0 where
  pub first : Earliest (a ∷ b ∷ c ∷ d ∷ []) x
  pub times : (q : ℕ) → q < 4 → PieceTime (edges_at ps e f q) (number_at (a ∷ b ∷ c ∷ d ∷ []) q)
  pub hit : EdgesHit ps e f

pub edges_times : {ps : List ℤ} {e f : Ends} {a b c d x : ℕ} → Earliest (a ∷ b ∷ c ∷ d ∷ []) x → PieceTime (edges_at ps e f 0) a → PieceTime (edges_at ps e f 1) b → PieceTime (edges_at ps e f 2) c → PieceTime (edges_at ps e f 3) d → EdgesHit ps e f
    → EdgesTimes ps e f a b c d x
edges_times {ps} {e} {f} {a} {b} {c} {d} g t u v w h =
    record { first = g; times = below_four (λ q. PieceTime (edges_at ps e f q) (number_at (a ∷ b ∷ c ∷ d ∷ []) q)) t u v w; hit = h }

module _ {ps : List ℤ} {e f : Ends} {a b c d x : ℕ} (t : EdgesTimes ps e f a b c d x) where
  pub edges_hit : PieceIs (edges_at ps e f x) Hit
  edges_hit = first_hit (edges_at ps e f) (a ∷ b ∷ c ∷ d ∷ []) x t.first t.times t.hit.which t.hit.there t.hit.has

  pub edges_met : (z later : Bool) {v w : Volumes} {m : ContactNumbers} → EdgesKnown z later (edges_at ps e f x) (x / 2) (x % 2) v w → EdgeNumbers later (four_of w) x (number_at (a ∷ b ∷ c ∷ d ∷ []) x) m
      → EdgesContactNumbers ps e f m
  edges_met z later {v} {w} {m} k n =
      record {
        there = rw n.same_piece t.first.there;
        hit = rw n.same_piece edges_hit;
        time = rw (n.same_piece, n.same_k) (first_time (edges_at ps e f) (a ∷ b ∷ c ∷ d ∷ []) x t.first t.times edges_hit);
        one = rw n.same_piece (k.one.means edges_hit m.first n.one);
        other = rw n.same_piece (k.other.means edges_hit m.second n.other);
        nothing = n.nothing;
        smallest = rw (n.same_piece, n.same_k) (none_before (edges_at ps e f) (a ∷ b ∷ c ∷ d ∷ []) x t.first t.times);
      }
