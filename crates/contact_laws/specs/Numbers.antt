-- Of each of the seven pieces: which of its four volumes sum to the whole, to the time and to each share.
use Prim.Native.Nat.{ℕ, zero, suc, ◌/◌, ◌%◌, min, max}
use Rattle.std.specs.Prelude.{◌≡◌, refl, Bool, true, false, cond, List, [], ◌∷◌, ℤ, neg_ℤ, ◌+ℤ◌, ◌*ℤ◌}
use Rattle.std.proofs.Common.{sym, ap, ◌∙◌, subst}
use Rattle.std.proofs.Math.IntN.{pos}
use Rattle.whole.specs.Vector.{Vector, minus}
use Rattle.whole.specs.Quote.{quotes, ring}
use Rattle.whole.specs.Cramer.{Four, volumes, all}
use Rattle.meaning.specs.Scene.{Scene, start_of, end_of, ends_of, corners_of}
use Rattle.meaning.specs.Pieces.{Event, Piece, starting, ending, moving_point, moving_edge, moving_triangle, piece_of}
use Rattle.meaning.specs.Equations.{one, time_of, total}
use Rattle.meaning.specs.Contacts.{TimeIs, FirstShareIs, SecondShareIs, end_of_point, at_higher_end}
use Rattle.meaning.specs.declared.Ends.{Ends}
use Rattle.meaning.specs.declared.Corners.{Corners}
use Rattle.exact.specs.Volumes.{four}
use Rattle.exact_signs.specs.BySigns.{sum, keep, kept}
use Rattle.theory.specs.Differences.{differences, Form, alone, around, formed}
use Rattle.theory.specs.Spread.{first_numbers, second_numbers, factor, weights_of}
use Rattle.theory.specs.SevenPieces.{Seen, start, end, seen_differences, seen_timely}
use Rattle.theory.specs.Computed.{point_differences, edge_differences}
use Rattle.contact_laws.specs.Solving.{only_of}
use Rattle.contact_laws.specs.Told.{Told, told_same, told_first, told_second, told_time}

-- ---- which of the four count

abbrev pub all_four : Four Bool
all_four = four true true true true

abbrev pub last_three : Four Bool
last_three = four false true true true

-- those at the end, of piece k of a triangle
unfoldable pub point_ends : ℕ → Four Bool
point_ends zero = four false false false true
point_ends (suc zero) = four false false true true
point_ends (suc (suc k)) = four false true true true

abbrev pub four_points : (ℕ → Bool) → Four Bool
four_points counts = four (counts 0) (counts 1) (counts 2) (counts 3)

abbrev pub three_points : (ℕ → Bool) → Four Bool
three_points counts = four false (counts 0) (counts 1) (counts 2)

-- of two edges the third point of the second is at the end in piece B alone
unfoldable pub is_b : ℕ → Bool
is_b zero = false
is_b (suc j) = true

abbrev pub edge_ends : ℕ → Four Bool
edge_ends j = four false false (is_b j) true

-- the share of the first edge: with the point that its piece alone holds
abbrev pub first_ends : ℕ → Four Bool
first_ends j = four true false (is_b j) true

-- that point's number counts with the other sign in piece A
unfoldable pub turned_in : ℕ → Four ℤ → Four ℤ
turned_in zero n = four (neg_ℤ n.v0) n.v1 n.v2 n.v3
turned_in (suc i) n = n

-- ---- what was told of a form, as code has its differences and its sums

told_by : {p : Piece} {Means : ℕ → Type 0} {d d' : Four Vector} → d ≡ d' → (whole part whole' part' : Four ℤ → ℤ) → ((n : Four ℤ) → whole n ≡ whole' n) → ((n : Four ℤ) → part n ≡ part' n) → Told p (whole (volumes d)) (part (volumes d)) Means
    → Told p (whole' (volumes d')) (part' (volumes d')) Means
told_by {p} {Means} {d} {d'} e whole part whole' part' f g t =
    told_same (f (volumes d')) (g (volumes d')) (subst (λ (c : Four Vector). Told p (whole (volumes c)) (part (volumes c)) Means) e t)

keep_cond : (b : Bool) (e : ℤ) → cond b e (pos 0) ≡ keep b e
unfolding keep
keep_cond true e = refl
keep_cond false e = refl

sum_four : (a b c d : ℤ) → a *ℤ pos 1 +ℤ (b *ℤ pos 1 +ℤ (c *ℤ pos 1 +ℤ (d *ℤ pos 1 +ℤ pos 0))) ≡ a +ℤ b +ℤ c +ℤ d
sum_four a b c d = ring (a ∷ b ∷ c ∷ d ∷ []) (search quotes depth 40 fits 9000) refl

sum_three : (a b c : ℤ) → a *ℤ pos 1 +ℤ (b *ℤ pos 1 +ℤ (c *ℤ pos 1 +ℤ pos 0)) ≡ pos 0 +ℤ a +ℤ b +ℤ c
sum_three a b c = ring (a ∷ b ∷ c ∷ []) (search quotes depth 40 fits 9000) refl

whole_four : (n : Four ℤ) → factor alone n ≡ sum (kept all_four n)
unfolding factor keep
whole_four n = refl

whole_three : (i : ℕ) (n : Four ℤ) → factor around n ≡ sum (kept last_three (turned_in i n))
unfolding factor keep turned_in
whole_three zero n = ring (all n) (search quotes depth 40 fits 9000) refl
whole_three (suc i) n = ring (all n) (search quotes depth 40 fits 9000) refl

module _ (p q : Vector) (o : Four Event) (counts : ℕ → Bool) (n : Four ℤ) where
  share_four : total one (only_of counts (weights_of (second_numbers alone n))) (formed alone p q o).second ≡ sum (kept (four_points counts) n)
  unfolding total formed second_numbers
  share_four =
      sum_four (cond (counts 0) n.v0 (pos 0)) (cond (counts 1) n.v1 (pos 0)) (cond (counts 2) n.v2 (pos 0)) (cond (counts 3) n.v3 (pos 0))
      ∙ (λ t. keep_cond (counts 0) n.v0 t +ℤ keep_cond (counts 1) n.v1 t +ℤ keep_cond (counts 2) n.v2 t +ℤ keep_cond (counts 3) n.v3 t)

  share_three : (i : ℕ) → total one (only_of counts (weights_of (second_numbers around n))) (formed around p q o).second ≡ sum (kept (three_points counts) (turned_in i n))
  unfolding total formed second_numbers keep turned_in
  share_three zero =
      sum_three (cond (counts 0) n.v1 (pos 0)) (cond (counts 1) n.v2 (pos 0)) (cond (counts 2) n.v3 (pos 0))
      ∙ (λ t. pos 0 +ℤ keep_cond (counts 0) n.v1 t +ℤ keep_cond (counts 1) n.v2 t +ℤ keep_cond (counts 2) n.v3 t)
  share_three (suc i) =
      sum_three (cond (counts 0) n.v1 (pos 0)) (cond (counts 1) n.v2 (pos 0)) (cond (counts 2) n.v3 (pos 0))
      ∙ (λ t. pos 0 +ℤ keep_cond (counts 0) n.v1 t +ℤ keep_cond (counts 1) n.v2 t +ℤ keep_cond (counts 2) n.v3 t)

module _ (p q : Vector) (o : Four Event) (d : Four Vector) (a0 : Seen p q o.v0 d.v0) (a1 : Seen p q o.v1 d.v1) (a2 : Seen p q o.v2 d.v2) (a3 : Seen p q o.v3 d.v3) where
  abbrev same : differences p q o ≡ d
  same = seen_differences p q o d a0 a1 a2 a3

  abbrev time_in : Form → Four ℤ → ℤ
  time_in form n = total time_of (weights_of (first_numbers form o n)) (formed form p q o).first

  abbrev first_in : (ℕ → Bool) → Four ℤ → ℤ
  first_in counts n = total one (only_of counts (weights_of (first_numbers around o n))) (formed around p q o).first

  abbrev second_in : Form → (ℕ → Bool) → Four ℤ → ℤ
  second_in form counts n = total one (only_of counts (weights_of (second_numbers form n))) (formed form p q o).second

  alone_time : (ends : Four Bool) → ((n : Four ℤ) → time_in alone n ≡ sum (kept ends n)) → Told (formed alone p q o) (sum (kept all_four (volumes d))) (sum (kept ends (volumes d))) (TimeIs (formed alone p q o))
  alone_time ends h =
      told_by same (factor alone) (time_in alone) (λ n. sum (kept all_four n)) (λ n. sum (kept ends n)) whole_four h
      (told_time alone p q o (seen_timely p q o d a0 a1 a2 a3))

  alone_share : (counts : ℕ → Bool) → Told (formed alone p q o) (sum (kept all_four (volumes d))) (sum (kept (four_points counts) (volumes d))) (SecondShareIs (formed alone p q o) counts)
  alone_share counts =
      told_by same (factor alone) (second_in alone counts) (λ n. sum (kept all_four n)) (λ n. sum (kept (four_points counts) n)) whole_four (share_four p q o counts)
      (told_second alone p q o counts)

  module _ (i : ℕ) where
    abbrev whole_in : Four ℤ → ℤ
    whole_in n = sum (kept last_three (turned_in i n))

    abbrev part_in : Four Bool → Four ℤ → ℤ
    part_in flags n = sum (kept flags (turned_in i n))

    around_time : (ends : Four Bool) → ((n : Four ℤ) → time_in around n ≡ part_in ends n) → Told (formed around p q o) (whole_in (volumes d)) (part_in ends (volumes d)) (TimeIs (formed around p q o))
    around_time ends h =
        told_by same (factor around) (time_in around) whole_in (part_in ends) (whole_three i) h (told_time around p q o (seen_timely p q o d a0 a1 a2 a3))

    around_first : (counts : ℕ → Bool) (flags : Four Bool) → ((n : Four ℤ) → first_in counts n ≡ part_in flags n) → Told (formed around p q o) (whole_in (volumes d)) (part_in flags (volumes d)) (FirstShareIs (formed around p q o) counts)
    around_first counts flags h =
        told_by same (factor around) (first_in counts) whole_in (part_in flags) (whole_three i) h (told_first around p q o counts)

    around_second : (counts : ℕ → Bool) → Told (formed around p q o) (whole_in (volumes d)) (part_in (three_points counts) (volumes d)) (SecondShareIs (formed around p q o) counts)
    around_second counts =
        told_by same (factor around) (second_in around counts) whole_in (part_in (three_points counts)) (whole_three i) (λ n. share_three p q o counts n i)
        (told_second around p q o counts)

-- ---- a point and a piece of a triangle

module _ (s : Scene) (p : ℕ) (c : Corners) where
  abbrev ps : List ℤ
  ps = s.positions

  abbrev pub point_piece : ℕ → Piece
  point_piece k = record { first = moving_point ps p; second = moving_triangle ps c k }

  abbrev pub point_four : ℕ → Four ℤ
  point_four k = volumes (point_differences s p c k)

  abbrev o0 : Four Event
  o0 = four (starting ps c.low) (starting ps c.middle) (starting ps c.high) (ending ps c.high)

  abbrev o1 : Four Event
  o1 = four (starting ps c.low) (starting ps c.middle) (ending ps c.middle) (ending ps c.high)

  abbrev o2 : Four Event
  o2 = four (starting ps c.low) (ending ps c.low) (ending ps c.middle) (ending ps c.high)

  pub point_time_lem : (k : ℕ) → Told (point_piece k) (sum (kept all_four (point_four k))) (sum (kept (point_ends k) (point_four k))) (TimeIs (point_piece k))
  unfolding moving_triangle point_differences formed total first_numbers point_ends keep
  point_time_lem zero = alone_time (start_of s p) (end_of s p) o0 _ start start start end (point_ends 0) (λ n. ring (all n) (search quotes depth 40 fits 9000) refl)
  point_time_lem (suc zero) = alone_time (start_of s p) (end_of s p) o1 _ start start end end (point_ends 1) (λ n. ring (all n) (search quotes depth 40 fits 9000) refl)
  point_time_lem (suc (suc k)) = alone_time (start_of s p) (end_of s p) o2 _ start end end end (point_ends 2) (λ n. ring (all n) (search quotes depth 40 fits 9000) refl)

  pub point_share : (k : ℕ) (counts : ℕ → Bool) → Told (point_piece k) (sum (kept all_four (point_four k))) (sum (kept (four_points counts) (point_four k))) (SecondShareIs (point_piece k) counts)
  unfolding moving_triangle point_differences formed
  point_share zero counts = alone_share (start_of s p) (end_of s p) o0 _ start start start end counts
  point_share (suc zero) counts = alone_share (start_of s p) (end_of s p) o1 _ start start end end counts
  point_share (suc (suc k)) counts = alone_share (start_of s p) (end_of s p) o2 _ start end end end counts

-- ---- a piece of an edge and a piece of another

module _ (s : Scene) (e f : Ends) where
  abbrev at : List ℤ
  at = s.positions

  abbrev pub edge_piece : ℕ → ℕ → Piece
  edge_piece i j = record { first = moving_edge at e i; second = moving_edge at f j }

  -- its four volumes, the first one turned round in piece A
  abbrev pub edge_four : ℕ → ℕ → Four ℤ
  edge_four i j = turned_in i (volumes (edge_differences s e i f j))

  abbrev aa : Four Event
  aa = four (starting at e.high) (starting at f.low) (starting at f.high) (ending at f.high)

  abbrev ab : Four Event
  ab = four (starting at e.high) (starting at f.low) (ending at f.low) (ending at f.high)

  abbrev ba : Four Event
  ba = four (ending at e.low) (starting at f.low) (starting at f.high) (ending at f.high)

  abbrev bb : Four Event
  bb = four (ending at e.low) (starting at f.low) (ending at f.low) (ending at f.high)

  pub edge_time_lem : (i j : ℕ) → Told (edge_piece i j) (sum (kept last_three (edge_four i j))) (sum (kept (edge_ends j) (edge_four i j))) (TimeIs (edge_piece i j))
  unfolding moving_edge edge_differences formed total first_numbers is_b keep turned_in
  edge_time_lem zero zero = around_time (start_of s e.low) (end_of s e.high) aa _ start start start end 0 (edge_ends 0) (λ n. ring (all n) (search quotes depth 40 fits 9000) refl)
  edge_time_lem zero (suc j) = around_time (start_of s e.low) (end_of s e.high) ab _ start start end end 0 (edge_ends 1) (λ n. ring (all n) (search quotes depth 40 fits 9000) refl)
  edge_time_lem (suc i) zero = around_time (start_of s e.low) (end_of s e.high) ba _ end start start end 1 (edge_ends 0) (λ n. ring (all n) (search quotes depth 40 fits 9000) refl)
  edge_time_lem (suc i) (suc j) = around_time (start_of s e.low) (end_of s e.high) bb _ end start end end 1 (edge_ends 1) (λ n. ring (all n) (search quotes depth 40 fits 9000) refl)

  pub edge_first : (i j : ℕ) → Told (edge_piece i j) (sum (kept last_three (edge_four i j))) (sum (kept (first_ends j) (edge_four i j))) (FirstShareIs (edge_piece i j) (at_higher_end i))
  unfolding moving_edge edge_differences formed total first_numbers is_b keep turned_in end_of_point
  edge_first zero zero = around_first (start_of s e.low) (end_of s e.high) aa _ start start start end 0 (at_higher_end 0) (first_ends 0) (λ n. ring (all n) (search quotes depth 40 fits 9000) refl)
  edge_first zero (suc j) = around_first (start_of s e.low) (end_of s e.high) ab _ start start end end 0 (at_higher_end 0) (first_ends 1) (λ n. ring (all n) (search quotes depth 40 fits 9000) refl)
  edge_first (suc i) zero = around_first (start_of s e.low) (end_of s e.high) ba _ end start start end 1 (at_higher_end (suc i)) (first_ends 0) (λ n. ring (all n) (search quotes depth 40 fits 9000) refl)
  edge_first (suc i) (suc j) = around_first (start_of s e.low) (end_of s e.high) bb _ end start end end 1 (at_higher_end (suc i)) (first_ends 1) (λ n. ring (all n) (search quotes depth 40 fits 9000) refl)

  pub edge_second : (i j : ℕ) (counts : ℕ → Bool) → Told (edge_piece i j) (sum (kept last_three (edge_four i j))) (sum (kept (three_points counts) (edge_four i j))) (SecondShareIs (edge_piece i j) counts)
  unfolding moving_edge edge_differences formed turned_in
  edge_second zero zero counts = around_second (start_of s e.low) (end_of s e.high) aa _ start start start end 0 counts
  edge_second zero (suc j) counts = around_second (start_of s e.low) (end_of s e.high) ab _ start start end end 0 counts
  edge_second (suc i) zero counts = around_second (start_of s e.low) (end_of s e.high) ba _ end start start end 1 counts
  edge_second (suc i) (suc j) counts = around_second (start_of s e.low) (end_of s e.high) bb _ end start end end 1 counts
