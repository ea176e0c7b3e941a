-- The contact of a pair, computed: each pair has one, and it is this.
use Prim.Native.Nat.{ℕ, zero, suc, ◌+◌, ◌*◌, ◌/◌, ◌%◌, ◌≤◌, ◌<◌, min, max}
use Rattle.std.proofs.Common.{mod-lt, div-add-mod', add-mul, arith, sym, ap, ◌∙◌, leb-true, leb-false}
use Rattle.std.specs.Prelude.{◌≡◌, refl, ◌↔◌, Bool, List, [], ◌∷◌, leb, ℤ, nat_abs, length}
use Rattle.std.proofs.Math.Path.{subst}
use Rattle.std.proofs.Math.Bool.{true, false}
use Rattle.whole.specs.Cramer.{Four}
use Rattle.whole.specs.Signs.{nat_abs_positive}
use Rattle.cutting.specs.Cut.{unit, CutTo, cut_at_most}
use Rattle.meaning.specs.Scene.{Scene, corners_of, ends_of}
use Rattle.meaning.specs.Pieces.{Piece, piece_of, piece_count}
use Rattle.meaning.specs.Verdicts.{PieceIs}
use Rattle.meaning.specs.Resting.{PieceSettled, PairSettled}
use Rattle.meaning.specs.Contacts.{TimeIs, at_corner, at_higher_end}
use Rattle.meaning.specs.WholeContacts.{SharesAre, ContactNumbersAre, WholeContactIs}
use Rattle.meaning.specs.declared.Kind.{Kind}
use Rattle.meaning.specs.declared.Kind.TheVariants.{PointTriangle, EdgeEdge}
use Rattle.meaning.specs.declared.Verdict as Verdicts
use Rattle.meaning.specs.declared.Verdict.{Verdict}
use Rattle.meaning.specs.declared.Settled as Settleds
use Rattle.meaning.specs.declared.Settled.{Settled}
use Rattle.meaning.specs.declared.ContactNumbers.{ContactNumbers}
use Rattle.meaning.specs.declared.WholeContact.{WholeContact}
use Rattle.meaning.specs.declared.WholeContact.TheVariants.{Hit, Miss, Touch, Apart}
use Rattle.exact_signs.specs.BySigns.{sum, kept}
use Rattle.theory.specs.Computed.{piece_verdict}
use Rattle.theory.proofs.SevenPieces.{judged_piece}
use Rattle.theory.specs.OneVerdict.{one_piece_verdict}
use Rattle.contact_laws.specs.Told.{Told}
use Rattle.contact_laws.specs.Numbers.{all_four, last_three, point_ends, four_points, three_points, edge_ends, first_ends, point_four, edge_four, point_time_lem, point_share, edge_time_lem, edge_first, edge_second}
use Rattle.contact_times.specs.Earliest.{Earliest, number_at, below_three, below_four}
use Rattle.contact_times.specs.Sums.{no_time}
use Rattle.contact_times.specs.Hits.{PieceTime, first_hit, none_before}
use Rattle.corner_search.specs.Decided.{pair_word, settled_pair}
use Rattle.contact_entries.specs.OneContact.{one_contact_numbers, one_whole_contact}

-- ---- a number cut

abbrev pub cut_of : ℕ → ℕ → ℕ
cut_of part whole = unit * part / whole

cut_of_is : (part whole : ℕ) → 0 < whole → CutTo part whole (cut_of part whole)
cut_of_is part whole h =
    let e : cut_of part whole * whole + unit * part % whole ≡ unit * part = div-add-mod' (unit * part) whole in
    let l : unit * part % whole < whole = mod-lt (unit * part) h in
    let m : (cut_of part whole + 1) * whole ≡ cut_of part whole * whole + 1 * whole = add-mul (cut_of part whole) 1 whole in
    record { not_above = omega arith; near = omega arith }

abbrev pub cut_in : Four Bool → Four Bool → Four ℤ → ℕ
cut_in part whole e = cut_of (nat_abs (sum (kept part e))) (nat_abs (sum (kept whole e)))

module _ {p : Piece} (part whole : Four Bool) (e : Four ℤ) {Means : ℕ → Type 0} (t : Told p (sum (kept whole e)) (sum (kept part e)) Means) (h : PieceIs p Verdict.Hit) where
  cut_in_lem : CutTo (nat_abs (sum (kept part e))) (nat_abs (sum (kept whole e))) (cut_in part whole e)
  cut_in_lem = cut_of_is _ _ (nat_abs_positive _ (t.some h))

  told_cut : Means (cut_in part whole e)
  told_cut = t.means h _ cut_in_lem

  told_small : cut_in part whole e ≤ unit
  told_small = cut_at_most _ (nat_abs (sum (kept whole e))) _ (nat_abs_positive _ (t.some h)) (t.fits h) cut_in_lem

-- ---- the numbers of a piece, if it is hit

unfoldable pub contact_numbers_at : Scene → Kind → ℕ → ℕ → ℕ → ContactNumbers
contact_numbers_at s PointTriangle i j q = record {
  piece = q;
  k = cut_in (point_ends q) all_four (point_four s i (corners_of s j) q);
  first = cut_in (four_points (at_corner q 0)) all_four (point_four s i (corners_of s j) q);
  second = cut_in (four_points (at_corner q 1)) all_four (point_four s i (corners_of s j) q);
  third = cut_in (four_points (at_corner q 2)) all_four (point_four s i (corners_of s j) q);
}
contact_numbers_at s EdgeEdge i j q = record {
  piece = q;
  k = cut_in (edge_ends (q % 2)) last_three (edge_four s (ends_of s (min i j)) (ends_of s (max i j)) (q / 2) (q % 2));
  first = cut_in (first_ends (q % 2)) last_three (edge_four s (ends_of s (min i j)) (ends_of s (max i j)) (q / 2) (q % 2));
  second = cut_in (three_points (at_higher_end (q % 2))) last_three (edge_four s (ends_of s (min i j)) (ends_of s (max i j)) (q / 2) (q % 2));
  third = 0;
}

at_piece : (s : Scene) (kind : Kind) (i j q : ℕ) → (contact_numbers_at s kind i j q).piece ≡ q
unfolding contact_numbers_at
at_piece s PointTriangle i j q = refl
at_piece s EdgeEdge i j q = refl

at_time : (s : Scene) (kind : Kind) (i j q : ℕ) → PieceIs (piece_of s kind i j q) Verdict.Hit → TimeIs (piece_of s kind i j q) (contact_numbers_at s kind i j q).k
unfolding contact_numbers_at piece_of
at_time s PointTriangle i j q h = told_cut _ _ _ (point_time_lem s i (corners_of s j) q) h
at_time s EdgeEdge i j q h = told_cut _ _ _ (edge_time_lem s (ends_of s (min i j)) (ends_of s (max i j)) (q / 2) (q % 2)) h

at_small : (s : Scene) (kind : Kind) (i j q : ℕ) → PieceIs (piece_of s kind i j q) Verdict.Hit → (contact_numbers_at s kind i j q).k ≤ unit
unfolding contact_numbers_at piece_of
at_small s PointTriangle i j q h = told_small _ _ _ (point_time_lem s i (corners_of s j) q) h
at_small s EdgeEdge i j q h = told_small _ _ _ (edge_time_lem s (ends_of s (min i j)) (ends_of s (max i j)) (q / 2) (q % 2)) h

at_shares : (s : Scene) (kind : Kind) (i j q : ℕ) → PieceIs (piece_of s kind i j q) Verdict.Hit → SharesAre s kind i j (contact_numbers_at s kind i j q)
unfolding contact_numbers_at piece_of SharesAre
at_shares s PointTriangle i j q h =
    (told_cut _ _ _ (point_share s i (corners_of s j) q (at_corner q 0)) h, told_cut _ _ _ (point_share s i (corners_of s j) q (at_corner q 1)) h, told_cut _ _ _ (point_share s i (corners_of s j) q (at_corner q 2)) h)
at_shares s EdgeEdge i j q h =
    (told_cut _ _ _ (edge_first s (ends_of s (min i j)) (ends_of s (max i j)) (q / 2) (q % 2)) h, told_cut _ _ _ (edge_second s (ends_of s (min i j)) (ends_of s (max i j)) (q / 2) (q % 2) (at_higher_end (q % 2))) h, refl)

-- each number is at most 2^20
pub record SmallNumbers (m : ContactNumbers) : Type 0 where
  pub k_small : m.k ≤ unit
  pub first_small : m.first ≤ unit
  pub second_small : m.second ≤ unit
  pub third_small : m.third ≤ unit

at_all_small : (s : Scene) (kind : Kind) (i j q : ℕ) → PieceIs (piece_of s kind i j q) Verdict.Hit → SmallNumbers (contact_numbers_at s kind i j q)
unfolding contact_numbers_at piece_of
at_all_small s PointTriangle i j q h = record {
  k_small = told_small _ _ _ (point_time_lem s i (corners_of s j) q) h;
  first_small = told_small _ _ _ (point_share s i (corners_of s j) q (at_corner q 0)) h;
  second_small = told_small _ _ _ (point_share s i (corners_of s j) q (at_corner q 1)) h;
  third_small = told_small _ _ _ (point_share s i (corners_of s j) q (at_corner q 2)) h;
}
at_all_small s EdgeEdge i j q h = record {
  k_small = told_small _ _ _ (edge_time_lem s (ends_of s (min i j)) (ends_of s (max i j)) (q / 2) (q % 2)) h;
  first_small = told_small _ _ _ (edge_first s (ends_of s (min i j)) (ends_of s (max i j)) (q / 2) (q % 2)) h;
  second_small = told_small _ _ _ (edge_second s (ends_of s (min i j)) (ends_of s (max i j)) (q / 2) (q % 2) (at_higher_end (q % 2))) h;
  third_small = omega arith;
}

-- ---- the earliest

unfoldable pub time_by : Verdict → ℕ → ℕ
time_by Verdicts.TheVariants.Hit k = k
time_by Verdicts.TheVariants.Miss k = no_time
time_by Verdicts.TheVariants.Degenerate k = no_time

abbrev pub time_at : Scene → Kind → ℕ → ℕ → ℕ → ℕ
time_at s kind i j q = time_by (piece_verdict s kind i j q) (contact_numbers_at s kind i j q).k

piece_timed : (s : Scene) (kind : Kind) (i j q : ℕ) → PieceTime (piece_of s kind i j q) (time_at s kind i j q)
unfolding time_by
piece_timed s kind i j q = go (piece_verdict s kind i j q) (judged_piece s kind i j q)
  where
    p : Piece
    p = piece_of s kind i j q

    not_hit : (v : Verdict) → PieceIs p v → ¬ (v ≡ Verdict.Hit) → PieceTime p no_time
    not_hit v is other = record {
      verdict = v;
      is = is;
      hit = λ h. absurd (other (one_piece_verdict p v Verdict.Hit is h));
      small = λ h. absurd (other (one_piece_verdict p v Verdict.Hit is h));
      none = λ h. refl;
    }

    go : (v : Verdict) → PieceIs p v → PieceTime p (time_by v (contact_numbers_at s kind i j q).k)
    go Verdicts.TheVariants.Hit is = record {
      verdict = Verdict.Hit;
      is = is;
      hit = λ h. at_time s kind i j q h;
      small = λ h. at_small s kind i j q h;
      none = λ h. absurd (h is);
    }
    go Verdicts.TheVariants.Miss is = not_hit Verdict.Miss is (λ e. let z : ◌≡◌ {A = ℕ} 0 1 = cc in omega arith)
    go Verdicts.TheVariants.Degenerate is = not_hit Verdict.Degenerate is (λ e. let z : ◌≡◌ {A = ℕ} 0 1 = cc in omega arith)

-- the place of the smallest, on a tie the lowest
unfoldable pub later : Bool → ℕ → ℕ
later true e = 0
later false e = suc e

unfoldable pub earliest_of : List ℕ → ℕ
earliest_of [] = 0
earliest_of (x ∷ []) = 0
earliest_of (x ∷ y ∷ l) = later (leb x (number_at (y ∷ l) (earliest_of (y ∷ l)))) (earliest_of (y ∷ l))

earliest_of_one : (x : ℕ) → Earliest (x ∷ []) 0
earliest_of_one x = record { there = omega arith; least = only; lowest = λ q h k. absurd (omega arith) }
  where
    only : (q : ℕ) → q < 1 → x ≤ number_at (x ∷ []) q
    only zero h = omega arith
    only (suc q) h = absurd (omega arith)

module _ (x : ℕ) (l : List ℕ) (e : ℕ) (rest : Earliest l e) where
  earliest_here : leb x (number_at l e) ≡ true → Earliest (x ∷ l) 0
  earliest_here h = record { there = omega arith; least = least_now; lowest = λ q k n. absurd (omega arith) }
    where
      least_now : (q : ℕ) → q < length (x ∷ l) → x ≤ number_at (x ∷ l) q
      least_now zero k = omega arith
      least_now (suc q) k = let a = leb-true x (number_at l e) h in let b = rest.least q (omega arith) in omega arith

  earliest_later : leb x (number_at l e) ≡ false → Earliest (x ∷ l) (suc e)
  earliest_later h = record { there = omega (arith, rest.there); least = least_now; lowest = lowest_now }
    where
      less : number_at l e < x
      less = leb-false x (number_at l e) h

      least_now : (q : ℕ) → q < length (x ∷ l) → number_at l e ≤ number_at (x ∷ l) q
      least_now zero k = omega (arith, less)
      least_now (suc q) k = rest.least q (omega arith)

      lowest_now : (q : ℕ) → q < length (x ∷ l) → q < suc e → number_at l e < number_at (x ∷ l) q
      lowest_now zero k n = less
      lowest_now (suc q) k n = rest.lowest q (omega arith) (omega arith)

  earliest_step : (b : Bool) → leb x (number_at l e) ≡ b → Earliest (x ∷ l) (later b e)
  unfolding later
  earliest_step true h = earliest_here h
  earliest_step false h = earliest_later h

earliest_is : (x : ℕ) (l : List ℕ) → Earliest (x ∷ l) (earliest_of (x ∷ l))
unfolding earliest_of
earliest_is x [] = earliest_of_one x
earliest_is x (y ∷ l) = earliest_step x (y ∷ l) (earliest_of (y ∷ l)) (earliest_is y l) (leb x (number_at (y ∷ l) (earliest_of (y ∷ l)))) refl

unfoldable pub times_of : Scene → Kind → ℕ → ℕ → List ℕ
times_of s PointTriangle i j = time_at s PointTriangle i j 0 ∷ time_at s PointTriangle i j 1 ∷ time_at s PointTriangle i j 2 ∷ []
times_of s EdgeEdge i j = time_at s EdgeEdge i j 0 ∷ time_at s EdgeEdge i j 1 ∷ time_at s EdgeEdge i j 2 ∷ time_at s EdgeEdge i j 3 ∷ []

abbrev pub first_piece : Scene → Kind → ℕ → ℕ → ℕ
first_piece s kind i j = earliest_of (times_of s kind i j)

times_long : (s : Scene) (kind : Kind) (i j : ℕ) → length (times_of s kind i j) ≡ piece_count kind
unfolding times_of piece_count
times_long s PointTriangle i j = refl
times_long s EdgeEdge i j = refl

times_first : (s : Scene) (kind : Kind) (i j : ℕ) → Earliest (times_of s kind i j) (first_piece s kind i j)
unfolding times_of
times_first s PointTriangle i j = earliest_is _ _
times_first s EdgeEdge i j = earliest_is _ _

times_are : (s : Scene) (kind : Kind) (i j q : ℕ) → q < length (times_of s kind i j) → PieceTime (piece_of s kind i j q) (number_at (times_of s kind i j) q)
unfolding times_of
times_are s PointTriangle i j =
    below_three (λ q. PieceTime (piece_of s PointTriangle i j q) (number_at (times_of s PointTriangle i j) q))
    (piece_timed s PointTriangle i j 0) (piece_timed s PointTriangle i j 1) (piece_timed s PointTriangle i j 2)
times_are s EdgeEdge i j =
    below_four (λ q. PieceTime (piece_of s EdgeEdge i j q) (number_at (times_of s EdgeEdge i j) q))
    (piece_timed s EdgeEdge i j 0) (piece_timed s EdgeEdge i j 1) (piece_timed s EdgeEdge i j 2) (piece_timed s EdgeEdge i j 3)

-- ---- the contact

abbrev pub contact_numbers_of : Scene → Kind → ℕ → ℕ → ContactNumbers
contact_numbers_of s kind i j = contact_numbers_at s kind i j (first_piece s kind i j)

-- of a hit piece the time is its own number
hit_number : (s : Scene) (kind : Kind) (i j q : ℕ) → PieceIs (piece_of s kind i j q) Verdict.Hit → time_at s kind i j q ≡ (contact_numbers_at s kind i j q).k
unfolding time_by
hit_number s kind i j q h = go (piece_verdict s kind i j q) (one_piece_verdict (piece_of s kind i j q) (piece_verdict s kind i j q) Verdict.Hit (judged_piece s kind i j q) h)
  where
    go : (v : Verdict) → v ≡ Verdict.Hit → time_by v (contact_numbers_at s kind i j q).k ≡ (contact_numbers_at s kind i j q).k
    go v e = ap (λ (w : Verdict). time_by w (contact_numbers_at s kind i j q).k) e

number_at_lem : (s : Scene) (kind : Kind) (i j q : ℕ) → q < length (times_of s kind i j) → number_at (times_of s kind i j) q ≡ time_at s kind i j q
unfolding times_of
number_at_lem s PointTriangle i j = below_three (λ q. number_at (times_of s PointTriangle i j) q ≡ time_at s PointTriangle i j q) refl refl refl
number_at_lem s EdgeEdge i j = below_four (λ q. number_at (times_of s EdgeEdge i j) q ≡ time_at s EdgeEdge i j q) refl refl refl refl

module _ (s : Scene) (kind : Kind) (i j : ℕ) where
  pub contact_numbers_of_lem : PairSettled s kind i j Settled.Hit → ContactNumbersAre s kind i j (contact_numbers_of s kind i j)
  unfolding PairSettled PieceSettled
  contact_numbers_of_lem h =
      let e : ℕ = first_piece s kind i j in
      let f = times_first s kind i j in
      let hit = first_hit (piece_of s kind i j) (times_of s kind i j) e f (times_are s kind i j) h.which (rw (times_long s kind i j) h.there) h.has in
      let k : number_at (times_of s kind i j) e ≡ (contact_numbers_of s kind i j).k = number_at_lem s kind i j e f.there ∙ hit_number s kind i j e hit in
      record {
        there = rw (at_piece s kind i j e) (subst (λ (n : ℕ). e < n) (times_long s kind i j) f.there);
        hit = rw (at_piece s kind i j e) hit;
        time = rw (at_piece s kind i j e) (at_time s kind i j e hit);
        shares = at_shares s kind i j e hit;
        smallest = λ q there is. rw (at_piece s kind i j e, ← k) (none_before (piece_of s kind i j) (times_of s kind i j) e f (times_are s kind i j) q (rw (times_long s kind i j) there) is);
      }

-- a hit pair has a contact
pub record HasContact (s : Scene) (kind : Kind) (i j : ℕ) : Type 0 where
  pub numbers : ContactNumbers
  pub is : ContactNumbersAre s kind i j numbers

module _ (s : Scene) (kind : Kind) (i j : ℕ) where
  pub hit_has_contact : PairSettled s kind i j Settled.Hit → HasContact s kind i j
  hit_has_contact h = record { numbers = contact_numbers_of s kind i j; is = contact_numbers_of_lem s kind i j h }

  pub contact_small : (m : ContactNumbers) → ContactNumbersAre s kind i j m → SmallNumbers m
  unfolding PairSettled PieceSettled
  contact_small m h =
      let c = contact_numbers_of_lem s kind i j (record { which = m.piece; there = h.there; has = h.hit }) in
      subst SmallNumbers (sym (one_contact_numbers s kind i j m (contact_numbers_of s kind i j) h c))
      (at_all_small s kind i j (first_piece s kind i j) (subst (λ (q : ℕ). PieceIs (piece_of s kind i j q) Verdict.Hit) (at_piece s kind i j (first_piece s kind i j)) c.hit))

unfoldable pub by_word : Settled → ContactNumbers → WholeContact
by_word Settleds.TheVariants.Hit m = Hit m
by_word Settleds.TheVariants.Miss m = Miss
by_word Settleds.TheVariants.Touch m = Touch
by_word Settleds.TheVariants.Apart m = Apart

unfoldable pub whole_contact_of : Scene → Kind → ℕ → ℕ → WholeContact
whole_contact_of s kind i j = by_word (pair_word s kind i j) (contact_numbers_of s kind i j)

module _ (s : Scene) (kind : Kind) (i j : ℕ) where
  pub met_pair : WholeContactIs s kind i j (whole_contact_of s kind i j)
  unfolding whole_contact_of by_word WholeContactIs
  met_pair = go (pair_word s kind i j) (settled_pair s kind i j)
    where
      go : (w : Settled) → PairSettled s kind i j w → WholeContactIs s kind i j (by_word w (contact_numbers_of s kind i j))
      go Settleds.TheVariants.Hit h = contact_numbers_of_lem s kind i j h
      go Settleds.TheVariants.Miss h = h
      go Settleds.TheVariants.Touch h = h
      go Settleds.TheVariants.Apart h = h

  -- the contact of a pair: this one, and no other
  pub whole_contact_is : (m : WholeContact) → WholeContactIs s kind i j m ↔ (m ≡ whole_contact_of s kind i j)
  whole_contact_is m = (λ h. one_whole_contact s kind i j m (whole_contact_of s kind i j) h met_pair, λ e. subst (WholeContactIs s kind i j) (sym e) met_pair)
