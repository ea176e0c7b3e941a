-- What the corners left say by themselves is right.
use Prim.Native.Nat.{ℕ, zero, suc, ◌+◌, ◌<◌}
use Rattle.std.proofs.Common.{arith, sym, ◌∙◌, subst, inl, inr}
use Rattle.std.specs.Prelude.{◌≡◌, ◌≢◌, ◌↔◌, ◌⊎◌, Bool, not, cond, ◌&&◌, ◌||◌, List, ◌++◌, pos, ◌-ℤ◌, length}
use Rattle.std.proofs.Math.Path.{refl, ap}
use Rattle.std.proofs.Math.Logic.{⊎_elim}
use Rattle.std.proofs.Math.Bool.{true, false}
use Rattle.std.proofs.Math.Dec.{T, ltb}
use Rattle.std.proofs.Math.IntN.{ℤ}
use Rattle.std.proofs.Math.Facts.{and_yes, yes_and, or_yes}
use Rattle.whole.specs.Cramer.{Four, each, weigh, volumes, dot4, Place, p0, p1, p2, p3, pick}
use Rattle.meaning.specs.Pieces.{Event}
use Rattle.exact_signs.specs.BySigns.{sum, kept}
use Rattle.exact_signs.specs.BySignsLaws.{clock, sum_starts, sum_ends}
use Rattle.exact_signs.specs.OneWay.{one_way, zero_but, all_not_below}
use Rattle.theory.specs.Spread.{start_share, end_share}
use Rattle.corner_leaf.specs.declared.SixPoints.{SixPoints}
use Rattle.corner_leaf.specs.declared.Leaf.{Leaf}
use Rattle.corner_leaf.specs.declared.Leaf.TheVariants.{Yes, No, Open}
use Rattle.corner_laws.specs.Left.{TouchIn}
use Rattle.corner_laws.specs.Leave.{Leaves}
use Rattle.corner_laws.specs.Others.{others_of}
use Rattle.corner_laws.specs.Slots.{event_in, others_in, differences_in, pick_each}
use Rattle.corner_laws.specs.Filled.{filled, NoneOut, same_weigh, filled_round}
use Rattle.corner_laws.specs.Candidate.{InPlace, Fits, must_fit, may_touch, at_most_one}
use Rattle.corner_laws.specs.Dependent.{Some, Vanish}
use Rattle.corner_laws.specs.Flat.{zero_or}
use Rattle.corner_laws.specs.Opened.{open_leaves, open_not_one}
use Rattle.corner_laws.specs.AtMostOne.{AtMostOne}
use Rattle.corner_leaf.specs.Points.{at_end, is_left, piece_at, TouchLeft, Timed, six_at, first_long}
use Rattle.corner_leaf.specs.Answer.{same_bool, seen_from, slots_at, none, fitting, judged_in, judged_by, judged_open, turn_of, otherwise, leaf_of, base_of}
use Rattle.corner_leaf.specs.Base.{base_is, based, preferred}
use Rattle.corner_leaf.specs.Seen.{four_seen}
use Rattle.corner_leaf.specs.Tests.{Along, along_is, zero_but_is}

-- yes: there are weights; no: there are none; open: where there are, one more corner can be left out
unfoldable pub LeafIs : List ℤ → SixPoints → List Bool → Leaf → Type 0
LeafIs ps six left Yes = TouchLeft ps six left
LeafIs ps six left No = ¬ TouchLeft ps six left
LeafIs ps six left Open = TouchLeft ps six left → Leaves (piece_at ps six).first (piece_at ps six).second (is_left left)

none_at : (k : Place) → pick k none ≡ false
none_at p0 = refl
none_at p1 = refl
none_at p2 = refl
none_at p3 = refl

-- not all are 0
some_of : (n : Four ℤ) → zero_but none n ≡ false → Some n
some_of n e = go (zero_or n.v0) (zero_or n.v1) (zero_or n.v2) (zero_or n.v3)
  where
    Or : ℤ → Type 0
    Or z = (z ≡ pos 0) ⊎ (z ≢ pos 0)

    all_zero : n.v0 ≡ pos 0 → n.v1 ≡ pos 0 → n.v2 ≡ pos 0 → n.v3 ≡ pos 0 → (k : Place) → pick k n ≡ pos 0
    all_zero w x y z p0 = w
    all_zero w x y z p1 = x
    all_zero w x y z p2 = y
    all_zero w x y z p3 = z

    go : Or n.v0 → Or n.v1 → Or n.v2 → Or n.v3 → Some n
    go (inr m) x y z = record { place = p0; is = m }
    go (inl w) (inr m) y z = record { place = p1; is = m }
    go (inl w) (inl x) (inr m) z = record { place = p2; is = m }
    go (inl w) (inl x) (inl y) (inr m) = record { place = p3; is = m }
    go (inl w) (inl x) (inl y) (inl z) = absurd (subst T e ((zero_but_is none n).1 (record { out = λ k o. all_zero w x y z k })))

yes_decides : Yes ≢ Open
yes_decides e = let x : ◌≡◌ {A = ℕ} 0 1 = cc in omega arith

no_decides : No ≢ Open
no_decides e = let x : ◌≡◌ {A = ℕ} 0 1 = cc in omega arith

or_left : (a b : Bool) → T a → T (a || b)
or_left true b t = tt
or_left false b t = absurd t

or_right : (a b : Bool) → T b → T (a || b)
or_right true b t = tt
or_right false b t = t

module _ (ps : List ℤ) {six : SixPoints} (h : Timed six) (left : List Bool) where
  abbrev a : List Event
  a = (piece_at ps six).first

  abbrev b : List Event
  b = (piece_at ps six).second

  abbrev s : ℕ
  s = base_of six left false

  abbrev e : ℕ
  e = base_of six left true

  abbrev q : Four ℕ
  q = others_of s e

  -- ---- the differences are those that code takes

  below : (k : Place) → pick k q < 6
  below = (based ps h left).order.there

  all_seen : each (seen_from ps six s e) q ≡ differences_in (a ++ b) s e q
  all_seen = four_seen ps six s e (base_is ps h left false).there (base_is ps h left true).there q below

  in_place : (f : ℕ) → InPlace (a ++ b) (is_left left) s e q (slots_at ps six left s e f)
  in_place f = record {
    alike = λ n o. ap (λ d. weigh n (filled f (each (is_left left) q) d)) all_seen ∙ same_weigh f (each (is_left left) q) (differences_in (a ++ b) s e q) n o;
  }

  -- ---- the sums are what falls to the bases

  clocks : (k : Place) → (event_in (a ++ b) (pick k q)).time ≡ clock (at_end six (pick k q))
  clocks k = ap (λ (v : Event). v.time) (six_at ps six (pick k q) (below k))

  ends_clock : each (λ (o : Event). o.time) (others_in (a ++ b) q) ≡ each clock (each (at_end six) q)
  ends_clock = λ i. record { v0 = clocks p0 i; v1 = clocks p1 i; v2 = clocks p2 i; v3 = clocks p3 i }

  starts_is : (n : Four ℤ) → sum (kept (each not (each (at_end six) q)) n) ≡ start_share (others_in (a ++ b) q) n
  starts_is n = sum_starts (each (at_end six) q) n ∙ ap (λ t. dot4 n (each (λ z. pos 1 -ℤ z) t)) (sym ends_clock)

  ends_is : (n : Four ℤ) → sum (kept (each (at_end six) q) n) ≡ end_share (others_in (a ++ b) q) n
  ends_is n = sum_ends (each (at_end six) q) n ∙ ap (dot4 n) (sym ends_clock)

  -- ---- the tests are that the candidate fits

  abbrev firsts : Four Bool
  firsts = each (λ i. ltb i six.first) q

  abbrev way_test : Bool → Four ℤ → Bool
  way_test way n =
      all_not_below (each (same_bool way) firsts) (same_bool way (ltb s six.first)) (same_bool way (ltb e six.first)) n
      (sum (kept (each not (each (at_end six) q)) n)) (sum (kept (each (at_end six) q) n))

  abbrev test : Four ℤ → Bool
  test n = fitting six left s e q n

  abbrev FitsHere : Four ℤ → Type 0
  FitsHere n = Fits six.first (a ++ b) (is_left left) s e q n

  way_is : (way : Bool) (n : Four ℤ) → Along way firsts (ltb s six.first) (ltb e six.first) n (start_share (others_in (a ++ b) q) n) (end_share (others_in (a ++ b) q) n) ↔ T (way_test way n)
  way_is way n = rw (starts_is n, ends_is n)
      (along_is way firsts (ltb s six.first) (ltb e six.first) n (start_share (others_in (a ++ b) q) n) (end_share (others_in (a ++ b) q) n))

  to_test : (n : Four ℤ) → FitsHere n → T (test n)
  unfolding one_way
  to_test n f = yes_and (zero_but (each (is_left left) q) n) _ ((zero_but_is (each (is_left left) q) n).1 f.out) (either f.way ((way_is f.way n).0 (record {
    others = λ k. rw (pick_each (λ i. ltb i six.first) q k) (f.others k);
    start = f.start;
    end = f.end;
  })))
    where
      either : (way : Bool) → T (way_test way n) → T (way_test true n || way_test false n)
      either true t = or_left (way_test true n) (way_test false n) t
      either false t = or_right (way_test true n) (way_test false n) t

  of_test : (n : Four ℤ) → T (test n) → FitsHere n
  unfolding one_way
  of_test n t =
      let r = and_yes (zero_but (each (is_left left) q) n) _ t in
      ⊎_elim (by true r.0) (by false r.0) (or_yes (way_test true n) (way_test false n) r.1)
    where
      by : (way : Bool) → T (zero_but (each (is_left left) q) n) → T (way_test way n) → FitsHere n
      by way z t = let w = (way_is way n).1 t in record {
        way = way;
        out = (zero_but_is (each (is_left left) q) n).0 z;
        start = w.start;
        end = w.end;
        others = λ k. rw (pick_each (λ i. ltb i six.first) q k) at (w.others k);
      }

  -- ---- one turn

  unfoldable TurnIs : ℕ → Leaf → Type 0
  TurnIs f Yes = TouchLeft ps six left
  TurnIs f No = ¬ TouchLeft ps six left
  TurnIs f Open = Vanish f (each (is_left left) q) (differences_in (a ++ b) s e q)

  turn_is : (f : ℕ) → TurnIs f (turn_of ps six left s e f)
  unfolding judged_in turn_of TurnIs
  turn_is f = go (zero_but none n) (test n) refl refl
    where
      n : Four ℤ
      n = volumes (slots_at ps six left s e f)

      fits : Fits (length a) (a ++ b) (is_left left) s e q n ↔ T (test n)
      fits = (
        λ x. to_test n (subst (λ m. Fits m (a ++ b) (is_left left) s e q n) (first_long ps six h.split) x),
        λ t. subst (λ m. Fits m (a ++ b) (is_left left) s e q n) (sym (first_long ps six h.split)) (of_test n t),
      )

      decided : (t : Bool) → test n ≡ t → (k : Place) → pick k n ≢ pos 0 → TurnIs f (cond t Yes No)
      decided true p k some = record { weights = may_touch a b (based ps h left) (in_place f) k some (preferred ps h left) (fits.1 (subst T (sym p) tt)) }
      decided false p k some = λ t. absurd (subst T p (fits.0 (must_fit a b (based ps h left) (in_place f) k some t.weights)))

      go : (z t : Bool) → zero_but none n ≡ z → test n ≡ t → TurnIs f (cond z Open (cond t Yes No))
      go true t p r = record {
        at = λ k. ap (λ d. pick k (volumes (filled f (each (is_left left) q) d))) (sym all_seen) ∙ ((zero_but_is none n).0 (subst T (sym p) tt)).out k (none_at k);
      }
      go false t p r = let m = some_of n p in decided t r m.place m.is

  -- ---- the three turns

  turns : TurnIs 0 Open → TurnIs 1 Open → TurnIs 2 Open → (f : ℕ) → f < 3 → Vanish f (each (is_left left) q) (differences_in (a ++ b) s e q)
  unfolding TurnIs
  turns x y z zero k = x
  turns x y z (suc zero) k = y
  turns x y z (suc (suc zero)) k = z
  turns x y z (suc (suc (suc f))) k = absurd (omega arith)

  pub leaf_is : LeafIs ps six left (leaf_of ps six left)
  unfolding leaf_of otherwise TurnIs LeafIs
  leaf_is = go (turn_of ps six left s e 0) (turn_of ps six left s e 1) (turn_of ps six left s e 2) (turn_is 0) (turn_is 1) (turn_is 2)
    where
      go : (r₀ r₁ r₂ : Leaf) → TurnIs 0 r₀ → TurnIs 1 r₁ → TurnIs 2 r₂ → LeafIs ps six left (otherwise r₀ (otherwise r₁ r₂))
      go Yes r₁ r₂ x y z = x
      go No r₁ r₂ x y z = x
      go Open Yes r₂ x y z = y
      go Open No r₂ x y z = y
      go Open Open Yes x y z = z
      go Open Open No x y z = z
      go Open Open Open x y z = λ t. open_leaves a b (based ps h left) (preferred ps h left) (turns x y z) t.weights

  -- ---- from whichever turn one begins

  swapped : (f g : ℕ) (a b : Leaf) → TurnIs f a → TurnIs g b → otherwise a b ≡ otherwise b a
  unfolding otherwise TurnIs
  swapped f g Yes Yes x y = refl
  swapped f g Yes No x y = absurd (y x)
  swapped f g Yes Open x y = refl
  swapped f g No Yes x y = absurd (x y)
  swapped f g No No x y = refl
  swapped f g No Open x y = refl
  swapped f g Open Yes x y = refl
  swapped f g Open No x y = refl
  swapped f g Open Open x y = refl

  joined : (a b c : Leaf) → otherwise (otherwise a b) c ≡ otherwise a (otherwise b c)
  unfolding otherwise
  joined Yes b c = refl
  joined No b c = refl
  joined Open b c = refl

  abbrev turn : ℕ → Leaf
  turn = turn_of ps six left s e

  turn_round : (f : ℕ) → turn (suc (suc (suc f))) ≡ turn f
  unfolding turn_of
  turn_round f = ap (λ v. judged_by six left s e q (volumes v)) (filled_round f (each (is_left left) q) (each (seen_from ps six s e) q))

  -- a turn put first that stood in the middle
  brought : (f g : ℕ) (c : Leaf) → otherwise (turn f) (otherwise (turn g) c) ≡ otherwise (turn g) (otherwise (turn f) c)
  brought f g c =
      sym (joined (turn f) (turn g) c)
      ∙ ap (λ z. otherwise z c) (swapped f g (turn f) (turn g) (turn_is f) (turn_is g))
      ∙ joined (turn g) (turn f) c

  from_any_turn : (f : ℕ) → f < 4 → otherwise (turn f) (otherwise (turn (f + 1)) (turn (f + 2))) ≡ leaf_of ps six left
  unfolding leaf_of
  from_any_turn zero h = refl
  from_any_turn (suc zero) h =
      ap (λ z. otherwise (turn 1) (otherwise (turn 2) z)) (turn_round 0)
      ∙ ap (otherwise (turn 1)) (swapped 2 0 (turn 2) (turn 0) (turn_is 2) (turn_is 0))
      ∙ brought 1 0 (turn 2)
  from_any_turn (suc (suc zero)) h =
      (λ i. otherwise (turn 2) (otherwise (turn_round 0 i) (turn_round 1 i)))
      ∙ brought 2 0 (turn 1)
      ∙ ap (otherwise (turn 0)) (swapped 2 1 (turn 2) (turn 1) (turn_is 2) (turn_is 1))
  from_any_turn (suc (suc (suc zero))) h = λ i. otherwise (turn_round 0 i) (otherwise (turn_round 1 i) (turn_round 2 i))
  from_any_turn (suc (suc (suc (suc f)))) h = absurd (omega arith)

  -- and the second of them last
  pub in_any_order : (f : ℕ) → f < 4 → otherwise (turn f) (otherwise (turn (f + 2)) (turn (f + 1))) ≡ leaf_of ps six left
  in_any_order f h =
      ap (otherwise (turn f)) (swapped (f + 2) (f + 1) (turn (f + 2)) (turn (f + 1)) (turn_is (f + 2)) (turn_is (f + 1))) ∙ from_any_turn f h

  -- ---- it decides exactly where the corners left allow at most one solution

  turn_one : (f : ℕ) → (turn_of ps six left s e f ≡ Open) ⊎ AtMostOne a b (is_left left)
  unfolding turn_of
  turn_one f = go (zero_but none n) refl
    where
      n : Four ℤ
      n = volumes (slots_at ps six left s e f)

      go : (z : Bool) → zero_but none n ≡ z → (judged_by six left s e q n ≡ Open) ⊎ AtMostOne a b (is_left left)
      go true p = inl (sym (judged_open six.ends six.first left s e q n p))
      go false p = let m = some_of n p in inr (at_most_one a b (based ps h left) (in_place f) m.place m.is)

  pub decided_at_most_one : leaf_of ps six left ≢ Open → AtMostOne a b (is_left left)
  unfolding leaf_of otherwise
  decided_at_most_one decides = ⊎_elim (λ x. ⊎_elim (λ y. ⊎_elim (λ z. absurd (decides (λ i. otherwise (x i) (otherwise (y i) (z i))))) (λ o. o) (turn_one 2)) (λ o. o) (turn_one 1)) (λ o. o) (turn_one 0)

  pub at_most_one_decided : AtMostOne a b (is_left left) → leaf_of ps six left ≢ Open
  unfolding leaf_of otherwise TurnIs
  at_most_one_decided one = go (turn_of ps six left s e 0) (turn_of ps six left s e 1) (turn_of ps six left s e 2) (turn_is 0) (turn_is 1) (turn_is 2)
    where
      go : (r₀ r₁ r₂ : Leaf) → TurnIs 0 r₀ → TurnIs 1 r₁ → TurnIs 2 r₂ → otherwise r₀ (otherwise r₁ r₂) ≢ Open
      go Yes r₁ r₂ x y z e = yes_decides e
      go No r₁ r₂ x y z e = no_decides e
      go Open Yes r₂ x y z e = yes_decides e
      go Open No r₂ x y z e = no_decides e
      go Open Open Yes x y z e = yes_decides e
      go Open Open No x y z e = no_decides e
      go Open Open Open x y z e = open_not_one a b (based ps h left) (preferred ps h left) (turns x y z) one
