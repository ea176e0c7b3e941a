-- The corners that are taken for a base: one at the start, one at the end, and left wherever a corner of that time is.
use Prim.Native.Nat.{ℕ, zero, suc, ◌+◌, ◌≤◌, ◌<◌}
use Rattle.std.proofs.Common.{eq-or-lt_of_le, arith, sym, ◌∙◌, ap, subst, inl, inr, ⊎_elim}
use Rattle.std.specs.Prelude.{◌≡◌, refl, ◌⊎◌, true, false, cond, ◌&&◌, List, ◌++◌, ℤ, pos}
use Rattle.std.proofs.Math.Bool.{Bool}
use Rattle.whole.specs.Cramer.{Place, pick}
use Rattle.meaning.specs.Pieces.{Event}
use Rattle.exact_signs.specs.BySignsLaws.{clock}
use Rattle.sequences.specs.Pick.{both}
use Rattle.corner_leaf.specs.declared.SixPoints.{SixPoints}
use Rattle.corner_laws.specs.Others.{order_of, others_of}
use Rattle.corner_laws.specs.Slots.{Based, event_in, Preferred}
use Rattle.corner_leaf.specs.Points.{at_end, is_left, event_at, piece_at, Timed, six_long, six_at}
use Rattle.corner_leaf.specs.First.{Passed, Failed, found_or}
use Rattle.corner_leaf.specs.Answer.{same_bool, base_in, base_of}

never : true ≡ false → ⊥
never e = let x : ◌≡◌ {A = ℕ} 0 1 = cc in omega arith

one_not : (a b : Bool) → a && b ≡ false → b ≡ true → a ≡ false
one_not true b h e = absurd (never (sym e ∙ h))
one_not false b h e = refl

same_is : (a b : Bool) → same_bool a b ≡ true → a ≡ b
same_is true b h = sym h
same_is false true h = absurd (never (sym h))
same_is false false h = refl

same_self : (a : Bool) → same_bool a a ≡ true
same_self true = refl
same_self false = refl

-- a base for the time `end`
pub record BaseIs (six : SixPoints) (left : List Bool) (end : Bool) (r : ℕ) : Type 0 where
  pub there : r < 6
  pub time : at_end six r ≡ end
  pub preferred : is_left left r ≡ false → (i : ℕ) → i < 6 → at_end six i ≡ end → is_left left i ≡ false

-- ---- any corner at the start and any at the end will do

module _ (ps : List ℤ) (six : SixPoints) where
  time_at : {c : Bool} (i : ℕ) → i < 6 → at_end six i ≡ c → (event_in ((piece_at ps six).first ++ (piece_at ps six).second) i).time ≡ clock c
  time_at i k e = ap (λ (v : Event). v.time) (six_at ps six i k) ∙ ap clock e

  pub based_at : (s e : ℕ) → s < 6 → e < 6 → at_end six s ≡ false → at_end six e ≡ true → Based ((piece_at ps six).first ++ (piece_at ps six).second) s e (others_of s e)
  based_at s e h k p q = record {
    six = six_long ps six;
    order = order_of s e h k (λ r. never (sym q ∙ ap (at_end six) (sym r) ∙ p));
    starts = time_at s h p;
    ends = time_at e k q;
  }

-- ---- the ones that are taken

module _ (ps : List ℤ) {six : SixPoints} (h : Timed six) (left : List Bool) where
  pub base_is : (end : Bool) → BaseIs six left end (base_of six left end)
  unfolding base_in
  base_is end = go (found_or test 6 0 (cond end 5 0))
    where
      test : ℕ → Bool
      test i = is_left left i && same_bool (at_end six i) end

      default_there : (c : Bool) → cond c 5 0 < 6
      default_there true = omega arith
      default_there false = omega arith

      default_time : (c : Bool) → at_end six (cond c 5 0) ≡ c
      default_time true = h.ends
      default_time false = h.starts

      go : Passed test (base_of six left end) 6 ⊎ ((base_of six left end ≡ cond end 5 0) × Failed test 0 6) → BaseIs six left end (base_of six left end)
      go (inl p) = let r = both _ _ p.passes in record {
        there = p.there;
        time = same_is (at_end six (base_of six left end)) end r.1;
        preferred = λ e. absurd (never (sym r.0 ∙ e));
      }
      go (inr (e, f)) = record {
        there = rw e (default_there end);
        time = rw e (default_time end);
        preferred = λ n i k t. one_not (is_left left i) (same_bool (at_end six i) end) (f.each i (omega arith) k) (rw t (same_self end));
      }

  abbrev pub start_base : ℕ
  start_base = base_of six left false

  abbrev pub end_base : ℕ
  end_base = base_of six left true

  pub based : Based ((piece_at ps six).first ++ (piece_at ps six).second) start_base end_base (others_of start_base end_base)
  based = based_at ps six start_base end_base (base_is false).there (base_is true).there (base_is false).time (base_is true).time

  pub preferred : Preferred ((piece_at ps six).first ++ (piece_at ps six).second) (is_left left) start_base end_base (others_of start_base end_base)
  preferred = record {
    start = λ n k. at_start_lem n k (at_end six (pick k (others_of start_base end_base))) refl;
    end = λ n k. at_end_lem n k (at_end six (pick k (others_of start_base end_base))) refl;
  }
    where
      at_start_lem : is_left left start_base ≡ false → (k : Place) (c : Bool) → at_end six (pick k (others_of start_base end_base)) ≡ c → (is_left left (pick k (others_of start_base end_base)) ≡ false) ⊎ ((event_in ((piece_at ps six).first ++ (piece_at ps six).second) (pick k (others_of start_base end_base))).time ≡ pos 1)
      at_start_lem n k true e = inr (time_at ps six (pick k (others_of start_base end_base)) (based.order.there k) e)
      at_start_lem n k false e = inl ((base_is false).preferred n (pick k (others_of start_base end_base)) (based.order.there k) e)

      at_end_lem : is_left left end_base ≡ false → (k : Place) (c : Bool) → at_end six (pick k (others_of start_base end_base)) ≡ c → (is_left left (pick k (others_of start_base end_base)) ≡ false) ⊎ ((event_in ((piece_at ps six).first ++ (piece_at ps six).second) (pick k (others_of start_base end_base))).time ≡ pos 0)
      at_end_lem n k true e = inl ((base_is true).preferred n (pick k (others_of start_base end_base)) (based.order.there k) e)
      at_end_lem n k false e = inr (time_at ps six (pick k (others_of start_base end_base)) (based.order.there k) e)
