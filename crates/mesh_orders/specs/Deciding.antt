-- An order as meaning asks for it: no number of the list is too high, none stands twice and none is missing. That is so of exactly the lists that have an
-- inverse.
use Rattle.std.specs.Prelude.{ℕ, ◌<◌, Bool, false, not, ◌||◌, List, ◌≡◌, eqb, leb, length}
use Rattle.std.proofs.Common.{sym, ap, ◌∙◌, arith, leb-false, eq-eqb, ne_eqb, eqb-true}
use Rattle.std.proofs.Math.Decide.{dec_lt}
use Rattle.std.proofs.lemmas.Bool.{lt-leb, eqb-false, not-false}
use Rattle.meaning.specs.Scene.{some_below}
use Rattle.meaning.specs.MeshRows.{no_order}
use Rattle.answers.specs.Below.{Found, or_left, or_rest, found_below, none_passes, none_below, some_passes}
use Rattle.mesh_orders.specs.Orders.{at, Order}

-- number k of the list is too high, or stands before, or no number leads to k
abbrev before : List ℕ → ℕ → Bool
before l k = some_below k (λ i. eqb (at l i) (at l k))

abbrev somewhere : List ℕ → ℕ → Bool
somewhere l j = some_below (length l) (λ k. eqb (at l k) j)

abbrev faulty : ℕ → List ℕ → ℕ → Bool
faulty n l k = leb n (at l k) || before l k || not (somewhere l k)

-- a number that leads to j, if j is below n
record WayTo (n : ℕ) (l : List ℕ) (j : ℕ) : Type 0 where
  from : ℕ
  leads : j < n → (from < n) × (at l from ≡ j)

-- ---- where nothing is wrong, there is an inverse

module _ (n : ℕ) (l : List ℕ) (fine : no_order n l ≡ false) where
  whole : length l ≡ n
  whole = eqb-true (length l) n (not-false _ (or_left (not (eqb (length l) n)) (some_below n (faulty n l)) fine))

  each : (k : ℕ) → k < n → faulty n l k ≡ false
  each = none_passes (faulty n l) n (or_rest (not (eqb (length l) n)) (some_below n (faulty n l)) fine)

  inside : (k : ℕ) → k < n → at l k < n
  inside k h =
      let e : faulty n l k ≡ false = each k h in
      leb-false n (at l k) (search (or_left, or_rest))

  not_before : (k : ℕ) → k < n → before l k ≡ false
  not_before k h =
      let e : faulty n l k ≡ false = each k h in
      search (or_left, or_rest)

  found : (j : ℕ) → j < n → Found (length l) (λ k. eqb (at l k) j)
  found j h =
      let e : faulty n l j ≡ false = each j h in
      let w : not (somewhere l j) ≡ false = search (or_left, or_rest) in
      found_below (λ k. eqb (at l k) j) (length l) (not-false _ w)

  -- no two numbers are equal
  no_earlier : (i k : ℕ) → i < k → k < n → at l i ≡ at l k → ⊥
  no_earlier i k h there e =
      eqb-false (at l i) (at l k) (none_passes (λ i. eqb (at l i) (at l k)) k (not_before k there) i h) e

  one_place : (i k : ℕ) → i < n → k < n → at l i ≡ at l k → i ≡ k
  one_place i k p q e = by_place (dec_lt i k) (dec_lt k i)
    where
      by_place : Dec (i < k) → Dec (k < i) → i ≡ k
      by_place (yes h) d = absurd (no_earlier i k h q e)
      by_place (no h) (yes g) = absurd (no_earlier k i g p (sym e))
      by_place (no h) (no g) = omega arith

  way_to : (j : ℕ) → Dec (j < n) → WayTo n l j
  way_to j (yes h) =
      let f = found j h in
      record { from = f.which; leads = λ g. (omega (arith, f.there, whole), eqb-true (at l f.which) j f.passes) }
  way_to j (no h) = record { from = 0; leads = λ g. absurd (h g) }

  back : (j : ℕ) → WayTo n l j
  back j = way_to j (dec_lt j n)

  pub order_of : Order n l
  order_of =
      record {
        whole = whole;
        inverse = λ j. (back j).from;
        out = record {
          inside = inside;
          returns = λ k h. let w = (back (at l k)).leads (inside k h) in one_place (back (at l k)).from k w.0 h w.1;
        };
        home = record { inside = λ j h. ((back j).leads h).0; returns = λ j h. ((back j).leads h).1 };
      }

-- ---- where there is an inverse, nothing is wrong

module _ {n : ℕ} {l : List ℕ} (o : Order n l) where
  not_met : (k : ℕ) → k < n → (i : ℕ) → i < k → at l i ≡ at l k → ⊥
  not_met k h i g e =
      let same : i ≡ k = sym (o.out.returns i (omega arith)) ∙ ap o.inverse e ∙ o.out.returns k h in
      omega arith

  none_faulty : (k : ℕ) → k < n → faulty n l k ≡ false
  none_faulty k h =
      rw (
        lt-leb n (at l k) (o.out.inside k h),
        none_below (λ i. eqb (at l i) (at l k)) k (λ i g. ne_eqb (at l i) (at l k) (not_met k h i g)),
        some_passes (λ i. eqb (at l i) k) (length l) (o.inverse k) (omega (arith, o.whole, o.home.inside k h)) (eq-eqb (at l (o.inverse k)) k (o.home.returns k h)),
      )

  pub is_fine : no_order n l ≡ false
  is_fine = rw (eq-eqb (length l) n o.whole, none_below (faulty n l) n none_faulty)
