-- Places that a walk found in a tree that stands in a lent order: each is taken to the part to which the order leads from it, those from a part on are kept,
-- and all are sorted. They are then the parts from there on that were found, in their own order.
use Rattle.std.specs.Prelude.{ℕ, ◌+◌, ◌≤◌, ◌<◌, Bool, true, false, ◌&&◌, List, [], ◌∷◌, ◌++◌, ◌↔◌, ◌≡◌, refl, leb, length, get_or, take, set}
use Rattle.std.proofs.Common.{append_assoc, append-nil, sym, ap, ◌∙◌, arith, length-set, get_or-set_other, leb-true, le-leb}
use Rattle.std.proofs.lemmas.List.{take-set-le}
use Rattle.sequences.specs.Chosen.{one, chosen}
use Rattle.sequences.specs.Parts.{take_next, take_next_set}
use Rattle.sequences.specs.Pick.{pick, both}
use Rattle.mesh_orders.specs.Orders.{at, Order}
use Rattle.mesh_sort.specs.Sorting.{FrontSorted}
use Rattle.mesh_sort.specs.ByOrder.{by_order}
use Rattle.mesh_walk.specs.Places.{places_from}
use Rattle.mesh_rows.specs.Sifting.{sifted, sifted_chosen}

pub sifted_append : (t : ℕ → Bool) (g : ℕ → ℕ) (k l : List ℕ) → sifted t g (k ++ l) ≡ sifted t g k ++ sifted t g l
unfolding sifted
sifted_append t g [] l = refl
sifted_append t g (j ∷ k) l = ap (λ (m : List ℕ). one (t j) (g j) ++ m) (sifted_append t g k l) ∙ sym (append_assoc (one (t j) (g j)) (sifted t g k) (sifted t g l))

-- one place more
pub sifted_next : (t : ℕ → Bool) (g : ℕ → ℕ) (l : List ℕ) (c : ℕ) → c < length l
    → sifted t g (take (c + 1) l) ≡ sifted t g (take c l) ++ one (t (get_or l c 0)) (g (get_or l c 0))
unfolding sifted
sifted_next t g l c h =
    let j = get_or l c 0 in
    ap (sifted t g) (take_next l c 0 h)
    ∙ sifted_append t g (take c l) (j ∷ [])
    ∙ ap (λ (m : List ℕ). sifted t g (take c l) ++ m) (append-nil (one (t j) (g j)))

pub sifted_none : (t : ℕ → Bool) (g : ℕ → ℕ) (l : List ℕ) → sifted t g (take 0 l) ≡ []
unfolding sifted
sifted_none t g [] = refl
sifted_none t g (x ∷ l) = refl

-- ---- taken to their parts

-- whether the part to which the order leads from k is one of those from a part on
abbrev pub leads_from : List ℕ → ℕ → ℕ → Bool
leads_from o from k = leb from (at o k)

-- of a list that was l₀ the first c places are taken to their parts, of which n stand in front
pub record Leading (o : List ℕ) (from : ℕ) (l₀ l : List ℕ) (c n : ℕ) : Type 0 where
  pub within : n ≤ c
  pub front : take n l ≡ sifted (leads_from o from) (at o) (take c l₀)
  pub behind : (k : ℕ) → c ≤ k → get_or l k 0 ≡ get_or l₀ k 0
  pub same : length l ≡ length l₀

none_yet : (l : List ℕ) → take 0 l ≡ []
none_yet [] = refl
none_yet (x ∷ l) = refl

pub leading_starts : (o : List ℕ) (from : ℕ) (l : List ℕ) → Leading o from l l 0 0
leading_starts o from l =
    record {
      within = omega arith;
      front = none_yet l ∙ sym (sifted_none (leads_from o from) (at o) l);
      behind = λ k h. refl;
      same = refl;
    }

-- a part is stored in any case, and counted if it is kept
stored : (more : Bool) (l : List ℕ) (n j : ℕ) → n < length l → take (pick more (n + 1) n) (set l n j) ≡ take n l ++ one more j
stored true l n j h = take_next_set l n j h
stored false l n j h = take-set-le n l n j (omega arith) ∙ sym (append-nil (take n l))

few_more : (more : Bool) (n c : ℕ) → n ≤ c → pick more (n + 1) n ≤ c + 1
few_more true n c h = omega arith
few_more false n c h = omega arith

pub leading_next : {o : List ℕ} {from : ℕ} {l₀ l : List ℕ} {c n j n' : ℕ} {more : Bool} → c < length l₀ → Leading o from l₀ l c n
    → j ≡ at o (get_or l c 0) → more ≡ leb from j → n' ≡ pick more (n + 1) n
    → Leading o from l₀ (set l n j) (c + 1) n'
leading_next {o} {from} {l₀} {l} {c} {n} {j} {n'} {more} h so led kept counted =
    let read : j ≡ at o (get_or l₀ c 0) = led ∙ ap (at o) (so.behind c (omega arith)) in
    record {
      within = rw counted (few_more more n c so.within);
      front =
          rw counted (stored more l n j (omega (arith, so.within, so.same)))
          ∙ ap (λ (m : List ℕ). m ++ one more j) so.front
          ∙ rw (kept, read) (sym (sifted_next (leads_from o from) (at o) l₀ c h));
      behind = λ k p. get_or-set_other l n k j 0 (omega (arith, so.within)) ∙ so.behind k (omega arith);
      same = length-set l n j ∙ so.same;
    }

-- ---- sorted

-- what was found for a run, by a test m of the tree's places: any test of the parts that agrees with m gives what stands in front
pub record RunFound (m : ℕ → Bool) (o : List ℕ) (parts from : ℕ) (ps : List ℕ) (count : ℕ) : Type 0 where
  pub few : count ≤ parts
  pub room : count ≤ length ps
  pub stand : (test : ℕ → Bool) → ((k : ℕ) → k < parts → m k ≡ test (at o k)) → take count ps ≡ places_from test parts from

module _ {parts : ℕ} {o : List ℕ} (order : Order parts o) (m : ℕ → Bool) (from : ℕ) {l₁ l₂ l₃ : List ℕ} {met n : ℕ}
    (found : take met l₁ ≡ places_from m parts 0) (few : met ≤ parts) (room : parts ≤ length l₁) (led : Leading o from l₁ l₂ met n)
    (sorted : FrontSorted n parts l₂ l₃) where
  led_front : take n l₂ ≡ chosen (λ k. leads_from o from k && m k) (at o) 0 parts
  led_front =
      led.front ∙ ap (sifted (leads_from o from) (at o)) found ∙ sifted_chosen (leads_from o from) m (at o) parts 0

  agrees : (test : ℕ → Bool) → ((k : ℕ) → k < parts → m k ≡ test (at o k)) → (k : ℕ) → k < parts
      → (leads_from o from k && m k ≡ true) ↔ ((from ≤ at o k) × (test (at o k) ≡ true))
  agrees test same k h = (
    λ e.
        let (low, met) = both (leads_from o from k) (m k) e in
        (leb-true from (at o k) low, sym (same k h) ∙ met),
    λ p. let passes = same k h ∙ p.1 in rw (le-leb from (at o k) p.0, passes),
  )

  pub run_found : RunFound m o parts from l₃ n
  run_found =
      record {
        few = omega (arith, led.within);
        room = omega (arith, led.within, led.same, sorted.same);
        stand = λ test same.
            by_order order (λ k. leads_from o from k && m k) test from (agrees test same) (omega (arith, led.within, led.same)) led_front sorted;
      }
