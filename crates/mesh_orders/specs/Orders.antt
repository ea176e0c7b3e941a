-- An order of n parts is a list of n numbers that leads to every part, each once: there is a way back. A loop makes the only list that can be the
-- way back, and two more look whether it is.
use Rattle.std.specs.Prelude.{ℕ, zero, suc, ◌+◌, ◌≤◌, ◌<◌, Bool, true, false, not, List, ◌≡◌, refl, eqb, ltb, length, get_or, set}
use Rattle.std.proofs.Common.{true≢false, sym, ap, ◌∙◌, add-one, arith, length-set, get_or-set_same, get_or-set_other, lt-ltb, le-ltb, ltb-true, eq-eqb, eqb-true}
use Rattle.std.proofs.Math.Decide.{dec_lt}
use Rattle.meaning.specs.Scene.{some_below}
use Rattle.answers.specs.Below.{none_passes, none_below}
use Rattle.sequences.specs.Pick.{pick, pick_true, pick_false}

abbrev pub at : List ℕ → ℕ → ℕ
at l k = get_or l k 0

-- every number below n leads to one below n, which leads back
pub record LeadsBack (n : ℕ) (there back : ℕ → ℕ) : Type 0 where
  pub inside : (k : ℕ) → k < n → there k < n
  pub returns : (k : ℕ) → k < n → back (there k) ≡ k

-- an order of n parts
pub record Order (n : ℕ) (l : List ℕ) : Type 0 where
  pub whole : length l ≡ n
  pub inverse : ℕ → ℕ
  pub out : LeadsBack n (at l) inverse
  pub home : LeadsBack n inverse (at l)

-- ---- the inverse is made

abbrev pub placed : List ℕ → List ℕ → ℕ → List ℕ
placed order t k = pick (ltb (at order k) (length order)) (set t (at order k) k) t

-- after the first k numbers of the order
unfoldable pub places_after : List ℕ → List ℕ → ℕ → List ℕ
places_after order t zero = t
places_after order t (suc k) = placed order (places_after order t k) k

pub places_none : (order t : List ℕ) → places_after order t 0 ≡ t
unfolding places_after
places_none order t = refl

pub places_more : (order t : List ℕ) (k : ℕ) → places_after order t (k + 1) ≡ placed order (places_after order t k) k
unfolding places_after
places_more order t k = rw add-one

-- one number is put, or passed by
pub put_known : (order t : List ℕ) (k part : ℕ) → part ≡ at order k → part < length order → set t part k ≡ placed order t k
put_known order t k part e h =
    ap (λ (v : ℕ). set t v k) e ∙ sym (pick_true (set t (at order k) k) t (lt-ltb (at order k) (length order) (omega (arith, e))))

pub put_passed : (order t : List ℕ) (k part : ℕ) → part ≡ at order k → length order ≤ part → t ≡ placed order t k
put_passed order t k part e h = sym (pick_false (set t (at order k) k) t (le-ltb (at order k) (length order) (omega (arith, e))))

placed_long : (order t : List ℕ) (k : ℕ) → length (placed order t k) ≡ length t
placed_long order t k = by_test (ltb (at order k) (length order))
  where
    by_test : (b : Bool) → length (pick b (set t (at order k) k) t) ≡ length t
    by_test true = length-set t (at order k) k
    by_test false = refl

pub places_long : (order t : List ℕ) (k : ℕ) → length (places_after order t k) ≡ length t
unfolding places_after
places_long order t zero = refl
places_long order t (suc k) = placed_long order (places_after order t k) k ∙ places_long order t k

-- the first k numbers of the order are put
pub record Placing (order t₀ t : List ℕ) (k : ℕ) : Type 0 where
  pub within : k ≤ length order
  pub made : t ≡ places_after order t₀ k

pub placing_starts : (order t : List ℕ) → Placing order t t 0
placing_starts order t = record { within = omega arith; made = sym (places_none order t) }

pub placing_goes : {order t₀ t t' : List ℕ} {k : ℕ} → Placing order t₀ t k → k < length order → t' ≡ placed order t k → Placing order t₀ t' (k + 1)
placing_goes {order} {t₀} {t} {t'} {k} p h e =
    record { within = omega arith; made = e ∙ ap (λ (l : List ℕ). placed order l k) p.made ∙ sym (places_more order t₀ k) }

pub placing_ends : {order t₀ t : List ℕ} {k : ℕ} → Placing order t₀ t k → length order ≤ k → t ≡ places_after order t₀ (length order)
placing_ends {order} {t₀} {t} {k} p h = let e : k ≡ length order = omega (arith, p.within) in rw e at p.made

pub placing_long : {order t₀ t : List ℕ} {k : ℕ} → Placing order t₀ t k → length t ≡ length t₀
placing_long {order} {t₀} {t} {k} p = ap length p.made ∙ places_long order t₀ k

-- in an order no number is met again, so that each keeps its place
pub keeps : {n : ℕ} {order : List ℕ} → Order n order → (t : List ℕ) → n ≤ length t → (k : ℕ) → k ≤ n → (i : ℕ) → i < k → at (places_after order t k) (at order i) ≡ i
unfolding places_after
keeps {n} {order} o t room zero few i h = absurd (omega arith)
keeps {n} {order} o t room (suc k) few i h =
    ap (λ (l : List ℕ). at l (at order i)) (pick_true (set before (at order k) k) before (lt-ltb (at order k) (length order) known))
    ∙ by_place (dec_lt i k) (λ l. keeps o t room k (omega arith) i l)
  where
    before : List ℕ
    before = places_after order t k

    known : at order k < length order
    known = omega (arith, o.whole, o.out.inside k (omega arith))

    apart : i < k → at order i ≡ at order k → ⊥
    apart l e =
        let same : i ≡ k = sym (o.out.returns i (omega arith)) ∙ ap o.inverse e ∙ o.out.returns k (omega arith) in
        omega arith

    by_place : Dec (i < k) → (i < k → at before (at order i) ≡ i) → at (set before (at order k) k) (at order i) ≡ i
    by_place (yes l) kept = get_or-set_other before (at order k) (at order i) k 0 (λ e. apart l e) ∙ kept l
    by_place (no l) kept =
        let e : i ≡ k = omega arith in
        rw e (get_or-set_same before (at order k) k 0 (omega (arith, o.whole, known, places_long order t k)))

-- ---- and looked at

-- number k leads to no part, or to one that leads elsewhere
abbrev pub astray_at : List ℕ → List ℕ → ℕ → ℕ → Bool
astray_at there back n k = pick (ltb (at there k) n) (not (eqb (at back (at there k)) k)) true

pub leads_elsewhere : (there back : List ℕ) (n k part other : ℕ) → part ≡ at there k → part < n → other ≡ at back part → not (eqb other k) ≡ astray_at there back n k
leads_elsewhere there back n k part other e h f =
    rw (f, e) (sym (pick_true (not (eqb (at back (at there k)) k)) true (lt-ltb (at there k) n (omega (arith, e)))))

pub leads_out : (there back : List ℕ) (n k part : ℕ) → part ≡ at there k → n ≤ part → true ≡ astray_at there back n k
leads_out there back n k part e h =
    sym (pick_false (not (eqb (at back (at there k)) k)) true (le-ltb (at there k) n (omega (arith, e))))

not_astray : (there back : List ℕ) (n k : ℕ) → astray_at there back n k ≡ false → (at there k < n) × (at back (at there k) ≡ k)
not_astray there back n k h = by_test (ltb (at there k) n) refl
  where
    same : (b : Bool) → eqb (at back (at there k)) k ≡ b → not b ≡ false → at back (at there k) ≡ k
    same true e f = eqb-true (at back (at there k)) k e
    same false e f = absurd (true≢false f)

    by_test : (b : Bool) → ltb (at there k) n ≡ b → (at there k < n) × (at back (at there k) ≡ k)
    by_test true e =
        (ltb-true (at there k) n e, same (eqb (at back (at there k)) k) refl (sym (pick_true (not (eqb (at back (at there k)) k)) true e) ∙ h))
    by_test false e = absurd (true≢false (sym (pick_false (not (eqb (at back (at there k)) k)) true e) ∙ h))

is_not_astray : (there back : List ℕ) (n k : ℕ) → at there k < n → at back (at there k) ≡ k → astray_at there back n k ≡ false
is_not_astray there back n k inside same =
    pick_true (not (eqb (at back (at there k)) k)) true (lt-ltb (at there k) n inside) ∙ ap not (eq-eqb (at back (at there k)) k same)

pub none_astray : (there back : List ℕ) (n : ℕ) → some_below n (astray_at there back n) ≡ false → LeadsBack n (at there) (at back)
none_astray there back n h =
    record {
      inside = λ k l. (not_astray there back n k (none_passes (astray_at there back n) n h k l)).0;
      returns = λ k l. (not_astray there back n k (none_passes (astray_at there back n) n h k l)).1;
    }

pub leads_back : (there back : List ℕ) (n : ℕ) → LeadsBack n (at there) (at back) → some_below n (astray_at there back n) ≡ false
leads_back there back n b =
    none_below (astray_at there back n) n (λ k l. is_not_astray there back n k (b.inside k l) (b.returns k l))
