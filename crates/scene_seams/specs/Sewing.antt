-- Seams taken into the table one by one, and 15 decided on the way: the table has the seams that it was given, as long as none breaks the rules.
use Prim.Native.Nat.{ℕ, zero, suc, ◌+◌, ◌*◌, ◌-◌, ◌/◌, ◌≤◌, ◌<◌}
use Rattle.std.specs.Prelude.{Bool, true, false, not, ◌||◌, ◌≡◌, leb, ltb, eqb, ℤ, take, replicate}
use Rattle.std.proofs.Common.{true≢false, ◌∙◌, ap₂, length-append, take-suc, take_all, get_or-take, get_or-append-add, ltb-false, leb-false, eqb-true}
use mathlib.Core.List.{List, [], ◌∷◌, ◌++◌, append_assoc}
use Rattle.std.proofs.Math.Path.{refl, sym, ap}
use native.Mathlib.Omega.{arith}
use Rattle.std.proofs.Math.ListN.{length, get_or, length-set, get_or-append, get_or-eq_default}
use Rattle.std.proofs.lemmas.List.{length-replicate, get_or-replicate}
use Rattle.std.proofs.Math.Seq.{length-take-le}
use Rattle.std.proofs.Math.Decide.{dec_lt}
use Rattle.meaning.specs.Limits.{vertex_limit}
use Rattle.meaning.specs.Scene.{Scene, scene_of, comes_apart, broken_seam, some_below}
use Rattle.answers.specs.Below.{some_alike, found_below}
use Rattle.sequences.specs.Pick.{neither}
use Rattle.scene_seams.specs.OneMore.{least_of, broken, breaks, stays_broken, below_least, one_more, broken_alike}
use Rattle.scene_seams.specs.Table.{seams_from, seams_of, sewn_to, first_in, first_looked_up, no_seams_from, sewn_adds}

-- the scene of positions and seams: nothing else has a part in 15
abbrev pub seams_alone : List ℤ → List ℕ → Scene
seams_alone p w = scene_of p [] [] w

-- the lowest number that the next first vertex may have
abbrev pub least_after : List ℕ → ℕ
least_after w = least_of (λ k. get_or w (2 * k) 0) (length w / 2)

-- one more seam breaks the rules: its first vertex comes too late, or is not above the second; the second is replaced, by the table; or the
-- two are not in one place
abbrev pub breaks_rules : List ℤ → List ℕ → ℕ → ℕ → ℕ → Bool
breaks_rules p t least i j = ltb i least || leb i j || not (eqb (get_or t j 0) 0) || comes_apart (seams_alone p []) i j

-- ---- one seam more, behind

pub seams_even : (t : List ℕ) (i : ℕ) → length (seams_from i t) ≡ 2 * (length (seams_from i t) / 2)
unfolding seams_from
seams_even [] i = refl
seams_even (zero ∷ t) i = seams_even t (suc i)
seams_even (suc d ∷ t) i = let h = seams_even t (suc i) in omega arith

module _ (w : List ℕ) (i j : ℕ) (even : length w ≡ 2 * (length w / 2)) where
  abbrev pub with_seam : List ℕ
  with_seam = w ++ (i ∷ j ∷ [])

  pub counted_more : length with_seam / 2 ≡ suc (length w / 2)
  counted_more = let e : length with_seam ≡ length w + 2 = length-append w (i ∷ j ∷ []) in omega arith

  first_kept : (m : ℕ) → m < length w / 2 → get_or with_seam (2 * m) 0 ≡ get_or w (2 * m) 0
  first_kept m h = get_or-append w (i ∷ j ∷ []) 0 (2 * m) (omega arith)

  second_kept : (m : ℕ) → m < length w / 2 → get_or with_seam (2 * m + 1) 0 ≡ get_or w (2 * m + 1) 0
  second_kept m h = get_or-append w (i ∷ j ∷ []) 0 (2 * m + 1) (omega arith)

  first_new : get_or with_seam (2 * (length w / 2)) 0 ≡ i
  first_new = let e : 2 * (length w / 2) ≡ length w + 0 = omega arith in rw e (get_or-append-add w (i ∷ j ∷ []) 0 0)

  second_new : get_or with_seam (2 * (length w / 2) + 1) 0 ≡ j
  second_new = let e : 2 * (length w / 2) + 1 ≡ length w + 1 = omega arith in rw e (get_or-append-add w (i ∷ j ∷ []) 1 0)

  pub least_more : least_after with_seam ≡ suc i
  unfolding least_of
  least_more = rw (counted_more, first_new)

  module _ (p : List ℤ) where
    abbrev apart : ℕ → ℕ → Bool
    apart = comes_apart (seams_alone p [])

    abbrev first_of : List ℕ → ℕ → ℕ
    first_of l m = get_or l (2 * m) 0

    abbrev second_of : List ℕ → ℕ → ℕ
    second_of l m = get_or l (2 * m + 1) 0

    kept : broken apart (first_of with_seam) (second_of with_seam) (length w / 2) ≡ broken_seam (seams_alone p w)
    kept = broken_alike apart (first_of with_seam) (second_of with_seam) (first_of w) (second_of w) (length w / 2) first_kept second_kept

    abbrev broken_up_to : ℕ → Bool
    broken_up_to n = broken apart (first_of with_seam) (second_of with_seam) n

    pub broken_stays : broken_seam (seams_alone p w) ≡ true → broken_seam (seams_alone p with_seam) ≡ true
    broken_stays h =
        ap broken_up_to counted_more ∙ stays_broken apart (first_of with_seam) (second_of with_seam) (length w / 2) (kept ∙ h)

    least_kept : (n : ℕ) → n ≤ length w / 2 → least_of (first_of with_seam) n ≡ least_of (first_of w) n
    unfolding least_of
    least_kept zero h = refl
    least_kept (suc n) h = ap suc (first_kept n (omega arith))

    pub broken_by : broken_seam (seams_alone p w) ≡ false
        → broken_seam (seams_alone p with_seam) ≡ ltb i (least_after w) || leb i j || first_in w j || apart i j
    broken_by h =
        ap broken_up_to counted_more ∙ one_more apart (first_of with_seam) (second_of with_seam) (length w / 2) (kept ∙ h) ∙ same
      where
        firsts : some_below (length w / 2) (λ k. eqb (first_of with_seam k) j) ≡ first_in w j
        firsts =
            some_alike (λ k. eqb (first_of with_seam k) j) (λ k. eqb (first_of w k) j) (length w / 2) (λ k g. ap (λ x. eqb x j) (first_kept k g))

        same : breaks apart (first_of with_seam) (second_of with_seam) (length w / 2) ≡ ltb i (least_after w) || leb i j || first_in w j || apart i j
        same = rw (first_new, second_new, least_kept (length w / 2) (omega arith), firsts)

-- ---- a table and its seams

module _ (p : List ℤ) (t : List ℕ) (i j : ℕ) where
  abbrev pub sewn_on : List ℕ
  sewn_on = with_seam (seams_of t) i j (seams_even t 0)

  -- the tests over the table decide whether one more seam breaks the rules
  pub one_more_seam : broken_seam (seams_alone p (seams_of t)) ≡ false
      → broken_seam (seams_alone p sewn_on) ≡ breaks_rules p t (least_after (seams_of t)) i j
  one_more_seam h =
      broken_by (seams_of t) i j (seams_even t 0) p h
      ∙ ap (λ b. ltb i (least_after (seams_of t)) || leb i j || b || comes_apart (seams_alone p []) i j) (first_looked_up t j)

  pub broken_before : broken_seam (seams_alone p (seams_of t)) ≡ true → broken_seam (seams_alone p sewn_on) ≡ true
  broken_before = broken_stays (seams_of t) i j (seams_even t 0) p

  -- a seam that does not is entered above all others
  pub seam_entered : broken_seam (seams_alone p (seams_of t)) ≡ false → broken_seam (seams_alone p sewn_on) ≡ false → i < length t
      → seams_of (sewn_to t i j) ≡ sewn_on
  seam_entered whole more here =
      sewn_adds t i j (leb-false i j parts.1) here (λ m l. above m l (eqb (get_or t m 0) 0) refl)
    where
      four : (r l s p : Bool) → r || l || s || p ≡ false → (r ≡ false) × (l ≡ false)
      four true l s p h = absurd (true≢false h)
      four false true s p h = absurd (true≢false h)
      four false false s p h = (refl, refl)

      parts : (ltb i (least_after (seams_of t)) ≡ false) × (leb i j ≡ false)
      parts = four (ltb i (least_after (seams_of t))) (leb i j) (not (eqb (get_or t j 0) 0)) (comes_apart (seams_alone p []) i j) (sym (one_more_seam whole) ∙ more)

      above : (m : ℕ) → i ≤ m → (b : Bool) → eqb (get_or t m 0) 0 ≡ b → get_or t m 0 ≡ 0
      above m l true e = eqb-true (get_or t m 0) 0 e
      above m l false e =
          let f = found_below (λ k. eqb (get_or (seams_of t) (2 * k) 0) m) (length (seams_of t) / 2) (first_looked_up t m ∙ ap not e) in
          let is : get_or (seams_of t) (2 * f.which) 0 ≡ m = eqb-true (get_or (seams_of t) (2 * f.which) 0) m f.passes in
          let low = below_least (comes_apart (seams_alone p [])) (λ k. get_or (seams_of t) (2 * k) 0) (λ k. get_or (seams_of t) (2 * k + 1) 0) (length (seams_of t) / 2) whole f.which f.there in
          absurd (omega (arith, ltb-false i (least_after (seams_of t)) parts.0))

-- ---- all seams of a list

-- the table after the first k seams of w
unfoldable pub table_after : List ℕ → List ℕ → ℕ → List ℕ
table_after t w zero = t
table_after t w (suc k) = sewn_to (table_after t w k) (get_or w (2 * k) 0) (get_or w (2 * k + 1) 0)

-- a table without seams, with room for those of w
pub record Blank (w t : List ℕ) : Type 0 where
  pub none : (v : ℕ) → get_or t v 0 ≡ 0
  pub room : 0 < length w → vertex_limit ≤ length t

pub blank_table : (w : List ℕ) → Blank w (replicate vertex_limit 0)
blank_table w = record { none = λ v. by_place v (dec_lt v vertex_limit); room = λ h. omega (arith, length-replicate {A = ℕ} vertex_limit 0) }
  where
    by_place : (v : ℕ) → Dec (v < vertex_limit) → get_or (replicate {A = ℕ} vertex_limit 0) v 0 ≡ 0
    by_place v (yes h) = get_or-replicate vertex_limit v 0 0 h
    by_place v (no h) = get_or-eq_default (replicate {A = ℕ} vertex_limit 0) 0 {n = v} (omega (arith, length-replicate {A = ℕ} vertex_limit 0))

-- where there are no seams a table without entries will do
pub blank_none : (w : List ℕ) → length w ≡ 0 → Blank w []
blank_none w h = record { none = λ v. refl; room = λ more. absurd (omega arith) }

-- seams of two numbers each, every one the number of a vertex that is there, and a table with room for them
pub record Sewable (p : List ℤ) (w t : List ℕ) : Type 0 where
  pub blank : Blank w t
  pub even : length w ≡ 2 * (length w / 2)
  pub few : length p / 6 ≤ vertex_limit
  pub inside : (i : ℕ) → i < length w → get_or w i 0 < length p / 6

-- the first vertex of each has a place in the table
pub seam_fits : {p : List ℤ} {w t : List ℕ} → Sewable p w t → (k : ℕ) → k < length w / 2 → get_or w (2 * k) 0 < length t
seam_fits r k h = omega (arith, r.blank.room (omega arith), r.few, r.inside (2 * k) (omega arith))

-- the first k seams are in the table, and whether one of them breaks the rules is known
pub record Sewing (p : List ℤ) (w t₀ : List ℕ) (found : Bool) (t : List ℕ) (least k : ℕ) : Type 0 where
  pub within : k ≤ length w / 2
  pub table : t ≡ table_after t₀ w k
  pub long : length t ≡ length t₀
  pub next : least ≡ least_of (λ m. get_or w (2 * m) 0) k
  pub finds : found ≡ broken_seam (seams_alone p (take (2 * k) w))
  pub tells : found ≡ false → seams_of t ≡ take (2 * k) w

-- all seams are in the table, and whether one breaks the rules is known
pub record Sewn (p : List ℤ) (w t₀ : List ℕ) (found : Bool) (t : List ℕ) : Type 0 where
  pub finds : found ≡ broken_seam (seams_alone p w)
  pub table : t ≡ table_after t₀ w (length w / 2)
  pub tells : found ≡ false → seams_of t ≡ w

module _ (p : List ℤ) (w t₀ : List ℕ) where
  pub sewing_starts : ((v : ℕ) → get_or t₀ v 0 ≡ 0) → Sewing p w t₀ false t₀ 0 0
  unfolding table_after least_of some_below
  sewing_starts none = record {
    within = omega arith;
    table = refl;
    long = refl;
    next = refl;
    finds = refl;
    tells = λ e. no_seams_from t₀ 0 none;
  }

  take_pair : (k : ℕ) → k < length w / 2 → take (2 * (k + 1)) w ≡ take (2 * k) w ++ (get_or w (2 * k) 0 ∷ get_or w (2 * k + 1) 0 ∷ [])
  take_pair k h =
      let e : 2 * (k + 1) ≡ suc (suc (2 * k)) = omega arith in
      let f : suc (2 * k) ≡ 2 * k + 1 = omega arith in
      ap (λ n. take n w) e
      ∙ take-suc w (suc (2 * k)) 0 (omega arith)
      ∙ ap₂ (λ l x. l ++ (x ∷ [])) (take-suc w (2 * k) 0 (omega arith)) (ap (λ n. get_or w n 0) f)
      ∙ append_assoc (take (2 * k) w) (get_or w (2 * k) 0 ∷ []) (get_or w (2 * k + 1) 0 ∷ [])

  -- one more, whose first vertex has a place in the table
  module _ {found : Bool} {t : List ℕ} {least k : ℕ} (s : Sewing p w t₀ found t least k) (h : k < length w / 2) (fits : get_or w (2 * k) 0 < length t₀) where
    abbrev i : ℕ
    i = get_or w (2 * k) 0

    abbrev j : ℕ
    j = get_or w (2 * k + 1) 0

    -- the least after the seams taken
    least_is : seams_of t ≡ take (2 * k) w → least ≡ least_after (seams_of t)
    unfolding least_of
    least_is e =
        s.next ∙ least_taken k (omega arith) ∙ sym (ap least_after e)
      where
        halves : (n : ℕ) → n ≤ length w / 2 → length (take (2 * n) w) / 2 ≡ n
        halves n l = let q : length (take (2 * n) w) ≡ 2 * n = length-take-le (2 * n) w (omega arith) in omega arith

        least_taken : (n : ℕ) → n ≤ length w / 2 → least_of (λ m. get_or w (2 * m) 0) n ≡ least_after (take (2 * n) w)
        least_taken zero l = refl
        least_taken (suc n) l =
            ap suc (sym (get_or-take (2 * suc n) w (2 * n) 0 (omega arith)))
            ∙ sym (ap (least_of (λ m. get_or (take (2 * suc n) w) (2 * m) 0)) (halves (suc n) l))

    pub sewing_goes : (now : Bool) → now ≡ breaks_rules p t least i j → Sewing p w t₀ (found || now) (sewn_to t i j) (i + 1) (k + 1)
    unfolding table_after least_of
    sewing_goes now e = record {
      within = omega arith;
      table = ap (λ (l : List ℕ). sewn_to l i j) s.table ∙ ap (table_after t₀ w) up;
      long = length-set t i (i - j) ∙ s.long;
      next = let e : i + 1 ≡ suc i = omega arith in e ∙ ap (least_of (λ m. get_or w (2 * m) 0)) up;
      finds = by_found found refl;
      tells = entered;
    }
      where
        up : suc k ≡ k + 1
        up = omega arith

        even : length (take (2 * k) w) ≡ 2 * (length (take (2 * k) w) / 2)
        even = let q : length (take (2 * k) w) ≡ 2 * k = length-take-le (2 * k) w (omega arith) in omega arith

        whole : found ≡ false → broken_seam (seams_alone p (seams_of t)) ≡ false
        whole f = ap (λ (l : List ℕ). broken_seam (seams_alone p l)) (s.tells f) ∙ sym s.finds ∙ f

        taken : seams_of t ≡ take (2 * k) w → sewn_on p t i j ≡ take (2 * (k + 1)) w
        taken q = ap (λ (l : List ℕ). l ++ (i ∷ j ∷ [])) q ∙ sym (take_pair k h)

        by_table : found ≡ false → now ≡ broken_seam (seams_alone p (sewn_on p t i j))
        by_table f = e ∙ ap (λ n. breaks_rules p t n i j) (least_is (s.tells f)) ∙ sym (one_more_seam p t i j (whole f))

        by_found : (b : Bool) → found ≡ b → b || now ≡ broken_seam (seams_alone p (take (2 * (k + 1)) w))
        by_found true f =
            sym (ap (λ (l : List ℕ). broken_seam (seams_alone p l)) (take_pair k h) ∙ broken_stays (take (2 * k) w) i j even p (sym s.finds ∙ f))
        by_found false f = by_table f ∙ ap (λ (l : List ℕ). broken_seam (seams_alone p l)) (taken (s.tells f))

        entered : found || now ≡ false → seams_of (sewn_to t i j) ≡ take (2 * (k + 1)) w
        entered q =
            let (f, n) = neither found now q in
            seam_entered p t i j (whole f) (sym (by_table f) ∙ n) (omega (arith, s.long)) ∙ taken (s.tells f)

  -- all seams are taken
  pub sewing_ends : {found : Bool} {t : List ℕ} {least k : ℕ} → Sewing p w t₀ found t least k → length w / 2 ≤ k → length w ≡ 2 * (length w / 2)
      → Sewn p w t₀ found t
  sewing_ends {k = k} s h even =
      let all : k ≡ length w / 2 = omega (arith, s.within) in
      let whole : take (2 * k) w ≡ w = take_all (2 * k) w (omega arith) in
      record {
        finds = s.finds ∙ ap (λ (l : List ℕ). broken_seam (seams_alone p l)) whole;
        table = s.table ∙ ap (table_after t₀ w) all;
        tells = λ f. s.tells f ∙ whole;
      }
