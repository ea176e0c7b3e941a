-- The two vertices of a seam stand for one vertex, in an accepted scene: a seam's first vertex stands for its second, and its second for itself.
use Rattle.std.specs.Prelude.{ℕ, zero, suc, ◌+◌, ◌*◌, ◌/◌, ◌<◌, false, ◌||◌, List, [], ◌∷◌, ◌≡◌, refl, leb, eqb, length, get_or}
use Rattle.std.proofs.Common.{⊎_elim, sym, subst, subst₂, ◌∙◌, arith, eq-eqb, ne_eqb, leb-false, lt-ltb}
use Rattle.sequences.specs.Range.{le_or_lt}
use Rattle.meaning.specs.Scene.{Scene, Accepted, seam_count, sewn, onto, stood_for, counts_as, not_rising, replaced, comes_apart, wrong_seam}
use Rattle.answers.specs.Below.{or_left, or_rest, none_passes}

-- ---- which vertex is found

no_number : {a b : ℕ} → a < b → eqb a b ≡ false
no_number {a} {b} h = ne_eqb a b (omega arith)

-- a first vertex that stands in no seam before its own stands for its second
first_found : (w : List ℕ) (k : ℕ) → k < length w / 2 → ((m : ℕ) → m < k → eqb (get_or w (2 * m) 0) (get_or w (2 * k) 0) ≡ false)
    → stood_for w (get_or w (2 * k) 0) ≡ get_or w (2 * k + 1) 0
unfolding stood_for
first_found [] k h other = absurd (omega arith)
first_found (i ∷ []) k h other = absurd (omega arith)
first_found (i ∷ j ∷ w) zero h other = rw (eq-eqb i i refl)
first_found (i ∷ j ∷ w) (suc k) h other =
    let e : 2 * suc k ≡ suc (suc (2 * k)) = omega arith in
    let f : 2 * suc k + 1 ≡ suc (suc (2 * k + 1)) = omega arith in
    let away : eqb i (get_or w (2 * k) 0) ≡ false =
    subst (λ (a : ℕ). eqb i (get_or (i ∷ j ∷ w) a 0) ≡ false) e (other 0 (omega arith)) in
    let later : (m : ℕ) → m < k → eqb (get_or w (2 * m) 0) (get_or w (2 * k) 0) ≡ false =
    λ m l.
    let g : 2 * suc m ≡ suc (suc (2 * m)) = omega arith in
    subst₂ (λ (a b : ℕ). eqb (get_or (i ∷ j ∷ w) a 0) (get_or (i ∷ j ∷ w) b 0) ≡ false) g e (other (suc m) (omega arith)) in
    subst₂ (λ (a b : ℕ). stood_for (i ∷ j ∷ w) (get_or (i ∷ j ∷ w) a 0) ≡ get_or (i ∷ j ∷ w) b 0) (sym e) (sym f)
    (rw away (first_found w k (omega arith) later))

-- a vertex that is no seam's first stands for itself
none_found : (w : List ℕ) (v : ℕ) → ((m : ℕ) → m < length w / 2 → eqb (get_or w (2 * m) 0) v ≡ false) → stood_for w v ≡ v
unfolding stood_for
none_found [] v other = refl
none_found (i ∷ []) v other = refl
none_found (i ∷ j ∷ w) v other =
    let later : (m : ℕ) → m < length w / 2 → eqb (get_or w (2 * m) 0) v ≡ false =
    λ m l.
    let g : 2 * suc m ≡ suc (suc (2 * m)) = omega arith in
    subst (λ (a : ℕ). eqb (get_or (i ∷ j ∷ w) a 0) v ≡ false) g (other (suc m) (omega arith)) in
    rw (other 0 (omega arith)) (none_found w v later)

-- ---- the two vertices of a seam stand for one

module _ (s : Scene) (a : Accepted s) where
  right_seam : (k : ℕ) → k < seam_count s → not_rising s k || leb (sewn s k) (onto s k) || replaced s (onto s k) ≡ false
  right_seam k h =
      or_left (not_rising s k || leb (sewn s k) (onto s k) || replaced s (onto s k)) (comes_apart s (sewn s k) (onto s k))
      (none_passes (wrong_seam s) (seam_count s) a.sewn_well k h)

  rises_by_one : (k : ℕ) → suc k < seam_count s → sewn s k < sewn s (suc k)
  rises_by_one k h =
      let fine : not_rising s (suc k) ≡ false =
      or_left (not_rising s (suc k)) (leb (sewn s (suc k)) (onto s (suc k)))
      (or_left (not_rising s (suc k) || leb (sewn s (suc k)) (onto s (suc k))) (replaced s (onto s (suc k))) (right_seam (suc k) h)) in
      leb-false (sewn s (suc k)) (sewn s k) (rw (lt-ltb 0 (suc k) (omega arith)) at fine)

  rises : (k : ℕ) → k < seam_count s → (m : ℕ) → m < k → sewn s m < sewn s k
  rises zero h m l = absurd (omega arith)
  rises (suc k) h m l =
      let step : sewn s k < sewn s (suc k) = rises_by_one k h in
      ⊎_elim (λ le. let same : m ≡ k = omega arith in rw same step) (λ lt. let before = rises k (omega arith) m lt in omega arith) (le_or_lt k m)

  pub stand_for_one : (k : ℕ) → k < seam_count s → counts_as s (sewn s k) ≡ counts_as s (onto s k)
  stand_for_one k h =
      first_found s.seams k h (λ m l. no_number (rises k h m l))
      ∙ sym (none_found s.seams (onto s k)
      (none_passes (λ m. eqb (sewn s m) (onto s k)) (seam_count s)
      (or_rest (not_rising s k || leb (sewn s k) (onto s k)) (replaced s (onto s k)) (right_seam k h))))
