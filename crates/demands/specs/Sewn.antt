-- What a seam means where 15 refuses none, in a scene of any length: a vertex stands for none that is higher, and is at both times where the vertex
-- that it stands for is.
use Rattle.std.specs.Prelude.{ℕ, suc, ◌+◌, ◌*◌, ◌/◌, ◌≤◌, ◌<◌, Bool, true, false, cond, List, [], ◌∷◌, ◌≡◌, refl, eqb, ltb, ℤ, pos, negsuc, length, get_or}
use Rattle.std.proofs.Common.{le_refl, true≢false, sym, ap, subst₂, arith, eqb-true, ltb-false, leb-false}
use Rattle.meaning.specs.Scene.{Scene, Accepted, counts_as, stood_for, seam_count, sewn, onto, differ, comes_apart, wrong_seam, broken_seam}
use Rattle.meaning.specs.Pieces.{starting, ending}
use Rattle.theory.specs.NoCrack.{Sewn}
use Rattle.answers.specs.Below.{or_left, or_rest, none_passes}

-- neither is below the other
not_differ : (y z : ℤ) → differ y z ≡ false → y ≡ z
not_differ (pos a) (pos b) h = ap pos (omega (arith, ltb-false a b (or_left (ltb a b) (ltb b a) h), ltb-false b a (or_rest (ltb a b) (ltb b a) h)))
not_differ (pos a) (negsuc b) h = absurd (true≢false h)
not_differ (negsuc a) (pos b) h = absurd (true≢false h)
not_differ (negsuc a) (negsuc b) h = ap negsuc (omega (arith, ltb-false b a (or_left (ltb b a) (ltb a b) h), ltb-false a b (or_rest (ltb b a) (ltb a b) h)))

-- two vertices have the same six coordinates
abbrev OnePlace : List ℤ → ℕ → ℕ → Type 0
OnePlace p a b = (i : ℕ) → i < 6 → get_or p (6 * a + i) (pos 0) ≡ get_or p (6 * b + i) (pos 0)

-- what holds of the two vertices of each seam, and of each vertex and itself, holds of a vertex and the one that it stands for
of_each_seam : (R : ℕ → ℕ → Type 0) → ((v : ℕ) → R v v) → (w : List ℕ) → ((k : ℕ) → k < length w / 2 → R (get_or w (2 * k) 0) (get_or w (2 * k + 1) 0)) → (v : ℕ) → R v (stood_for w v)
unfolding stood_for
of_each_seam R itself [] all v = itself v
of_each_seam R itself (j ∷ []) all v = itself v
of_each_seam R itself (i ∷ j ∷ w) all v = by_first (eqb i v) refl (of_each_seam R itself w later v)
  where
    later : (k : ℕ) → k < length w / 2 → R (get_or w (2 * k) 0) (get_or w (2 * k + 1) 0)
    later k h =
        let e : 2 * suc k ≡ suc (suc (2 * k)) = omega arith in
        let f : 2 * suc k + 1 ≡ suc (suc (2 * k + 1)) = omega arith in
        subst₂ (λ a b. R (get_or (i ∷ j ∷ w) a 0) (get_or (i ∷ j ∷ w) b 0)) e f (all (suc k) (omega arith))

    by_first : (b : Bool) → eqb i v ≡ b → R v (stood_for w v) → R v (cond b j (stood_for w v))
    by_first true e rest = let is : i ≡ v = eqb-true i v e in rw is at (all 0 (omega arith))
    by_first false e rest = rest

-- of a scene of any length whose seams are none that 15 refuses
module _ (s : Scene) (well : broken_seam s ≡ false) where
  fine : (k : ℕ) → k < seam_count s → wrong_seam s k ≡ false
  fine k h = none_passes (wrong_seam s) (seam_count s) well k h

  -- a vertex stands for itself or for a lower one
  pub stands_lower : (v : ℕ) → counts_as s v ≤ v
  stands_lower v =
      of_each_seam (λ a b. b ≤ a) le_refl s.seams
      (λ k h.
      let wrong : wrong_seam s k ≡ false = fine k h in
      let below : onto s k < sewn s k = leb-false (sewn s k) (onto s k) (search (or_left, or_rest)) in
      omega arith)
      v

  together : (k : ℕ) → k < seam_count s → OnePlace s.positions (sewn s k) (onto s k)
  together k h i l =
      not_differ (get_or s.positions (6 * sewn s k + i) (pos 0)) (get_or s.positions (6 * onto s k + i) (pos 0))
      (none_passes (λ i. differ (get_or s.positions (6 * sewn s k + i) (pos 0)) (get_or s.positions (6 * onto s k + i) (pos 0))) 6 apart i l)
    where
      apart : comes_apart s (sewn s k) (onto s k) ≡ false
      apart = let wrong : wrong_seam s k ≡ false = fine k h in search (or_left, or_rest)

  pub well_sewn : Sewn s
  well_sewn = record { starts = λ v. sym (start v); ends = λ v. sym (end v) }
    where
      at : (v n m : ℕ) → 6 * v + n ≡ m → n < 6 → (k : ℕ) → 6 * counts_as s v + n ≡ k → get_or s.positions m (pos 0) ≡ get_or s.positions k (pos 0)
      at v n m e l k f = rw (e, f) at (of_each_seam (OnePlace s.positions) (λ v i l. refl) s.seams together v n l)

      start : (v : ℕ) → starting s.positions v ≡ starting s.positions (counts_as s v)
      start v = λ i. record {
        place = record {
          x = at v 0 (6 * v) (omega arith) (omega arith) (6 * counts_as s v) (omega arith) i;
          y = at v 1 (6 * v + 1) refl (omega arith) (6 * counts_as s v + 1) refl i;
          z = at v 2 (6 * v + 2) refl (omega arith) (6 * counts_as s v + 2) refl i;
        };
        time = pos 0;
      }

      end : (v : ℕ) → ending s.positions v ≡ ending s.positions (counts_as s v)
      end v = λ i. record {
        place = record {
          x = at v 3 (6 * v + 3) refl (omega arith) (6 * counts_as s v + 3) refl i;
          y = at v 4 (6 * v + 3 + 1) (omega arith) (omega arith) (6 * counts_as s v + 3 + 1) (omega arith) i;
          z = at v 5 (6 * v + 3 + 2) (omega arith) (omega arith) (6 * counts_as s v + 3 + 2) (omega arith) i;
        };
        time = pos 1;
      }

-- so in an accepted scene
pub accepted_sewn : {s : Scene} → Accepted s → Sewn s
accepted_sewn {s} a = well_sewn s a.sewn_well
