-- A step after an accepted one: as many vertices, each from its end to its next end. It is accepted where its ends are in range and no seam comes apart.
use Rattle.std.specs.Prelude.{ℕ, zero, suc, ◌+◌, ◌*◌, ◌-◌, ◌/◌, ◌%◌, ◌≤◌, ◌<◌, ◌||◌, List, [], ◌∷◌, ◌++◌, ◌≡◌, eqb, ℤ, pos, get_or}
use Rattle.std.proofs.Math.Bool.{false, not}
use Rattle.std.proofs.Math.Path.{refl, subst}
use Rattle.std.proofs.Common.{sym, ◌∙◌, ⊎_elim, get_or-append-add, eq-eqb}
use native.Mathlib.Omega.{arith}
use Rattle.std.proofs.Math.ListN.{length, get_or-append, get_or-eq_default}
use Rattle.whole.specs.Vector.{Vector}
use Rattle.sequences.specs.Range.{le_or_lt}
use Rattle.answers.specs.Below.{or_left, or_rest, none_passes, none_below}
use Rattle.meaning.specs.Scene.{Scene, vertex_count, some_below, uneven, over_size, wrong_shape, outside, unknown_in, unknown_vertex, broken_seam, repeated_vertex, Accepted}
use Rattle.sequences.specs.Blocks.{gather_wide, gather_at}
use Rattle.meaning.specs.Series.{goes_on, step_after}
use Rattle.meaning.specs.SeriesText.{three_of, far_end}

-- what holds of six numbers holds of each
pub each_of_six : (P : ℤ → Type 0) (a b c d e f : ℤ) → P a → P b → P c → P d → P e → P f
    → (k : ℕ) → k < 6 → P (get_or (a ∷ b ∷ c ∷ d ∷ e ∷ f ∷ []) k (pos 0))
each_of_six P a b c d e f pa pb pc pd pe pf zero h = pa
each_of_six P a b c d e f pa pb pc pd pe pf (suc zero) h = pb
each_of_six P a b c d e f pa pb pc pd pe pf (suc (suc zero)) h = pc
each_of_six P a b c d e f pa pb pc pd pe pf (suc (suc (suc zero))) h = pd
each_of_six P a b c d e f pa pb pc pd pe pf (suc (suc (suc (suc zero)))) h = pe
each_of_six P a b c d e f pa pb pc pd pe pf (suc (suc (suc (suc (suc zero))))) h = pf
each_of_six P a b c d e f pa pb pc pd pe pf (suc (suc (suc (suc (suc (suc k)))))) h = absurd (omega arith)

-- every number is in range
abbrev pub AllNear : List ℤ → Type 0
AllNear l = (i : ℕ) → outside (get_or l i (pos 0)) ≡ false

-- in a scene that 2 does not refuse every number is; past the end stands 0
pub all_near : (l : List ℤ) → some_below (length l) (λ i. outside (get_or l i (pos 0))) ≡ false → AllNear l
all_near l h i =
    ⊎_elim
    (λ past. rw (get_or-eq_default l (pos 0) {n = i} past) refl)
    (λ below. none_passes (λ j. outside (get_or l j (pos 0))) (length l) h i below)
    (le_or_lt (length l) i)

-- a point in range behind numbers in range
three_near : (v : Vector) → far_end v ≡ false → (j : ℕ) → outside (get_or (three_of v) j (pos 0)) ≡ false
three_near v h zero = search (or_left, or_rest)
three_near v h (suc zero) = search (or_left, or_rest)
three_near v h (suc (suc zero)) = search (or_left, or_rest)
three_near v h (suc (suc (suc j))) = refl

pub near_more : (l : List ℤ) (v : Vector) → AllNear l → far_end v ≡ false → AllNear (l ++ three_of v)
near_more l v old new i =
    ⊎_elim
    (λ past.
    let here : length l + (i - length l) ≡ i = omega arith in
    subst (λ (n : ℕ). outside (get_or (l ++ three_of v) n (pos 0)) ≡ false) here
    (rw (get_or-append-add l (three_of v) (i - length l) (pos 0)) (three_near v new (i - length l))))
    (λ below. rw (get_or-append l (three_of v) (pos 0) i below) (old i))
    (le_or_lt (length l) i)

module _ (s : Scene) (ends : List ℤ) where
  pub step_length : length (step_after s ends).positions ≡ 6 * vertex_count s
  unfolding step_after
  step_length = gather_wide (goes_on s ends) 6 (λ v. refl) 0 (vertex_count s) ∙ omega arith

  pub step_vertices : vertex_count (step_after s ends) ≡ vertex_count s
  step_vertices = omega (arith, step_length)

  pub step_at : (v k : ℕ) → v < vertex_count s → k < 6
      → get_or (step_after s ends).positions (v * 6 + k) (pos 0) ≡ get_or (goes_on s ends v) k (pos 0)
  unfolding step_after
  step_at v k h l = gather_at (goes_on s ends) 6 (λ j. refl) (vertex_count s) v k (pos 0) h l

  -- the other lists stay
  pub step_edges : (step_after s ends).edges ≡ s.edges
  unfolding step_after
  step_edges = refl

  pub step_triangles : (step_after s ends).triangles ≡ s.triangles
  unfolding step_after
  step_triangles = refl

  pub step_seams : (step_after s ends).seams ≡ s.seams
  unfolding step_after
  step_seams = refl

  -- every coordinate is one of the last ends, or one of the next
  pub step_near : AllNear s.positions → AllNear ends → AllNear (step_after s ends).positions
  step_near old new i = ⊎_elim past below (le_or_lt (6 * vertex_count s) i)
    where
      past : 6 * vertex_count s ≤ i → outside (get_or (step_after s ends).positions i (pos 0)) ≡ false
      past h = rw (get_or-eq_default (step_after s ends).positions (pos 0) {n = i} (omega (arith, step_length))) refl

      below : i < 6 * vertex_count s → outside (get_or (step_after s ends).positions i (pos 0)) ≡ false
      below h =
          let v : ℕ = i / 6 in
          let k : ℕ = i % 6 in
          let here : v * 6 + k ≡ i = omega arith in
          let few : k < 6 = omega arith in
          subst (λ (n : ℕ). outside (get_or (step_after s ends).positions n (pos 0)) ≡ false) here
          (subst (λ (z : ℤ). outside z ≡ false) (sym (step_at v k (omega arith) few))
          (each_of_six (λ z. outside z ≡ false) _ _ _ _ _ _ (old (6 * v + 3)) (old (6 * v + 3 + 1)) (old (6 * v + 3 + 2)) (new (3 * v))
          (new (3 * v + 1))
          (new (3 * v + 2))
          k
          few))

  step_shapely : wrong_shape s ≡ false → wrong_shape (step_after s ends) ≡ false
  unfolding step_after
  step_shapely h =
      let even : uneven s ≡ false = or_left (uneven s) (over_size s) h in
      let sized : over_size s ≡ false = or_rest (uneven s) (over_size s) h in
      let e : not (eqb (length s.edges % 2) 0) ≡ false = search (or_left, or_rest) in
      let t : not (eqb (length s.triangles % 3) 0) ≡ false = search (or_left, or_rest) in
      let w : not (eqb (length s.seams % 2) 0) ≡ false = search (or_left, or_rest) in
      let six : length (step_after s ends).positions % 6 ≡ 0 = omega (arith, step_length) in
      let five : uneven (step_after s ends) ≡ false = rw (eq-eqb (length (step_after s ends).positions % 6) 0 six, e, t, w) in
      let over : over_size (step_after s ends) ≡ false = rw step_vertices sized in
      rw (five, over)

  step_known : unknown_vertex s ≡ false → unknown_vertex (step_after s ends) ≡ false
  unfolding step_after
  step_known h =
      subst (λ (n : ℕ). unknown_in n s.edges || unknown_in n s.triangles || unknown_in n s.seams ≡ false) (sym step_vertices) h

  step_distinct : repeated_vertex s ≡ false → repeated_vertex (step_after s ends) ≡ false
  unfolding step_after
  step_distinct h = h

  pub step_accepted : Accepted s → AllNear ends → broken_seam (step_after s ends) ≡ false → Accepted (step_after s ends)
  step_accepted a near sewn =
      record {
        shapely = step_shapely a.shapely;
        in_range = none_below (λ i. outside (get_or (step_after s ends).positions i (pos 0))) (length (step_after s ends).positions)
            (λ i h. step_near (all_near s.positions a.in_range) near i);
        known = step_known a.known;
        sewn_well = sewn;
        distinct = step_distinct a.distinct;
      }
