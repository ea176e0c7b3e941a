-- The table of seams: at each vertex, how far below it the vertex is that it stands for, and 0 for one that stands for itself. A call makes it
-- once from the seams, and looks up in it. It has seams again: what is promised over a table is promised of the scene with these.
use Rattle.std.specs.Prelude.{ℕ, zero, suc, ◌+◌, ◌*◌, ◌-◌, ◌/◌, ◌≤◌, ◌<◌, Bool, true, false, not, ◌||◌, List, [], ◌∷◌, ◌++◌, ◌≡◌, refl, eqb, length, get_or, set}
use Rattle.std.proofs.Common.{sym, ◌∙◌, ap, ap₂, arith, eqb-true, eq-eqb, ne_eqb}
use Rattle.std.proofs.Math.Path.{fun_ext}
use Rattle.meaning.specs.Scene.{stood_for, some_below}
use Rattle.answers.specs.Below.{some_first}

-- the seams that a table tells from vertex i on
unfoldable pub seams_from : ℕ → List ℕ → List ℕ
seams_from i [] = []
seams_from i (zero ∷ t) = seams_from (suc i) t
seams_from i (suc d ∷ t) = i ∷ (i - suc d) ∷ seams_from (suc i) t

abbrev pub seams_of : List ℕ → List ℕ
seams_of t = seams_from 0 t

-- ---- the vertex stood for is looked up

lower_alone : (t : List ℕ) (i v : ℕ) → v < i → stood_for (seams_from i t) v ≡ v
unfolding seams_from stood_for
lower_alone [] i v h = refl
lower_alone (zero ∷ t) i v h = lower_alone t (suc i) v (omega arith)
lower_alone (suc d ∷ t) i v h = rw (ne_eqb i v (λ e. omega arith)) (lower_alone t (suc i) v (omega arith))

looked_from : (t : List ℕ) (i k : ℕ) → stood_for (seams_from i t) (i + k) ≡ i + k - get_or t k 0
unfolding seams_from stood_for
looked_from [] i k = omega arith
looked_from (zero ∷ t) i zero = lower_alone t (suc i) (i + 0) (omega arith) ∙ omega arith
looked_from (zero ∷ t) i (suc k) = let e : i + suc k ≡ suc i + k = omega arith in rw e (looked_from t (suc i) k)
looked_from (suc d ∷ t) i zero = let e : i + 0 ≡ i = omega arith in rw (e, eq-eqb i i refl)
looked_from (suc d ∷ t) i (suc k) =
    let e : i + suc k ≡ suc i + k = omega arith in
    rw (ne_eqb i (i + suc k) (λ q. omega arith), e) (looked_from t (suc i) k)

pub looked_up : (t : List ℕ) (v : ℕ) → stood_for (seams_of t) v ≡ v - get_or t v 0
looked_up t v = let e : 0 + v ≡ v = omega arith in rw e at (looked_from t 0 v)

-- a table without entries: every vertex stands for itself
pub own_number : (t : List ℕ) (v : ℕ) → length t ≡ 0 → stood_for (seams_of t) v ≡ v
unfolding seams_from stood_for
own_number [] v h = refl
own_number (d ∷ t) v h = absurd (omega arith)

-- ---- a vertex is replaced where its entry is not 0

abbrev pub first_in : List ℕ → ℕ → Bool
first_in w v = some_below (length w / 2) (λ k. eqb (get_or w (2 * k) 0) v)

next_pair : (i j : ℕ) (w : List ℕ) (k : ℕ) → get_or (i ∷ j ∷ w) (2 * suc k) 0 ≡ get_or w (2 * k) 0
next_pair i j w k = let e : 2 * suc k ≡ suc (suc (2 * k)) = omega arith in rw e

first_split : (i j : ℕ) (w : List ℕ) (v : ℕ) → first_in (i ∷ j ∷ w) v ≡ eqb i v || first_in w v
first_split i j w v =
    let e : length (i ∷ j ∷ w) / 2 ≡ suc (length w / 2) = omega arith in
    rw e (some_first (λ k. eqb (get_or (i ∷ j ∷ w) (2 * k) 0) v) (length w / 2)
    ∙ ap (λ (f : ℕ → Bool). eqb i v || some_below (length w / 2) f) (fun_ext (λ k. rw (next_pair i j w k))))

lower_first : (t : List ℕ) (i v : ℕ) → v < i → first_in (seams_from i t) v ≡ false
unfolding seams_from some_below
lower_first [] i v h = refl
lower_first (zero ∷ t) i v h = lower_first t (suc i) v (omega arith)
lower_first (suc d ∷ t) i v h =
    first_split i (i - suc d) (seams_from (suc i) t) v ∙ rw (ne_eqb i v (λ e. omega arith)) (lower_first t (suc i) v (omega arith))

first_from : (t : List ℕ) (i k : ℕ) → first_in (seams_from i t) (i + k) ≡ not (eqb (get_or t k 0) 0)
unfolding seams_from some_below
first_from [] i k = refl
first_from (zero ∷ t) i zero = lower_first t (suc i) (i + 0) (omega arith)
first_from (zero ∷ t) i (suc k) = let e : i + suc k ≡ suc i + k = omega arith in rw e (first_from t (suc i) k)
first_from (suc d ∷ t) i zero =
    let e : i + 0 ≡ i = omega arith in
    first_split i (i - suc d) (seams_from (suc i) t) (i + 0) ∙ rw (e, eq-eqb i i refl, ne_eqb (suc d) 0 (λ q. omega arith))
first_from (suc d ∷ t) i (suc k) =
    let e : i + suc k ≡ suc i + k = omega arith in
    first_split i (i - suc d) (seams_from (suc i) t) (i + suc k)
    ∙ rw (ne_eqb i (i + suc k) (λ q. omega arith), e) (first_from t (suc i) k)

pub first_looked_up : (t : List ℕ) (v : ℕ) → first_in (seams_of t) v ≡ not (eqb (get_or t v 0) 0)
first_looked_up t v = let e : 0 + v ≡ v = omega arith in rw e at (first_from t 0 v)

-- ---- an entry above all others adds a seam behind

pub no_seams_from : (t : List ℕ) (i : ℕ) → ((k : ℕ) → get_or t k 0 ≡ 0) → seams_from i t ≡ []
unfolding seams_from
no_seams_from [] i none = refl
no_seams_from (zero ∷ t) i none = no_seams_from t (suc i) (λ k. none (suc k))
no_seams_from (suc d ∷ t) i none = absurd (omega (arith, none 0))

entered_from : (t : List ℕ) (i k d : ℕ) → k < length t → ((m : ℕ) → k ≤ m → get_or t m 0 ≡ 0)
    → seams_from i (set t k (suc d)) ≡ seams_from i t ++ ((i + k) ∷ (i + k - suc d) ∷ [])
unfolding seams_from
entered_from [] i k d h none = absurd (omega arith)
entered_from (zero ∷ t) i zero d h none =
    let e : i + 0 ≡ i = omega arith in
    let o : seams_from (suc i) t ≡ [] = no_seams_from t (suc i) (λ m. none (suc m) (omega arith)) in
    rw (e, o)
entered_from (suc x ∷ t) i zero d h none = absurd (omega (arith, none 0 (omega arith)))
entered_from (zero ∷ t) i (suc k) d h none =
    let e : i + suc k ≡ suc i + k = omega arith in
    rw e (entered_from t (suc i) k d (omega arith) (λ m l. none (suc m) (omega arith)))
entered_from (suc x ∷ t) i (suc k) d h none =
    let e : i + suc k ≡ suc i + k = omega arith in
    rw e (ap (λ (l : List ℕ). i ∷ (i - suc x) ∷ l) (entered_from t (suc i) k d (omega arith) (λ m l. none (suc m) (omega arith))))

-- i is sewn to j
abbrev pub sewn_to : List ℕ → ℕ → ℕ → List ℕ
sewn_to t i j = set t i (i - j)

pub sewn_adds : (t : List ℕ) (i j : ℕ) → j < i → i < length t → ((m : ℕ) → i ≤ m → get_or t m 0 ≡ 0) → seams_of (sewn_to t i j) ≡ seams_of t ++ (i ∷ j ∷ [])
sewn_adds t i j low here none =
    let d : i - j ≡ suc (i - j - 1) = omega arith in
    let e : 0 + i ≡ i = omega arith in
    let back : 0 + i - suc (i - j - 1) ≡ j = omega arith in
    ap (λ x. seams_of (set t i x)) d
    ∙ entered_from t 0 i (i - j - 1) here none
    ∙ ap₂ (λ x y. seams_of t ++ (x ∷ y ∷ [])) e back
