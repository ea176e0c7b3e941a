-- The table of a draft's edges: for each sum of two vertices the last edge with that sum, and for each edge the last one before it with its own. So an
-- edge is looked for among those with its sum alone.
use Rattle.std.specs.Prelude.{Bool, true, false, ◌&&◌, ◌||◌, List, [], ◌∷◌, ◌++◌, ◌≢◌, ◌⊎◌, ◌≡◌, eqb, length, get_or, take, set, replicate}
use Rattle.std.proofs.Common.{true≢false, append_assoc, inl, inr, ◌∙◌, subst, length-set, length-take-le, get_or-set_same, get_or-set_other}
use Rattle.std.proofs.Math.Logic.{⊎_elim}
use Rattle.std.proofs.Math.Path.{refl, sym, ap}
use Prim.Native.Nat.{ℕ, zero, suc, ◌+◌, ◌-◌, ◌*◌, ◌≤◌, ◌<◌}
use native.Mathlib.Omega.{arith}
use Rattle.std.proofs.lemmas.List.{get_or-replicate, take-set-le}
use borrow.Author.Tests.{eqb-true, eqb-false, eq-eqb}
use Rattle.sequences.specs.Parts.{take_next}
use Rattle.sequences.specs.Wrote.{Wrote, wrote_two}
use Rattle.sequences.specs.Pick.{pick, pick_true, pick_false, either, both, one_of, or_true}
use Rattle.meaning.specs.Limits.{vertex_limit, edge_limit}
use Rattle.meaning.specs.ObjFile.{joined}

-- the edges that a draft has ends for: as many as there may be, and three more of the face that is one too many
abbrev pub most_edges : ℕ
most_edges = edge_limit + 3

-- the sums of two vertices are below this
abbrev pub sums : ℕ
sums = 2 * vertex_limit

-- where the table stands: behind the ends of the edges
abbrev pub lasts_at : ℕ
lasts_at = 2 * most_edges

abbrev pub befores : ℕ
befores = lasts_at + sums

abbrev pub tabled : ℕ
tabled = befores + most_edges

abbrev pub sum_at : List ℕ → ℕ → ℕ
sum_at o e = get_or o (2 * e) 0 + get_or o (2 * e + 1) 0

-- the last of so many edges with this sum, counted from 1, or 0
unfoldable pub last_with : List ℕ → ℕ → ℕ → ℕ
last_with o k zero = 0
last_with o k (suc n) = pick (eqb (sum_at o n) k) (suc n) (last_with o k n)

pub record Knows (o : List ℕ) (n : ℕ) : Type 0 where
  pub lasts : (k : ℕ) → k < sums → get_or o (lasts_at + k) 0 ≡ last_with o k n
  pub before : (e : ℕ) → e < n → get_or o (befores + e) 0 ≡ last_with o (sum_at o e) e

-- a table that knows no edges
pub blank_knows : Knows (replicate tabled 0) 0
unfolding last_with
blank_knows =
    record {
      lasts = λ k h. get_or-replicate tabled (lasts_at + k) 0 0 (omega arith);
      before = λ e h. absurd (omega arith);
    }

-- ---- laws of the last edge with a sum

module _ (o : List ℕ) (k : ℕ) where
  last_here : (n : ℕ) → sum_at o n ≡ k → last_with o k (suc n) ≡ suc n
  unfolding last_with
  last_here n e = pick_true _ _ (eq-eqb (sum_at o n) k e)

  last_below : (n : ℕ) → eqb (sum_at o n) k ≡ false → last_with o k (suc n) ≡ last_with o k n
  unfolding last_with
  last_below n e = pick_false _ _ e

  last_within : (n : ℕ) → last_with o k n ≤ n
  unfolding last_with
  last_within zero = omega arith
  last_within (suc n) =
      ⊎_elim
      (λ t. omega (arith, last_here n (eqb-true (sum_at o n) k t)))
      (λ t. omega (arith, last_below n t, last_within n))
      (either (eqb (sum_at o n) k))

  last_sum : (n j : ℕ) → last_with o k n ≡ suc j → sum_at o j ≡ k
  unfolding last_with
  last_sum zero j e = absurd (omega (arith, e))
  last_sum (suc n) j e =
      ⊎_elim
      (λ t.
      let same : n ≡ j = omega (arith, e, last_here n (eqb-true (sum_at o n) k t)) in
      ap (sum_at o) (sym same) ∙ eqb-true (sum_at o n) k t)
      (λ t. last_sum n j (sym (last_below n t) ∙ e))
      (either (eqb (sum_at o n) k))

next_here : (o : List ℕ) (k n : ℕ) → sum_at o n ≡ k → last_with o k (n + 1) ≡ n + 1
next_here o k n e = let s : n + 1 ≡ suc n = omega arith in ap (last_with o k) s ∙ last_here o k n e ∙ sym s

next_below : (o : List ℕ) (k n : ℕ) → eqb (sum_at o n) k ≡ false → last_with o k (n + 1) ≡ last_with o k n
next_below o k n e = let s : n + 1 ≡ suc n = omega arith in ap (last_with o k) s ∙ last_below o k n e

last_agree : (o o' : List ℕ) (k n : ℕ) → ((i : ℕ) → i < n → sum_at o' i ≡ sum_at o i) → last_with o' k n ≡ last_with o k n
unfolding last_with
last_agree o o' k zero same = refl
last_agree o o' k (suc n) same =
    ap (λ (s : ℕ). pick (eqb s k) (suc n) (last_with o' k n)) (same n (omega arith))
    ∙ ap (λ (m : ℕ). pick (eqb (sum_at o n) k) (suc n) m) (last_agree o o' k n (λ i h. same i (omega arith)))

-- ---- one edge more, at the end

abbrev here : ℕ → ℕ → ℕ → ℕ → Bool
here a b x y = (eqb x a && eqb y b) || (eqb x b && eqb y a)

or_none : (p : Bool) → p || false ≡ false || p
or_none true = refl
or_none false = refl

or_more : (p q r : Bool) → p || (q || r) ≡ (p || q) || r
or_more true q r = refl
or_more false q r = refl

joined_more : (a b x y : ℕ) (l : List ℕ) (n : ℕ) → length l ≡ 2 * n → joined a b (l ++ (x ∷ y ∷ [])) ≡ joined a b l || here a b x y
unfolding joined
joined_more a b x y [] n e = or_none (here a b x y)
joined_more a b x y (u ∷ []) n e = absurd (omega (arith, e))
joined_more a b x y (u ∷ v ∷ l) n e =
    ap (λ (t : Bool). here a b u v || t) (joined_more a b x y l (n - 1) (omega (arith, e)))
    ∙ or_more (here a b u v) (joined a b l) (here a b x y)

here_sum : (a b x y : ℕ) → here a b x y ≡ true → x + y ≡ a + b
here_sum a b x y t =
    ⊎_elim
    (λ u. let (p, q) = both (eqb x a) (eqb y b) u in omega (arith, eqb-true x a p, eqb-true y b q))
    (λ u. let (p, q) = both (eqb x b) (eqb y a) u.1 in omega (arith, eqb-true x b p, eqb-true y a q))
    (one_of (eqb x a && eqb y b) (eqb x b && eqb y a) t)

other_sum : (a b x y : ℕ) → eqb (x + y) (a + b) ≡ false → here a b x y ≡ false
other_sum a b x y n =
    ⊎_elim (λ t. absurd (eqb-false (x + y) (a + b) n (here_sum a b x y t))) (λ f. f) (either (here a b x y))

or_false : (p q : Bool) → q ≡ false → p || q ≡ p
or_false true q e = refl
or_false false q e = e

module _ (a b : ℕ) (o : List ℕ) where
  abbrev up_to : ℕ → Bool
  up_to n = joined a b (take (2 * n) o)

  abbrev edge_here : ℕ → Bool
  edge_here n = here a b (get_or o (2 * n) 0) (get_or o (2 * n + 1) 0)

  one_more : (n : ℕ) → 2 * n + 2 ≤ length o → up_to (suc n) ≡ up_to n || edge_here n
  one_more n h =
      let x : ℕ = get_or o (2 * n) 0 in
      let y : ℕ = get_or o (2 * n + 1) 0 in
      let two : 2 * suc n ≡ 2 * n + 1 + 1 = omega arith in
      let e : take (2 * suc n) o ≡ take (2 * n) o ++ (x ∷ y ∷ []) =
      ap (λ (k : ℕ). take k o) two
      ∙ take_next o (2 * n + 1) 0 (omega arith)
      ∙ ap (λ (l : List ℕ). l ++ (y ∷ [])) (take_next o (2 * n) 0 (omega arith))
      ∙ append_assoc (take (2 * n) o) (x ∷ []) (y ∷ []) in
      ap (joined a b) e ∙ joined_more a b x y (take (2 * n) o) n (length-take-le (2 * n) o (omega arith))

  last_same : (n : ℕ) → 2 * n ≤ length o → up_to n ≡ up_to (last_with o (a + b) n)
  unfolding last_with
  last_same zero h = refl
  last_same (suc n) h =
      ⊎_elim
      (λ t. sym (ap up_to (last_here o (a + b) n (eqb-true (sum_at o n) (a + b) t))))
      (λ t.
      one_more n (omega arith)
      ∙ or_false (up_to n) (edge_here n) (other_sum a b (get_or o (2 * n) 0) (get_or o (2 * n + 1) 0) t)
      ∙ last_same n (omega arith)
      ∙ sym (ap up_to (last_below o (a + b) n t)))
      (either (eqb (sum_at o n) (a + b)))

-- ---- the search: down the chain of one sum

pub record Searching (a b : ℕ) (o : List ℕ) (n e : ℕ) : Type 0 where
  pub rest : joined a b (take (2 * n) o) ≡ joined a b (take (2 * e) o)
  pub sum : (j : ℕ) → e ≡ suc j → sum_at o j ≡ a + b
  pub within : e ≤ n

pub search_starts : (a b : ℕ) (o : List ℕ) (n : ℕ) → Knows o n → a + b < sums → 2 * n ≤ length o → Searching a b o n (get_or o (lasts_at + (a + b)) 0)
search_starts a b o n known small room =
    let e : last_with o (a + b) n ≡ get_or o (lasts_at + (a + b)) 0 = sym (known.lasts (a + b) small) in
    subst (Searching a b o n) e
    (record { rest = last_same a b o n room; sum = λ j q. last_sum o (a + b) n j q; within = last_within o (a + b) n })

module _ {a b : ℕ} {o : List ℕ} {n e : ℕ} (i : Searching a b o n e) (room : 2 * n ≤ length o) where
  module _ (more : 0 < e) where
    top : e ≡ suc (e - 1)
    top = omega arith

    step : joined a b (take (2 * n) o) ≡ up_to a b o (e - 1) || here a b (get_or o (2 * e - 2) 0) (get_or o (2 * e - 1) 0)
    step =
        let low : 2 * (e - 1) ≡ 2 * e - 2 = omega arith in
        let high : 2 * (e - 1) + 1 ≡ 2 * e - 1 = omega arith in
        i.rest
        ∙ ap (up_to a b o) top
        ∙ one_more a b o (e - 1) (omega (arith, i.within))
        ∙ ap (λ (k : ℕ). up_to a b o (e - 1) || here a b (get_or o k 0) (get_or o (2 * (e - 1) + 1) 0)) low
        ∙ ap (λ (k : ℕ). up_to a b o (e - 1) || here a b (get_or o (2 * e - 2) 0) (get_or o k 0)) high

    pub search_found : here a b (get_or o (2 * e - 2) 0) (get_or o (2 * e - 1) 0) ≡ true → true ≡ joined a b (take (2 * n) o)
    search_found t = sym (step ∙ or_true (up_to a b o (e - 1)) (here a b (get_or o (2 * e - 2) 0) (get_or o (2 * e - 1) 0)) t)

    pub search_goes : Knows o n → here a b (get_or o (2 * e - 2) 0) (get_or o (2 * e - 1) 0) ≡ false
        → Searching a b o n (get_or o (befores - 1 + e) 0) × (get_or o (befores - 1 + e) 0 < e)
    search_goes known f =
        let place : befores + (e - 1) ≡ befores - 1 + e = omega arith in
        let next : last_with o (a + b) (e - 1) ≡ get_or o (befores - 1 + e) 0 =
        sym (sym (ap (λ (k : ℕ). get_or o k 0) place)
        ∙ known.before (e - 1) (omega (arith, i.within))
        ∙ ap (λ (k : ℕ). last_with o k (e - 1)) (i.sum (e - 1) top)) in
        let low : last_with o (a + b) (e - 1) ≤ e - 1 = last_within o (a + b) (e - 1) in (
          subst (Searching a b o n) next
              (record {
                rest = step ∙ or_false (up_to a b o (e - 1)) (here a b (get_or o (2 * e - 2) 0) (get_or o (2 * e - 1) 0)) f ∙ last_same a b o (e - 1) (omega (arith, i.within));
                sum = λ j q. last_sum o (a + b) (e - 1) j q;
                within = omega (arith, low, i.within);
              }),
          omega (arith, low, next),
        )

  pub search_ends : e ≤ 0 → false ≡ joined a b (take (2 * n) o)
  unfolding joined
  search_ends h =
      let z : e ≡ 0 = omega arith in
      sym (i.rest ∙ ap (λ (k : ℕ). joined a b (take (2 * k) o)) z)

-- ---- an edge entered

abbrev pub entered : List ℕ → ℕ → ℕ → ℕ → List ℕ
entered o n a b =
    set (set (set (set o (befores + n) (get_or o (lasts_at + (a + b)) 0)) (lasts_at + (a + b)) (n + 1)) (2 * n) a) (2 * n + 1) b

module _ (o : List ℕ) (n a b : ℕ) (small : a + b < sums) (few : n ≤ edge_limit + 2) (room : tabled ≤ length o) where
  abbrev o₁ : List ℕ
  o₁ = set o (befores + n) (get_or o (lasts_at + (a + b)) 0)

  abbrev o₂ : List ℕ
  o₂ = set o₁ (lasts_at + (a + b)) (n + 1)

  abbrev o₃ : List ℕ
  o₃ = set o₂ (2 * n) a

  long₁ : length o₁ ≡ length o
  long₁ = length-set o (befores + n) (get_or o (lasts_at + (a + b)) 0)

  long₂ : length o₂ ≡ length o
  long₂ = length-set o₁ (lasts_at + (a + b)) (n + 1) ∙ long₁

  long₃ : length o₃ ≡ length o
  long₃ = length-set o₂ (2 * n) a ∙ long₂

  -- what stands elsewhere is as it was
  apart : (k : ℕ) → k ≢ 2 * n → k ≢ 2 * n + 1 → get_or (entered o n a b) k 0 ≡ get_or o₂ k 0
  apart k u v = get_or-set_other o₃ (2 * n + 1) k b 0 v ∙ get_or-set_other o₂ (2 * n) k a 0 u

  elsewhere : (k : ℕ) → k ≢ 2 * n → k ≢ 2 * n + 1 → k ≢ lasts_at + (a + b) → k ≢ befores + n → get_or (entered o n a b) k 0 ≡ get_or o k 0
  elsewhere k u v w z =
      apart k u v
      ∙ get_or-set_other o₁ (lasts_at + (a + b)) k (n + 1) 0 w
      ∙ get_or-set_other o (befores + n) k (get_or o (lasts_at + (a + b)) 0) 0 z

  first : get_or (entered o n a b) (2 * n) 0 ≡ a
  first = get_or-set_other o₃ (2 * n + 1) (2 * n) b 0 (λ e. omega (arith, e)) ∙ get_or-set_same o₂ (2 * n) a 0 (omega (arith, long₂))

  second : get_or (entered o n a b) (2 * n + 1) 0 ≡ b
  second = get_or-set_same o₃ (2 * n + 1) b 0 (omega (arith, long₃))

  new_sum : sum_at (entered o n a b) n ≡ a + b
  new_sum = cc (first, second)

  old_sums : (i : ℕ) → i < n → sum_at (entered o n a b) i ≡ sum_at o i
  old_sums i h =
      let p : get_or (entered o n a b) (2 * i) 0 ≡ get_or o (2 * i) 0 =
      elsewhere (2 * i) (λ e. omega (arith, e)) (λ e. omega (arith, e)) (λ e. omega (arith, e)) (λ e. omega (arith, e)) in
      let q : get_or (entered o n a b) (2 * i + 1) 0 ≡ get_or o (2 * i + 1) 0 =
      elsewhere (2 * i + 1) (λ e. omega (arith, e)) (λ e. omega (arith, e)) (λ e. omega (arith, e)) (λ e. omega (arith, e)) in
      cc (p, q)

  old_lasts : (k m : ℕ) → m ≤ n → last_with (entered o n a b) k m ≡ last_with o k m
  old_lasts k m h = last_agree o (entered o n a b) k m (λ i u. old_sums i (omega (arith, u, h)))

  module _ (known : Knows o n) where
    new_last : (k : ℕ) → k < sums → eqb (a + b) k ≡ true → get_or (entered o n a b) (lasts_at + k) 0 ≡ last_with (entered o n a b) k (n + 1)
    new_last k h t =
        let same : a + b ≡ k = eqb-true (a + b) k t in
        let stored : get_or (entered o n a b) (lasts_at + (a + b)) 0 ≡ n + 1 =
        apart (lasts_at + (a + b)) (λ e. omega (arith, e)) (λ e. omega (arith, e))
        ∙ get_or-set_same o₁ (lasts_at + (a + b)) (n + 1) 0 (omega (arith, long₁)) in
        ap (λ (s : ℕ). get_or (entered o n a b) (lasts_at + s) 0) (sym same)
        ∙ stored
        ∙ sym (next_here (entered o n a b) k n (new_sum ∙ same))

    other_last : (k : ℕ) → k < sums → eqb (a + b) k ≡ false → get_or (entered o n a b) (lasts_at + k) 0 ≡ last_with (entered o n a b) k (n + 1)
    other_last k h f =
        let not_same : a + b ≡ k → ⊥ = eqb-false (a + b) k f in
        elsewhere (lasts_at + k) (λ e. omega (arith, e)) (λ e. omega (arith, e)) (λ e. not_same (omega (arith, e))) (λ e. omega (arith, e))
        ∙ known.lasts k h
        ∙ sym (old_lasts k n (omega arith))
        ∙ sym (next_below (entered o n a b) k n (ap (λ (s : ℕ). eqb s k) new_sum ∙ f))

    new_before : get_or (entered o n a b) (befores + n) 0 ≡ last_with (entered o n a b) (sum_at (entered o n a b) n) n
    new_before =
        apart (befores + n) (λ e. omega (arith, e)) (λ e. omega (arith, e))
        ∙ get_or-set_other o₁ (lasts_at + (a + b)) (befores + n) (n + 1) 0 (λ e. omega (arith, e))
        ∙ get_or-set_same o (befores + n) (get_or o (lasts_at + (a + b)) 0) 0 (omega arith)
        ∙ known.lasts (a + b) small
        ∙ sym (old_lasts (a + b) n (omega arith))
        ∙ ap (λ (s : ℕ). last_with (entered o n a b) s n) (sym new_sum)

    old_before : (e : ℕ) → e < n → get_or (entered o n a b) (befores + e) 0 ≡ last_with (entered o n a b) (sum_at (entered o n a b) e) e
    old_before e h =
        elsewhere (befores + e) (λ q. omega (arith, q)) (λ q. omega (arith, q)) (λ q. omega (arith, q)) (λ q. omega (arith, q))
        ∙ known.before e h
        ∙ sym (old_lasts (sum_at o e) e (omega arith))
        ∙ ap (λ (s : ℕ). last_with (entered o n a b) s e) (sym (old_sums e h))

    pub knows_more : Knows (entered o n a b) (n + 1)
    knows_more =
        record {
          lasts = λ k h. ⊎_elim (new_last k h) (other_last k h) (either (eqb (a + b) k));
          before = λ e h. ⊎_elim
              (λ t. subst (λ (i : ℕ). get_or (entered o n a b) (befores + i) 0 ≡ last_with (entered o n a b) (sum_at (entered o n a b) i) i) (sym (eqb-true e n t)) new_before)
              (λ f. old_before e (let differ : e ≡ n → ⊥ = eqb-false e n f in omega (arith, differ)))
              (either (eqb e n));
        }

  -- the edges in front
  pub entered_front : take (2 * (n + 1)) (entered o n a b) ≡ take (2 * n) o ++ (a ∷ b ∷ [])
  entered_front =
      let w : Wrote o₂ (2 * n) (a ∷ b ∷ []) (entered o n a b) (2 * n + 2) = wrote_two o₂ (2 * n) a b (omega (arith, long₂)) in
      let two : 2 * (n + 1) ≡ 2 * n + 2 = omega arith in
      ap (λ (k : ℕ). take k (entered o n a b)) two
      ∙ w.front
      ∙ ap (λ (l : List ℕ). l ++ (a ∷ b ∷ []))
      (take-set-le (2 * n) o₁ (lasts_at + (a + b)) (n + 1) (omega arith) ∙ take-set-le (2 * n) o (befores + n) (get_or o (lasts_at + (a + b)) 0) (omega arith))

  pub entered_long : length (entered o n a b) ≡ length o
  entered_long = length-set o₃ (2 * n + 1) b ∙ long₃
