-- What each check says of a scene with one record more, where it did not hold of the scene above: what the record itself says.
use Rattle.std.specs.Prelude.{Bool, false, ◌||◌, ◌≡◌, ℕ, ◌+◌, ◌*◌, ◌/◌, ◌<◌, eqb, length, get_or}
use Rattle.std.proofs.Math.Bool.{or_assoc}
use mathlib.Core.List.{List, [], ◌∷◌, ◌++◌}
use Rattle.std.proofs.Math.Path.{refl, sym, ap}
use Rattle.std.proofs.Common.{◌∙◌, arith, length-append, get_or-append-add}
use Rattle.std.proofs.Math.ListN.{get_or-append}
use Rattle.meaning.specs.Scene.{some_below, stood_for}
use Rattle.answers.specs.Below.{some_more, some_first, some_alike}

-- ---- tests over a list, element by element

unfoldable pub any_of : {A : Type 0} → (A → Bool) → List A → Bool
any_of t [] = false
any_of t (a ∷ l) = t a || any_of t l

module _ {A : Type 0} (t : A → Bool) (d : A) where
  some_any : (l : List A) → some_below (length l) (λ i. t (get_or l i d)) ≡ any_of t l
  unfolding some_below any_of
  some_any [] = refl
  some_any (a ∷ l) = some_first (λ i. t (get_or (a ∷ l) i d)) (length l) ∙ ap (λ (b : Bool). t a || b) (some_any l)

  any_append : (l k : List A) → any_of t (l ++ k) ≡ any_of t l || any_of t k
  unfolding any_of
  any_append [] k = refl
  any_append (a ∷ l) k = ap (λ (b : Bool). t a || b) (any_append l k) ∙ sym (or_assoc (t a) (any_of t l) (any_of t k))

  -- none in front: those behind decide
  pub some_behind : (l k : List A) → some_below (length l) (λ i. t (get_or l i d)) ≡ false
      → some_below (length (l ++ k)) (λ i. t (get_or (l ++ k) i d)) ≡ any_of t k
  some_behind l k e =
      some_any (l ++ k) ∙ any_append l k ∙ ap (λ (b : Bool). b || any_of t k) (sym (some_any l) ∙ e)

-- ---- a vertex twice in one part, by the vertices that w says

abbrev pub one : List ℕ → ℕ → ℕ → Bool
one w a b = eqb (stood_for w a) (stood_for w b)

abbrev pub twice_in_two : List ℕ → List ℕ → ℕ → Bool
twice_in_two w e j = one w (get_or e (2 * j + 0) 0) (get_or e (2 * j + 1) 0)

abbrev pub twice_in_three : List ℕ → List ℕ → ℕ → Bool
twice_in_three w t j =
    one w (get_or t (3 * j + 0) 0) (get_or t (3 * j + 1) 0) || one w (get_or t (3 * j + 0) 0) (get_or t (3 * j + 2) 0)
    || one w (get_or t (3 * j + 1) 0) (get_or t (3 * j + 2) 0)

front : (l k : List ℕ) (i : ℕ) → i < length l → get_or (l ++ k) i 0 ≡ get_or l i 0
front l k i h = get_or-append l k 0 i h

behind : (l k : List ℕ) (n i m : ℕ) → length l ≡ n → m ≡ n + i → get_or (l ++ k) m 0 ≡ get_or k i 0
behind l k n i m e f = cc (get_or-append-add l k i 0)

pub edges_more : (w e : List ℕ) (a b n : ℕ) → length e ≡ 2 * n → some_below (length e / 2) (twice_in_two w e) ≡ false
    → some_below (length (e ++ (a ∷ b ∷ [])) / 2) (twice_in_two w (e ++ (a ∷ b ∷ []))) ≡ one w a b
edges_more w e a b n long none =
    let e' : List ℕ = e ++ (a ∷ b ∷ []) in
    let count : length e / 2 ≡ n = omega (arith, long) in
    let more : length e' / 2 ≡ n + 1 = omega (arith, long, length-append e (a ∷ b ∷ [])) in
    let same : (j : ℕ) → j < n → twice_in_two w e' j ≡ twice_in_two w e j = λ j h.
    cc (front e (a ∷ b ∷ []) (2 * j + 0) (omega (arith, long)), front e (a ∷ b ∷ []) (2 * j + 1) (omega (arith, long))) in
    let last : twice_in_two w e' n ≡ one w a b =
    cc (behind e (a ∷ b ∷ []) (2 * n) 0 (2 * n + 0) long refl, behind e (a ∷ b ∷ []) (2 * n) 1 (2 * n + 1) long refl) in
    let old : some_below n (twice_in_two w e') ≡ false =
    some_alike (twice_in_two w e') (twice_in_two w e) n same ∙ ap (λ (k : ℕ). some_below k (twice_in_two w e)) (sym count) ∙ none in
    ap (λ (k : ℕ). some_below k (twice_in_two w e')) more
    ∙ some_more (twice_in_two w e') n
    ∙ ap (λ (x : Bool). x || twice_in_two w e' n) old
    ∙ last

pub triangles_more : (w t : List ℕ) (a b d n : ℕ) → length t ≡ 3 * n → some_below (length t / 3) (twice_in_three w t) ≡ false
    → some_below (length (t ++ (a ∷ b ∷ d ∷ [])) / 3) (twice_in_three w (t ++ (a ∷ b ∷ d ∷ []))) ≡ one w a b || one w a d || one w b d
triangles_more w t a b d n long none =
    let k : List ℕ = a ∷ b ∷ d ∷ [] in
    let t' : List ℕ = t ++ k in
    let count : length t / 3 ≡ n = omega (arith, long) in
    let more : length t' / 3 ≡ n + 1 = omega (arith, long, length-append t k) in
    let same : (j : ℕ) → j < n → twice_in_three w t' j ≡ twice_in_three w t j = λ j h.
    cc (
      front t k (3 * j + 0) (omega (arith, long)),
      front t k (3 * j + 1) (omega (arith, long)),
      front t k (3 * j + 2) (omega (arith, long)),
    ) in
    let last : twice_in_three w t' n ≡ one w a b || one w a d || one w b d =
    cc (
      behind t k (3 * n) 0 (3 * n + 0) long refl,
      behind t k (3 * n) 1 (3 * n + 1) long refl,
      behind t k (3 * n) 2 (3 * n + 2) long refl,
    ) in
    let old : some_below n (twice_in_three w t') ≡ false =
    some_alike (twice_in_three w t') (twice_in_three w t) n same ∙ ap (λ (x : ℕ). some_below x (twice_in_three w t)) (sym count) ∙ none in
    ap (λ (x : ℕ). some_below x (twice_in_three w t')) more
    ∙ some_more (twice_in_three w t') n
    ∙ ap (λ (x : Bool). x || twice_in_three w t' n) old
    ∙ last
