-- Whether an edge is through a triangle, computed: by the word of a point that goes along the edge. So of any scene there is an answer for every pair.
use Rattle.std.specs.Prelude.{ℕ, Bool, true, false, List, [], ◌∷◌, map, ◌↔◌, ◌⊎◌, refl}
use Rattle.std.proofs.Common.{arith, inl, inr, ap}
use Rattle.std.proofs.Math.Logic.{⊎_elim}
use Rattle.std.proofs.Math.Path.{◌≡◌}
use Rattle.meaning.specs.Scene.{Scene}
use Rattle.meaning.specs.Pierced.{Pierced, PiercedIs}
use Rattle.meaning.specs.PiercedRows.{Through, AllPierced}
use Rattle.meaning.specs.declared.Frame.{Frame}
use Rattle.meaning.specs.declared.Kind.TheVariants.{PointTriangle}
use Rattle.meaning.specs.declared.Settled.{Settled}
use Rattle.meaning.specs.declared.Settled.TheVariants.{Hit, Miss, Touch, Apart}
use Rattle.corner_search.specs.Decided.{pair_word, settled_pair}
use Rattle.pierced_laws.specs.Crossing.{crossing_of}
use Rattle.pierced_laws.proofs.Crossing.{pierced_word}
use Rattle.pierced_pair.specs.OneResult.{one_word_lem}

meets : Settled → Bool
meets Hit = true
meets Miss = false
meets Touch = true
meets Apart = false

pub is_pierced : Frame → Scene → ℕ → ℕ → Bool
is_pierced f s i j = meets (pair_word (crossing_of s f i j) PointTriangle 0 0)

module _ (s : Scene) (f : Frame) (i j : ℕ) where
  by_word : (w : Settled) → Pierced s f i j ↔ (w ≡ Hit) ⊎ (w ≡ Touch) → PiercedIs s f i j (meets w)
  unfolding meets PiercedIs
  by_word Hit h = h.1 (inl refl)
  by_word Touch h = h.1 (inr refl)
  by_word Miss h = λ p.
      ⊎_elim (λ e. let z : ◌≡◌ {A = ℕ} 0 1 = cc in omega arith) (λ e. let z : ◌≡◌ {A = ℕ} 0 1 = cc in omega arith) (h.0 p)
  by_word Apart h = λ p.
      ⊎_elim (λ e. let z : ◌≡◌ {A = ℕ} 0 1 = cc in omega arith) (λ e. let z : ◌≡◌ {A = ℕ} 0 1 = cc in omega arith) (h.0 p)

  pub is_pierced_lem : PiercedIs s f i j (is_pierced f s i j)
  unfolding is_pierced
  is_pierced_lem = by_word (pair_word (crossing_of s f i j) PointTriangle 0 0) (pierced_word s f i j _ (settled_pair (crossing_of s f i j) PointTriangle 0 0))

  -- whatever was found out is this answer
  pub found_pierced : {r : Bool} → PiercedIs s f i j r → r ≡ is_pierced f s i j
  found_pierced {r} h = one_word_lem s f i j r (is_pierced f s i j) h is_pierced_lem

-- ---- of a list

abbrev pub answers_of : Frame → Scene → List Through → List Bool
answers_of f s ts = map (λ (t : Through). is_pierced f s t.edge t.triangle) ts

pub all_answered : (f : Frame) (s : Scene) (ts : List Through) → AllPierced f s ts (answers_of f s ts)
unfolding AllPierced
all_answered f s [] = tt
all_answered f s (t ∷ ts) = (is_pierced_lem s f t.edge t.triangle, all_answered f s ts)

-- there are no other answers
pub one_answers : (f : Frame) (s : Scene) (ts : List Through) (bs : List Bool) → AllPierced f s ts bs → bs ≡ answers_of f s ts
unfolding AllPierced
one_answers f s [] [] h = refl
one_answers f s [] (b ∷ bs) h = absurd h
one_answers f s (t ∷ ts) [] h = absurd h
one_answers f s (t ∷ ts) (b ∷ bs) h =
    let first = found_pierced s f t.edge t.triangle h.0 in
    let rest = one_answers f s ts bs h.1 in
    λ k. first k ∷ rest k
