-- Of `OneVerdict`: what rests on its definitions.
use Rattle.std.specs.Prelude.{◌≡◌, refl, ◌↔◌, ◌⊎◌, ℕ, zero, suc, ◌<◌}
use Rattle.std.proofs.Common.{sym, subst, inl, inr, ⊎_elim, suc-le-suc, not-suc-le-zero, arith}
use Rattle.meaning.specs.Scene.{Scene}
use Rattle.meaning.specs.Pieces.{piece_of, piece_count}
use Rattle.meaning.specs.Verdicts.{PieceIs, SomePiece, PairIs}
use Rattle.meaning.specs.declared.Kind.{Kind}
use Rattle.meaning.specs.declared.Verdict.{Verdict}
use Rattle.meaning.specs.declared.Verdict.TheVariants.{Hit, Miss, Degenerate}
use Rattle.theory.specs.Computed.{piece_verdict, pair_verdict, joined, joined_below}
use Rattle.theory.proofs.SevenPieces.{judged_piece}
use Rattle.theory.specs.OneVerdict.{one_piece_verdict, one_pair_verdict, SomeBelow}

-- the verdict of a piece that is asked for: this one, and no other
pub piece_is : (s : Scene) (kind : Kind) (i j k : ℕ) (v : Verdict) → PieceIs (piece_of s kind i j k) v ↔ (v ≡ piece_verdict s kind i j k)
piece_is s kind i j k v = (
  λ h. one_piece_verdict (piece_of s kind i j k) v (piece_verdict s kind i j k) h (judged_piece s kind i j k),
  λ e. subst (PieceIs (piece_of s kind i j k)) (sym e) (judged_piece s kind i j k),
)

none_below : {f : ℕ → Verdict} {v : Verdict} → ¬ SomeBelow 0 f v
none_below h = not-suc-le-zero h.there

module _ {n : ℕ} {f : ℕ → Verdict} {v : Verdict} where
  first_below : v ≡ f 0 → SomeBelow (suc n) f v
  first_below e = record { which = 0; there = omega arith; has = e }

  later_below : SomeBelow n (λ k. f (suc k)) v → SomeBelow (suc n) f v
  later_below h = record { which = suc h.which; there = suc-le-suc h.there; has = h.has }

  split_below : SomeBelow (suc n) f v → (v ≡ f 0) ⊎ SomeBelow n (λ k. f (suc k)) v
  split_below h = go h.which h.there h.has
    where
      go : (k : ℕ) → k < suc n → v ≡ f k → (v ≡ f 0) ⊎ SomeBelow n (λ k. f (suc k)) v
      go zero t e = inl e
      go (suc k) t e = inr (record { which = k; there = omega arith; has = e })

-- a hit; else no hit and a degenerate; else neither
JoinedIs : ℕ → (ℕ → Verdict) → Verdict → Type 0
JoinedIs n f Hit = SomeBelow n f Hit
JoinedIs n f Degenerate = ¬ SomeBelow n f Hit × SomeBelow n f Degenerate
JoinedIs n f Miss = ¬ SomeBelow n f Hit × ¬ SomeBelow n f Degenerate

not_below_lem : {n : ℕ} {f : ℕ → Verdict} {v : Verdict} → ¬ (v ≡ f 0) → ¬ SomeBelow n (λ k. f (suc k)) v → ¬ SomeBelow (suc n) f v
not_below_lem a b h = ⊎_elim a b (split_below h)

miss_no_hit : {v : Verdict} → Miss ≡ v → ¬ (Hit ≡ v)
miss_no_hit e h = let z : ◌≡◌ {A = ℕ} 0 1 = cc in omega arith

miss_not_degenerate : {v : Verdict} → Miss ≡ v → ¬ (Degenerate ≡ v)
miss_not_degenerate e h = let z : ◌≡◌ {A = ℕ} 0 1 = cc in omega arith

degenerate_no_hit : {v : Verdict} → Degenerate ≡ v → ¬ (Hit ≡ v)
degenerate_no_hit e h = let z : ◌≡◌ {A = ℕ} 0 1 = cc in omega arith

joined_is : (n : ℕ) (f : ℕ → Verdict) → JoinedIs n f (joined_below n f)
unfolding JoinedIs joined_below joined
joined_is zero f = (none_below, none_below)
joined_is (suc n) f = go (f 0) (joined_below n (λ k. f (suc k))) refl (joined_is n (λ k. f (suc k)))
  where
    go : (v w : Verdict) → v ≡ f 0 → JoinedIs n (λ k. f (suc k)) w → JoinedIs (suc n) f (joined v w)
    go Hit w e h = first_below e
    go Miss Hit e h = later_below h
    go Miss Miss e h = (not_below_lem (miss_no_hit e) h.0, not_below_lem (miss_not_degenerate e) h.1)
    go Miss Degenerate e h = (not_below_lem (miss_no_hit e) h.0, later_below h.1)
    go Degenerate Hit e h = later_below h
    go Degenerate Miss e h = (not_below_lem (degenerate_no_hit e) h.0, first_below e)
    go Degenerate Degenerate e h = (not_below_lem (degenerate_no_hit e) h.0, first_below e)

pub judged_pair : (s : Scene) (kind : Kind) (i j : ℕ) → PairIs s kind i j (pair_verdict s kind i j)
unfolding PairIs JoinedIs
judged_pair s kind i j = go (pair_verdict s kind i j) (joined_is (piece_count kind) (piece_verdict s kind i j))
  where
    to : (v : Verdict) → SomeBelow (piece_count kind) (piece_verdict s kind i j) v → SomePiece s kind i j v
    to v h = record { which = h.which; there = h.there; has = (piece_is s kind i j h.which v).1 h.has }

    from : (v : Verdict) → SomePiece s kind i j v → SomeBelow (piece_count kind) (piece_verdict s kind i j) v
    from v h = record { which = h.which; there = h.there; has = (piece_is s kind i j h.which v).0 h.has }

    go : (v : Verdict) → JoinedIs (piece_count kind) (piece_verdict s kind i j) v → PairIs s kind i j v
    go Hit h = to Hit h
    go Degenerate h = (λ k. h.0 (from Hit k), to Degenerate h.1)
    go Miss h = (λ k. h.0 (from Hit k), λ k. h.1 (from Degenerate k))

-- the verdict of a pair: this one, and no other
pub pair_is : (s : Scene) (kind : Kind) (i j : ℕ) (v : Verdict) → PairIs s kind i j v ↔ (v ≡ pair_verdict s kind i j)
pair_is s kind i j v = (
  λ h. one_pair_verdict s kind i j v (pair_verdict s kind i j) h (judged_pair s kind i j),
  λ e. subst (PairIs s kind i j) (sym e) (judged_pair s kind i j),
)
