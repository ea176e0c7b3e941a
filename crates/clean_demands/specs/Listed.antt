-- Nothing is touched in a mesh whose list has no hit and no touch: pairs that are not listed touch nowhere, and an ee pair stands in the list with
-- the lower edge first. So it does to read the words of the list, or of the rows of a mesh, or only how many of them there are.
use Rattle.std.specs.Prelude.{ℕ, ◌<◌, ◌≡◌, Bool}
use Rattle.std.proofs.Common.{arith, sym, ◌∙◌, subst, inl, inr, ⊎_elim, eq-eqb}
use Rattle.std.proofs.Math.Decide.{dec_lt}
use Rattle.std.proofs.Math.Path.{refl}
use Rattle.std.proofs.Math.Bool.{true, false, true≢false}
use mathlib.Core.List.Memᴰ
use mathlib.Core.List.{List, [], ◌∷◌, Memᴰ}
use Rattle.meaning.specs.Scene.{Scene, edge_end, counts_as, same}
use Rattle.meaning.specs.Refusals.{not_there, shares}
use Rattle.meaning.specs.Boxes.{boxes_meet}
use Rattle.meaning.specs.List.{Pair, pair, pairs}
use Rattle.meaning.specs.Report.{is_one, how_many}
use Rattle.meaning.specs.Resting.{PairSettled}
use Rattle.meaning.specs.SceneWords.{byte_of, AllSettled}
use Rattle.meaning.specs.declared.Kind.{Kind}
use Rattle.meaning.specs.declared.Kind.TheVariants.{PointTriangle, EdgeEdge}
use Rattle.meaning.specs.declared.Settled.{Settled}
use Rattle.meaning.specs.declared.Settled.TheVariants.{Hit, Miss, Touch, Apart}
use Rattle.theory.specs.Cull.{culled_apart}
use Rattle.theory.specs.EitherOrder.{piece_either_order, shares_either_order, not_there_either_order}
use Rattle.answers.specs.Below.{or_left}
use Rattle.list_pairs.specs.InOrder.{FirstBelow, ToList, list_is}
use Rattle.pierced_laws.specs.SomeWeights.{SomeTouches}
use Rattle.clean_demands.specs.Words.{Untroubled, untroubled_touches_not, miss_or_apart}
use Rattle.clean_demands.specs.Mesh.{NothingTouched}

module _ (s : Scene) where
  touches_either_order : (i j : ℕ) → SomeTouches s EdgeEdge i j → SomeTouches s EdgeEdge j i
  touches_either_order i j t = record { which = t.which; there = t.there; has = rw (piece_either_order s i j t.which) at t.has }

  -- an edge shares a vertex with itself
  not_itself : (i : ℕ) → shares s EdgeEdge i i ≡ false → ⊥
  unfolding shares
  not_itself i h = true≢false (sym (eq-eqb (counts_as s (edge_end s i 0)) (counts_as s (edge_end s i 0)) refl) ∙ first)
    where
      first : same s (edge_end s i 0) (edge_end s i 0) ≡ false
      first = search or_left

  -- it does to know it of pairs in the list's order whose boxes meet
  pub of_listed : ((p : Pair) → ToList s p → ¬ SomeTouches s p.kind p.first p.second) → NothingTouched s
  unfolding FirstBelow
  of_listed listed = record { none = all }
    where
      ordered : (kind : Kind) (i j : ℕ) → FirstBelow kind i j → not_there s kind i j ≡ false → shares s kind i j ≡ false → ¬ SomeTouches s kind i j
      ordered kind i j o there apart = go (boxes_meet s kind i j) refl
        where
          go : (b : Bool) → boxes_meet s kind i j ≡ b → ¬ SomeTouches s kind i j
          go true e = listed (pair kind i j) (record { there = there; ordered = o; apart = apart; meet = e })
          go false e = λ t. culled_apart s kind i j (rw (apart, e)) t.which t.has

      all : (kind : Kind) (i j : ℕ) → not_there s kind i j ≡ false → shares s kind i j ≡ false → ¬ SomeTouches s kind i j
      all PointTriangle i j there apart = ordered PointTriangle i j tt there apart
      all EdgeEdge i j there apart = go (dec_lt i j) (dec_lt j i)
        where
          go : Dec (i < j) → Dec (j < i) → ¬ SomeTouches s EdgeEdge i j
          go (yes h) d = ordered EdgeEdge i j h there apart
          go (no h) (yes k) = λ t. ordered EdgeEdge j i k (sym (not_there_either_order s i j) ∙ there) (sym (shares_either_order s i j) ∙ apart) (touches_either_order i j t)
          go (no h) (no k) = let e : i ≡ j = omega arith in λ t. not_itself j (rw e at apart)

  -- no pair of the list of document 01 is hit or touch
  pub record ListUntroubled : Type 0 where
    pub none : (p : Pair) → Memᴰ p (pairs s) → Untroubled s p.kind p.first p.second

  pub nothing_touched : ListUntroubled → NothingTouched s
  nothing_touched l = of_listed (λ p there. (untroubled_touches_not s p.kind p.first p.second).0 (l.none p (((list_is s).stands p).1 there)))

-- ---- by the words of a list

-- a word that is neither
untroubled_word : (s : Scene) (p : Pair) (w : Settled) → PairSettled s p.kind p.first p.second w → is_one Hit w ≡ 0 → is_one Touch w ≡ 0
    → Untroubled s p.kind p.first p.second
unfolding is_one byte_of
untroubled_word s p Hit h e f = absurd (omega (arith, e))
untroubled_word s p Touch h e f = absurd (omega (arith, f))
untroubled_word s p Miss h e f = (untroubled_touches_not s p.kind p.first p.second).1 (miss_or_apart s p.kind p.first p.second Miss h (inl refl))
untroubled_word s p Apart h e f = (untroubled_touches_not s p.kind p.first p.second).1 (miss_or_apart s p.kind p.first p.second Apart h (inr refl))

-- words of a list of pairs, none of them hit and none touch
pub words_untroubled : (s : Scene) (ps : List Pair) (ws : List Settled) → AllSettled s ps ws → how_many Hit ws ≡ 0 → how_many Touch ws ≡ 0
    → (p : Pair) → Memᴰ p ps → Untroubled s p.kind p.first p.second
unfolding AllSettled how_many
words_untroubled s [] ws a e f p m = absurd (Memᴰ.not-nil m)
words_untroubled s (q ∷ ps) [] a e f p m = absurd a
words_untroubled s (q ∷ ps) (w ∷ ws) a e f p m =
    ⊎_elim (λ is. subst (λ (r : Pair). Untroubled s r.kind r.first r.second) (sym is) (untroubled_word s q w a.0 (omega arith) (omega arith)))
    (λ later. words_untroubled s ps ws a.1 (omega arith) (omega arith) p later)
    (Memᴰ.cases_cons m)

-- so by the totals: no hits, and no touch
pub totals_untroubled : (s : Scene) (ws : List Settled) → AllSettled s (pairs s) ws → how_many Hit ws ≡ 0 → how_many Touch ws ≡ 0 → NothingTouched s
totals_untroubled s ws a e f = nothing_touched s (record { none = words_untroubled s (pairs s) ws a e f })
