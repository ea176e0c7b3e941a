-- A pair whose vertices all rest, as code tests it.
use Rattle.std.specs.Prelude.{ℕ, ◌+◌, ◌*◌, min, max, ◌≡◌, Bool, true, ◌&&◌, List, ℤ, pos, negsuc, get_or}
use Rattle.std.proofs.Common.{le_antisymm, arith, sym, ◌∙◌, ap, subst, leb→le}
use Rattle.std.proofs.Math.Dec.{T}
use Rattle.std.specs.Int.Signed.{le_z}
use Rattle.std.proofs.Math.Facts.{and_yes}
use Rattle.whole.specs.VectorLaws.{vector_eq}
use Rattle.meaning.specs.Scene.{Scene, ends_of, corners_of}
use Rattle.meaning.specs.declared.Kind.{Kind}
use Rattle.meaning.specs.declared.Kind.TheVariants.{PointTriangle, EdgeEdge}
use Rattle.meaning.specs.declared.Ends.{Ends}
use Rattle.meaning.specs.declared.Corners.{Corners}
use Rattle.corner_laws.specs.AtRest.{Still, AllStill}

-- ---- as code tests it

abbrev pub same_at : List ℤ → ℕ → Bool
same_at ps i = le_z (get_or ps i (pos 0)) (get_or ps (i + 3) (pos 0)) && le_z (get_or ps (i + 3) (pos 0)) (get_or ps i (pos 0))

abbrev pub rests : List ℤ → ℕ → Bool
rests ps v = same_at ps (6 * v) && same_at ps (6 * v + 1) && same_at ps (6 * v + 2)

abbrev pub point_rests : List ℤ → ℕ → Corners → Bool
point_rests ps p c = rests ps p && rests ps c.low && rests ps c.middle && rests ps c.high

abbrev pub edges_rest : List ℤ → Ends → Ends → Bool
edges_rest ps e f = rests ps e.low && rests ps e.high && rests ps f.low && rests ps f.high

unfoldable pub pair_rests : Scene → Kind → ℕ → ℕ → Bool
pair_rests s PointTriangle i j = point_rests s.positions i (corners_of s j)
pair_rests s EdgeEdge i j = edges_rest s.positions (ends_of s (min i j)) (ends_of s (max i j))

-- as code finds it
module _ (s : Scene) {kind : Kind} (i j : ℕ) where
  pub pt_rests : {c : Corners} {r : Bool} → kind ≡ PointTriangle → c ≡ corners_of s j → r ≡ point_rests s.positions i c → r ≡ pair_rests s kind i j
  unfolding pair_rests
  pt_rests e f g = rw (e, ← f) g

  pub ee_rests : {m n : ℕ} {a b : Ends} {r : Bool} → kind ≡ EdgeEdge → m ≡ min i j → a ≡ ends_of s m → n ≡ max i j → b ≡ ends_of s n → r ≡ edges_rest s.positions a b → r ≡ pair_rests s kind i j
  unfolding pair_rests
  ee_rests e p f q g h = rw (e, ← p, ← q, ← f, ← g) h

-- ---- what the test says

both_ways : (a b : ℤ) → T (le_z a b) → T (le_z b a) → b ≡ a
both_ways (pos a) (pos b) h k = ap pos (le_antisymm (leb→le b a k) (leb→le a b h))
both_ways (pos a) (negsuc b) h k = absurd h
both_ways (negsuc a) (pos b) h k = absurd k
both_ways (negsuc a) (negsuc b) h k = ap negsuc (le_antisymm (leb→le b a h) (leb→le a b k))

module _ (ps : List ℤ) where
  same_is : (i : ℕ) → T (same_at ps i) → get_or ps (i + 3) (pos 0) ≡ get_or ps i (pos 0)
  same_is i t = let r = and_yes (le_z (get_or ps i (pos 0)) (get_or ps (i + 3) (pos 0))) _ t in both_ways _ _ r.0 r.1

  rests_is : (v : ℕ) → T (rests ps v) → Still ps v
  rests_is v t =
      let r = and_yes (same_at ps (6 * v) && same_at ps (6 * v + 1)) (same_at ps (6 * v + 2)) t in
      let q = and_yes (same_at ps (6 * v)) (same_at ps (6 * v + 1)) r.0 in
      record { place = vector_eq (same_is (6 * v) q.0) (behind 1 ∙ same_is (6 * v + 1) q.1) (behind 2 ∙ same_is (6 * v + 2) r.1) }
    where
      behind : (k : ℕ) → get_or ps (6 * v + 3 + k) (pos 0) ≡ get_or ps (6 * v + k + 3) (pos 0)
      behind k = let e : 6 * v + 3 + k ≡ 6 * v + k + 3 = omega arith in ap (λ n. get_or ps n (pos 0)) e

  four_rest : (a b c d : ℕ) → T (rests ps a && rests ps b && rests ps c && rests ps d) → Still ps a × Still ps b × Still ps c × Still ps d
  four_rest a b c d t =
      let r = and_yes (rests ps a && rests ps b && rests ps c) (rests ps d) t in
      let q = and_yes (rests ps a && rests ps b) (rests ps c) r.0 in
      let p = and_yes (rests ps a) (rests ps b) q.0 in
      (rests_is a p.0, rests_is b p.1, rests_is c q.1, rests_is d r.1)

module _ (s : Scene) where
  pub all_still : (kind : Kind) (i j : ℕ) → pair_rests s kind i j ≡ true → AllStill s kind i j
  unfolding pair_rests AllStill
  all_still PointTriangle i j e = let c = corners_of s j in four_rest s.positions i c.low c.middle c.high (subst T (sym e) tt)
  all_still EdgeEdge i j e =
      let e₁ = ends_of s (min i j) in
      let e₂ = ends_of s (max i j) in
      four_rest s.positions e₁.low e₁.high e₂.low e₂.high (subst T (sym e) tt)
