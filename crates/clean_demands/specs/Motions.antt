-- Scenes of an edge, a triangle and its three sides, and what is computed of each: whether the edge touches with its first end, with its second, on
-- the first side, the second, the third; and whether it pierces the triangle at the start, and at the end.
use Rattle.std.specs.Prelude.{ℕ, ◌≡◌, refl, ◌⊎◌, Bool, true, false, List, [], ◌∷◌, ◌++◌, ℤ, pos, negsuc, get_or}
use Rattle.std.proofs.Common.{arith, ap, inl, inr, ⊎_elim}
use Rattle.whole.specs.Vector.{volume, axis}
use Rattle.meaning.specs.Scene.{Scene, scene_of, stood_for, some_below}
use Rattle.meaning.specs.Pieces.{piece_count}
use Rattle.meaning.specs.Near.{where_at}
use Rattle.meaning.specs.Pierced.{Pierced}
use Rattle.meaning.specs.declared.Frame.{Frame}
use Rattle.meaning.specs.declared.Frame.TheVariants.{Start, End}
use Rattle.meaning.specs.declared.Kind.{Kind}
use Rattle.meaning.specs.declared.Kind.TheVariants.{PointTriangle, EdgeEdge}
use Rattle.meaning.specs.declared.Settled.{Settled}
use Rattle.meaning.specs.declared.Settled.TheVariants.{Hit, Miss, Touch, Apart}
use Rattle.theory.specs.Reading.{verdict_of, agreeing}
use Rattle.theory.specs.Computed.{piece_verdict, joined, joined_below, point_differences, edge_differences, start_sum, end_sum}
use Rattle.exact_signs.specs.BySigns.{keep}
use Rattle.exact_signs.specs.OneWay.{one_way}
use Rattle.corner_leaf.specs.First.{first_of}
use Rattle.corner_laws.specs.Others.{skip}
use Rattle.corner_laws.specs.Filled.{slot, next}
use Rattle.corner_leaf.specs.Answer.{base_in, judged_in, turn_of, otherwise, leaf_of}
use Rattle.corner_search.specs.Sixes.{point_six, edges_six, six_of}
use Rattle.corner_search.specs.Decided.{by_leaf, touching, settled_by, piece_word, is_touch, pair_word, settled_pair}
use Rattle.pierced_laws.specs.SomeWeights.{SomeTouches, hit_or_touch}
use Rattle.pierced_laws.specs.Crossing.{crossing_of}
use Rattle.pierced_laws.proofs.Crossing.{pierced_word}

-- ---- by computing

unfoldable pub troubled : Settled → Bool
troubled Hit = true
troubled Miss = false
troubled Touch = true
troubled Apart = false

unfoldable pub Says : Bool → Type 0 → Type 0
Says true P = P
Says false P = ¬ P

said : {P : Type 0} (w : Settled) → ((P → (w ≡ Hit) ⊎ (w ≡ Touch)) × ((w ≡ Hit) ⊎ (w ≡ Touch) → P)) → (b : Bool) → troubled w ≡ b → Says b P
unfolding troubled Says
said Hit h true e = h.1 (inl refl)
said Touch h true e = h.1 (inr refl)
said Miss h false e = λ p. ⊎_elim (λ q. let z : ◌≡◌ {A = ℕ} 0 1 = cc in omega arith) (λ q. let z : ◌≡◌ {A = ℕ} 0 1 = cc in omega arith) (h.0 p)
said Apart h false e = λ p. ⊎_elim (λ q. let z : ◌≡◌ {A = ℕ} 0 1 = cc in omega arith) (λ q. let z : ◌≡◌ {A = ℕ} 0 1 = cc in omega arith) (h.0 p)
said Hit h false e = let z : ◌≡◌ {A = ℕ} 0 1 = cc in absurd (omega arith)
said Touch h false e = let z : ◌≡◌ {A = ℕ} 0 1 = cc in absurd (omega arith)
said Miss h true e = let z : ◌≡◌ {A = ℕ} 0 1 = cc in absurd (omega arith)
said Apart h true e = let z : ◌≡◌ {A = ℕ} 0 1 = cc in absurd (omega arith)

pub touches_said : (s : Scene) (kind : Kind) (i j : ℕ) (b : Bool) → troubled (pair_word s kind i j) ≡ b → Says b (SomeTouches s kind i j)
touches_said s kind i j b e = said (pair_word s kind i j) (hit_or_touch s kind i j (pair_word s kind i j) (settled_pair s kind i j)) b e

pub pierced_said : (s : Scene) (f : Frame) (i j : ℕ) (b : Bool) → troubled (pair_word (crossing_of s f i j) PointTriangle 0 0) ≡ b → Says b (Pierced s f i j)
pierced_said s f i j b e =
    said (pair_word (crossing_of s f i j) PointTriangle 0 0)
    (pierced_word s f i j (pair_word (crossing_of s f i j) PointTriangle 0 0) (settled_pair (crossing_of s f i j) PointTriangle 0 0)) b e

-- ---- an edge, a triangle and its three sides

abbrev pub motion : List ℤ → Scene
motion ps = scene_of ps (0 ∷ 1 ∷ 2 ∷ 3 ∷ 3 ∷ 4 ∷ 2 ∷ 4 ∷ []) (2 ∷ 3 ∷ 4 ∷ []) []

-- the edge touches with its first end, with its second, on the first side, the second, the third; pierced at the start, and at the end
unfoldable pub seven_answers : Scene → List Bool
seven_answers s =
    troubled (pair_word s PointTriangle 0 0) ∷ troubled (pair_word s PointTriangle 1 0)
    ∷ troubled (pair_word s EdgeEdge 0 1) ∷ troubled (pair_word s EdgeEdge 0 2) ∷ troubled (pair_word s EdgeEdge 0 3)
    ∷ troubled (pair_word (crossing_of s Start 0 0) PointTriangle 0 0) ∷ troubled (pair_word (crossing_of s End 0 0) PointTriangle 0 0) ∷ []

pub record Seven (s : Scene) (a b x y z start end : Bool) : Type 0 where
  pub first_end : Says a (SomeTouches s PointTriangle 0 0)
  pub second_end : Says b (SomeTouches s PointTriangle 1 0)
  pub first_side : Says x (SomeTouches s EdgeEdge 0 1)
  pub second_side : Says y (SomeTouches s EdgeEdge 0 2)
  pub third_side : Says z (SomeTouches s EdgeEdge 0 3)
  pub at_start : Says start (Pierced s Start 0 0)
  pub at_end : Says end (Pierced s End 0 0)

pub seven : (s : Scene) (a b x y z start end : Bool) → seven_answers s ≡ a ∷ b ∷ x ∷ y ∷ z ∷ start ∷ end ∷ [] → Seven s a b x y z start end
unfolding seven_answers
seven s a b x y z start end e = record {
  first_end = touches_said s PointTriangle 0 0 a (ap (λ (l : List Bool). get_or l 0 false) e);
  second_end = touches_said s PointTriangle 1 0 b (ap (λ (l : List Bool). get_or l 1 false) e);
  first_side = touches_said s EdgeEdge 0 1 x (ap (λ (l : List Bool). get_or l 2 false) e);
  second_side = touches_said s EdgeEdge 0 2 y (ap (λ (l : List Bool). get_or l 3 false) e);
  third_side = touches_said s EdgeEdge 0 3 z (ap (λ (l : List Bool). get_or l 4 false) e);
  at_start = pierced_said s Start 0 0 start (ap (λ (l : List Bool). get_or l 5 false) e);
  at_end = pierced_said s End 0 0 end (ap (λ (l : List Bool). get_or l 6 false) e);
}

-- ---- two in which nothing is touched

-- the triangle (0 0 0) (4 0 0) (0 4 4) at rest, and an edge that comes down on it from height h to height k; at its place the triangle is at height 1
abbrev pub down_to : ℤ → ℤ → List ℤ
down_to h k =
    pos 1 ∷ pos 1 ∷ h ∷ pos 1 ∷ pos 1 ∷ k ∷ pos 2 ∷ pos 1 ∷ h ∷ pos 2 ∷ pos 1 ∷ k
    ∷ pos 0 ∷ pos 0 ∷ pos 0 ∷ pos 0 ∷ pos 0 ∷ pos 0 ∷ pos 4 ∷ pos 0 ∷ pos 0 ∷ pos 4 ∷ pos 0 ∷ pos 0 ∷ pos 0 ∷ pos 4 ∷ pos 4 ∷ pos 0 ∷ pos 4 ∷ pos 4 ∷ []

abbrev pub comes_near : Scene
comes_near = motion (down_to (pos 6) (pos 3))

abbrev pub comes_nearer : Scene
comes_nearer = motion (down_to (pos 3) (pos 2))

-- the same, with a seam: vertex 5 stands for corner 3, and the sides there are edges of vertex 5
abbrev pub sewn_side : Scene
sewn_side = scene_of (down_to (pos 6) (pos 3) ++ (pos 4 ∷ pos 0 ∷ pos 0 ∷ pos 4 ∷ pos 0 ∷ pos 0 ∷ [])) (0 ∷ 1 ∷ 2 ∷ 5 ∷ 4 ∷ 5 ∷ 2 ∷ 4 ∷ []) (2 ∷ 3 ∷ 4 ∷ []) (5 ∷ 3 ∷ [])

-- the triangle (0 0 0) (4 0 0) (0 4 0) at rest, and the edge (1 1 -1) (1 1 1) through it, which goes one along x
abbrev pub stays_through : Scene
stays_through =
    motion (pos 1 ∷ pos 1 ∷ negsuc 0 ∷ pos 2 ∷ pos 1 ∷ negsuc 0 ∷ pos 1 ∷ pos 1 ∷ pos 1 ∷ pos 2 ∷ pos 1 ∷ pos 1
    ∷ pos 0 ∷ pos 0 ∷ pos 0 ∷ pos 0 ∷ pos 0 ∷ pos 0 ∷ pos 4 ∷ pos 0 ∷ pos 0 ∷ pos 4 ∷ pos 0 ∷ pos 0 ∷ pos 0 ∷ pos 4 ∷ pos 0 ∷ pos 0 ∷ pos 4 ∷ pos 0 ∷ [])

-- ---- one in which it touches and nothing is hit

-- the same triangle, and an edge that slides into it in its plane, from (-3 1 0) (-2 1 0) to (1 1 0) (2 1 0)
abbrev pub slides_in : Scene
slides_in =
    motion (negsuc 2 ∷ pos 1 ∷ pos 0 ∷ pos 1 ∷ pos 1 ∷ pos 0 ∷ negsuc 1 ∷ pos 1 ∷ pos 0 ∷ pos 2 ∷ pos 1 ∷ pos 0
    ∷ pos 0 ∷ pos 0 ∷ pos 0 ∷ pos 0 ∷ pos 0 ∷ pos 0 ∷ pos 4 ∷ pos 0 ∷ pos 0 ∷ pos 4 ∷ pos 0 ∷ pos 0 ∷ pos 0 ∷ pos 4 ∷ pos 0 ∷ pos 0 ∷ pos 4 ∷ pos 0 ∷ [])

unfoldable pub five_words : Scene → List Settled
five_words s = pair_word s PointTriangle 0 0 ∷ pair_word s PointTriangle 1 0 ∷ pair_word s EdgeEdge 0 1 ∷ pair_word s EdgeEdge 0 2 ∷ pair_word s EdgeEdge 0 3 ∷ []

-- ---- in each of five it touches once

-- -1, 0 and 1
abbrev n : ℤ
n = negsuc 0

abbrev o : ℤ
o = pos 0

abbrev p : ℤ
p = pos 1

abbrev pub first_end_touches : Scene
first_end_touches =
    motion (o ∷ o ∷ o ∷ o ∷ o ∷ n ∷ p ∷ n ∷ p ∷ n ∷ o ∷ p ∷ n ∷ p ∷ o ∷ n ∷ p ∷ o ∷ o ∷ n ∷ n ∷ o ∷ n ∷ n ∷ o ∷ p ∷ n ∷ p ∷ p ∷ n ∷ [])

abbrev pub second_end_touches : Scene
second_end_touches =
    motion (o ∷ o ∷ n ∷ o ∷ o ∷ n ∷ n ∷ o ∷ n ∷ o ∷ n ∷ p ∷ n ∷ n ∷ n ∷ n ∷ n ∷ n ∷ n ∷ o ∷ p ∷ n ∷ o ∷ p ∷ p ∷ n ∷ p ∷ p ∷ n ∷ p ∷ [])

abbrev pub first_side_touches : Scene
first_side_touches =
    motion (p ∷ o ∷ p ∷ p ∷ p ∷ o ∷ o ∷ n ∷ o ∷ o ∷ n ∷ o ∷ p ∷ p ∷ p ∷ p ∷ p ∷ p ∷ p ∷ p ∷ o ∷ o ∷ n ∷ n ∷ n ∷ p ∷ o ∷ n ∷ p ∷ o ∷ [])

abbrev pub second_side_touches : Scene
second_side_touches =
    motion (o ∷ o ∷ o ∷ p ∷ o ∷ o ∷ p ∷ n ∷ o ∷ p ∷ n ∷ o ∷ n ∷ p ∷ o ∷ n ∷ p ∷ o ∷ n ∷ o ∷ o ∷ p ∷ n ∷ n ∷ p ∷ o ∷ p ∷ p ∷ o ∷ p ∷ [])

abbrev pub third_side_touches : Scene
third_side_touches =
    motion (o ∷ n ∷ p ∷ o ∷ n ∷ p ∷ p ∷ p ∷ p ∷ o ∷ o ∷ o ∷ n ∷ p ∷ o ∷ n ∷ p ∷ o ∷ o ∷ p ∷ n ∷ o ∷ n ∷ o ∷ p ∷ n ∷ p ∷ p ∷ n ∷ p ∷ [])

-- ---- computed

pub record AllComputed : Type 0 where
  pub near : seven_answers comes_near ≡ false ∷ false ∷ false ∷ false ∷ false ∷ false ∷ false ∷ []
  pub sewn : seven_answers sewn_side ≡ false ∷ false ∷ false ∷ false ∷ false ∷ false ∷ false ∷ []
  pub through : seven_answers stays_through ≡ false ∷ false ∷ false ∷ false ∷ false ∷ true ∷ true ∷ []
  pub slides : seven_answers slides_in ≡ true ∷ true ∷ false ∷ false ∷ true ∷ false ∷ true ∷ []
  pub slide_words : five_words slides_in ≡ Touch ∷ Touch ∷ Apart ∷ Apart ∷ Touch ∷ []
  pub first_end : seven_answers first_end_touches ≡ true ∷ false ∷ false ∷ false ∷ false ∷ false ∷ true ∷ []
  pub second_end : seven_answers second_end_touches ≡ false ∷ true ∷ false ∷ false ∷ false ∷ false ∷ true ∷ []
  pub first_side : seven_answers first_side_touches ≡ false ∷ false ∷ true ∷ false ∷ false ∷ false ∷ true ∷ []
  pub second_side : seven_answers second_side_touches ≡ false ∷ false ∷ false ∷ true ∷ false ∷ false ∷ true ∷ []
  pub third_side : seven_answers third_side_touches ≡ false ∷ false ∷ false ∷ false ∷ true ∷ false ∷ true ∷ []

pub all_computed : AllComputed
unfolding seven_answers five_words troubled where_at some_below stood_for piece_count piece_verdict joined_below joined point_differences edge_differences start_sum end_sum volume verdict_of agreeing pair_word is_touch piece_word settled_by touching by_leaf leaf_of otherwise turn_of judged_in base_in first_of skip slot next axis one_way keep six_of point_six edges_six
all_computed = record { near = refl; sewn = refl; through = refl; slides = refl; slide_words = refl; first_end = refl; second_end = refl; first_side = refl; second_side = refl; third_side = refl }
