-- The scene turned round, number by number: each coordinate comes from one place of the scene, and from that place comes the one here. So vertex
-- `last - v` starts where vertex v ended and ends where it started; turned twice it is the scene.
use Prim.Native.Nat.{ℕ, zero, suc, ◌+◌, ◌-◌, ◌*◌, ◌/◌, ◌%◌, ◌≤◌, ◌<◌}
use Rattle.std.specs.Prelude.{cond, List, ◌++◌, map, ◌≡◌, refl, ltb, ℤ, pos, length, get_or, drop}
use Rattle.std.proofs.Common.{sym, ◌∙◌, ap, ap₂, arith, get_or-append-add, get_or-drop, ext_get_or, lt-ltb, le-ltb}
use Rattle.std.proofs.Math.Decide.{dec_lt}
use Rattle.std.proofs.Math.ListN.{length-append, length-drop, get_or-append}
use Rattle.whole.specs.VectorLaws.{vector_eq}
use Rattle.sequences.specs.Gather.{gather}
use Rattle.meaning.specs.Scene.{Scene, vertex_count, start_of, end_of}
use Rattle.meaning.specs.Backwards.{from_last, end_first, turned_round}
use Rattle.sequences.specs.Blocks.{gather_wide, gather_at}
use Rattle.turning_laws.specs.Numbers.{known_number, number_below, numbers_twice}

-- ---- where a coordinate comes from

-- of n vertices: the other half of the vertex with the number counted from the last; behind the vertices, the place itself
abbrev pub source : ℕ → ℕ → ℕ
source n i = cond (ltb i (6 * n)) (6 * (n - 1 - i / 6) + (i + 3) % 6) i

module _ (n : ℕ) where
  pub source_inside : (i : ℕ) → i < 6 * n → source n i ≡ 6 * (n - 1 - i / 6) + (i + 3) % 6
  source_inside i h = rw (lt-ltb i (6 * n) h)

  pub source_behind : (i : ℕ) → 6 * n ≤ i → source n i ≡ i
  source_behind i h = rw (le-ltb i (6 * n) h)

  pub source_below : (i : ℕ) → i < 6 * n → source n i < 6 * n
  source_below i h = rw (source_inside i h) (omega arith)

  -- of number k of vertex v
  pub source_at : (v k : ℕ) → v < n → k < 6 → source n (6 * v + k) ≡ 6 * (n - 1 - v) + (k + 3) % 6
  source_at v k h l = source_inside (6 * v + k) (omega arith) ∙ ap₂ (λ x y. 6 * (n - 1 - x) + y) (omega arith) (omega arith)

  pub source_twice : (i : ℕ) → source n (source n i) ≡ i
  source_twice i = go (dec_lt i (6 * n))
    where
      half_twice : (k : ℕ) → k < 6 → ((k + 3) % 6 + 3) % 6 ≡ k
      half_twice k h = omega arith

      go : Dec (i < 6 * n) → source n (source n i) ≡ i
      go (yes h) =
          let cut : i ≡ 6 * (i / 6) + i % 6 = omega arith in
          let v : ℕ = n - 1 - i / 6 in
          let k : ℕ = (i % 6 + 3) % 6 in
          let once : source n i ≡ 6 * v + k = ap (source n) cut ∙ source_at (i / 6) (i % 6) (omega arith) (omega arith) in
          let back : n - 1 - v ≡ i / 6 = omega arith in
          ap (source n) once ∙ source_at v k (omega arith) (omega arith) ∙ ap₂ (λ x y. 6 * x + y) back (half_twice (i % 6) (omega arith)) ∙ sym cut
      go (no h) = let k : 6 * n ≤ i = omega arith in rw (source_behind i k, source_behind i k)

-- ---- the coordinates

six_numbers : (s : Scene) (v k : ℕ) → k < 6 → get_or (end_first s v) k (pos 0) ≡ get_or s.positions (6 * v + (k + 3) % 6) (pos 0)
six_numbers s v zero h = refl
six_numbers s v (suc zero) h = ap (λ i. get_or s.positions i (pos 0)) (omega arith)
six_numbers s v (suc (suc zero)) h = ap (λ i. get_or s.positions i (pos 0)) (omega arith)
six_numbers s v (suc (suc (suc zero))) h = ap (λ i. get_or s.positions i (pos 0)) (omega arith)
six_numbers s v (suc (suc (suc (suc zero)))) h = ap (λ i. get_or s.positions i (pos 0)) (omega arith)
six_numbers s v (suc (suc (suc (suc (suc zero))))) h = ap (λ i. get_or s.positions i (pos 0)) (omega arith)
six_numbers s v (suc (suc (suc (suc (suc (suc k)))))) h = absurd (omega arith)

module _ (s : Scene) where
  abbrev vertices : List ℤ
  vertices = gather (λ v. end_first s (from_last (vertex_count s) v)) 0 (vertex_count s)

  vertices_long : length vertices ≡ 6 * vertex_count s
  vertices_long = omega (arith, gather_wide (λ v. end_first s (from_last (vertex_count s) v)) 6 (λ j. refl) 0 (vertex_count s))

  pub as_long : length (turned_round s).positions ≡ length s.positions
  unfolding turned_round
  as_long =
      omega (arith, length-append vertices (drop (6 * vertex_count s) s.positions), vertices_long, length-drop (6 * vertex_count s) s.positions)

  pub coordinate : (i : ℕ) → get_or (turned_round s).positions i (pos 0) ≡ get_or s.positions (source (vertex_count s) i) (pos 0)
  unfolding turned_round
  coordinate i = go (dec_lt i (6 * vertex_count s))
    where
      n : ℕ
      n = vertex_count s

      rest : List ℤ
      rest = drop (6 * vertex_count s) s.positions

      go : Dec (i < 6 * vertex_count s) → get_or (vertices ++ rest) i (pos 0) ≡ get_or s.positions (source (vertex_count s) i) (pos 0)
      go (yes h) =
          let v : ℕ = i / 6 in
          let cut : i ≡ v * 6 + i % 6 = omega arith in
          get_or-append vertices rest (pos 0) i (omega (arith, vertices_long))
          ∙ ap (λ k. get_or vertices k (pos 0)) cut
          ∙ gather_at (λ v. end_first s (from_last (vertex_count s) v)) 6 (λ j. refl) (vertex_count s) v (i % 6) (pos 0) (omega arith) (omega arith)
          ∙ six_numbers s (from_last (vertex_count s) v) (i % 6) (omega arith)
          ∙ ap (λ k. get_or s.positions k (pos 0))
          (ap (λ w. 6 * w + (i % 6 + 3) % 6) (known_number (vertex_count s) v (omega arith))
          ∙ sym (source_at (vertex_count s) v (i % 6) (omega arith) (omega arith))
          ∙ ap (source (vertex_count s)) (omega arith))
      go (no h) =
          let far : i ≡ length vertices + (i - 6 * vertex_count s) = omega (arith, vertices_long) in
          ap (λ k. get_or (vertices ++ rest) k (pos 0)) far
          ∙ get_or-append-add vertices rest (i - 6 * vertex_count s) (pos 0)
          ∙ get_or-drop (6 * vertex_count s) s.positions (i - 6 * vertex_count s) (pos 0)
          ∙ ap (λ k. get_or s.positions k (pos 0)) (omega (arith, source_behind (vertex_count s) i (omega arith)))

-- ---- what turning round does to a scene

-- t is s turned round
pub record TurnsRound (s t : Scene) : Type 0 where
  pub size : length t.positions ≡ length s.positions
  pub starts : (v : ℕ) → v < vertex_count s → start_of t (from_last (vertex_count s) v) ≡ end_of s v
  pub ends : (v : ℕ) → v < vertex_count s → end_of t (from_last (vertex_count s) v) ≡ start_of s v
  pub edges : t.edges ≡ map (from_last (vertex_count s)) s.edges
  pub triangles : t.triangles ≡ map (from_last (vertex_count s)) s.triangles
  pub seams : t.seams ≡ s.seams

module _ (s : Scene) (v : ℕ) (h : v < vertex_count s) where
  abbrev n : ℕ
  n = vertex_count s

  -- number k of vertex v, under its new number, is what it was half a vertex further on
  number : (k i j : ℕ) → k < 6 → i ≡ 6 * from_last n v + k → j ≡ 6 * v + (k + 3) % 6
      → get_or (turned_round s).positions i (pos 0) ≡ get_or s.positions j (pos 0)
  number k i j l at from =
      coordinate s i
      ∙ ap (λ p. get_or s.positions p (pos 0))
      (ap (source n) at ∙ source_at n (from_last n v) k (number_below n v h) l ∙ ap (λ w. 6 * w + (k + 3) % 6) (omega (arith, known_number n v h)) ∙ sym from)

  pub turned_start : start_of (turned_round s) (from_last n v) ≡ end_of s v
  turned_start =
      let w : ℕ = from_last n v in
      vector_eq (number 0 (6 * w) (6 * v + 3) (omega arith) (omega arith) (omega arith))
      (number 1 (6 * w + 1) (6 * v + 3 + 1) (omega arith) (omega arith) (omega arith))
      (number 2 (6 * w + 2) (6 * v + 3 + 2) (omega arith) (omega arith) (omega arith))

  pub turned_end : end_of (turned_round s) (from_last n v) ≡ start_of s v
  turned_end =
      let w : ℕ = from_last n v in
      vector_eq (number 3 (6 * w + 3) (6 * v) (omega arith) (omega arith) (omega arith))
      (number 4 (6 * w + 3 + 1) (6 * v + 1) (omega arith) (omega arith) (omega arith))
      (number 5 (6 * w + 3 + 2) (6 * v + 2) (omega arith) (omega arith) (omega arith))

pub turns_round : (s : Scene) → TurnsRound s (turned_round s)
turns_round s = record {
  size = as_long s;
  starts = turned_start s;
  ends = turned_end s;
  edges = unfold turned_round in refl;
  triangles = unfold turned_round in refl;
  seams = unfold turned_round in refl;
}

-- ---- turned twice

pub turned_twice : (s : Scene) → turned_round (turned_round s) ≡ s
unfolding turned_round
turned_twice s = λ i. record { positions = places i; edges = numbers s.edges i; triangles = numbers s.triangles i; seams = s.seams }
  where
    t : Scene
    t = turned_round s

    counts : vertex_count t ≡ vertex_count s
    counts = ap (λ k. k / 6) (as_long s)

    places : (turned_round t).positions ≡ s.positions
    places =
        ext_get_or (pos 0) (turned_round t).positions s.positions (as_long t ∙ as_long s) (λ i h.
        coordinate t i ∙ coordinate s (source (vertex_count t) i)
        ∙ ap (λ k. get_or s.positions k (pos 0)) (ap (λ n. source (vertex_count s) (source n i)) counts ∙ source_twice (vertex_count s) i))

    numbers : (l : List ℕ) → map (from_last (vertex_count t)) (map (from_last (vertex_count s)) l) ≡ l
    numbers l = ap (λ n. map (from_last n) (map (from_last (vertex_count s)) l)) counts ∙ numbers_twice (vertex_count s) l
