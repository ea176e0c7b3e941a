-- The scene that demand 3 speaks of, made: every start position sent through the matrix and shifted, every end position sent and shifted by the
-- other shift. There is one, and only one, so demand 3 is of no empty set.
use Rattle.std.specs.Prelude.{ℕ, zero, suc, ◌+◌, ◌*◌, ◌/◌, ◌%◌, ◌<◌, ◌≢◌, ◌≡◌, refl, ℤ, pos}
use mathlib.Core.List.{List, [], ◌∷◌, ◌++◌, flat_map}
use Rattle.std.proofs.Math.Path.{sym, ap}
use Rattle.std.proofs.Common.{◌∙◌, not-suc-le-zero, length-append, get_or-append-add}
use native.Mathlib.Omega.{arith}
use Rattle.std.proofs.Math.Decide.{dec_lt}
use Rattle.std.proofs.Math.ListN.{length, get_or, get_or-append}
use Rattle.std.proofs.Math.Seq.{ext_get_or}
use Rattle.sequences.specs.Flat.{flat_length, flat_at}
use Rattle.whole.specs.Vector.{Vector, plus, volume}
use Rattle.whole.specs.VectorLaws.{Matrix, apply, det, vector_eq}
use Rattle.meaning.specs.Scene.{Scene, scene_of, Accepted, vertex_count, start_of, end_of, some_below, stood_for}
use Rattle.meaning.specs.Text.{coordinates}
use Rattle.theory.specs.Moved.{Moves}
use Rattle.scene_checks.specs.Facts.{accepted_sized}
use Rattle.demands.specs.Table.{neg, at, numbered}

-- 0, 1, … up to and without n
unfoldable pub up_to : ℕ → List ℕ
up_to zero = []
up_to (suc n) = up_to n ++ (n ∷ [])

up_to_long : (n : ℕ) → length (up_to n) ≡ n
unfolding up_to
up_to_long zero = refl
up_to_long (suc n) = omega (arith, length-append (up_to n) (n ∷ []), up_to_long n)

up_to_at : (n v : ℕ) → v < n → get_or (up_to n) v 0 ≡ v
unfolding up_to
up_to_at zero v h = absurd (not-suc-le-zero h)
up_to_at (suc n) v h = go (dec_lt v n) (up_to_at n v)
  where
    go : Dec (v < n) → (v < n → get_or (up_to n) v 0 ≡ v) → get_or (up_to n ++ (n ∷ [])) v 0 ≡ v
    go (yes l) before = get_or-append (up_to n) (n ∷ []) 0 v (omega (arith, up_to_long n)) ∙ before l
    go (no l) before =
        let e : v ≡ length (up_to n) + 0 = omega (arith, up_to_long n) in
        rw e (get_or-append-add (up_to n) (n ∷ []) 0 0 ∙ omega (arith, up_to_long n))

module _ (m : Matrix) (a b : Vector) where
  -- the six numbers of a vertex
  abbrev pub sent_vertex : Scene → ℕ → List ℤ
  sent_vertex s v = coordinates (plus (apply m (start_of s v)) a) (plus (apply m (end_of s v)) b)

  unfoldable pub send : Scene → Scene
  unfolding up_to
  send s = scene_of (flat_map (sent_vertex s) (up_to (vertex_count s))) s.edges s.triangles s.seams

  module _ (s : Scene) where
    -- the number k of the vertex v, wherever it stands
    sent_at : (v k n : ℕ) → v < vertex_count s → k < 6 → n ≡ 6 * v + k → get_or (send s).positions n (pos 0) ≡ get_or (sent_vertex s v) k (pos 0)
    unfolding send
    sent_at v k n h l e =
        let f : n ≡ v * 6 + k = omega arith in
        rw f
        (flat_at (sent_vertex s) 6 (λ v. refl) (up_to (vertex_count s)) v k 0 (pos 0) (omega (arith, up_to_long (vertex_count s))) l
        ∙ ap (λ w. get_or (sent_vertex s w) k (pos 0)) (up_to_at (vertex_count s) v h))

    sent_long : Accepted s → length (send s).positions ≡ length s.positions
    unfolding send
    sent_long accepted =
        omega (arith, flat_length (sent_vertex s) 6 (λ v. refl) (up_to (vertex_count s)), up_to_long (vertex_count s), (accepted_sized accepted).positions_long)

    pub moves_sent : det m ≢ pos 0 → Accepted s → Moves m a b s (send s)
    unfolding send
    moves_sent nonzero accepted = record {
      nonzero = nonzero;
      starts = λ v h. vector_eq (sent_at v 0 _ h (omega arith) (omega arith)) (sent_at v 1 _ h (omega arith) (omega arith)) (sent_at v 2 _ h (omega arith) (omega arith));
      ends = λ v h. vector_eq (sent_at v 3 _ h (omega arith) (omega arith)) (sent_at v 4 _ h (omega arith) (omega arith)) (sent_at v 5 _ h (omega arith) (omega arith));
      edges = refl;
      triangles = refl;
      seams = refl;
      size = sent_long accepted;
    }

    module _ {t : Scene} (h : Moves m a b s t) where
      moved_at : (v k : ℕ) → v < vertex_count s → k < 6 → get_or t.positions (6 * v + k) (pos 0) ≡ get_or (sent_vertex s v) k (pos 0)
      moved_at v zero l k = let e : 6 * v + 0 ≡ 6 * v = omega arith in rw e (ap (λ (u : Vector). u.x) (h.starts v l))
      moved_at v (suc zero) l k = ap (λ (u : Vector). u.y) (h.starts v l)
      moved_at v (suc (suc zero)) l k = ap (λ (u : Vector). u.z) (h.starts v l)
      moved_at v (suc (suc (suc zero))) l k = ap (λ (u : Vector). u.x) (h.ends v l)
      moved_at v (suc (suc (suc (suc zero)))) l k =
          let e : 6 * v + 4 ≡ 6 * v + 3 + 1 = omega arith in rw e (ap (λ (u : Vector). u.y) (h.ends v l))
      moved_at v (suc (suc (suc (suc (suc zero))))) l k =
          let e : 6 * v + 5 ≡ 6 * v + 3 + 2 = omega arith in rw e (ap (λ (u : Vector). u.z) (h.ends v l))
      moved_at v (suc (suc (suc (suc (suc (suc k)))))) l h = absurd (omega arith)

      pub moves_only : Accepted s → t ≡ send s
      unfolding send
      moves_only accepted =
          let long : length t.positions ≡ length (send s).positions = h.size ∙ sym (sent_long accepted) in
          let positions : t.positions ≡ (send s).positions =
          ext_get_or (pos 0) t.positions (send s).positions long
          (λ i l.
          let known : i < 6 * vertex_count s = omega (arith, h.size, (accepted_sized accepted).positions_long) in
          let e : i ≡ 6 * (i / 6) + i % 6 = omega arith in
          ap (λ n. get_or t.positions n (pos 0)) e ∙ moved_at (i / 6) (i % 6) (omega arith) (omega arith) ∙ sym (sent_at (i / 6) (i % 6) i (omega arith) (omega arith) e)) in
          λ n. scene_of (positions n) (h.edges n) (h.triangles n) (h.seams n)

abbrev pub turning : Matrix
turning = record { a = at (pos 0) (pos 1) (pos 0); b = at (pos 2) (pos 1) (pos 0); c = at (pos 3) (pos 0) (pos 1) }

-- both scenes can be accepted: the scene of case 1, through a matrix of determinant -2, with two shifts
pub both_accepted : Accepted (send turning (at (pos 5) (pos 0) (neg 7)) (at (neg 1) (pos 9) (pos 0)) (numbered 1).scene)
unfolding send up_to flat_map some_below stood_for
both_accepted = record { shapely = refl; in_range = refl; known = refl; sewn_well = refl; distinct = refl }

turning_nonzero : det turning ≡ neg 2
unfolding volume
turning_nonzero = refl
