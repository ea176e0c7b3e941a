-- What keeps pierced as it is: demand 3's maps and shifts, another order of writing, a frame given twice; and rational weights say the same.
use Rattle.std.specs.Prelude.{ℕ, ◌<◌, ◌≡◌, ◌↔◌, List, [], ◌∷◌, map, ℤ}
use Rattle.std.proofs.Common.{◌∙◌, ap}
use Rattle.whole.specs.Vector.{Vector}
use Rattle.whole.specs.VectorLaws.{Matrix}
use Rattle.meaning.specs.Scene.{Scene, scene_of, vertex_count, edge_count, triangle_count, edge_end, corner, counts_as}
use Rattle.meaning.specs.Pieces.{Event}
use Rattle.meaning.specs.Equations.{Touch}
use Rattle.meaning.specs.Pierced.{stands_at, Pierced}
use Rattle.meaning.specs.Near.{where_at}
use Rattle.meaning.specs.declared.Frame.{Frame}
use Rattle.meaning.specs.declared.Frame.TheVariants.{Start, End}
use Rattle.theory.specs.Bounds.{Every}
use Rattle.theory.specs.Rearranged.{rearranged_back, rearranged_map}
use Rattle.theory.specs.SamePoints.{touch_rearranged}
use Rattle.theory.specs.Written.{ends_written, corners_written}
use Rattle.theory.specs.Rewritten.{Rewritten}
use Rattle.theory.specs.Sent.{sent, touch_there, touch_back}
use Rattle.theory.specs.Moved.{Moves, follows}
use Rattle.theory.specs.NoCrack.{Sewn}
use Rattle.theory.specs.Rational.{RationalTouch, touch_rational}
use Rattle.corner_laws.specs.AtRest.{Still}
use Rattle.pierced_laws.specs.OneTime.{end_places, corner_places, pierced_together}

-- the points of the two parts at that time
abbrev pub ends_at : Scene → Frame → ℕ → List Event
ends_at s f i = map (stands_at f s.positions) (ends_written s i)

abbrev pub corners_at : Scene → Frame → ℕ → List Event
corners_at s f j = map (stands_at f s.positions) (corners_written s j)

-- ---- maps and shifts

module _ {m : Matrix} {a b : Vector} {s t : Scene} (h : Moves m a b s t) (f : Frame) (i j : ℕ) (ends : Every (λ v. v < vertex_count s) (ends_written s i)) (corners : Every (λ v. v < vertex_count s) (corners_written s j)) where
  goes : (v : ℕ) → v < vertex_count s → stands_at f t.positions v ≡ sent m a b (stands_at f s.positions v)
  unfolding stands_at
  goes v there = go f
    where
      go : (f : Frame) → stands_at f t.positions v ≡ sent m a b (stands_at f s.positions v)
      go Start = (follows h).starts v there
      go End = (follows h).ends v there

  end_stays : (k : ℕ) → edge_end t i k ≡ edge_end s i k
  end_stays k = ap (λ (l : List ℕ). edge_end (scene_of [] l [] []) i k) h.edges

  corner_stays : (k : ℕ) → corner t j k ≡ corner s j k
  corner_stays k = ap (λ (l : List ℕ). corner (scene_of [] [] l []) j k) h.triangles

  end_goes : (k : ℕ) → edge_end s i k < vertex_count s → stands_at f t.positions (edge_end t i k) ≡ sent m a b (stands_at f s.positions (edge_end s i k))
  end_goes k there = ap (stands_at f t.positions) (end_stays k) ∙ goes (edge_end s i k) there

  corner_goes : (k : ℕ) → corner s j k < vertex_count s → stands_at f t.positions (corner t j k) ≡ sent m a b (stands_at f s.positions (corner s j k))
  corner_goes k there = ap (stands_at f t.positions) (corner_stays k) ∙ goes (corner s j k) there

  ends_sent : ends_at t f i ≡ map (sent m a b) (ends_at s f i)
  ends_sent = λ n. end_goes 0 ends.0 n ∷ end_goes 1 ends.1.0 n ∷ []

  corners_sent : corners_at t f j ≡ map (sent m a b) (corners_at s f j)
  corners_sent = λ n. corner_goes 0 corners.0 n ∷ corner_goes 1 corners.1.0 n ∷ corner_goes 2 corners.1.1.0 n ∷ []

  pub moved_keeps_pierced : Pierced s f i j ↔ Pierced t f i j
  moved_keeps_pierced = (
    λ p. rw (ends_sent, corners_sent) (touch_there m a b (ends_at s f i) (corners_at s f j) p),
    λ p. touch_back m a b (ends_at s f i) (corners_at s f j) h.nonzero (rw (ends_sent, corners_sent) at p),
  )

-- ---- another order of writing

module _ {s t : Scene} (h : Rewritten s t) (f : Frame) (i j : ℕ) (edge : i < edge_count s) (triangle : j < triangle_count s) where
  abbrev in_positions : List ℤ → List ℕ → List ℕ → Type 0
  in_positions ps a b = Touch (map (stands_at f ps) a) (map (stands_at f ps) b)

  pub rewritten_keeps_pierced : Pierced s f i j ↔ Pierced t f i j
  rewritten_keeps_pierced =
      let at : ℕ → Event = stands_at f s.positions in
      let e = rearranged_map at (h.edges i edge) in
      let c = rearranged_map at (h.triangles j triangle) in (
        λ p. rw h.positions (touch_rearranged e c p),
        λ p. touch_rearranged (rearranged_back e) (rearranged_back c) (rw h.positions at p),
      )

-- ---- a frame that is given as start and as end is pierced at both or at neither

module _ (s : Scene) (still : (v : ℕ) → Still s.positions v) (i j : ℕ) where
  one_place : (v : ℕ) → where_at End s v ≡ where_at Start s v
  unfolding where_at
  one_place v = (still v).place

  pub one_frame : Pierced s Start i j ↔ Pierced s End i j
  one_frame =
      let ends : end_places s End i ≡ end_places s Start i = λ n. one_place (edge_end s i 0) n ∷ one_place (edge_end s i 1) n ∷ [] in
      let corners : corner_places s End j ≡ corner_places s Start j = λ n. one_place (corner s j 0) n ∷ one_place (corner s j 1) n ∷ one_place (corner s j 2) n ∷ [] in (
        λ p. (pierced_together s End i j).1 (rw (ends, corners) ((pierced_together s Start i j).0 p)),
        λ p. (pierced_together s Start i j).1 (rw (ends, corners) at ((pierced_together s End i j).0 p)),
      )

-- ---- at a seam each vertex is where the one that it stands for is: so parts may be written by the vertices stood for

pub sewn_place : {s : Scene} → Sewn s → (f : Frame) (v : ℕ) → stands_at f s.positions (counts_as s v) ≡ stands_at f s.positions v
unfolding stands_at
sewn_place sewn Start v = sewn.starts v
sewn_place sewn End v = sewn.ends v

-- ---- with rational weights, as they are first said

pub pierced_rational : (s : Scene) (f : Frame) (i j : ℕ) → Pierced s f i j ↔ RationalTouch (ends_at s f i) (corners_at s f j)
pierced_rational s f i j = touch_rational (ends_at s f i) (corners_at s f j)
