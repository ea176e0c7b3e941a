-- At one time the box of a vertex is its place: on each axis the low and the high are the same number.
use Rattle.std.specs.Prelude.{ℕ, ◌+◌, ◌*◌, ◌<◌, List, ◌≡◌, refl, ℤ, pos, length, get_or}
use Rattle.std.proofs.Common.{sym, ap, ◌∙◌, subst}
use Rattle.whole.specs.Vector.{Vector}
use Rattle.meaning.specs.Scene.{Scene, vector_at}
use Rattle.meaning.specs.Boxes.{Span}
use Rattle.meaning.specs.StoredBoxes.{Box, box_of, BoxesStand}
use Rattle.meaning.specs.Near.{where_at, vertex_span_at}
use Rattle.meaning.specs.declared.Frame.{Frame}
use Rattle.meaning.specs.declared.Frame.TheVariants.{Start, End}
use Rattle.scene_seams.specs.Alone.{only_positions}
use Rattle.list_boxes.specs.Storing.{BoxStored, with_span, with_box, box_stored}
use Rattle.pierced_pair.specs.Vertices.{offset_of, offset_where}

abbrev pub vertex_box_at : Frame → Scene → ℕ → Box
vertex_box_at f s v = box_of (λ a. vertex_span_at f s a v)

-- the span of one number of a list
abbrev pub spot_span : List ℤ → ℕ → Span
spot_span l i = record { low = get_or l i (pos 0); high = get_or l i (pos 0) }

abbrev box_here : Vector → Box
box_here p = box_of (λ a. record { low = a p; high = a p })

-- a vertex's place is told by the positions alone
places_alone : (f : Frame) (s : Scene) (v : ℕ) → where_at f (only_positions s.positions) v ≡ where_at f s v
unfolding where_at
places_alone Start s v = refl
places_alone End s v = refl

pub spots_alone : (f : Frame) (s : Scene) {l : List ℤ} {n : ℕ} → BoxesStand l 0 n (vertex_box_at f (only_positions s.positions))
    → BoxesStand l 0 n (vertex_box_at f s)
spots_alone f s so = record { at = λ v h. so.at v h ∙ ap box_here (places_alone f s v) }

-- stored span by span it is the vertex's
module _ (f : Frame) (s : Scene) (l : List ℤ) (v from : ℕ) (is : from ≡ offset_of f v) {l₁ l₂ l₃ : List ℤ}
    (first : l₁ ≡ with_span l (6 * v) (spot_span s.positions from))
    (second : l₂ ≡ with_span l₁ (6 * v + 1) (spot_span s.positions (from + 1)))
    (third : l₃ ≡ with_span l₂ (6 * v + 2) (spot_span s.positions (from + 2))) where
  here : vector_at s.positions from ≡ where_at f s v
  here = ap (vector_at s.positions) is ∙ offset_where f s v

  stored : l₃ ≡ with_box l v (box_here (vector_at s.positions from))
  stored =
      third ∙ λ t. with_span ((second ∙ λ u. with_span (first u) (6 * v + 1) (spot_span s.positions (from + 1))) t) (6 * v + 2) (spot_span s.positions (from + 2))

  pub spot_stored : 6 * v + 5 < length l → BoxStored l v (vertex_box_at f s v) l₃
  spot_stored h =
      let whole : l₃ ≡ with_box l v (vertex_box_at f s v) = stored ∙ ap (λ (p : Vector). with_box l v (box_here p)) here in
      subst (BoxStored l v (vertex_box_at f s v)) (sym whole) (box_stored l v (vertex_box_at f s v) h)
