-- Five vertices, the ends of an edge and the corners of a triangle, by their places at one time.
use Rattle.std.specs.Prelude.{ℕ, ◌+◌, ◌*◌, ◌/◌, ◌≤◌, ◌<◌, ◌≡◌, refl, Bool, List, ℤ, length}
use Rattle.std.proofs.Common.{arith}
use Rattle.meaning.specs.Limits.{coordinate_limit}
use Rattle.meaning.specs.Scene.{Scene, vector_at}
use Rattle.meaning.specs.Near.{where_at}
use Rattle.meaning.specs.declared.Frame.{Frame}
use Rattle.meaning.specs.declared.Frame.TheVariants.{Start, End}
use Rattle.exact.specs.Places.{Bounded}
use Rattle.pierced_pair.specs.Places.{FiveIn, PlacesTell}

-- the place of the first coordinate of vertex v at that time
unfoldable pub offset_of : Frame → ℕ → ℕ
offset_of Start v = 6 * v
offset_of End v = 6 * v + 3

pub offset_where : (f : Frame) (s : Scene) (v : ℕ) → vector_at s.positions (offset_of f v) ≡ where_at f s v
unfolding offset_of where_at
offset_where Start s v = refl
offset_where End s v = refl

pub offset_room : (ps : List ℤ) (f : Frame) (v : ℕ) → v < length ps / 6 → offset_of f v + 3 ≤ length ps
unfolding offset_of
offset_room ps Start v h = omega arith
offset_room ps End v h = omega arith

-- vertex numbers have 32 bits at most
abbrev pub vertex_numbers : ℕ
vertex_numbers = 4_294_967_296

-- all five are there, and every coordinate is in its range
pub record FiveThere (ps : List ℤ) (p q a b c : ℕ) : Type 0 where
  pub bounded : Bounded coordinate_limit ps
  pub few : length ps / 6 ≤ vertex_numbers
  pub one_end : p < length ps / 6
  pub other_end : q < length ps / 6
  pub one_corner : a < length ps / 6
  pub next_corner : b < length ps / 6
  pub last_corner : c < length ps / 6

abbrev pub VerticesTell : List ℤ → Frame → ℕ → ℕ → ℕ → ℕ → ℕ → Bool → Type 0
VerticesTell ps f p q a b c r = PlacesTell ps (offset_of f p) (offset_of f q) (offset_of f a) (offset_of f b) (offset_of f c) r

-- the places as code finds them
module _ (ps : List ℤ) (f : Frame) (p q a b c : ℕ) {p' q' a' b' c' : ℕ} (p_is : p' ≡ offset_of f p) (q_is : q' ≡ offset_of f q) (a_is : a' ≡ offset_of f a)
    (b_is : b' ≡ offset_of f b) (c_is : c' ≡ offset_of f c) where
  pub places_in : FiveThere ps p q a b c → FiveIn ps p' q' a' b' c'
  places_in h = rw (p_is, q_is, a_is, b_is, c_is) (record {
    bounded = h.bounded;
    one_end = offset_room ps f _ h.one_end;
    other_end = offset_room ps f _ h.other_end;
    one_corner = offset_room ps f _ h.one_corner;
    next_corner = offset_room ps f _ h.next_corner;
    last_corner = offset_room ps f _ h.last_corner;
  })

  pub places_told : (r : Bool) → PlacesTell ps p' q' a' b' c' r → VerticesTell ps f p q a b c r
  places_told r t = rw (p_is, q_is, a_is, b_is, c_is) at t
