-- Far and near shown of something: a point that follows a triangle and never reaches it, though their swept boxes meet; and one that crosses a resting one.
use Rattle.std.specs.Prelude.{true, false, List, [], ◌∷◌, ◌++◌, ◌≡◌, refl, ℤ, pos}
use Rattle.meaning.specs.Scene.{Scene, scene_of, stood_for}
use Rattle.meaning.specs.Refusals.{shares}
use Rattle.meaning.specs.Boxes.{meet_on, listed, culled}
use Rattle.meaning.specs.Near.{where_at, first_span_at, second_span_at, far, near}
use Rattle.meaning.specs.Pieces.{piece_of}
use Rattle.meaning.specs.Equations.{Touches}
use Rattle.meaning.specs.declared.Kind.TheVariants.{PointTriangle}
use Rattle.meaning.specs.declared.Wanted.{Wanted}
use Rattle.near_laws.specs.Far.{far_apart}

-- vertex 0 goes from x = 0 to x = 10; the triangle of vertices 1, 2, 3 stands at x = 5 and ends at x = e
abbrev six : ℤ → ℤ → ℤ → ℤ → ℤ → ℤ → List ℤ
six a b c d e f = a ∷ b ∷ c ∷ d ∷ e ∷ f ∷ []

abbrev rests : List ℤ
rests = six (pos 5) (pos 0) (pos 0) (pos 5) (pos 0) (pos 0)

abbrev pub chased : ℤ → Scene
chased e =
    scene_of
    (six (pos 0) (pos 1) (pos 1) (pos 10) (pos 1) (pos 1) ++ six (pos 5) (pos 0) (pos 0) e (pos 0) (pos 0)
    ++ six (pos 5) (pos 4) (pos 0) e (pos 4) (pos 0)
    ++ six (pos 5) (pos 0) (pos 4) e (pos 0) (pos 4))
    []
    (1 ∷ 2 ∷ 3 ∷ [])
    []

-- the triangle goes to x = 20: the pair is listed, and far
pub listed_shown : listed (chased (pos 20)) PointTriangle 0 0 ≡ true
unfolding shares stood_for meet_on
listed_shown = refl

pub far_shown : far (chased (pos 20)) PointTriangle 0 0 ≡ true
unfolding where_at first_span_at second_span_at
far_shown = refl

pub apart_shown : ¬ Touches (piece_of (chased (pos 20)) PointTriangle 0 0 1)
apart_shown = far_apart (chased (pos 20)) PointTriangle 0 0 far_shown 1

-- the triangle rests: the pair is near
pub near_shown : near (chased (pos 5)) PointTriangle 0 0 ≡ true
unfolding shares stood_for meet_on where_at first_span_at second_span_at
near_shown = refl

-- one that rests one step before the end of the point's way: culled
pub culled_shown : culled (scene_of (six (pos 0) (pos 0) (pos 0) (pos 4) (pos 0) (pos 0) ++ rests) [] (1 ∷ 1 ∷ 1 ∷ []) []) PointTriangle 0 0 ≡ true
unfolding shares stood_for meet_on
culled_shown = refl

-- hits and touches alone
pub meeting : Wanted
meeting = record { hit = true; miss = false; touch = true; apart = false }
