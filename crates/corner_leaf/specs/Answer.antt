-- What the corners left say by themselves, computed: a base at the start and one at the end, the four volumes in up to three turns of the axes,
-- and the signs of the first that are not all 0.
use Rattle.std.specs.Prelude.{ℕ, ◌+◌, ◌<◌, ◌≡◌, Bool, true, false, not, ◌&&◌, ◌||◌, List, ltb, ℤ, pos, get_or}
use Rattle.std.proofs.Common.{sym, ◌∙◌}
use Rattle.std.proofs.Math.Path.{ap}
use Rattle.std.proofs.Math.Bool.{cond}
use Rattle.std.specs.Int.Signed.{le_z}
use Rattle.whole.specs.Vector.{Vector}
use Rattle.whole.specs.Cramer.{Four, each, volumes}
use Rattle.exact.specs.Places.{apart}
use Rattle.exact_signs.specs.OneWay.{one_way, zero_but}
use Rattle.corner_leaf.specs.declared.SixPoints.{SixPoints}
use Rattle.corner_leaf.specs.declared.Leaf.{Leaf}
use Rattle.corner_leaf.specs.declared.Leaf.TheVariants.{Yes, No, Open}
use Rattle.corner_laws.specs.Others.{others_of}
use Rattle.corner_laws.specs.Filled.{filled}
use Rattle.corner_leaf.specs.Points.{offset, at_end, is_left}
use Rattle.corner_leaf.specs.First.{first_of}

abbrev pub same_bool : Bool → Bool → Bool
same_bool true b = b
same_bool false b = not b

-- the first corner left at the start, or at the end; where none is left, one of that time
unfoldable pub base_in : List Bool → List Bool → Bool → ℕ
base_in ends left end = first_of (λ i. is_left left i && same_bool (get_or ends i false) end) 0 6 (cond end 5 0)

abbrev pub base_of : SixPoints → List Bool → Bool → ℕ
base_of six left end = base_in six.ends left end

-- a corner's place seen from the base of its time
abbrev pub seen_in : List ℤ → List ℕ → List Bool → ℕ → ℕ → ℕ → Vector
seen_in ps at ends s e i = apart ps (get_or at i 0) (get_or at (cond (get_or ends i false) e s) 0)

abbrev pub seen_from : List ℤ → SixPoints → ℕ → ℕ → ℕ → Vector
seen_from ps six s e i = seen_in ps six.at six.ends s e i

abbrev pub slots_at : List ℤ → SixPoints → List Bool → ℕ → ℕ → ℕ → Four Vector
slots_at ps six left s e f = filled f (each (is_left left) (others_of s e)) (each (seen_from ps six s e) (others_of s e))

abbrev pub none : Four Bool
none = record { v0 = false; v1 = false; v2 = false; v3 = false }

-- the numbers n of the corners q are 0 for those left out, and of one sign
abbrev pub fitting_in : List Bool → ℕ → List Bool → ℕ → ℕ → Four ℕ → Four ℤ → Bool
fitting_in ends first left s e q n =
    zero_but (each (is_left left) q) n
    && one_way (each (λ i. get_or ends i false) q) (each (λ i. ltb i first) q) (ltb s first) (ltb e first) n

abbrev pub fitting : SixPoints → List Bool → ℕ → ℕ → Four ℕ → Four ℤ → Bool
fitting six = fitting_in six.ends six.first

unfoldable pub judged_in : List Bool → ℕ → List Bool → ℕ → ℕ → Four ℕ → Four ℤ → Leaf
judged_in ends first left s e q n = cond (zero_but none n) Open (cond (fitting_in ends first left s e q n) Yes No)

abbrev pub judged_by : SixPoints → List Bool → ℕ → ℕ → Four ℕ → Four ℤ → Leaf
judged_by six = judged_in six.ends six.first

unfoldable pub turn_of : List ℤ → SixPoints → List Bool → ℕ → ℕ → ℕ → Leaf
turn_of ps six left s e f = judged_by six left s e (others_of s e) (volumes (slots_at ps six left s e f))

-- the first that is not open
unfoldable pub otherwise : Leaf → Leaf → Leaf
otherwise Yes r = Yes
otherwise No r = No
otherwise Open r = r

unfoldable pub leaf_of : List ℤ → SixPoints → List Bool → Leaf
leaf_of ps six left = otherwise (turn 0) (otherwise (turn 1) (turn 2))
  where
    turn : ℕ → Leaf
    turn = turn_of ps six left (base_of six left false) (base_of six left true)

-- ---- case by case

module _ (ends : List Bool) (first : ℕ) (left : List Bool) (s e : ℕ) (q : Four ℕ) (n : Four ℤ) where
  pub judged_open : zero_but none n ≡ true → Open ≡ judged_in ends first left s e q n
  unfolding judged_in
  judged_open h = ap (λ c. cond c Open (cond (fitting_in ends first left s e q n) Yes No)) (sym h)

  judged : (z t : Bool) → zero_but none n ≡ z → fitting_in ends first left s e q n ≡ t → cond z Open (cond t Yes No) ≡ judged_in ends first left s e q n
  unfolding judged_in
  judged z t h k = λ i. cond (sym h i) Open (cond (sym k i) Yes No)

  pub judged_yes : zero_but none n ≡ false → fitting_in ends first left s e q n ≡ true → Yes ≡ judged_in ends first left s e q n
  judged_yes = judged false true

  pub judged_no : zero_but none n ≡ false → fitting_in ends first left s e q n ≡ false → No ≡ judged_in ends first left s e q n
  judged_no = judged false false

-- ---- the axis that all six points lie across: where one turn is to begin, since in such a plane only that axis leaves a volume; and where it is all three

abbrev pub alike_at : List ℤ → ℕ → ℕ → Bool
alike_at ps i j = le_z (get_or ps i (pos 0)) (get_or ps j (pos 0)) && le_z (get_or ps j (pos 0)) (get_or ps i (pos 0))

abbrev pub level_along : List ℤ → List ℕ → ℕ → Bool
level_along ps at axis = alike 1 && alike 2 && alike 3 && alike 4 && alike 5
  where
    alike : ℕ → Bool
    alike i = alike_at ps (get_or at 0 0 + axis) (get_or at i 0 + axis)

-- all six lie across the axis 0, 1 or 2; 3 stands for none, of which nothing is said
pub record Across (ps : List ℤ) (at : List ℕ) (plane : ℕ) : Type 0 where
  pub few : plane < 4
  pub level : plane < 3 → level_along ps at plane ≡ true

-- none of the four others is left out; or one is, and the six lie across an axis
abbrev pub one_turn : Four Bool → ℕ → Bool
one_turn l plane =
    (l.v0 && l.v1 && l.v2 && l.v3)
    || (((l.v0 && l.v1 && (l.v2 || l.v3)) || ((l.v0 || l.v1) && l.v2 && l.v3)) && ltb plane 3)
