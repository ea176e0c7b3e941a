-- 'The log that keeps the first cause' of document 02: a series and its steps, the hits of all steps in order, and what is told of them.
use Rattle.std.specs.Prelude.{ℕ, ◌+◌, ◌*◌, ◌-◌, ◌^◌, min, List, [], ◌∷◌, ◌++◌, ◌≡◌, ℤ, length, take, drop}
use Rattle.sequences.specs.Gather.{gather}
use Rattle.meaning.specs.Scene.{Scene, scene_of, vertex_count, vector_at, end_of}
use Rattle.meaning.specs.List.{Pair, pairs}
use Rattle.meaning.specs.SceneWords.{AllSettled}
use Rattle.meaning.specs.Text.{coordinates}
use Rattle.meaning.specs.Report.{how_many}
use Rattle.meaning.specs.declared.Settled.{Settled}
use Rattle.meaning.specs.declared.Settled.TheVariants.{Hit, Miss, Touch, Apart}

-- ---- a series and its steps

-- a scene followed by blocks; a block has the next end positions, three numbers a vertex
pub record Series : Type 0 where
  pub scene : Scene
  pub blocks : List (List ℤ)

-- each step starts where the last ended: a vertex goes from its end to its next end
abbrev pub goes_on : Scene → List ℤ → ℕ → List ℤ
goes_on s ends v = coordinates (end_of s v) (vector_at ends (3 * v))

-- the step after this one; edges, triangles and seams stay
unfoldable pub step_after : Scene → List ℤ → Scene
unfolding gather
step_after s ends = scene_of (gather (goes_on s ends) 0 (vertex_count s)) s.edges s.triangles s.seams

-- the steps from this one on
unfoldable pub steps_from : Scene → List (List ℤ) → List Scene
steps_from s [] = s ∷ []
steps_from s (ends ∷ more) = s ∷ steps_from (step_after s ends) more

unfoldable pub last_from : Scene → List (List ℤ) → Scene
last_from s [] = s
last_from s (ends ∷ more) = last_from (step_after s ends) more

-- the scene is step 1
abbrev pub steps_of : Series → List Scene
steps_of x = steps_from x.scene x.blocks

abbrev pub last_step : Series → Scene
last_step x = last_from x.scene x.blocks

-- ---- the hits, in step and list order

-- step, kind and two places of a hit
pub record HitAt : Type 0 where
  pub step : ℕ
  pub pair : Pair

abbrev pub hit_at : ℕ → Pair → HitAt
hit_at n p = record { step = n; pair = p }

-- a pair of step n that is hit is a hit; touch is none
unfoldable pub hits_here : ℕ → Pair → Settled → List HitAt
hits_here n p Hit = hit_at n p ∷ []
hits_here n p Miss = []
hits_here n p Touch = []
hits_here n p Apart = []

unfoldable pub hits_in : ℕ → List Pair → List Settled → List HitAt
hits_in n [] ws = []
hits_in n (p ∷ ps) [] = []
hits_in n (p ∷ ps) (w ∷ ws) = hits_here n p w ++ hits_in n ps ws

-- of steps of which the first is step n, with the words of each
unfoldable pub hits_from : ℕ → List Scene → List (List Settled) → List HitAt
hits_from n [] wss = []
hits_from n (s ∷ ss) [] = []
hits_from n (s ∷ ss) (ws ∷ wss) = hits_in n (pairs s) ws ++ hits_from (n + 1) ss wss

-- steps are counted from 1
abbrev pub hits_of : Series → List (List Settled) → List HitAt
hits_of x wss = hits_from 1 (steps_of x) wss

-- each step has the words of its listed pairs
unfoldable pub StepsSettled : List Scene → List (List Settled) → Type 0
StepsSettled [] [] = Unit {0}
StepsSettled [] (ws ∷ wss) = ⊥
StepsSettled (s ∷ ss) [] = ⊥
StepsSettled (s ∷ ss) (ws ∷ wss) = AllSettled s (pairs s) ws × StepsSettled ss wss

-- ---- the log, and what is told of a series

abbrev pub log_limit : ℕ
log_limit = 64

-- a count is 64 bits wide; one at its largest value stays there
abbrev pub counted : ℕ → ℕ
counted n = min n (2 ^ 64 - 1)

-- the log holds the first 64 hits
abbrev pub log_of : List HitAt → List HitAt
log_of hs = take log_limit hs

-- then all later hits are counted
abbrev pub later_of : List HitAt → ℕ
later_of hs = counted (length (drop log_limit hs))

-- the first step with a hit, or 0 where there is none: hits stand in the order of steps
unfoldable pub first_step : List HitAt → ℕ
first_step [] = 0
first_step (h ∷ hs) = h.step

-- how many of all words over the series are the one asked for
unfoldable pub listed_in : List (List Settled) → ℕ
listed_in [] = 0
listed_in (ws ∷ wss) = length ws + listed_in wss

unfoldable pub total_of : Settled → List (List Settled) → ℕ
total_of v [] = 0
total_of v (ws ∷ wss) = how_many v ws + total_of v wss

-- what is told of a series: the log, the count of later hits, totals per verdict, and the first step with a hit
pub record Told : Type 0 where
  pub log : List HitAt
  pub later : ℕ
  pub listed : ℕ
  pub hits : ℕ
  pub misses : ℕ
  pub touches : ℕ
  pub aparts : ℕ
  pub first : ℕ

abbrev pub told_of : Series → List (List Settled) → Told
told_of x wss =
    record {
      log = log_of (hits_of x wss);
      later = later_of (hits_of x wss);
      listed = counted (listed_in wss);
      hits = counted (total_of Hit wss);
      misses = counted (total_of Miss wss);
      touches = counted (total_of Touch wss);
      aparts = counted (total_of Apart wss);
      first = first_step (hits_of x wss);
    }

-- it is told right where the words are those of the pairs of each step
pub record ToldRight (x : Series) (t : Told) : Type 0 where
  pub words : List (List Settled)
  pub settled : StepsSettled (steps_of x) words
  pub told : t ≡ told_of x words
