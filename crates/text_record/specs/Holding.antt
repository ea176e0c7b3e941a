-- A seam that was put behind others is held to 15 and 4, by the table of the seams before it.
use Rattle.std.specs.Prelude.{Ok, Err, Bool, true, false, List, [], ◌∷◌, ◌≡◌, refl, ℕ, zero, suc, ◌+◌, ◌*◌, ◌-◌, ◌/◌, ◌≤◌, ◌<◌, length, take, get_or, ℤ}
use Rattle.std.proofs.Common.{sym, ap, ◌∙◌, arith, get_or-take, length-take-le}
use Rattle.meaning.specs.Scene.{Scene, repeated_vertex}
use Rattle.meaning.specs.Refusals.{Outcome, given, Answers, number_of, outcome_alone}
use Rattle.meaning.specs.declared.Refusal.TheVariants.{BrokenSeam, RepeatedVertex}
use Rattle.meaning.specs.declared.SceneCounts.{SceneCounts}
use Rattle.scene_seams.specs.Alone.{tabled}
use Rattle.scene_seams.specs.OneMore.{least_of}
use Rattle.scene_seams.specs.Table.{sewn_to}
use Rattle.scene_seams.specs.Sewing.{least_after, breaks_rules}
use Rattle.text_line.specs.Above.{Bounded}
use Rattle.text_line.specs.declared.Sort.{Sort}
use Rattle.text_line.specs.declared.Sort.TheVariants.{Vertex, Edge, Triangle, Seam}

-- the seam behind the counted ones
abbrev pub new_first : SceneCounts → Scene → ℕ
new_first c b = get_or b.seams (2 * c.seams) 0

abbrev pub new_second : SceneCounts → Scene → ℕ
new_second c b = get_or b.seams (2 * c.seams + 1) 0

-- it stands there, and its numbers are vertices
pub record AtSeam (c : SceneCounts) (b : Scene) : Type 0 where
  pub positions : 6 * c.vertices ≤ length b.positions
  pub edges : 2 * c.edges ≤ length b.edges
  pub triangles : 3 * c.triangles ≤ length b.triangles
  pub seams : 2 * c.seams + 2 ≤ length b.seams
  pub first : new_first c b < c.vertices
  pub second : new_second c b < c.vertices
  pub bounded : Bounded c

-- 15, and 4 once the table has it
abbrev pub breaks : SceneCounts → Scene → List ℕ → Bool
breaks c b table =
    breaks_rules (take (6 * c.vertices) b.positions) table (least_after (take (2 * c.seams) b.seams)) (new_first c b) (new_second c b)

abbrev pub repeats : SceneCounts → Scene → List ℕ → Bool
repeats c b table =
    repeated_vertex (tabled [] (take (2 * c.edges) b.edges) (take (3 * c.triangles) b.triangles) (sewn_to table (new_first c b) (new_second c b)))

abbrev pub TwoAre : Bool → Bool → Outcome (Unit {0}) → Type 0
TwoAre broken twice =
    Answers (record { number = 15; holds = broken; carries = 0 } ∷ record { number = 4; holds = twice; carries = 0 } ∷ []) (λ t. Unit {0})

pub record SeamHeld (c : SceneCounts) (b : Scene) (table table' : List ℕ) (o : Outcome (Unit {0})) : Type 0 where
  pub judged : TwoAre (breaks c b table) (repeats c b table) o
  pub sewn : table' ≡ sewn_to table (new_first c b) (new_second c b)

-- of a record of any kind: only a seam is held to something
unfoldable pub HoldReady : Sort → SceneCounts → Scene → Type 0
HoldReady Vertex c b = Unit
HoldReady Edge c b = Unit
HoldReady Triangle c b = Unit
HoldReady Seam c b = AtSeam c b

unfoldable pub Held : Sort → SceneCounts → Scene → List ℕ → List ℕ → Outcome (Unit {0}) → Type 0
Held Vertex c b table table' o = (o ≡ given tt) × (table' ≡ table)
Held Edge c b table table' o = (o ≡ given tt) × (table' ≡ table)
Held Triangle c b table table' o = (o ≡ given tt) × (table' ≡ table)
Held Seam c b table table' o = SeamHeld c b table table' o

-- ---- for the code

pub ready_at_seam : {sort : Sort} (c : SceneCounts) (b : Scene) → HoldReady sort c b → sort ≡ Seam → AtSeam c b
unfolding HoldReady
ready_at_seam c b r e = rw e at r

pub least_none : (w : List ℕ) (n : ℕ) → n ≤ 0 → 0 ≡ least_after (take (2 * n) w)
unfolding least_of
least_none w n h = let z : n ≡ 0 = omega arith in rw z refl

pub least_some : (w : List ℕ) (n : ℕ) → 0 < n → 2 * n ≤ length w → get_or w (2 * n - 2) 0 + 1 ≡ least_after (take (2 * n) w)
unfolding least_of
least_some w zero h room = absurd (omega arith)
least_some w (suc n) h room =
    let long : length (take (2 * suc n) w) ≡ 2 * suc n = length-take-le (2 * suc n) w room in
    let half : length (take (2 * suc n) w) / 2 ≡ suc n = omega (arith, long) in
    let place : 2 * suc n - 2 ≡ 2 * n = omega arith in
    let more : get_or w (2 * n) 0 + 1 ≡ suc (get_or w (2 * n) 0) = omega arith in
    ap (λ (k : ℕ). get_or w k 0 + 1) place
    ∙ more
    ∙ ap suc (sym (get_or-take (2 * suc n) w (2 * n) 0 (omega arith)))
    ∙ ap (least_of (λ k. get_or (take (2 * suc n) w) (2 * k) 0)) (sym half)

-- a vertex of the scene is one of the positions in front
pub vertex_in_front : (l : List ℤ) (n v : ℕ) → 6 * n ≤ length l → v < n → v < length (take (6 * n) l) / 6
vertex_in_front l n v room h = let long : length (take (6 * n) l) ≡ 6 * n = length-take-le (6 * n) l room in omega (arith, long)

module _ (c : SceneCounts) (b : Scene) (table table' : List ℕ) {least : ℕ} {r : Bool}
    (least_is : least ≡ least_after (take (2 * c.seams) b.seams))
    (broken_is : r ≡ breaks_rules (take (6 * c.vertices) b.positions) table least (new_first c b) (new_second c b))
    (sewn : table' ≡ sewn_to table (new_first c b) (new_second c b)) where
  by_least : breaks c b table ≡ r
  by_least =
      sym (broken_is
      ∙ ap (λ (n : ℕ). breaks_rules (take (6 * c.vertices) b.positions) table n (new_first c b) (new_second c b)) least_is)

  pub held_broken : r ≡ true → SeamHeld c b table table' (outcome_alone (Err BrokenSeam))
  unfolding Answers outcome_alone number_of
  held_broken e = record { judged = rw (by_least ∙ e) refl; sewn = sewn }

  module _ (e : r ≡ false) {q : Bool}
      (repeated_is : q ≡ repeated_vertex (tabled [] (take (2 * c.edges) b.edges) (take (3 * c.triangles) b.triangles) table')) where
    by_table : repeats c b table ≡ q
    by_table =
        ap (λ (l : List ℕ). repeated_vertex (tabled [] (take (2 * c.edges) b.edges) (take (3 * c.triangles) b.triangles) l)) (sym sewn)
        ∙ sym repeated_is

    pub held_repeated : q ≡ true → SeamHeld c b table table' (outcome_alone (Err RepeatedVertex))
    unfolding Answers outcome_alone number_of
    held_repeated f = record { judged = rw (by_least ∙ e, by_table ∙ f) refl; sewn = sewn }

    pub held_good : q ≡ false → SeamHeld c b table table' (outcome_alone (Ok tt))
    unfolding Answers outcome_alone number_of
    held_good f = record { judged = rw (by_least ∙ e, by_table ∙ f) tt; sewn = sewn }

module _ {sort : Sort} (c : SceneCounts) (b : Scene) (table : List ℕ) where
  pub held_vertex : sort ≡ Vertex → Held sort c b table table (outcome_alone (Ok tt))
  unfolding Held outcome_alone
  held_vertex e = rw e (refl, refl)

  pub held_edge : sort ≡ Edge → Held sort c b table table (outcome_alone (Ok tt))
  unfolding Held outcome_alone
  held_edge e = rw e (refl, refl)

  pub held_triangle : sort ≡ Triangle → Held sort c b table table (outcome_alone (Ok tt))
  unfolding Held outcome_alone
  held_triangle e = rw e (refl, refl)

  pub held_seam : (table' : List ℕ) (o : Outcome (Unit {0})) → sort ≡ Seam → SeamHeld c b table table' o → Held sort c b table table' o
  unfolding Held
  held_seam table' o e h = rw e h
