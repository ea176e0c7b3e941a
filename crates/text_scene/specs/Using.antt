-- What whoever calls the reader has of its answer: only one meets the promise; after success the front of the buffers is the text's
-- scene, and it is accepted; a refusal left them as they were and says what is wrong.
use Rattle.std.specs.Prelude.{true, false, List, ◌++◌, ◌≡◌, refl, ℕ, ◌*◌, ◌≤◌, length, take, drop, Err, Ok, Result}
use Rattle.std.proofs.Common.{⊎_elim, ap, ◌∙◌, arith, ltb-false, length-append, length-take-le, Fits}
use Rattle.std.proofs.Math.Path.{sym, subst}
use Rattle.meaning.specs.Limits.{vertex_limit, edge_limit, triangle_limit, seam_limit, text_limit}
use Rattle.std.proofs.Math.Seq.{take-append_seam}
use Rattle.std.specs.Int.{w64}
use Rattle.sequences.specs.Pick.{either}
use Rattle.scene_checks.specs.Facts.{Sized, accepted_sized}
use Rattle.meaning.specs.Scene.{Scene, scene_of, Accepted, seam_count, wrong_shape}
use Rattle.answers.specs.Below.{or_left, or_rest}
use Rattle.meaning.specs.Refusals.{Outcome, given, refused, number_of, outcome_of}
use Rattle.meaning.specs.Text.{Holds, TextIs, short_buffer, long_text, TextOutcome, counts_of, counts_told, filled, TextRead}
use Rattle.meaning.specs.declared.SceneCounts.{SceneCounts}
use Rattle.text_scene.specs.Unique.{text_unique}
use Rattle.text_scene.specs.Accepted.{text_accepted}
use Rattle.meaning.specs.declared.Refused.{Refused}
use Rattle.answers.specs.Speaking.{one_carrying}

-- ---- one answer

-- which of the three said it: 12, 8, or the lines
pub data Came (text : List ℕ) (lent : Scene) (o : Outcome Scene) : Type 0 where
  by_buffers : short_buffer lent ≡ true → o ≡ refused 12 0 → Came text lent o
  by_length : short_buffer lent ≡ false → long_text text ≡ true → o ≡ refused 8 0 → Came text lent o
  by_lines : short_buffer lent ≡ false → long_text text ≡ false → TextIs text o → Came text lent o

pub came : (text : List ℕ) (lent : Scene) (o : Outcome Scene) → TextOutcome text lent o → Came text lent o
came text lent o t =
    ⊎_elim (λ e. by_buffers e (rw e at t))
    (λ e. ⊎_elim (λ d. by_length e d (rw (e, d) at t)) (λ d. by_lines e d (rw (e, d) at t)) (either (long_text text)))
    (either (short_buffer lent))

one_outcome : (text : List ℕ) (lent : Scene) (o o' : Outcome Scene) → TextOutcome text lent o → TextOutcome text lent o' → o ≡ o'
one_outcome text lent o o' t t' = by_way (came text lent o t)
  where
    by_way : Came text lent o → o ≡ o'
    by_way (by_buffers e p) = p ∙ sym (rw e at t')
    by_way (by_length e d p) = p ∙ sym (rw (e, d) at t')
    by_way (by_lines e d p) = text_unique text o o' p (rw (e, d) at t')

pub one_text_answer : {text : List ℕ} {lent left left' : Scene} {r r' : Result SceneCounts Refused} → TextRead text lent left r → TextRead text lent left' r'
    → (r ≡ r') × (left ≡ left')
one_text_answer {text} {lent} {left} {left'} {r} {r'} a b =
    let same : a.outcome ≡ b.outcome = one_outcome text lent a.outcome b.outcome a.right b.right in
    (one_carrying r r' (a.says ∙ ap counts_told same ∙ sym b.says), a.leaves ∙ ap (λ o. filled o lent) same ∙ sym b.leaves)

-- ---- a scene in front of buffers

-- as much of the buffers as the counts say
abbrev pub front_of : SceneCounts → Scene → Scene
front_of c b =
    scene_of (take (6 * c.vertices) b.positions) (take (2 * c.edges) b.edges) (take (3 * c.triangles) b.triangles)
    (take (2 * c.seams) b.seams)

-- no more than the sizes
pub record FewOf (c : SceneCounts) : Type 0 where
  pub vertices : c.vertices ≤ vertex_limit
  pub edges : c.edges ≤ edge_limit
  pub triangles : c.triangles ≤ triangle_limit
  pub seams : c.seams ≤ seam_limit

-- as much of the buffers as the counts say is there, and how much that is a number of the machine
pub record Fronts (c : SceneCounts) (b : Scene) : Type 0 where
  pub points : 6 * c.vertices ≤ length b.positions
  pub sides : 2 * c.edges ≤ length b.edges
  pub corners : 3 * c.triangles ≤ length b.triangles
  pub sewn : 2 * c.seams ≤ length b.seams
  pub points_fit : Fits w64 (6 * c.vertices)
  pub sides_fit : Fits w64 (2 * c.edges)
  pub corners_fit : Fits w64 (3 * c.triangles)
  pub sewn_fit : Fits w64 (2 * c.seams)
  pub points_long : 6 * c.vertices ≡ length (take (6 * c.vertices) b.positions)
  pub sides_long : 2 * c.edges ≡ length (take (2 * c.edges) b.edges)
  pub corners_long : 3 * c.triangles ≡ length (take (3 * c.triangles) b.triangles)
  pub sewn_long : 2 * c.seams ≡ length (take (2 * c.seams) b.seams)

-- an accepted scene with these counts was put in front of the buffers
pub record FilledWith (lent left : Scene) (c : SceneCounts) : Type 0 where
  pub scene : Scene
  pub accepted : Accepted scene
  pub counts : c ≡ counts_of scene
  pub leaves : left ≡ filled (given scene) lent

front_is : {A : Type 0} (l o b : List A) (n : ℕ) → b ≡ l ++ drop (length l) o → length l ≡ n → take n b ≡ l
front_is l o b n e h = cc (take-append_seam l (drop (length l) o))

room_of : {A : Type 0} (l o b : List A) (n : ℕ) → b ≡ l ++ drop (length l) o → length l ≡ n → n ≤ length b
room_of l o b n e h = omega (arith, h, ap length e, length-append l (drop (length l) o))

module _ {lent left : Scene} {c : SceneCounts} (f : FilledWith lent left c) where
  sized : Sized f.scene
  sized = accepted_sized f.accepted

  points : length f.scene.positions ≡ 6 * c.vertices
  points = sized.positions_long ∙ ap (λ (k : SceneCounts). 6 * k.vertices) (sym f.counts)

  sides : length f.scene.edges ≡ 2 * c.edges
  sides = sized.edges_long ∙ ap (λ (k : SceneCounts). 2 * k.edges) (sym f.counts)

  corners : length f.scene.triangles ≡ 3 * c.triangles
  corners = sized.triangles_long ∙ ap (λ (k : SceneCounts). 3 * k.triangles) (sym f.counts)

  sewn : length f.scene.seams ≡ 2 * c.seams
  sewn = sized.seams_long ∙ ap (λ (k : SceneCounts). 2 * k.seams) (sym f.counts)

  pub few_filled : FewOf c
  few_filled =
      let shapely : wrong_shape f.scene ≡ false = f.accepted.shapely in
      let few : seam_count f.scene ≤ seam_limit = ltb-false _ _ (search (or_left, or_rest)) in
      rw f.counts (record { vertices = sized.few_vertices; edges = sized.few_edges; triangles = sized.few_triangles; seams = few })

  pub fronts_filled : Fronts c left
  unfolding filled
  fronts_filled =
      let few : FewOf c = few_filled in
      let p = room_of f.scene.positions lent.positions left.positions _ (ap (λ (b : Scene). b.positions) f.leaves) points in
      let e = room_of f.scene.edges lent.edges left.edges _ (ap (λ (b : Scene). b.edges) f.leaves) sides in
      let t = room_of f.scene.triangles lent.triangles left.triangles _ (ap (λ (b : Scene). b.triangles) f.leaves) corners in
      let w = room_of f.scene.seams lent.seams left.seams _ (ap (λ (b : Scene). b.seams) f.leaves) sewn in
      record {
        points = p;
        sides = e;
        corners = t;
        sewn = w;
        points_fit = record { fits = omega (arith, few.vertices) };
        sides_fit = record { fits = omega (arith, few.edges) };
        corners_fit = record { fits = omega (arith, few.triangles) };
        sewn_fit = record { fits = omega (arith, few.seams) };
        points_long = sym (length-take-le _ _ p);
        sides_long = sym (length-take-le _ _ e);
        corners_long = sym (length-take-le _ _ t);
        sewn_long = sym (length-take-le _ _ w);
      }

  -- as much of the buffers as the counts say is the scene
  pub front_filled : front_of c left ≡ f.scene
  unfolding filled
  front_filled =
      let p = front_is f.scene.positions lent.positions left.positions _ (ap (λ (b : Scene). b.positions) f.leaves) points in
      let e = front_is f.scene.edges lent.edges left.edges _ (ap (λ (b : Scene). b.edges) f.leaves) sides in
      let t = front_is f.scene.triangles lent.triangles left.triangles _ (ap (λ (b : Scene). b.triangles) f.leaves) corners in
      let w = front_is f.scene.seams lent.seams left.seams _ (ap (λ (b : Scene). b.seams) f.leaves) sewn in
      λ k. record { positions = p k; edges = e k; triangles = t k; seams = w k }

  pub accepted_filled : Accepted (front_of c left)
  accepted_filled = rw front_filled f.accepted

-- ---- after success

outcome_read : {c : SceneCounts} (o : Outcome Scene) → given c ≡ counts_told o → (s : Scene) × (o ≡ given s) × (c ≡ counts_of s)
unfolding counts_told
outcome_read (given s) e = (s, refl, cc)
outcome_read (refused n l) e = let z : ◌≡◌ {A = ℕ} 0 1 = cc in absurd (omega arith)

given_holds : {text : List ℕ} {lent : Scene} {o : Outcome Scene} (s : Scene) → Came text lent o → o ≡ given s → Holds text s
unfolding TextIs
given_holds s (by_buffers e p) q = let z : ◌≡◌ {A = ℕ} 0 1 = cc in absurd (omega arith)
given_holds s (by_length e d p) q = let z : ◌≡◌ {A = ℕ} 0 1 = cc in absurd (omega arith)
given_holds s (by_lines e d p) q = rw q at p

-- the scene that the text holds
record SceneRead (text : List ℕ) (lent left : Scene) (c : SceneCounts) : Type 0 where
  filled : FilledWith lent left c
  holds : Holds text filled.scene

scene_read : {text : List ℕ} {lent left : Scene} {c : SceneCounts} → TextRead text lent left (Ok c) → SceneRead text lent left c
unfolding outcome_of
scene_read {text} {lent} {left} {c} a =
    let (s, is, counts) = outcome_read a.outcome a.says in
    let holds : Holds text s = given_holds s (came text lent a.outcome a.right) is in
    record {
      filled = record { scene = s; accepted = text_accepted holds; counts = counts; leaves = a.leaves ∙ ap (λ o. filled o lent) is };
      holds = holds;
    }

-- ---- after a refusal

outcome_refused : {n line : ℕ} (o : Outcome Scene) → refused n line ≡ counts_told o → o ≡ refused n line
unfolding counts_told
outcome_refused (given s) e = let z : ◌≡◌ {A = ℕ} 0 1 = cc in absurd (omega arith)
outcome_refused (refused m k) e = cc

pub read_refusal_of : {text : List ℕ} {lent left : Scene} {x : Refused} → TextRead text lent left (Err x)
    → (left ≡ lent) × Came text lent (refused (number_of x.why) x.carries)
unfolding outcome_of filled
read_refusal_of {text} {lent} {left} {x} a =
    let is : a.outcome ≡ refused (number_of x.why) x.carries = outcome_refused a.outcome a.says in
    (a.leaves ∙ ap (λ o. filled o lent) is, subst (Came text lent) is (came text lent a.outcome a.right))

-- ---- an answer that turned out so

module _ {text : List ℕ} {lent left : Scene} {r : Result SceneCounts Refused} {c : SceneCounts} (a : TextRead text lent left r) (e : r ≡ Ok c) where
  in_front : SceneRead text lent left c
  in_front = scene_read (subst (TextRead text lent left) e a)

  pub few_read : FewOf c
  few_read = few_filled in_front.filled

  pub fronts_read : Fronts c left
  fronts_read = fronts_filled in_front.filled

  pub holds_read : Holds text (front_of c left)
  holds_read = rw (front_filled in_front.filled) in_front.holds

  pub accepted_read : Accepted (front_of c left)
  accepted_read = accepted_filled in_front.filled

  -- such a text is not over its limit
  pub short_read : length text ≤ text_limit
  unfolding outcome_of counts_told
  short_read = by_way (came text lent a.outcome a.right)
    where
      says : given c ≡ counts_told a.outcome
      says = subst (λ (q : Result SceneCounts Refused). outcome_of q ≡ counts_told a.outcome) e a.says

      not_refused : {n line : ℕ} → a.outcome ≡ refused n line → ⊥
      not_refused p =
          let q : ◌≡◌ {A = Outcome SceneCounts} (given c) (counts_told a.outcome) = says in
          let z : ◌≡◌ {A = ℕ} 0 1 = cc (ap counts_told p) in
          omega arith

      by_way : Came text lent a.outcome → length text ≤ text_limit
      by_way (by_buffers x p) = absurd (not_refused p)
      by_way (by_length x y p) = absurd (not_refused p)
      by_way (by_lines x y t) = ltb-false text_limit (length text) y
