-- 'A refusal returns its number (and line or count), and no lent byte or number changes'; 'after success the first entries hold the list and
-- the rest of the buffer is unchanged'; 'after a text is accepted the lent buffers hold the scene in front, and what lies behind it is unchanged'.
use Rattle.std.specs.Prelude.{ℕ, ◌*◌, ◌≤◌, false, List, map, ◌≡◌, refl, length, Result}
use Rattle.std.proofs.Common.{sym, ◌∙◌, ap, subst, arith, ltb-false}
use Rattle.sequences.specs.Wrote.{Wrote, written, wrote_written}
use Rattle.meaning.specs.Limits.{vertex_limit, edge_limit, triangle_limit, seam_limit}
use Rattle.meaning.specs.Scene.{Scene, Accepted, vertex_count, edge_count, triangle_count, seam_count}
use Rattle.meaning.specs.Refusals.{Outcome, given, refused, outcome_alone, outcome_of}
use Rattle.meaning.specs.Backwards.{turned_round, turned_left, Turning}
use Rattle.meaning.specs.List.{pairs, entries, leaves, Listing}
use Rattle.meaning.specs.SceneWords.{byte_of, SettledScene}
use Rattle.meaning.specs.Text.{Holds, short_buffer, counts_of, counts_told, filled, TextRead}
use Rattle.meaning.specs.declared.SceneCounts.{SceneCounts}
use Rattle.list_entries.specs.Entries.{entries_length}
use Rattle.answers.specs.Below.{or_left, or_rest}
use Rattle.scene_checks.specs.Facts.{accepted_sized}
use Rattle.text_scene.specs.Accepted.{text_accepted}
use Rattle.demands.specs.Demand1.{demand1_listing}
use Rattle.demands.specs.TextTable.{Reads, told_given, read_so}
use Rattle.meaning.specs.declared.Refusal.{Refusal}
use Rattle.meaning.specs.declared.Refused.{Refused}

-- ---- after a refusal

leaves_refused : {A : Type 0} (x : Outcome A) (l o : List ℕ) (n c : ℕ) → x ≡ refused n c → leaves x l o ≡ o
unfolding leaves
leaves_refused x l o n c e = ap (λ y. leaves y l o) e

filled_refused : (x : Outcome Scene) (lent : Scene) (n line : ℕ) → counts_told x ≡ refused n line → filled x lent ≡ lent
unfolding counts_told filled
filled_refused (given s) lent n line e = let z : ◌≡◌ {A = ℕ} 0 1 = cc in absurd (omega arith)
filled_refused (refused m place) lent n line e = refl

pub listing_unchanged : (s : Scene) (o o' : List ℕ) (r : Result ℕ Refused) → Listing s o o' r → (n c : ℕ) → outcome_of r ≡ refused n c → o' ≡ o
listing_unchanged s o o' r p n c e = p.buffer ∙ leaves_refused (outcome_of r) (entries (pairs s)) o n c e

pub judging_unchanged : (s : Scene) (o o' b b' : List ℕ) (r : Result ℕ Refused) → SettledScene s o o' b b' r → (n c : ℕ) → outcome_of r ≡ refused n c → (o' ≡ o) × (b' ≡ b)
judging_unchanged s o o' b b' r p n c e = (
  p.list ∙ leaves_refused (outcome_of r) (entries (pairs s)) o n c e,
  p.bytes ∙ leaves_refused (outcome_of r) (map byte_of p.words) b n c e,
)

pub reading_unchanged : (text : List ℕ) (lent left : Scene) (r : Result SceneCounts Refused) → TextRead text lent left r → (n line : ℕ) → outcome_of r ≡ refused n line → left ≡ lent
reading_unchanged text lent left r p n line e = p.leaves ∙ filled_refused p.outcome lent n line (sym p.says ∙ e)

pub turning_unchanged : (s t : Scene) (r : Result (Unit {0}) Refusal) → Turning s t r → (n c : ℕ) → outcome_alone r ≡ refused n c → t ≡ s
unfolding turned_left
turning_unchanged s t r p n c e = p.scene ∙ ap (λ (x : Outcome (Unit {0})). turned_left x s) e

-- ---- after success

-- the scene turned round stands where the scene stood
pub turning_holds : (s t : Scene) (r : Result (Unit {0}) Refusal) → Turning s t r → outcome_alone r ≡ given tt → t ≡ turned_round s
unfolding turned_left
turning_holds s t r p e = p.scene ∙ ap (λ (x : Outcome (Unit {0})). turned_left x s) e

-- the list stands in front, as many entries as the count returned, and behind it nothing changed
pub listing_holds : (s : Scene) (o o' : List ℕ) (r : Result ℕ Refused) → Listing s o o' r → (n : ℕ) → outcome_of r ≡ given n
    → Wrote o 0 (entries (pairs s)) o' n
unfolding leaves
listing_holds s o o' r p n e =
    let (accepted, (room, count)) = ((demand1_listing s o o' r p).listed n).0 e in
    let long : length (entries (pairs s)) ≡ n = omega (arith, entries_length (pairs s)) in
    let fits = wrote_written (entries (pairs s)) o (omega (arith, entries_length (pairs s))) in
    rw (p.buffer ∙ ap (λ (x : Outcome ℕ). leaves x (entries (pairs s)) o) e, ← long) fits

-- the text is a scene with these counts, and it stands in front: its positions, its ends, its corners and its seams, and behind them nothing changed
pub record SceneInFront (text : List ℕ) (lent left : Scene) (c : SceneCounts) : Type 0 where
  pub reads : Reads text c
  pub positions : Wrote lent.positions 0 reads.scene.positions left.positions (6 * c.vertices)
  pub edges : Wrote lent.edges 0 reads.scene.edges left.edges (2 * c.edges)
  pub triangles : Wrote lent.triangles 0 reads.scene.triangles left.triangles (3 * c.triangles)
  pub seams : Wrote lent.seams 0 reads.scene.seams left.seams (2 * c.seams)

few_seams : {s : Scene} → Accepted s → seam_count s ≤ seam_limit
few_seams {s} a = ltb-false seam_limit (seam_count s) (search (or_left, or_rest))

-- a list of m numbers, at most n, in a buffer of at least n
in_front : {A : Type 0} (l o : List A) (m n : ℕ) → length l ≡ m → m ≤ n → n ≤ length o → Wrote o 0 l (written l o) m
in_front l o m n long few room = rw (← long) (wrote_written l o (omega arith))

-- lent buffers that are not too short have room for the scene of a text
scene_in_front : {text : List ℕ} (lent s : Scene) → short_buffer lent ≡ false → Holds text s → SceneInFront text lent (filled (given s) lent) (counts_of s)
unfolding filled
scene_in_front lent s room holds =
    let sized = accepted_sized (text_accepted holds) in
    record {
      reads = record { scene = s; holds = holds; counts = refl };
      positions =
          in_front s.positions lent.positions (6 * vertex_count s) (6 * vertex_limit) sized.positions_long (omega (arith, sized.few_vertices)) (ltb-false _ _ (search (or_left, or_rest)));
      edges =
          in_front s.edges lent.edges (2 * edge_count s) (2 * edge_limit) sized.edges_long (omega (arith, sized.few_edges)) (ltb-false _ _ (search (or_left, or_rest)));
      triangles =
          in_front s.triangles lent.triangles (3 * triangle_count s) (3 * triangle_limit) sized.triangles_long (omega (arith, sized.few_triangles)) (ltb-false _ _ (search (or_left, or_rest)));
      seams =
          in_front s.seams lent.seams (2 * seam_count s) (2 * seam_limit) sized.seams_long (omega (arith, few_seams (text_accepted holds))) (ltb-false _ _ (search (or_left, or_rest)));
    }

-- so the buffers are left where the counts are given
pub reading_holds : (text : List ℕ) (lent left : Scene) (r : Result SceneCounts Refused) → TextRead text lent left r → (c : SceneCounts) → outcome_of r ≡ given c
    → SceneInFront text lent left c
reading_holds text lent left r p c e =
    let (s, is, counts) = told_given p.outcome c (sym p.says ∙ e) in
    let (room, fits, holds) = read_so text lent p.outcome p.right s is in
    let left_is : left ≡ filled (given s) lent = p.leaves ∙ ap (λ (x : Outcome Scene). filled x lent) is in
    subst (λ (k : SceneCounts). SceneInFront text lent left k) (sym counts)
    (subst (λ (l : Scene). SceneInFront text lent l (counts_of s)) (sym left_is) (scene_in_front lent s room holds))
