-- A block part of the way: which series stands above, which step the block goes on from, and that the positions have gone as far as its lines.
use Rattle.std.specs.Prelude.{ℕ, ◌+◌, ◌*◌, ◌/◌, ◌≤◌, ◌<◌, Bool, ◌||◌, ◌&&◌, ◌≡◌, ℤ, pos, get_or, replicate}
use Rattle.std.proofs.Math.Bool.{true, false, cond, not}
use mathlib.Core.List.{List, [], ◌∷◌, ◌++◌}
use Rattle.std.proofs.Math.Path.{refl, sym, ap, subst}
use Rattle.std.proofs.Common.{◌∙◌, ⊎_elim, arith, length-append}
use Rattle.std.proofs.Math.Dec.{leb, ltb}
use Rattle.std.proofs.Math.ListN.{length}
use borrow.Author.Tests.{le-leb, lt-leb, lt-ltb, le-ltb, leb-false}
use Rattle.whole.specs.Vector.{Vector}
use Rattle.sequences.specs.Range.{le_or_lt}
use Rattle.sequences.specs.Wrote.{patched}
use Rattle.text_fields.specs.Ended.{InFront}
use Rattle.text_fields.specs.Tabbed.{sized_at}
use Rattle.meaning.specs.Limits.{coordinate_limit, vertex_limit}
use Rattle.meaning.specs.Scene.{Scene, vertex_count, end_of, broken_seam, Accepted}
use Rattle.meaning.specs.Refusals.{Outcome, Check, Answers}
use Rattle.meaning.specs.Lines.{RecordJudged}
use Rattle.meaning.specs.Text.{coordinates}
use Rattle.answers.specs.Answering.{refuses, is_refused, is_past, is_given, lets_pass}
use Rattle.answers.specs.Below.{or_left}
use Rattle.scene_checks.specs.Checking.{sewable}
use Rattle.scene_seams.specs.Sewing.{seams_alone, Sewable, blank_table}
use Rattle.text_record.specs.Putting.{point_from, signed_at_lem}
use Rattle.meaning.specs.Series.{last_from, step_after, last_step}
use Rattle.meaning.specs.SeriesText.{ends, three_of, SoFar, series_so_far, with_item, block_full, block_short, wrong_length, far_end, comes_apart_now, item_checks, series_lines}
use Rattle.series_laws.specs.Longer.{last_append}
use Rattle.series_laws.specs.Stepping.{AllNear, near_more}
use Rattle.series_laws.specs.PartWay.{part_way, part_length, part_at, part_next, part_ends}
use Rattle.series_block.specs.Moving.{three_at, moved_on, far_three, wrong_here, last_here, end_checks, end_says, EndReady, EndIs, sewable_as_long}
use Rattle.std.specs.Prelude.{Ok}

pub record InBlock (x : SoFar) (s : Scene) (k : ℕ) (p : List ℤ) (w : List ℕ) : Type 0 where
  pub begun : x.begun ≡ true
  pub before : s ≡ last_from x.scene x.blocks
  pub vertices : vertex_count x.scene ≡ vertex_count s
  pub accepted : Accepted s
  pub long : length s.positions ≡ 6 * vertex_count s
  pub lines : length x.block ≡ 3 * k
  pub within : k ≤ vertex_count s
  pub near : AllNear x.block
  pub draft : p ≡ part_way s x.block k
  pub seams : w ≡ s.seams
  -- where the block is whole, no seam comes apart in its step
  pub sewn : vertex_count s ≤ k → broken_seam (step_after s x.block) ≡ false

pub not_at_most : (a b : ℕ) → not (leb a b) ≡ ltb b a
not_at_most a b =
    ⊎_elim
    (λ le. rw (le-leb a b le, le-ltb b a le) refl)
    (λ lt. rw (lt-leb a b lt, lt-ltb b a lt) refl)
    (le_or_lt a b)

module _ {x : SoFar} {s : Scene} {k : ℕ} {p : List ℤ} {w : List ℕ} (b : InBlock x s k p w) where
  draft_long : length p ≡ 6 * vertex_count s
  draft_long = ap length b.draft ∙ part_length s x.block k (omega (arith, b.within, b.long)) ∙ b.long

  pub draft_vertices : length p / 6 ≡ vertex_count s
  draft_vertices = omega (arith, draft_long)

  full_is : block_full x ≡ leb (vertex_count s) k
  full_is =
      let count : length x.block / 3 ≡ k = omega (arith, b.lines) in
      λ i. leb (b.vertices i) (count i)

  pub short_is : block_short x ≡ ltb k (vertex_count s)
  short_is = (λ i. b.begun i && not (full_is i)) ∙ not_at_most (vertex_count s) k

  module _ (v : Vector) where
    -- the block with one line more
    block_long : length (x.block ++ three_of v) ≡ 3 * (k + 1)
    block_long = omega (arith, length-append x.block (three_of v), b.lines)

    full_after : block_full (with_item x (ends v)) ≡ leb (vertex_count s) (k + 1)
    unfolding with_item
    full_after =
        let count : length (x.block ++ three_of v) / 3 ≡ k + 1 = omega (arith, block_long) in
        λ i. leb (b.vertices i) (count i)

    short_after : block_short (with_item x (ends v)) ≡ ltb (k + 1) (vertex_count s)
    unfolding with_item
    short_after = (λ i. b.begun i && not (full_after i)) ∙ not_at_most (vertex_count s) (k + 1)

    wrong_is : (last : Bool) → wrong_length x (ends v) last ≡ wrong_here last (length p / 6) k
    unfolding wrong_length
    wrong_is last =
        (λ i. full_is i || last && short_after i) ∙ ap (λ (n : ℕ). wrong_here last n k) (sym draft_vertices)

    -- the step that the block makes so far
    step_is : last_step (series_so_far (with_item x (ends v))) ≡ step_after s (x.block ++ three_of v)
    unfolding with_item last_from
    step_is =
        ap (λ (c : Bool). last_from x.scene (cond c (x.blocks ++ ((x.block ++ three_of v) ∷ [])) [])) b.begun
        ∙ last_append x.scene x.blocks ((x.block ++ three_of v) ∷ [])
        ∙ ap (λ (t : Scene). step_after t (x.block ++ three_of v)) (sym b.before)

    module _ {sizes : List ℕ} {minus : List Bool} (f : InFront (three_of v) sizes minus) where
      far_is : far_end v ≡ far_three sizes
      far_is =
          let a = sym (sized_at (three_of v) sizes 0 f.sized (omega arith)) in
          let c = sym (sized_at (three_of v) sizes 1 f.sized (omega arith)) in
          let d = sym (sized_at (three_of v) sizes 2 f.sized (omega arith)) in
          λ i. ltb coordinate_limit (a i) || ltb coordinate_limit (c i) || ltb coordinate_limit (d i)

      point_is : point_from sizes minus 0 ≡ three_of v
      point_is =
          let a = signed_at_lem (three_of v) 0 f (omega arith) in
          let c = signed_at_lem (three_of v) 1 f (omega arith) in
          let d = signed_at_lem (three_of v) 2 f (omega arith) in
          λ i. a i ∷ c i ∷ d i ∷ []

      start_is : three_at p (6 * k + 3) ≡ three_of (end_of s k)
      start_is =
          let at : (i : ℕ) → get_or p (6 * k + i) (pos 0) ≡ get_or s.positions (6 * k + i) (pos 0) = λ i.
          ap (λ (l : List ℤ). get_or l (6 * k + i) (pos 0)) b.draft ∙ part_at s x.block k i in
          let four : 6 * k + 3 + 1 ≡ 6 * k + 4 = omega arith in
          let five : 6 * k + 3 + 2 ≡ 6 * k + 5 = omega arith in
          let second : get_or p (6 * k + 3 + 1) (pos 0) ≡ get_or s.positions (6 * k + 3 + 1) (pos 0) =
          subst (λ (n : ℕ). get_or p n (pos 0) ≡ get_or s.positions n (pos 0)) (sym four) (at 4) in
          let third : get_or p (6 * k + 3 + 2) (pos 0) ≡ get_or s.positions (6 * k + 3 + 2) (pos 0) =
          subst (λ (n : ℕ). get_or p n (pos 0) ≡ get_or s.positions n (pos 0)) (sym five) (at 5) in
          let first = at 3 in
          λ i. first i ∷ second i ∷ third i ∷ []

      -- the positions have gone one vertex further
      pub moved_is : moved_on p k sizes minus ≡ part_way s (x.block ++ three_of v) (k + 1)
      moved_is =
          ap (λ (l : List ℤ). patched p (6 * k) l) (λ i. start_is i ++ point_is i)
          ∙ ap (λ (l : List ℤ). patched l (6 * k) (coordinates (end_of s k) v)) b.draft
          ∙ sym (part_next s x.block k b.lines v)

      moved_vertices : k < vertex_count s → length (moved_on p k sizes minus) / 6 ≡ vertex_count s
      moved_vertices below =
          let same : length (moved_on p k sizes minus) ≡ length s.positions =
          ap length moved_is ∙ part_length s (x.block ++ three_of v) (k + 1) (omega (arith, b.long)) in
          omega (arith, b.long)

      seams_of_step : broken_seam (step_after s (x.block ++ three_of v)) ≡ broken_seam (seams_alone (step_after s (x.block ++ three_of v)).positions s.seams)
      unfolding step_after
      seams_of_step = refl

      -- where the line is the last of its block, the positions are those of the step
      pub moved_whole : k < vertex_count s → vertex_count s ≤ k + 1 → moved_on p k sizes minus ≡ (step_after s (x.block ++ three_of v)).positions
      moved_whole below h =
          let all : k + 1 ≡ vertex_count s = omega arith in
          moved_is ∙ ap (part_way s (x.block ++ three_of v)) all ∙ part_ends s (x.block ++ three_of v) b.long

      -- at the last line of the block, the seams asked are those of its step
      apart_is : k < vertex_count s → comes_apart_now (with_item x (ends v)) ≡ last_here (moved_on p k sizes minus) w k
      apart_is below = ⊎_elim whole partly (le_or_lt (vertex_count s) (k + 1))
        where
          asked : leb (length (moved_on p k sizes minus) / 6) (k + 1) ≡ leb (vertex_count s) (k + 1)
          asked = ap (λ (n : ℕ). leb n (k + 1)) (moved_vertices below)

          whole : vertex_count s ≤ k + 1 → comes_apart_now (with_item x (ends v)) ≡ last_here (moved_on p k sizes minus) w k
          whole h =
              let yes : leb (vertex_count s) (k + 1) ≡ true = le-leb (vertex_count s) (k + 1) h in
              (λ i. (full_after ∙ yes) i && broken_seam (step_is i))
              ∙ seams_of_step
              ∙ (λ i. broken_seam (seams_alone (sym (moved_whole below h) i) (sym b.seams i)))
              ∙ sym (ap (λ (c : Bool). cond c (broken_seam (seams_alone (moved_on p k sizes minus) w)) false) (asked ∙ yes))

          partly : k + 1 < vertex_count s → comes_apart_now (with_item x (ends v)) ≡ last_here (moved_on p k sizes minus) w k
          partly h =
              let none : leb (vertex_count s) (k + 1) ≡ false = lt-leb (vertex_count s) (k + 1) h in
              (λ i. (full_after ∙ none) i && broken_seam (step_is i))
              ∙ sym (ap (λ (c : Bool). cond c (broken_seam (seams_alone (moved_on p k sizes minus) w)) false) (asked ∙ none))

      -- what the code found is what the grammar asks
      pub end_judged : (last : Bool) (o : Outcome (Unit {0})) → Answers (end_checks last k w sizes p (moved_on p k sizes minus)) (λ t. Unit {0}) o
          → RecordJudged series_lines x (ends v) last o
      unfolding item_checks
      end_judged last o a = by_length (wrong_here last (length p / 6) k) refl
        where
          by_length : (c : Bool) → wrong_here last (length p / 6) k ≡ c → RecordJudged series_lines x (ends v) last o
          by_length true h =
              refuses (λ t. Unit {0}) _ _ o (wrong_is last ∙ h) (is_refused (λ t. Unit {0}) _ _ o h a)
          by_length false h =
              let below : k < vertex_count s =
              subst (λ (n : ℕ). k < n) draft_vertices
              (leb-false (length p / 6) k (or_left (leb (length p / 6) k) (last && ltb (k + 1) (length p / 6)) h)) in
              lets_pass (λ t. Unit {0}) _ _ o (wrong_is last ∙ h)
              (subst
              (λ (cs : List Check). Answers cs (λ t. Unit {0}) o)
              (λ i.
              record { number = 2; holds = sym far_is i; carries = 0 }
              ∷ record { number = 15; holds = sym (apart_is below) i; carries = 0 }
              ∷ [])
              (is_past (λ t. Unit {0}) _ _ o h a))

      -- a line that is not at fault: the block has gone one line further
      pub end_goes : {last : Bool} {p' : List ℤ} → EndIs last k w sizes minus p p' (Ok tt) → InBlock (with_item x (ends v)) s (k + 1) p' w
      unfolding with_item end_says
      end_goes {last} {p'} e =
          let U : Unit {0} → Type 0 = λ t. Unit {0} in
          let (placed, rest) = is_given U (record { number = 13; holds = wrong_here last (length p / 6) k; carries = 0 }) _ tt e.answer in
          let (near, rest') = is_given U (record { number = 2; holds = far_three sizes; carries = 0 }) _ tt rest in
          let (together, rest'') = is_given U (record { number = 15; holds = last_here (moved_on p k sizes minus) w k; carries = 0 }) _ tt rest' in
          let below : k < vertex_count s =
          subst (λ (n : ℕ). k < n) draft_vertices
          (leb-false (length p / 6) k (or_left (leb (length p / 6) k) (last && ltb (k + 1) (length p / 6)) placed)) in
          let moved : p' ≡ moved_on p k sizes minus = e.left ∙ (λ i. cond (placed i || near i) p (moved_on p k sizes minus)) in
          record {
            begun = b.begun;
            before = b.before;
            vertices = b.vertices;
            accepted = b.accepted;
            long = b.long;
            lines = block_long;
            within = omega arith;
            near = near_more x.block v b.near (far_is ∙ near);
            draft = moved ∙ moved_is;
            seams = b.seams;
            sewn = λ h.
                let yes : leb (vertex_count s) (k + 1) ≡ true = le-leb (vertex_count s) (k + 1) h in
                sym (λ i. (full_after ∙ yes) i && broken_seam (step_is i)) ∙ apart_is below ∙ together;
          }

-- what the code asks for before it looks at a line
pub block_ready : {x : SoFar} {s : Scene} {k : ℕ} {p : List ℤ} {w sizes : List ℕ} {minus : List Bool} → InBlock x s k p w → 3 ≤ length sizes → 3 ≤ length minus
    → EndReady k p w sizes minus
block_ready {x} {s} {k} {p} {w} b sized signed =
    let long : length p ≡ length s.positions = draft_long b ∙ sym b.long in
    let a : Sewable s.positions s.seams (replicate vertex_limit 0) =
    sewable s (replicate vertex_limit 0) (blank_table s.seams) b.accepted.shapely b.accepted.known in
    record {
      within = omega (arith, draft_vertices b, b.within);
      even = omega (arith, draft_long b);
      sewable = rw b.seams (sewable_as_long long a);
      sized = sized;
      signed = signed;
    }
