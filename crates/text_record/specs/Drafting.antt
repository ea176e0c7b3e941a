-- A draft holds a scene: its lists stand in front of the buffers, and its seams are those of the table. What one line does to it, and how
-- it goes on from line to line.
use Rattle.std.specs.Prelude.{Result, Ok, Err, Bool, true, false, ◌||◌, ◌≡◌, ◌⊎◌, ℕ, ◌+◌, ◌*◌, ◌≤◌, ◌<◌, leb, ℤ, length, take, drop, get_or}
use mathlib.Core.List.{List, [], ◌∷◌, ◌++◌, append-nil}
use Rattle.std.proofs.Math.Path.{refl, subst}
use Rattle.std.proofs.Common.{sym, ap, ◌∙◌, inl, inr, ⊎_elim, arith, get_or-take, get_or-append-add, take_at, take-take, leb-false}
use Rattle.sequences.specs.Stands.{Stands}
use Rattle.answers.specs.Below.{or_left, or_rest}
use Rattle.scene_seams.specs.Alone.{tabled}
use Rattle.scene_seams.specs.Table.{seams_of, sewn_to}
use Rattle.scene_seams.specs.Sewing.{seams_alone, least_after, breaks_rules, one_more_seam, seam_entered}
use Rattle.meaning.specs.Limits.{vertex_limit, seam_limit, digit_limit}
use Rattle.meaning.specs.Scene.{Scene, scene_of, over_size, out_of_range, unknown_vertex, broken_seam, repeated_vertex}
use Rattle.meaning.specs.Refusals.{Outcome, given, refused, Check, Answers, number_of, outcome_alone}
use Rattle.meaning.specs.Lines.{misplaced}
use Rattle.meaning.specs.Text as Text
use Rattle.meaning.specs.Text.{Entry, vertex, edge, triangle, seam, numbers_of, line_of, Short, coordinates_in, ends_in, corners_in, seam_in, scene_with, late, entry_checks, EntryJudged}
use Rattle.meaning.specs.declared.Refusal.{Refusal}
use Rattle.meaning.specs.declared.SceneCounts.{SceneCounts}
use Rattle.answers.specs.Answering.{is_refused, is_past}
use Rattle.text_line.specs.Reading.{sort_of}
use Rattle.text_line.specs.Above.{Above, counted_by, above_more}
use Rattle.text_line.specs.Checks.{with_seam, SeamComes, comes_seam}
use Rattle.text_line.specs.Judging.{Begun, SeamJudging, SeamBegun, SixAre}
use Rattle.text_line.specs.Stepping.{Stepped, LineStepped, Took}
use Rattle.text_line.specs.declared.Sort.{Sort}
use Rattle.text_line.specs.declared.Step.{Step}
use Rattle.text_record.specs.Putting.{Roomy, Ready, Put, PutEntry, put_entry, ready_entry}
use Rattle.text_record.specs.Holding.{new_first, new_second, AtSeam, breaks, repeats, TwoAre, SeamHeld, HoldReady, Held}
use Rattle.text_record.specs.declared.Taken.{Taken}

-- ---- the scene in front

pub record Fronts (b s : Scene) (c : SceneCounts) : Type 0 where
  pub positions : take (6 * c.vertices) b.positions ≡ s.positions
  pub edges : take (2 * c.edges) b.edges ≡ s.edges
  pub triangles : take (3 * c.triangles) b.triangles ≡ s.triangles
  pub seams : take (2 * c.seams) b.seams ≡ s.seams

pub record Drafted (b : Scene) (table : List ℕ) (s : Scene) (c : SceneCounts) : Type 0 where
  pub above : Above s c
  pub fronts : Fronts b s c
  pub sewn : seams_of table ≡ s.seams
  pub wide : vertex_limit ≤ length table

-- some scene
pub record DraftOf (c : SceneCounts) (b : Scene) (table : List ℕ) : Type 0 where
  pub scene : Scene
  pub drafted : Drafted b table scene c

-- a record behind it
pub fronts_put : {b b' s : Scene} {c : SceneCounts} (r : Entry) → Fronts b s c → PutEntry c r b b' → Fronts b' (scene_with s r) (counted_by c (sort_of r))
fronts_put r f w =
    record {
      positions = w.positions.front ∙ ap (λ l. l ++ coordinates_in r) f.positions;
      edges = w.edges.front ∙ ap (λ l. l ++ ends_in r) f.edges;
      triangles = w.triangles.front ∙ ap (λ l. l ++ corners_in r) f.triangles;
      seams = w.seams.front ∙ ap (λ l. l ++ seam_in r) f.seams;
    }

-- the two checks after those that let the seam pass
six_of_two : (o : Outcome (Unit {0})) (x f u broken twice b t : Bool) → x ≡ false → f ≡ false → u ≡ false → b ≡ broken → (broken ≡ false → t ≡ twice)
    → TwoAre b t o
    → SixAre false x f u broken twice o
unfolding Answers
six_of_two o x f u true twice b t ex ef eu eb et h = rw (ex, ef, eu) (rw eb at h)
six_of_two o x f u false twice b t ex ef eu eb et h = rw (ex, ef, eu) (rw (eb, et refl) at h)

two_given : (b t : Bool) → TwoAre b t (given tt) → b ≡ false
unfolding Answers
two_given true t h = let z : ◌≡◌ {A = ℕ} 0 1 = cc in absurd (omega arith)
two_given false t h = refl

-- ---- a seam behind it

module _ {b₀ b : Scene} {table : List ℕ} {s : Scene} {c : SceneCounts} (d : Drafted b₀ table s c) (i j : ℕ) (w : PutEntry c (seam i j) b₀ b) where
  all : Fronts b (scene_with s (seam i j)) (counted_by c (sort_of (seam i j)))
  all = fronts_put (seam i j) d.fronts w

  seam_positions : take (6 * c.vertices) b.positions ≡ s.positions
  unfolding counted_by sort_of coordinates_in
  seam_positions = all.positions ∙ append-nil s.positions

  seam_edges : take (2 * c.edges) b.edges ≡ s.edges
  unfolding counted_by sort_of ends_in
  seam_edges = all.edges ∙ append-nil s.edges

  seam_triangles : take (3 * c.triangles) b.triangles ≡ s.triangles
  unfolding counted_by sort_of corners_in
  seam_triangles = all.triangles ∙ append-nil s.triangles

  long : length s.seams ≡ 2 * c.seams
  long = d.above.lengths.seams

  with_new : take (2 * (c.seams + 1)) b.seams ≡ s.seams ++ (i ∷ j ∷ [])
  unfolding counted_by sort_of seam_in
  with_new = all.seams

  in_front : (k : ℕ) → k < 2 * (c.seams + 1) → get_or b.seams k 0 ≡ get_or (s.seams ++ (i ∷ j ∷ [])) k 0
  in_front k h = sym (get_or-take (2 * (c.seams + 1)) b.seams k 0 h) ∙ ap (λ (l : List ℕ). get_or l k 0) with_new

  seam_first : new_first c b ≡ i
  seam_first =
      let place : 2 * c.seams ≡ length s.seams + 0 = omega (arith, long) in
      in_front (2 * c.seams) (omega arith) ∙ ap (λ (k : ℕ). get_or (s.seams ++ (i ∷ j ∷ [])) k 0) place ∙ get_or-append-add s.seams (i ∷ j ∷ []) 0 0

  seam_second : new_second c b ≡ j
  seam_second =
      let place : 2 * c.seams + 1 ≡ length s.seams + 1 = omega (arith, long) in
      in_front (2 * c.seams + 1) (omega arith) ∙ ap (λ (k : ℕ). get_or (s.seams ++ (i ∷ j ∷ [])) k 0) place ∙ get_or-append-add s.seams (i ∷ j ∷ []) 1 0

  seam_before : take (2 * c.seams) b.seams ≡ s.seams
  seam_before =
      sym (take-take (2 * c.seams) (2 * (c.seams + 1)) b.seams (omega arith))
      ∙ ap (take (2 * c.seams)) with_new
      ∙ take_at s.seams (i ∷ j ∷ []) (2 * c.seams) long

  module _ (g : SeamBegun s i j) where
    both_known : leb c.vertices i || leb c.vertices j ≡ false
    both_known = let k : SeamComes d.above i j = comes_seam d.above i j in sym k.known ∙ g.known

    first_known : i < c.vertices
    first_known = let e : leb c.vertices i || leb c.vertices j ≡ false = both_known in leb-false c.vertices i (search (or_left, or_rest))

    second_known : j < c.vertices
    second_known = let e : leb c.vertices i || leb c.vertices j ≡ false = both_known in leb-false c.vertices j (search (or_left, or_rest))

    pub at_seam : Roomy b → AtSeam c b
    at_seam room =
        let few : leb seam_limit c.seams ≡ false = sym (comes_seam d.above i j).over ∙ g.room in
        record {
          positions = omega (arith, room.positions, d.above.bounded.vertices);
          edges = omega (arith, room.edges, d.above.bounded.edges);
          triangles = omega (arith, room.triangles, d.above.bounded.triangles);
          seams = omega (arith, room.seams, leb-false seam_limit c.seams few);
          first = omega (arith, seam_first, first_known);
          second = omega (arith, seam_second, second_known);
          bounded = d.above.bounded;
        }

    whole : broken_seam (seams_alone s.positions (seams_of table)) ≡ false
    whole = ap (λ (l : List ℕ). broken_seam (seams_alone s.positions l)) d.sewn ∙ d.above.accepted.sewn_well

    -- 15 of the scene with it
    broken_is : breaks c b table ≡ broken_seam (scene_with s (seam i j))
    broken_is =
        ap (λ (l : List ℤ). breaks_rules l table (least_after (take (2 * c.seams) b.seams)) (new_first c b) (new_second c b)) seam_positions
        ∙ ap (λ (l : List ℕ). breaks_rules s.positions table (least_after l) (new_first c b) (new_second c b)) (seam_before ∙ sym d.sewn)
        ∙ ap (λ (x : ℕ). breaks_rules s.positions table (least_after (seams_of table)) x (new_second c b)) seam_first
        ∙ ap (λ (y : ℕ). breaks_rules s.positions table (least_after (seams_of table)) i y) seam_second
        ∙ sym (one_more_seam s.positions table i j whole)
        ∙ ap (λ (l : List ℕ). broken_seam (seams_alone s.positions (l ++ (i ∷ j ∷ [])))) d.sewn
        ∙ ap broken_seam (sym (with_seam s i j))

    -- the table with it
    pub table_with : broken_seam (scene_with s (seam i j)) ≡ false → seams_of (sewn_to table i j) ≡ s.seams ++ (i ∷ j ∷ [])
    table_with fine =
        let more : broken_seam (seams_alone s.positions (seams_of table ++ (i ∷ j ∷ []))) ≡ false =
        ap (λ (l : List ℕ). broken_seam (seams_alone s.positions (l ++ (i ∷ j ∷ [])))) d.sewn ∙ ap broken_seam (sym (with_seam s i j)) ∙ fine in
        seam_entered s.positions table i j whole more (omega (arith, first_known, d.above.bounded.vertices, d.wide))
        ∙ ap (λ (l : List ℕ). l ++ (i ∷ j ∷ [])) d.sewn

    -- 4 of the scene with it
    repeated_is : broken_seam (scene_with s (seam i j)) ≡ false → repeats c b table ≡ repeated_vertex (scene_with s (seam i j))
    repeated_is fine =
        ap (λ (l : List ℕ). repeated_vertex (tabled [] l (take (3 * c.triangles) b.triangles) (sewn_to table (new_first c b) (new_second c b)))) seam_edges
        ∙ ap (λ (l : List ℕ). repeated_vertex (tabled [] s.edges l (sewn_to table (new_first c b) (new_second c b)))) seam_triangles
        ∙ ap (λ (x : ℕ). repeated_vertex (tabled [] s.edges s.triangles (sewn_to table x (new_second c b)))) seam_first
        ∙ ap (λ (y : ℕ). repeated_vertex (tabled [] s.edges s.triangles (sewn_to table i y))) seam_second
        ∙ ap (λ (l : List ℕ). repeated_vertex (scene_of [] s.edges s.triangles l)) (table_with fine)
        ∙ ap repeated_vertex (sym (with_seam s i j))

    pub seam_judged : {table' : List ℕ} (o : Outcome (Unit {0})) → SeamHeld c b table table' o → EntryJudged s (seam i j) o
    unfolding late
    seam_judged o h =
        six_of_two o (over_size (scene_with s (seam i j))) (out_of_range (scene_with s (seam i j))) (unknown_vertex (scene_with s (seam i j)))
        (broken_seam (scene_with s (seam i j))) (repeated_vertex (scene_with s (seam i j))) (breaks c b table) (repeats c b table)
        g.room g.near g.known broken_is repeated_is h.judged

    pub seam_sewn : {table' : List ℕ} → SeamHeld c b table table' (given tt) → seams_of table' ≡ s.seams ++ (i ∷ j ∷ [])
    seam_sewn h =
        ap seams_of (h.sewn ∙ ap (λ (x : ℕ). sewn_to table x (new_second c b)) seam_first ∙ ap (λ (y : ℕ). sewn_to table i y) seam_second)
        ∙ table_with (sym broken_is ∙ two_given (breaks c b table) (repeats c b table) h.judged)

-- ---- a record of any kind

table_kept : {b : Scene} {table table' : List ℕ} {s : Scene} {c : SceneCounts} → Drafted b table s c → (r : Entry) → table' ≡ table → seam_in r ≡ []
    → seams_of table' ≡ s.seams ++ seam_in r
table_kept {s} d r e n = ap seams_of e ∙ d.sewn ∙ sym (append-nil s.seams) ∙ ap (λ (l : List ℕ). s.seams ++ l) (sym n)

module _ {b₀ b : Scene} {table : List ℕ} {s : Scene} {c : SceneCounts} (d : Drafted b₀ table s c) where
  pub hold_ready : (r : Entry) → Begun s r (given tt) → PutEntry c r b₀ b → Roomy b → HoldReady (sort_of r) c b
  unfolding HoldReady sort_of Begun SeamJudging
  hold_ready (vertex p q) g w room = tt
  hold_ready (edge i j) g w room = tt
  hold_ready (triangle i j k) g w room = tt
  hold_ready (seam i j) g w room = at_seam d i j w g room

  pub held_judged : (r : Entry) → Begun s r (given tt) → PutEntry c r b₀ b → (table' : List ℕ) (o : Outcome (Unit {0})) → Held (sort_of r) c b table table' o
      → EntryJudged s r o
  unfolding Held sort_of Begun SeamJudging
  held_judged (vertex p q) g w table' o h = subst (EntryJudged s (vertex p q)) (sym h.0) g
  held_judged (edge i j) g w table' o h = subst (EntryJudged s (edge i j)) (sym h.0) g
  held_judged (triangle i j k) g w table' o h = subst (EntryJudged s (triangle i j k)) (sym h.0) g
  held_judged (seam i j) g w table' o h = seam_judged d i j w g o h

  pub held_sewn : (r : Entry) → Begun s r (given tt) → PutEntry c r b₀ b → (table' : List ℕ) → Held (sort_of r) c b table table' (given tt)
      → seams_of table' ≡ s.seams ++ seam_in r
  unfolding Held sort_of Begun SeamJudging seam_in
  held_sewn (vertex p q) g w table' h = table_kept d (vertex p q) h.1 refl
  held_sewn (edge i j) g w table' h = table_kept d (edge i j) h.1 refl
  held_sewn (triangle i j k) g w table' h = table_kept d (triangle i j k) h.1 refl
  held_sewn (seam i j) g w table' h = seam_sewn d i j w g h

  -- the draft then holds the scene with it
  pub drafted_more : (r : Entry) → Begun s r (given tt) → PutEntry c r b₀ b → {table' : List ℕ} → Held (sort_of r) c b table table' (given tt)
      → length table' ≡ length table
      → Drafted b table' (scene_with s r) (counted_by c (sort_of r))
  drafted_more r g w {table'} h same =
      record {
        above = above_more r d.above (held_judged r g w table' (given tt) h);
        fronts = fronts_put r d.fronts w;
        sewn = held_sewn r g w table' h;
        wide = omega (arith, same, d.wide);
      }

pub roomy_put : {b b' : Scene} {c : SceneCounts} {r : Entry} → Roomy b → PutEntry c r b b' → Roomy b'
roomy_put room w =
    record {
      positions = omega (arith, room.positions, w.positions.same);
      edges = omega (arith, room.edges, w.edges.same);
      triangles = omega (arith, room.triangles, w.triangles.same);
      seams = omega (arith, room.seams, w.seams.same);
    }

-- ---- no check of a record is 9

-- a refusal of a list of checks has the number of one of them
unfoldable Among : ℕ → List Check → Type 0
Among n [] = ⊥
Among n (k ∷ ks) = (n ≡ k.number) ⊎ Among n ks

refused_among : (ks : List Check) (n c : ℕ) → Answers {A = Unit {0}} ks (λ t. Unit {0}) (refused n c) → Among n ks
unfolding Answers Among
refused_among [] n c a = a
refused_among (k ∷ ks) n c a = go k.holds refl (refused_among ks n c)
  where
    go : (b : Bool) → k.holds ≡ b → (Answers {A = Unit {0}} ks (λ t. Unit {0}) (refused n c) → Among n ks) → (n ≡ k.number) ⊎ Among n ks
    go true h more =
        inl (let e : ◌≡◌ {A = Outcome (Unit {0})} (refused n c) (refused k.number k.carries) = is_refused (λ t. Unit {0}) k ks (refused n c) h a in cc)
    go false h more = inr (more (is_past (λ t. Unit {0}) k ks (refused n c) h a))

never_nine : (s : Scene) (r : Entry) → EntryJudged s r (refused 9 0) → ⊥
unfolding Among
never_nine s r j =
    ⊎_elim (λ e. omega (arith, e))
    (⊎_elim (λ e. omega (arith, e))
    (⊎_elim (λ e. omega (arith, e)) (⊎_elim (λ e. omega (arith, e)) (⊎_elim (λ e. omega (arith, e)) (⊎_elim (λ e. omega (arith, e)) (λ e. e))))))
    (refused_among (entry_checks s r) 9 0 j)

-- ---- what one line asks and promises

-- there is a line, room for its numbers, and a draft with room for its record
pub record LineReady (text : List ℕ) (at : ℕ) (c : SceneCounts) (sizes : List ℕ) (minus : List Bool) (b : Scene) (table : List ℕ) : Type 0 where
  pub inside : at < length text
  pub sized : 6 ≤ length sizes
  pub signed : 6 ≤ length minus
  pub roomy : Roomy b
  pub draft : DraftOf c b table

-- a record stands here, not at fault, and the draft holds the scene with it
pub record TookLine (text : List ℕ) (at : ℕ) (c : SceneCounts) (s b : Scene) (table : List ℕ) (after : SceneCounts) (next : ℕ) : Type 0 where
  pub entry : Entry
  pub short : Short digit_limit (numbers_of entry)
  pub stands : Stands text at (line_of entry) next
  pub good : EntryJudged s entry (given tt)
  pub drafted : Drafted b table (scene_with s entry) after
  pub counts : after ≡ counted_by c (sort_of entry)

-- the line is at fault; where it is no record's, the draft holds what it held
pub record FaultHere (text : List ℕ) (at : ℕ) (c : SceneCounts) (s b : Scene) (table : List ℕ) (f : Refusal) : Type 0 where
  pub fault : Text.SceneFault s (drop at text) (number_of f)
  pub kept : number_of f ≡ 9 → Drafted b table s c

unfoldable pub TakenAs : List ℕ → ℕ → SceneCounts → Scene → Scene → List ℕ → Result Taken Refusal → Type 0
TakenAs text at c s b table (Err f) = FaultHere text at c s b table f
TakenAs text at c s b table (Ok taken) = TookLine text at c s b table taken.counts taken.next

-- below any scene that the draft held
abbrev pub LineTaken : List ℕ → ℕ → SceneCounts → Scene → List ℕ → Scene → List ℕ → Result Taken Refusal → Type 0
LineTaken text at c b₀ table₀ b table r = (s : Scene) → Drafted b₀ table₀ s c → TakenAs text at c s b table r

module _ (text : List ℕ) (at : ℕ) (c : SceneCounts) (sizes : List ℕ) (minus : List Bool) {r : Result Step Refusal} (stepped : LineStepped text at c sizes minus r) where
  pub take_fault : {f : Refusal} (b : Scene) (table : List ℕ) → r ≡ Err f → LineTaken text at c b table b table (Err f)
  unfolding Stepped TakenAs
  take_fault {f} b table e s d =
      let a : Stepped text at s c sizes minus r = stepped s d.above in
      let fault : Text.SceneFault s (drop at text) (number_of f) = rw e at a in
      record { fault = fault; kept = λ nine. d }

  module _ {step : Step} (e : r ≡ Ok step) where
    took : (s : Scene) → Above s c → Took text at s c sizes minus step.sort step.counts step.next
    unfolding Stepped
    took s a = let t : Stepped text at s c sizes minus r = stepped s a in rw e at t

    pub take_ready : {b₀ : Scene} {table₀ : List ℕ} → DraftOf c b₀ table₀ → 6 ≤ length sizes → 6 ≤ length minus → Ready step.sort c sizes minus
    take_ready d u v =
        let t : Took text at d.scene c sizes minus step.sort step.counts step.next = took d.scene d.drafted.above in
        record {
          sized = u;
          signed = v;
          fits = rw t.line.sorted at (ready_entry t.line.entry d.drafted.above t.begun t.line.front);
        }

    module _ (b₀ b : Scene) (put : Put step.sort c sizes minus b₀ b) where
      entered : (s : Scene) (t : Took text at s c sizes minus step.sort step.counts step.next) → PutEntry c t.line.entry b₀ b
      entered s t = put_entry c sizes minus b₀ t.line.entry t.line.sorted t.line.front put

      pub take_hold : {table₀ : List ℕ} → DraftOf c b₀ table₀ → Roomy b₀ → HoldReady step.sort c b
      take_hold d room =
          let t : Took text at d.scene c sizes minus step.sort step.counts step.next = took d.scene d.drafted.above in
          let w : PutEntry c t.line.entry b₀ b = entered d.scene t in
          rw t.line.sorted at (hold_ready d.drafted t.line.entry t.begun w (roomy_put room w))

      module _ (table₀ table : List ℕ) {j : Result (Unit {0}) Refusal} (held : Held step.sort c b table₀ table (outcome_alone j)) where
        pub take_refused : {f : Refusal} → j ≡ Err f → LineTaken text at c b₀ table₀ b table (Err f)
        unfolding TakenAs outcome_alone
        take_refused {f} q s d =
            let t : Took text at s c sizes minus step.sort step.counts step.next = took s d.above in
            let h : Held (sort_of t.line.entry) c b table₀ table (refused (number_of f) 0) =
            subst (λ (x : Sort). Held x c b table₀ table (refused (number_of f) 0)) (sym t.line.sorted)
            (subst (λ (x : Result (Unit {0}) Refusal). Held step.sort c b table₀ table (outcome_alone x)) q held) in
            let judged : EntryJudged s t.line.entry (refused (number_of f) 0) =
            held_judged d t.line.entry t.begun (entered s t) table (refused (number_of f) 0) h in
            record {
              fault = misplaced t.line.entry (drop step.next text) t.line.short t.line.stands.here judged;
              kept = λ e. absurd (never_nine s t.line.entry (subst (λ (n : ℕ). EntryJudged s t.line.entry (refused n 0)) e judged));
            }

        pub take_goes : {u : Unit {0}} → j ≡ Ok u → length table ≡ length table₀ → LineTaken text at c b₀ table₀ b table (Ok (record { counts = step.counts; next = step.next }))
        unfolding TakenAs outcome_alone
        take_goes q same s d =
            let t : Took text at s c sizes minus step.sort step.counts step.next = took s d.above in
            let w : PutEntry c t.line.entry b₀ b = entered s t in
            let h : Held (sort_of t.line.entry) c b table₀ table (given tt) =
            subst (λ (x : Sort). Held x c b table₀ table (given tt)) (sym t.line.sorted)
            (subst (λ (x : Result (Unit {0}) Refusal). Held step.sort c b table₀ table (outcome_alone x)) q held) in
            record {
              entry = t.line.entry;
              short = t.line.short;
              stands = t.line.stands;
              good = held_judged d t.line.entry t.begun w table (given tt) h;
              drafted = subst (λ (k : SceneCounts). Drafted b table (scene_with s t.line.entry) k) (sym t.adds) (drafted_more d t.line.entry t.begun w h same);
              counts = t.adds;
            }
