-- What one line does to a draft that holds the scene of the lines above.
use Rattle.std.specs.Prelude.{Bool, Result, Ok, Err, true, ◌||◌, ◌≢◌, refl, ℕ, ◌+◌, ◌-◌, ◌*◌, ◌≤◌, ◌<◌, ltb, ℤ, drop}
use Rattle.std.proofs.Math.Bool.{false}
use mathlib.Core.List.{List, [], ◌∷◌, ◌++◌, append-nil}
use Rattle.std.proofs.Common.{⊎_elim, ◌∙◌, arith, length-drop}
use Rattle.std.proofs.Math.Path.{◌≡◌, sym, ap, subst}
use Rattle.std.proofs.Math.Dec.{leb, eqb}
use Rattle.std.proofs.Math.ListN.{length, take}
use borrow.Author.Tests.{lt-ltb, leb-false, eqb-false}
use Rattle.sequences.specs.Stands.{Stands}
use Rattle.answers.specs.Answering.{refuses, lets_pass, gives, refused_before, given_before}
use Rattle.answers.specs.Below.{or_left, or_rest}
use Rattle.meaning.specs.Limits.{vertex_limit, edge_limit, triangle_limit, seam_limit}
use Rattle.meaning.specs.Lines as Lines
use Rattle.meaning.specs.Lines.{nothing, RecordJudged}
use Rattle.meaning.specs.Refusals.{Outcome, given, refused, Check, Answers, number_of}
use Rattle.meaning.specs.Scene.{Scene, vertex_count, edge_count, triangle_count, seam_count, over_size, uneven}
use Rattle.meaning.specs.Text.{vertex, triangle, coordinates, scene_with, coordinates_in, ends_in, corners_in, seam_in, entry_checks, line_feed}
use Rattle.meaning.specs.declared.Refusal.{Refusal}
use Rattle.meaning.specs.declared.Refusal.TheVariants.{BadLine}
use Rattle.meaning.specs.declared.SceneCounts.{SceneCounts}
use Rattle.text_line.specs.Above.{Above, Bounded, counted_by, above_more}
use Rattle.text_line.specs.Reading.{sort_of}
use Rattle.meaning.specs.ObjLine.{place_of, says}
use Rattle.meaning.specs.ObjFile.{place_at, with_sides, face_added, scene_after, line_checks, SaysSome, obj_lines}
use Rattle.meaning.specs.declared.Hundredths.{Hundredths}
use Rattle.meaning.specs.declared.ObjLine as Said
use Rattle.meaning.specs.declared.ObjLine.{ObjLine}
use Rattle.obj_edges.specs.Chains.{Knows}
use Rattle.obj_records.specs.Faults.{VertexFault, FaceFault, faultless}
use Rattle.obj_records.specs.Adding.{VertexPut, VertexAdded, FaceRoom, sides_with, FaceOver, FacePut, FaceAdded}
use Rattle.obj_numbers.specs.Finding.{place_fits}
use Rattle.obj_numbers.specs.Sizing.{to_the_end}
use Rattle.obj_laws.specs.Ended.{body_unbroken, body_stands, line_unformed, line_unended, line_misplaced}
use Rattle.obj_laws.specs.Faces.{EdgesOk, ok_scene, ok_sides, counts_with, above_edges}
use Rattle.obj_laws.specs.Judged.{vertex_judged, face_judged}
use Rattle.obj_draft.specs.declared.Taken.{Taken}

-- the arrays hold this scene in front, and the table behind its edges knows them
pub record Drafted (p : List ℤ) (e t : List ℕ) (s : Scene) (c : SceneCounts) : Type 0 where
  pub above : Above s c
  pub positions : take (6 * c.vertices) p ≡ s.positions
  pub edges : take (2 * c.edges) e ≡ s.edges
  pub triangles : take (3 * c.triangles) t ≡ s.triangles
  pub seamless : s.seams ≡ []
  pub knows : Knows e c.edges

pub record DraftRoom (p : List ℤ) (e t : List ℕ) : Type 0 where
  pub positions : 6 * vertex_limit ≤ length p
  pub faces : FaceRoom e t

-- ---- a vertex

module _ {p p' : List ℤ} {e t : List ℕ} {s : Scene} {c k : SceneCounts} {x y z : Hundredths} (d : Drafted p e t s c) (w : VertexPut c x y z p p' k) where
  more : SceneCounts
  more = record { vertices = c.vertices + 1; edges = c.edges; triangles = c.triangles; seams = c.seams }

  with_vertex : Drafted p' e t (scene_after s (Said.TheVariants.Vertex x y z)) more
  unfolding more scene_after counted_by sort_of coordinates_in ends_in corners_in seam_in
  with_vertex =
      record {
        above = above_more (vertex (place_at x y z) (place_at x y z)) d.above (vertex_judged d.above (given tt) x y z w.good);
        positions = w.put.front ∙ ap (λ (l : List ℤ). l ++ coordinates (place_at x y z) (place_at x y z)) d.positions;
        edges = d.edges ∙ sym (append-nil s.edges);
        triangles = d.triangles ∙ sym (append-nil s.triangles);
        seamless = append-nil s.seams ∙ d.seamless;
        knows = d.knows;
      }

  pub vertex_drafted : Drafted p' e t (scene_after s (Said.TheVariants.Vertex x y z)) k
  unfolding more
  vertex_drafted = subst (Drafted p' e t (scene_after s (Said.TheVariants.Vertex x y z))) (sym w.counts) with_vertex

-- ---- a face

module _ {p : List ℤ} {e t e' t' : List ℕ} {s : Scene} {c k : SceneCounts} {a b f : ℕ} (d : Drafted p e t s c) (w : FacePut c a b f e t e' t' k) where
  new : Scene
  new = scene_with s (triangle (a - 1) (b - 1) (f - 1))

  counted : SceneCounts
  counted = record { vertices = c.vertices; edges = c.edges; triangles = c.triangles + 1; seams = c.seams }

  new_above : Above new counted
  unfolding new counted counted_by sort_of
  new_above = above_more (triangle (a - 1) (b - 1) (f - 1)) d.above (face_judged d.above (given tt) (a - 1) (b - 1) (f - 1) w.good)

  new_seams : new.seams ≡ []
  unfolding new seam_in
  new_seams = append-nil s.seams ∙ d.seamless

  new_edges : new.edges ≡ take (2 * c.edges) e
  unfolding new ends_in
  new_edges = append-nil s.edges ∙ sym d.edges

  new_sides : with_sides new.edges (a - 1) (b - 1) (f - 1) ≡ sides_with c e a b f
  new_sides = ap (λ (l : List ℕ). with_sides l (a - 1) (b - 1) (f - 1)) new_edges

  fine : EdgesOk (vertex_count new) (with_sides new.edges (a - 1) (b - 1) (f - 1))
  unfolding counted
  fine =
      let n : vertex_count new ≡ c.vertices = omega (arith, new_above.lengths.positions) in
      let u : leb c.vertices (a - 1) || leb c.vertices (b - 1) || leb c.vertices (f - 1) ≡ false = (faultless w.good).known in
      let v : eqb (a - 1) (b - 1) || eqb (a - 1) (f - 1) || eqb (b - 1) (f - 1) ≡ false = (faultless w.good).once in
      let hi : a - 1 < c.vertices = leb-false _ _ (search (or_left, or_rest)) in
      let hj : b - 1 < c.vertices = leb-false _ _ (search (or_left, or_rest)) in
      let hk : f - 1 < c.vertices = leb-false _ _ (search (or_left, or_rest)) in
      let ij : eqb (a - 1) (b - 1) ≡ false = search (or_left, or_rest) in
      let ik : eqb (a - 1) (f - 1) ≡ false = search (or_left, or_rest) in
      let jk : eqb (b - 1) (f - 1) ≡ false = search (or_left, or_rest) in
      ok_sides (a - 1) (b - 1) (f - 1) (omega (arith, n, hi)) (omega (arith, n, hj)) (omega (arith, n, hk))
      (eqb-false (a - 1) (b - 1) ij) (eqb-false (a - 1) (f - 1) ik) (eqb-false (b - 1) (f - 1) jk)
      new.edges (ok_scene new_above new_seams)

  whole : Above (face_added s a b f) (counts_with counted k.edges)
  unfolding new
  whole =
      above_edges new_above new_seams (with_sides new.edges (a - 1) (b - 1) (f - 1)) k.edges fine (ap length new_sides ∙ w.long) w.within

  with_face : Drafted p e' t' (scene_after s (Said.TheVariants.Face a b f)) (counts_with counted k.edges)
  unfolding new counted scene_after coordinates_in corners_in
  with_face =
      record {
        above = whole;
        positions = d.positions ∙ sym (append-nil s.positions);
        edges = w.sides ∙ sym new_sides;
        triangles = w.put.front ∙ ap (λ (l : List ℕ). l ++ ((a - 1) ∷ (b - 1) ∷ (f - 1) ∷ [])) d.triangles;
        seamless = new_seams;
        knows = w.knows;
      }

  pub face_drafted : Drafted p e' t' (scene_after s (Said.TheVariants.Face a b f)) k
  unfolding counted
  face_drafted = subst (Drafted p e' t' (scene_after s (Said.TheVariants.Face a b f))) (sym w.counts) with_face

  pub face_sized : over_size (face_added s a b f) ≡ false
  face_sized = or_rest (uneven (face_added s a b f)) (over_size (face_added s a b f)) whole.accepted.shapely

-- ---- the checks of a line

module _ (s : Scene) (l : List ℕ) (last : Bool) where
  judged_as : {said : ObjLine} (o : Outcome (Unit {0})) → says l ≡ said → Answers (line_checks s said) (λ t. Unit {0}) o → RecordJudged obj_lines s l last o
  judged_as o e a = subst (λ (said : ObjLine). Answers (line_checks s said) (λ t. Unit {0}) o) (sym e) a

  pub judged_skipped : says l ≡ Said.TheVariants.Skipped → RecordJudged obj_lines s l last (given tt)
  unfolding line_checks Answers
  judged_skipped e = judged_as (given tt) e tt

  module _ {c : SceneCounts} (above : Above s c) where
    pub judged_vertex : {x y z : Hundredths} (o : Outcome (Unit {0})) → says l ≡ Said.TheVariants.Vertex x y z → VertexFault c x y z o
        → RecordJudged obj_lines s l last o
    unfolding line_checks
    judged_vertex {x} {y} {z} o e f = judged_as o e (vertex_judged above o x y z f)

    module _ {a b d : ℕ} (e : says l ≡ Said.TheVariants.Face a b d) where
      abbrev over : List Check
      over = record { number = 11; holds = over_size (face_added s a b d); carries = 0 } ∷ []

      pub judged_face : (n : ℕ) → FaceFault c (a - 1) (b - 1) (d - 1) (refused n 0) → RecordJudged obj_lines s l last (refused n 0)
      unfolding line_checks
      judged_face n f =
          judged_as (refused n 0) e
          (refused_before (λ t. Unit {0}) (λ t. Unit {0}) (entry_checks s (triangle (a - 1) (b - 1) (d - 1))) over n 0
          (face_judged above (refused n 0) (a - 1) (b - 1) (d - 1) f))

      then : (o : Outcome (Unit {0})) → FaceFault c (a - 1) (b - 1) (d - 1) (given tt) → Answers over (λ t. Unit {0}) o → RecordJudged obj_lines s l last o
      unfolding line_checks
      then o f q =
          judged_as o e
          (given_before (λ t. Unit {0}) (λ t. Unit {0}) (entry_checks s (triangle (a - 1) (b - 1) (d - 1))) over tt o
          (face_judged above (given tt) (a - 1) (b - 1) (d - 1) f) q)

      pub judged_over : (n : ℕ) → FaceFault c (a - 1) (b - 1) (d - 1) (given tt) → n ≡ 11 → over_size (face_added s a b d) ≡ true
          → RecordJudged obj_lines s l last (refused n 0)
      judged_over n f q h = then (refused n 0) f (refuses (λ t. Unit {0}) _ [] (refused n 0) h (ap (λ (m : ℕ). refused m 0) q))

      pub judged_fine : FaceFault c (a - 1) (b - 1) (d - 1) (given tt) → over_size (face_added s a b d) ≡ false → RecordJudged obj_lines s l last (given tt)
      judged_fine f h = then (given tt) f (lets_pass (λ t. Unit {0}) _ [] (given tt) h (gives (λ t. Unit {0}) tt tt))

second_of_lem : (v e t w : Bool) → e ≡ true → v || e || t || w ≡ true
second_of_lem true e t w q = refl
second_of_lem false e t w q = rw q

pub edges_over : {p : List ℤ} {e t : List ℕ} {s : Scene} {c : SceneCounts} (a b f n : ℕ) → Drafted p e t s c → FaceOver c a b f e n
    → over_size (face_added s a b f) ≡ true
unfolding ends_in
edges_over {e = e} {s = s} {c = c} a b f n d o =
    let s' : Scene = face_added s a b f in
    let same : with_sides (s.edges ++ []) (a - 1) (b - 1) (f - 1) ≡ sides_with c e a b f =
    ap (λ (l : List ℕ). with_sides l (a - 1) (b - 1) (f - 1)) (append-nil s.edges ∙ sym d.edges) in
    let long : length s'.edges ≡ length (sides_with c e a b f) = ap (length {A = ℕ}) same in
    second_of_lem (ltb vertex_limit (vertex_count s')) (ltb edge_limit (edge_count s')) (ltb triangle_limit (triangle_count s')) (ltb seam_limit (seam_count s'))
    (lt-ltb edge_limit (edge_count s') (omega (arith, o.over, long)))

-- ---- what one line asks and promises

pub record LineReady (text : List ℕ) (at : ℕ) (c : SceneCounts) (p : List ℤ) (e t : List ℕ) : Type 0 where
  pub inside : at < length text
  pub room : DraftRoom p e t
  pub bounded : Bounded c
  pub knows : Knows e c.edges

pub record TookLine (text : List ℕ) (at : ℕ) (p : List ℤ) (e t : List ℕ) (s : Scene) (k : SceneCounts) (next : ℕ) : Type 0 where
  pub body : List ℕ
  pub formed : SaysSome body
  pub stands : Stands text at (body ++ (line_feed ∷ [])) next
  pub good : RecordJudged obj_lines s body (nothing (drop next text)) (given tt)
  pub drafted : Drafted p e t (scene_after s (says body)) k

unfoldable pub TakenAs : List ℕ → ℕ → List ℤ → List ℕ → List ℕ → Scene → Result Taken Refusal → Type 0
TakenAs text at p e t s (Err f) = Lines.Fault obj_lines s (drop at text) (number_of f)
TakenAs text at p e t s (Ok k) = TookLine text at p e t s k.counts k.next

-- below any scene that the draft held
abbrev pub LineTaken : List ℕ → ℕ → SceneCounts → List ℤ → List ℕ → List ℕ → List ℤ → List ℕ → List ℕ → Result Taken Refusal → Type 0
LineTaken text at c p₀ e₀ t₀ p e t r = (s : Scene) → Drafted p₀ e₀ t₀ s c → TakenAs text at p e t s r

module _ (text : List ℕ) (at : ℕ) (c : SceneCounts) {end stop : ℕ} (found : end ≡ place_of line_feed (take (length text - at) (drop at text)))
    (there : stop ≡ at + end) (p : List ℤ) (e t : List ℕ) (inside : at < length text) where
  is : end ≡ place_of line_feed (drop at text)
  is = found ∙ ap (place_of line_feed) (to_the_end at text)

  pub take_unended : length text ≤ stop → LineTaken text at c p e t p e t (Err BadLine)
  unfolding TakenAs number_of
  take_unended h s d = line_unended text at is s inside (omega (arith, there))

  module _ (h : stop < length text) {said : ObjLine} (read : said ≡ says (take (stop - at) (drop at text))) where
    e' : said ≡ says (take end (drop at text))
    e' = let same : stop - at ≡ end = omega (arith, there) in read ∙ ap (λ (k : ℕ). says (take k (drop at text))) same

    in_text : at + end < length text
    in_text = omega (arith, there)

    pub take_bad : said ≡ Said.TheVariants.Bad → LineTaken text at c p e t p e t (Err BadLine)
    unfolding TakenAs number_of
    take_bad q s d = line_unformed text at is s inside in_text (sym e' ∙ q)

    stands_there : Stands text at (take end (drop at text) ++ (line_feed ∷ [])) (stop + 1)
    stands_there =
        subst (λ (k : ℕ). Stands text at (take end (drop at text) ++ (line_feed ∷ [])) (k + 1)) (sym there) (body_stands text at is in_text)

    formed_as : (o : ObjLine) → said ≡ o → o ≢ Said.TheVariants.Bad → SaysSome (take end (drop at text))
    formed_as o q n = record { unbroken = body_unbroken text at is; some = λ z. n (sym q ∙ e' ∙ z) }

    pub take_skipped : said ≡ Said.TheVariants.Skipped → LineTaken text at c p e t p e t (Ok (record { counts = c; next = stop + 1 }))
    unfolding TakenAs scene_after
    take_skipped q s d =
        let is_so : says (take end (drop at text)) ≡ Said.TheVariants.Skipped = sym e' ∙ q in
        record {
          body = take end (drop at text);
          formed = formed_as Said.TheVariants.Skipped q (λ z. let w : ◌≡◌ {A = ℕ} 0 1 = cc in omega arith);
          stands = stands_there;
          good = judged_skipped s (take end (drop at text)) (nothing (drop (stop + 1) text)) is_so;
          drafted = subst (λ (o : ObjLine). Drafted p e t (scene_after s o) c) (sym is_so) d;
        }

    module _ {x y z : Hundredths} (q : said ≡ Said.TheVariants.Vertex x y z) where
      vertex_some : Said.TheVariants.Vertex x y z ≢ Said.TheVariants.Bad
      vertex_some w = let u : ◌≡◌ {A = ℕ} 0 1 = cc in omega arith

      pub take_misplaced_vertex : (p' : List ℤ) (f : Refusal) → VertexAdded c x y z p p' (Err f) → LineTaken text at c p e t p' e t (Err f)
      unfolding TakenAs VertexAdded
      take_misplaced_vertex p' f v s d =
          line_misplaced text at is s inside in_text (λ w. vertex_some (sym q ∙ e' ∙ w))
          (judged_vertex s (take end (drop at text)) (nothing (drop (at + end + 1) text)) d.above (refused (number_of f) 0) (sym e' ∙ q) v)

      pub take_vertex : (p' : List ℤ) (k : SceneCounts) → VertexAdded c x y z p p' (Ok k)
          → LineTaken text at c p e t p' e t (Ok (record { counts = k; next = stop + 1 }))
      unfolding TakenAs VertexAdded
      take_vertex p' k v s d =
          record {
            body = take end (drop at text);
            formed = formed_as (Said.TheVariants.Vertex x y z) q vertex_some;
            stands = stands_there;
            good = judged_vertex s (take end (drop at text)) (nothing (drop (stop + 1) text)) d.above (given tt) (sym e' ∙ q) v.good;
            drafted = subst (λ (o : ObjLine). Drafted p' e t (scene_after s o) k) (q₁) (vertex_drafted d v);
          }
        where
          q₁ : Said.TheVariants.Vertex x y z ≡ says (take end (drop at text))
          q₁ = sym q ∙ e'

    module _ {a b f : ℕ} (q : said ≡ Said.TheVariants.Face a b f) where
      face_some : Said.TheVariants.Face a b f ≢ Said.TheVariants.Bad
      face_some w = let u : ◌≡◌ {A = ℕ} 0 1 = cc in omega arith

      pub take_misplaced_face : (e₁ t₁ : List ℕ) (r : Refusal) → FaceAdded c a b f e t e₁ t₁ (Err r) → LineTaken text at c p e t p e₁ t₁ (Err r)
      unfolding TakenAs FaceAdded
      take_misplaced_face e₁ t₁ r v s d =
          line_misplaced text at is s inside in_text (λ w. face_some (sym q ∙ e' ∙ w))
          (⊎_elim
          (λ u. judged_face s (take end (drop at text)) (nothing (drop (at + end + 1) text)) d.above (sym e' ∙ q) (number_of r) u)
          (λ u.
          judged_over s (take end (drop at text)) (nothing (drop (at + end + 1) text)) d.above (sym e' ∙ q) (number_of r) u.good u.number
          (edges_over a b f (number_of r) d u))
          v)

      pub take_face : (e₁ t₁ : List ℕ) (k : SceneCounts) → FaceAdded c a b f e t e₁ t₁ (Ok k)
          → LineTaken text at c p e t p e₁ t₁ (Ok (record { counts = k; next = stop + 1 }))
      unfolding TakenAs FaceAdded
      take_face e₁ t₁ k v s d =
          record {
            body = take end (drop at text);
            formed = formed_as (Said.TheVariants.Face a b f) q face_some;
            stands = stands_there;
            good = judged_fine s (take end (drop at text)) (nothing (drop (stop + 1) text)) d.above (sym e' ∙ q) v.good (face_sized d v);
            drafted = subst (λ (o : ObjLine). Drafted p e₁ t₁ (scene_after s o) k) (sym q ∙ e') (face_drafted d v);
          }

pub stop_fits : (text : List ℕ) (at : ℕ) {end : ℕ} → end ≡ place_of line_feed (take (length text - at) (drop at text)) → at < length text → at + end ≤ length text
stop_fits text at found inside =
    omega (
      arith,
      place_fits line_feed (drop at text) (found ∙ ap (place_of line_feed) (to_the_end at text)),
      length-drop at text,
    )
