-- The scene that two OBJ files give is accepted by every other call.
use Rattle.std.specs.Prelude.{Bool, not, ◌||◌, ◌≡◌, ℕ, ◌+◌, ◌-◌, ◌*◌, ◌/◌, ◌%◌, ◌≤◌, ◌<◌, leb, ltb, eqb, ℤ, pos, get_or}
use Rattle.std.proofs.Math.Bool.{false}
use mathlib.Core.List.{List, [], ◌∷◌, ◌++◌, append-nil}
use Rattle.std.proofs.Math.Path.{refl, subst}
use Rattle.std.proofs.Common.{sym, ap, ◌∙◌}
use native.Mathlib.Omega.{arith}
use Rattle.std.proofs.Math.ListN.{length}
use borrow.Author.Tests.{eq-eqb, eqb-true, not-false, leb-false, eqb-false, ltb-false, le-ltb}
use Rattle.sequences.specs.Gather.{gather, gather_first, gather_none}
use Rattle.sequences.specs.Range.{towards}
use Rattle.answers.specs.Answering.{is_given}
use Rattle.answers.specs.Below.{or_left, or_rest, none_passes}
use Rattle.meaning.specs.Limits.{vertex_limit, edge_limit, triangle_limit}
use Rattle.meaning.specs.Lines as Lines
use Rattle.meaning.specs.Lines.{after_all}
use Rattle.meaning.specs.Refusals.{Check, given, Answers}
use Rattle.meaning.specs.Scene.{Scene, Accepted, some_below, vertex_count, start_of, end_of, over_size, outside, unknown_in, unknown_vertex, repeated_vertex}
use Rattle.meaning.specs.Text.{none, vertex, triangle, scene_with, coordinates, coordinates_in, ends_in, seam_in, entry_checks, EntryJudged}
use Rattle.meaning.specs.ObjLine.{says}
use Rattle.meaning.specs.ObjFile.{place_at, with_sides, face_added, scene_after, line_checks, obj_lines}
use Rattle.meaning.specs.ObjPair.{same_numbers, differing, positions_between, imported, FileRead, BothRead}
use Rattle.meaning.specs.declared.SceneCounts.{SceneCounts}
use Rattle.meaning.specs.declared.ObjLine.{ObjLine}
use Rattle.meaning.specs.declared.ObjLine.TheVariants.{Skipped, Vertex, Face, Bad}
use Rattle.text_line.specs.Above.{Above, above_none, no_counts, above_more, Faultless, faultless}
use Rattle.text_line.specs.Adding.{some_behind, twice_in_three}
use Rattle.text_line.specs.Checks.{comes_triangle}
use Rattle.obj_laws.specs.Faces.{EdgesOk, ok_scene, ok_sides, above_edges}
use Rattle.obj_scene.specs.Between.{six_each}

-- ---- the scene of a file

pub record Fine (s : Scene) : Type 0 where
  pub tally : SceneCounts
  pub above : Above s tally
  pub seamless : s.seams ≡ []

given_front : (ks more : List Check) → Answers (ks ++ more) (λ (t : Unit {0}). Unit {0}) (given tt) → Answers ks (λ (t : Unit {0}). Unit {0}) (given tt)
unfolding Answers
given_front [] more a = tt
given_front (k ∷ ks) more a =
    let (h, rest) = is_given (λ (t : Unit {0}). Unit {0}) k (ks ++ more) tt a in
    rw h (given_front ks more rest)

given_back : (ks : List Check) (k : Check) → Answers (ks ++ (k ∷ [])) (λ (t : Unit {0}). Unit {0}) (given tt) → k.holds ≡ false
given_back [] k a = (is_given (λ (t : Unit {0}). Unit {0}) k [] tt a).0
given_back (j ∷ ks) k a = given_back ks k (is_given (λ (t : Unit {0}). Unit {0}) j (ks ++ (k ∷ [])) tt a).1

vertices_same : (s : Scene) (a b d : ℕ) → vertex_count (scene_with s (triangle a b d)) ≡ vertex_count s
unfolding coordinates_in
vertices_same s a b d = ap (λ (l : List ℤ). length l / 6) (append-nil s.positions)

face_fine : (s : Scene) (a b d : ℕ) → Fine s → Answers (line_checks s (Face a b d)) (λ (t : Unit {0}). Unit {0}) (given tt) → Fine (face_added s a b d)
unfolding line_checks ends_in seam_in
face_fine s a b d f j =
    let judged : EntryJudged s (triangle (a - 1) (b - 1) (d - 1)) (given tt) = given_front (entry_checks s (triangle (a - 1) (b - 1) (d - 1))) _ j in
    let size : over_size (face_added s a b d) ≡ false = given_back (entry_checks s (triangle (a - 1) (b - 1) (d - 1))) _ j in
    let fault : Faultless s (triangle (a - 1) (b - 1) (d - 1)) = faultless (triangle (a - 1) (b - 1) (d - 1)) judged in
    let comes = comes_triangle f.above (a - 1) (b - 1) (d - 1) in
    let c : SceneCounts = f.tally in
    let u : leb c.vertices (a - 1) || leb c.vertices (b - 1) || leb c.vertices (d - 1) ≡ false = sym comes.known ∙ fault.known in
    let late : ltb 0 c.seams ≡ false = sym comes.late ∙ fault.early in
    let v : eqb (a - 1) (b - 1) || eqb (a - 1) (d - 1) || eqb (b - 1) (d - 1) ≡ false = sym (comes.twice late) ∙ fault.once in
    let new : Scene = scene_with s (triangle (a - 1) (b - 1) (d - 1)) in
    let above = above_more (triangle (a - 1) (b - 1) (d - 1)) f.above judged in
    let none : new.seams ≡ [] = append-nil s.seams ∙ f.seamless in
    let n : vertex_count new ≡ vertex_count s = vertices_same s (a - 1) (b - 1) (d - 1) in
    let count : vertex_count s ≡ c.vertices = omega (arith, f.above.lengths.positions) in
    let hi : a - 1 < c.vertices = leb-false _ _ (search (or_left, or_rest)) in
    let hj : b - 1 < c.vertices = leb-false _ _ (search (or_left, or_rest)) in
    let hk : d - 1 < c.vertices = leb-false _ _ (search (or_left, or_rest)) in
    let ij : eqb (a - 1) (b - 1) ≡ false = search (or_left, or_rest) in
    let ik : eqb (a - 1) (d - 1) ≡ false = search (or_left, or_rest) in
    let jk : eqb (b - 1) (d - 1) ≡ false = search (or_left, or_rest) in
    let ok : EdgesOk (vertex_count new) (with_sides new.edges (a - 1) (b - 1) (d - 1)) =
    ok_sides (a - 1) (b - 1) (d - 1) (omega (arith, n, count, hi)) (omega (arith, n, count, hj)) (omega (arith, n, count, hk))
    (eqb-false (a - 1) (b - 1) ij) (eqb-false (a - 1) (d - 1) ik) (eqb-false (b - 1) (d - 1) jk)
    new.edges (ok_scene above none) in
    let few : length (with_sides new.edges (a - 1) (b - 1) (d - 1)) / 2 ≤ edge_limit = ltb-false _ _ (search (or_left, or_rest)) in
    record {
      tally = _;
      above = above_edges above none (with_sides new.edges (a - 1) (b - 1) (d - 1)) ok.half ok ok.pairs (omega (arith, few, ok.pairs));
      seamless = none;
    }

line_fine : (s : Scene) (said : ObjLine) → Fine s → Answers (line_checks s said) (λ (t : Unit {0}). Unit {0}) (given tt) → Fine (scene_after s said)
unfolding line_checks scene_after seam_in
line_fine s Skipped f j = f
line_fine s (Vertex x y z) f j =
    record {
      tally = _;
      above = above_more (vertex (place_at x y z) (place_at x y z)) f.above j;
      seamless = append-nil s.seams ∙ f.seamless;
    }
line_fine s (Face a b d) f j = face_fine s a b d f j
line_fine s Bad f j = f

lines_fine : (s : Scene) (rs : List (List ℕ)) (below : List ℕ) → Fine s → Lines.Sound obj_lines s rs below → Fine (after_all obj_lines s rs)
unfolding Lines.Sound after_all
lines_fine s [] below f h = f
lines_fine s (r ∷ rs) below f h = lines_fine (scene_after s (says r)) rs below (line_fine s (says r) f h.1) h.2

-- the scene of lines none of which is at fault
pub sound_fine : (rs : List (List ℕ)) (below : List ℕ) → Lines.Sound obj_lines none rs below → Fine (after_all obj_lines none rs)
sound_fine rs below h = lines_fine none rs below (record { tally = no_counts; above = above_none; seamless = refl }) h

pub file_fine : {text : List ℕ} {s : Scene} → FileRead text s → Fine s
file_fine {s = s} r = subst Fine (sym r.scene) (sound_fine r.lines [] r.sound.sound)

-- a file that is read is a scene at rest that every call accepts
pub file_accepted : {text : List ℕ} {s : Scene} → FileRead text s → Accepted s
file_accepted r = (file_fine r).above.accepted

-- ---- the scene of two files

abbrev some_in : (ℤ → Bool) → List ℤ → Bool
some_in t l = some_below (length l) (λ i. t (get_or l i (pos 0)))

none_gathered : (t : ℤ → Bool) (f : ℕ → List ℤ) (n : ℕ) → ((v : ℕ) → v < n → some_in t (f v) ≡ false) → (v : ℕ) → some_in t (gather f v n) ≡ false
unfolding some_below
none_gathered t f n none =
    towards n (λ v. some_in t (gather f v n) ≡ false)
    (λ v h. ap (some_in t) (gather_none f v n h))
    (λ v h next.
    ap (some_in t) (gather_first f v n h) ∙ some_behind t (pos 0) (f v) (gather f (v + 1) n) (none v h)
    ∙ sym (some_behind t (pos 0) [] (gather f (v + 1) n) refl)
    ∙ next)

module _ {s e : Scene} (fs : Fine s) (fe : Fine e) (alike : differing s e ≡ false) where
  as_many : vertex_count s ≡ vertex_count e
  as_many =
      eqb-true (vertex_count s) (vertex_count e)
      (not-false _ (or_left (not (eqb (vertex_count s) (vertex_count e))) (not (same_numbers s.triangles e.triangles)) alike))

  near : (f : Scene) → Fine f → vertex_count f ≡ vertex_count s → (v i : ℕ) → v < vertex_count s → i < 6 → outside (get_or f.positions (6 * v + i) (pos 0)) ≡ false
  near f ff n v i h k =
      none_passes (λ j. outside (get_or f.positions j (pos 0))) (length f.positions) ff.above.accepted.in_range (6 * v + i)
      (omega (arith, n, ff.above.lengths.positions))

  vertex_near : (v : ℕ) → v < vertex_count s → some_in outside (coordinates (start_of s v) (end_of e v)) ≡ false
  unfolding some_below
  vertex_near v h =
      let zero : 6 * v + 0 ≡ 6 * v = omega arith in
      let four : 6 * v + 4 ≡ 6 * v + 3 + 1 = omega arith in
      let five : 6 * v + 5 ≡ 6 * v + 3 + 2 = omega arith in
      let a : outside (get_or s.positions (6 * v) (pos 0)) ≡ false = rw zero at (near s fs refl v 0 h (omega arith)) in
      let b : outside (get_or s.positions (6 * v + 1) (pos 0)) ≡ false = near s fs refl v 1 h (omega arith) in
      let c : outside (get_or s.positions (6 * v + 2) (pos 0)) ≡ false = near s fs refl v 2 h (omega arith) in
      let d : outside (get_or e.positions (6 * v + 3) (pos 0)) ≡ false = near e fe (sym as_many) v 3 h (omega arith) in
      let g : outside (get_or e.positions (6 * v + 3 + 1) (pos 0)) ≡ false = rw four at (near e fe (sym as_many) v 4 h (omega arith)) in
      let k : outside (get_or e.positions (6 * v + 3 + 2) (pos 0)) ≡ false = rw five at (near e fe (sym as_many) v 5 h (omega arith)) in
      cc (a, b, c, d, g, k)

  long : length (positions_between s e) ≡ 6 * vertex_count s
  long =
      let six : length (positions_between s e) + 6 * 0 ≡ 6 * vertex_count s =
      six_each (λ v. coordinates (start_of s v) (end_of e v)) (λ v. refl) (vertex_count s) 0 (omega arith) in
      omega (arith, six)

  -- accepted by every other call
  pub import_accepted : Accepted (imported s e)
  unfolding some_below
  import_accepted =
      let n : vertex_count (imported s e) ≡ vertex_count s = omega (arith, long) in
      let six : length (positions_between s e) % 6 ≡ 0 = omega (arith, long) in
      let two : length s.edges % 2 ≡ 0 = omega (arith, fs.above.lengths.edges) in
      let three : length s.triangles % 3 ≡ 0 = omega (arith, fs.above.lengths.triangles) in
      let ok : EdgesOk (vertex_count s) s.edges = ok_scene fs.above fs.seamless in
      let known : unknown_vertex s ≡ false = fs.above.accepted.known in
      let corners : unknown_in (vertex_count s) s.triangles ≡ false = search (or_left, or_rest) in
      let once : repeated_vertex s ≡ false = fs.above.accepted.distinct in
      let thrice : some_below (length s.triangles / 3) (twice_in_three s.seams s.triangles) ≡ false = search (or_left, or_rest) in
      let thrice' : some_below (length s.triangles / 3) (twice_in_three [] s.triangles) ≡ false =
      subst (λ (w : List ℕ). some_below (length s.triangles / 3) (twice_in_three w s.triangles) ≡ false) fs.seamless thrice in
      record {
        shapely = cc (
          eq-eqb (length (positions_between s e) % 6) 0 six,
          eq-eqb (length s.edges % 2) 0 two,
          eq-eqb (length s.triangles % 3) 0 three,
          le-ltb vertex_limit (length (positions_between s e) / 6) (omega (arith, long, fs.above.lengths.positions, fs.above.bounded.vertices)),
          le-ltb edge_limit (length s.edges / 2) (omega (arith, fs.above.lengths.edges, fs.above.bounded.edges)),
          le-ltb triangle_limit (length s.triangles / 3) (omega (arith, fs.above.lengths.triangles, fs.above.bounded.triangles)),
        );
        in_range = none_gathered outside (λ v. coordinates (start_of s v) (end_of e v)) (vertex_count s) vertex_near 0;
        known = cc (n, ok.known, corners);
        sewn_well = refl;
        distinct = cc (ok.distinct, thrice');
      }

pub imports_accepted : {start end : List ℕ} (b : BothRead start end false) → Accepted (imported b.starts b.ends)
imports_accepted b = import_accepted (file_fine b.first) (file_fine b.second) b.compared
