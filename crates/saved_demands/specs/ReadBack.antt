-- 'Reading it back gives the same scene, seams included': the text of an accepted scene holds that scene.
use Rattle.std.specs.Prelude.{Bool, false, ◌||◌, List, [], ◌∷◌, ◌++◌, ◌≡◌, refl, ℕ, ◌+◌, ◌*◌, ◌-◌, ◌≤◌, ◌<◌, leb, ltb, ℤ, pos, nat_abs, length}
use Rattle.std.proofs.Common.{append_assoc, append-nil, sym, ap, ◌∙◌, subst, arith, ltb-false, leb-false}
use Rattle.whole.specs.Vector.{Vector}
use Rattle.decimals.specs.Digits.{digits}
use Rattle.decimals.specs.Value.{digits_length}
use Rattle.meaning.specs.Limits.{coordinate_limit, vertex_limit, digit_limit}
use Rattle.meaning.specs.Scene.{Scene, scene_of, Accepted, uneven, over_size, outside, out_of_range, unknown_vertex}
use Rattle.meaning.specs.Refusals.{given, Answers}
use Rattle.meaning.specs.Lines as Lines
use Rattle.meaning.specs.Lines.{after_all}
use Rattle.meaning.specs.Text.{Entry, vertex, edge, triangle, seam, coordinates, coordinates_in, ends_in, corners_in, seam_in, numbers_of, Short, scene_with, none, late, EntryJudged, scene_lines, scene_from, SceneSound, Holds}
use Rattle.meaning.specs.declared.SceneCounts.{SceneCounts}
use Rattle.answers.specs.Below.{or_left, or_rest}
use Rattle.scene_checks.specs.Facts.{Sized, accepted_sized}
use Rattle.text_line.specs.Reading.{sort_of}
use Rattle.text_line.specs.Above.{Above, Lengths, Bounded, above_none, bounded_by, lengths_more, counted_by, no_counts}
use Rattle.text_line.specs.Checks.{comes_vertex, comes_edge, comes_triangle, comes_seam}
use Rattle.meaning.specs.Saved.{vertices_in, edges_in, triangles_in, seams_in, records_of, saved_text}
use Rattle.saved_demands.specs.Fronts.{few_of, accepted_before}

-- ---- records in their order, none after one of a later kind

unfoldable InOrder : Scene → List Entry → Type 0
InOrder s [] = Unit
InOrder s (r ∷ rs) = (late s r ≡ false) × InOrder (scene_with s r) rs

after_append : (s : Scene) (rs qs : List Entry) → after_all scene_lines s (rs ++ qs) ≡ after_all scene_lines (after_all scene_lines s rs) qs
unfolding after_all
after_append s [] qs = refl
after_append s (r ∷ rs) qs = after_append (scene_with s r) rs qs

order_append : (s : Scene) (rs qs : List Entry) → InOrder s rs → InOrder (after_all scene_lines s rs) qs → InOrder s (rs ++ qs)
unfolding InOrder after_all
order_append s [] qs a b = b
order_append s (r ∷ rs) qs a b = (a.0, order_append (scene_with s r) rs qs a.1 b)

-- ---- the records of each list: the scene that they make, and their order

both : {A : Type 0} (l : List A) → l ≡ [] → l ++ [] ≡ []
both l e = append-nil l ∙ e

after_vertices : (s : Scene) (l : List ℤ) (n : ℕ) → length l ≡ 6 * n
    → after_all scene_lines s (vertices_in l) ≡ scene_of (s.positions ++ l) s.edges s.triangles s.seams
unfolding after_all vertices_in coordinates_in ends_in corners_in seam_in
after_vertices s (a ∷ b ∷ c ∷ d ∷ e ∷ f ∷ l) n h =
    let six : List ℤ = a ∷ b ∷ c ∷ d ∷ e ∷ f ∷ [] in
    after_vertices (scene_with s (vertex (record { x = a; y = b; z = c }) (record { x = d; y = e; z = f }))) l (n - 1) (omega arith)
    ∙ (λ i. scene_of (append_assoc s.positions six l i) (append-nil s.edges i) (append-nil s.triangles i) (append-nil s.seams i))
after_vertices s [] n h = sym (λ i. scene_of (append-nil s.positions i) s.edges s.triangles s.seams)
after_vertices s (a ∷ []) n h = absurd (omega arith)
after_vertices s (a ∷ b ∷ []) n h = absurd (omega arith)
after_vertices s (a ∷ b ∷ c ∷ []) n h = absurd (omega arith)
after_vertices s (a ∷ b ∷ c ∷ d ∷ []) n h = absurd (omega arith)
after_vertices s (a ∷ b ∷ c ∷ d ∷ e ∷ []) n h = absurd (omega arith)

order_vertices : (s : Scene) (l : List ℤ) → s.edges ≡ [] → s.triangles ≡ [] → s.seams ≡ [] → InOrder s (vertices_in l)
unfolding InOrder vertices_in late ends_in corners_in seam_in
order_vertices s (a ∷ b ∷ c ∷ d ∷ e ∷ f ∷ l) es ts ws = (
  rw (es, ts, ws) refl,
  order_vertices (scene_with s (vertex (record { x = a; y = b; z = c }) (record { x = d; y = e; z = f }))) l (both s.edges es) (both s.triangles ts)
      (both s.seams ws),
)
order_vertices s [] es ts ws = tt
order_vertices s (a ∷ []) es ts ws = tt
order_vertices s (a ∷ b ∷ []) es ts ws = tt
order_vertices s (a ∷ b ∷ c ∷ []) es ts ws = tt
order_vertices s (a ∷ b ∷ c ∷ d ∷ []) es ts ws = tt
order_vertices s (a ∷ b ∷ c ∷ d ∷ e ∷ []) es ts ws = tt

after_edges : (s : Scene) (l : List ℕ) (n : ℕ) → length l ≡ 2 * n
    → after_all scene_lines s (edges_in l) ≡ scene_of s.positions (s.edges ++ l) s.triangles s.seams
unfolding after_all edges_in coordinates_in ends_in corners_in seam_in
after_edges s (a ∷ b ∷ l) n h =
    after_edges (scene_with s (edge a b)) l (n - 1) (omega arith)
    ∙ (λ i. scene_of (append-nil s.positions i) (append_assoc s.edges (a ∷ b ∷ []) l i) (append-nil s.triangles i) (append-nil s.seams i))
after_edges s [] n h = sym (λ i. scene_of s.positions (append-nil s.edges i) s.triangles s.seams)
after_edges s (a ∷ []) n h = absurd (omega arith)

order_edges : (s : Scene) (l : List ℕ) → s.triangles ≡ [] → s.seams ≡ [] → InOrder s (edges_in l)
unfolding InOrder edges_in late corners_in seam_in
order_edges s (a ∷ b ∷ l) ts ws = (rw (ts, ws) refl, order_edges (scene_with s (edge a b)) l (both s.triangles ts) (both s.seams ws))
order_edges s [] ts ws = tt
order_edges s (a ∷ []) ts ws = tt

after_triangles : (s : Scene) (l : List ℕ) (n : ℕ) → length l ≡ 3 * n
    → after_all scene_lines s (triangles_in l) ≡ scene_of s.positions s.edges (s.triangles ++ l) s.seams
unfolding after_all triangles_in coordinates_in ends_in corners_in seam_in
after_triangles s (a ∷ b ∷ c ∷ l) n h =
    after_triangles (scene_with s (triangle a b c)) l (n - 1) (omega arith)
    ∙ (λ i. scene_of (append-nil s.positions i) (append-nil s.edges i) (append_assoc s.triangles (a ∷ b ∷ c ∷ []) l i) (append-nil s.seams i))
after_triangles s [] n h = sym (λ i. scene_of s.positions s.edges (append-nil s.triangles i) s.seams)
after_triangles s (a ∷ []) n h = absurd (omega arith)
after_triangles s (a ∷ b ∷ []) n h = absurd (omega arith)

order_triangles : (s : Scene) (l : List ℕ) → s.seams ≡ [] → InOrder s (triangles_in l)
unfolding InOrder triangles_in late seam_in
order_triangles s (a ∷ b ∷ c ∷ l) ws = (rw ws refl, order_triangles (scene_with s (triangle a b c)) l (both s.seams ws))
order_triangles s [] ws = tt
order_triangles s (a ∷ []) ws = tt
order_triangles s (a ∷ b ∷ []) ws = tt

after_seams : (s : Scene) (l : List ℕ) (n : ℕ) → length l ≡ 2 * n
    → after_all scene_lines s (seams_in l) ≡ scene_of s.positions s.edges s.triangles (s.seams ++ l)
unfolding after_all seams_in coordinates_in ends_in corners_in seam_in
after_seams s (a ∷ b ∷ l) n h =
    after_seams (scene_with s (seam a b)) l (n - 1) (omega arith)
    ∙ (λ i. scene_of (append-nil s.positions i) (append-nil s.edges i) (append-nil s.triangles i) (append_assoc s.seams (a ∷ b ∷ []) l i))
after_seams s [] n h = sym (λ i. scene_of s.positions s.edges s.triangles (append-nil s.seams i))
after_seams s (a ∷ []) n h = absurd (omega arith)

order_seams : (s : Scene) (l : List ℕ) → InOrder s (seams_in l)
unfolding InOrder seams_in late
order_seams s (a ∷ b ∷ l) = (refl, order_seams (scene_with s (seam a b)) l)
order_seams s [] = tt
order_seams s (a ∷ []) = tt

-- ---- all four

module _ (s : Scene) (z : Sized s) where
  abbrev v : List Entry
  v = vertices_in s.positions

  abbrev e : List Entry
  e = edges_in s.edges

  abbrev t : List Entry
  t = triangles_in s.triangles

  abbrev w : List Entry
  w = seams_in s.seams

  made_one : after_all scene_lines none v ≡ scene_of s.positions [] [] []
  made_one = after_vertices none s.positions _ z.positions_long

  made_two : after_all scene_lines none (v ++ e) ≡ scene_of s.positions s.edges [] []
  made_two =
      after_append none v e ∙ ap (λ (x : Scene). after_all scene_lines x e) made_one
      ∙ after_edges (scene_of s.positions [] [] []) s.edges _ z.edges_long

  made_three : after_all scene_lines none (v ++ e ++ t) ≡ scene_of s.positions s.edges s.triangles []
  made_three =
      after_append none (v ++ e) t ∙ ap (λ (x : Scene). after_all scene_lines x t) made_two
      ∙ after_triangles (scene_of s.positions s.edges [] []) s.triangles _ z.triangles_long

  pub made : after_all scene_lines none (records_of s) ≡ s
  made =
      after_append none (v ++ e ++ t) w ∙ ap (λ (x : Scene). after_all scene_lines x w) made_three
      ∙ after_seams (scene_of s.positions s.edges s.triangles []) s.seams _ z.seams_long

  ordered : InOrder none (records_of s)
  ordered =
      order_append none (v ++ e ++ t) w
      (order_append none (v ++ e) t
      (order_append none v e (order_vertices none s.positions refl refl refl)
      (subst (λ (x : Scene). InOrder x e) (sym made_one) (order_edges (scene_of s.positions [] [] []) s.edges refl refl)))
      (subst (λ (x : Scene). InOrder x t) (sym made_two) (order_triangles (scene_of s.positions s.edges [] []) s.triangles refl)))
      (subst (λ (x : Scene). InOrder x w) (sym made_three) (order_seams (scene_of s.positions s.edges s.triangles []) s.seams))

-- ---- none at fault

judged : (s : Scene) (r : Entry) → late s r ≡ false → Accepted (scene_with s r) → EntryJudged s r (given tt)
unfolding Answers
judged s r h a = rw (h, few_of a, a.in_range, a.known, a.sewn_well, a.distinct) tt

short_coordinate : (z : ℤ) → outside z ≡ false → length (digits (nat_abs z)) ≤ digit_limit
short_coordinate z h = digits_length 9 (nat_abs z) (omega arith) (omega (arith, ltb-false coordinate_limit (nat_abs z) h))

short_number : (n i : ℕ) → n ≤ vertex_limit → leb n i ≡ false → length (digits (nat_abs (pos i))) ≤ digit_limit
short_number n i few h = digits_length 9 i (omega arith) (omega (arith, leb-false n i h))

formed : (s : Scene) (c : SceneCounts) (r : Entry) → Above s c → Accepted (scene_with s r) → Short digit_limit (numbers_of r)
unfolding Short numbers_of
formed s c (vertex p q) a b =
    let h : outside p.x || outside p.y || outside p.z || outside q.x || outside q.y || outside q.z ≡ false =
    sym (comes_vertex a p q).range ∙ b.in_range in (
      short_coordinate p.x (search (or_left, or_rest)),
      (
        short_coordinate p.y (search (or_left, or_rest)),
        (
          short_coordinate p.z (search (or_left, or_rest)),
          (
            short_coordinate q.x (search (or_left, or_rest)),
            (
              short_coordinate q.y (search (or_left, or_rest)),
              (short_coordinate q.z (search (or_left, or_rest)), tt),
            ),
          ),
        ),
      ),
    )
formed s c (edge i j) a b =
    let n : ℕ = c.vertices in
    let h : leb n i || leb n j ≡ false = sym (comes_edge a i j).known ∙ b.known in
    (short_number n i a.bounded.vertices (or_left (leb n i) (leb n j) h), (short_number n j a.bounded.vertices (or_rest (leb n i) (leb n j) h), tt))
formed s c (triangle i j k) a b =
    let n : ℕ = c.vertices in
    let h : leb n i || leb n j || leb n k ≡ false = sym (comes_triangle a i j k).known ∙ b.known in
    let g : leb n i || leb n j ≡ false = or_left (leb n i || leb n j) (leb n k) h in (
      short_number n i a.bounded.vertices (or_left (leb n i) (leb n j) g),
      (
        short_number n j a.bounded.vertices (or_rest (leb n i) (leb n j) g),
        (short_number n k a.bounded.vertices (or_rest (leb n i || leb n j) (leb n k) h), tt),
      ),
    )
formed s c (seam i j) a b =
    let n : ℕ = c.vertices in
    let h : leb n i || leb n j ≡ false = sym (comes_seam a i j).known ∙ b.known in
    (short_number n i a.bounded.vertices (or_left (leb n i) (leb n j) h), (short_number n j a.bounded.vertices (or_rest (leb n i) (leb n j) h), tt))

-- from the last record back: where the scene of all is accepted, so is the scene of those above each
sound_back : (s : Scene) (c : SceneCounts) (rs : List Entry) → Lengths s c → InOrder s rs → Accepted (after_all scene_lines s rs) → SceneSound s rs × Accepted s
unfolding InOrder Lines.Sound after_all
sound_back s c [] l o a = (tt, a)
sound_back s c (r ∷ rs) l o a =
    let (rest, with) = sound_back (scene_with s r) (counted_by c (sort_of r)) rs (lengths_more r l) o.1 a in
    let before : Accepted s = accepted_before l r o.0 with in
    let above : Above s c = record { accepted = before; lengths = l; bounded = bounded_by l (few_of before) } in
    ((formed s c r above with, judged s r o.0 with, rest), before)

-- the text of an accepted scene is a text that holds it, ends, corners and seams as they were
pub reads_back : (s : Scene) → Accepted s → Holds (saved_text s) s
unfolding saved_text
reads_back s a =
    let z : Sized s = accepted_sized a in
    record {
      entries = records_of s;
      records = record {
        sound = (sound_back none no_counts (records_of s) above_none.lengths (ordered s z) (subst Accepted (sym (made s z)) a)).0;
        lines = refl;
      };
      scene = sym (made s z);
    }
