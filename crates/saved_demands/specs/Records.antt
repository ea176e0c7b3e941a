-- 'Writing what was read from an accepted text gives the same bytes': the records of a scene with one record more are its own and that one,
-- so the records of a text's scene are the text's.
use Rattle.std.specs.Prelude.{Bool, false, ◌||◌, List, [], ◌∷◌, ◌++◌, ◌≡◌, refl, ℕ, ◌*◌, ◌-◌, ◌≤◌, ltb, ℤ, length}
use Rattle.std.proofs.Common.{append_assoc, append-nil, sym, ap, ◌∙◌, arith, ltb-false}
use Rattle.whole.specs.Vector.{Vector}
use Rattle.meaning.specs.Scene.{Scene, scene_of}
use Rattle.meaning.specs.Lines as Lines
use Rattle.meaning.specs.Lines.{after_all}
use Rattle.meaning.specs.Text.{Entry, vertex, edge, triangle, seam, coordinates, scene_with, none, late, scene_lines, scene_from, text_of, SceneSound, Holds}
use Rattle.meaning.specs.declared.SceneCounts.{SceneCounts}
use Rattle.answers.specs.Below.{or_left, or_rest}
use Rattle.text_line.specs.Reading.{sort_of}
use Rattle.text_line.specs.Above.{Above, Lengths, above_none, above_more, counted_by, no_counts, faultless}
use Rattle.text_line.specs.Checks.{with_vertex, with_edge, with_triangle, with_seam}
use Rattle.meaning.specs.Saved.{vertices_in, edges_in, triangles_in, seams_in, records_of, saved_text}

-- a list without an element
pub empty : {A : Type 0} (l : List A) → ltb 0 (length l) ≡ false → l ≡ []
empty [] e = refl
empty (a ∷ l) e = absurd (omega (arith, ltb-false 0 (length (a ∷ l)) e))

-- ---- one more at the end of a list

vertices_more : (l : List ℤ) (n : ℕ) (p q : Vector) → length l ≡ 6 * n → vertices_in (l ++ coordinates p q) ≡ vertices_in l ++ (vertex p q ∷ [])
unfolding vertices_in
vertices_more (a ∷ b ∷ c ∷ d ∷ e ∷ f ∷ l) n p q h =
    ap (λ (rs : List Entry). vertex (record { x = a; y = b; z = c }) (record { x = d; y = e; z = f }) ∷ rs) (vertices_more l (n - 1) p q (omega arith))
vertices_more [] n p q h = refl
vertices_more (a ∷ []) n p q h = absurd (omega arith)
vertices_more (a ∷ b ∷ []) n p q h = absurd (omega arith)
vertices_more (a ∷ b ∷ c ∷ []) n p q h = absurd (omega arith)
vertices_more (a ∷ b ∷ c ∷ d ∷ []) n p q h = absurd (omega arith)
vertices_more (a ∷ b ∷ c ∷ d ∷ e ∷ []) n p q h = absurd (omega arith)

edges_more : (l : List ℕ) (n i j : ℕ) → length l ≡ 2 * n → edges_in (l ++ (i ∷ j ∷ [])) ≡ edges_in l ++ (edge i j ∷ [])
unfolding edges_in
edges_more (a ∷ b ∷ l) n i j h = ap (λ (rs : List Entry). edge a b ∷ rs) (edges_more l (n - 1) i j (omega arith))
edges_more [] n i j h = refl
edges_more (a ∷ []) n i j h = absurd (omega arith)

triangles_more : (l : List ℕ) (n i j k : ℕ) → length l ≡ 3 * n → triangles_in (l ++ (i ∷ j ∷ k ∷ [])) ≡ triangles_in l ++ (triangle i j k ∷ [])
unfolding triangles_in
triangles_more (a ∷ b ∷ c ∷ l) n i j k h = ap (λ (rs : List Entry). triangle a b c ∷ rs) (triangles_more l (n - 1) i j k (omega arith))
triangles_more [] n i j k h = refl
triangles_more (a ∷ []) n i j k h = absurd (omega arith)
triangles_more (a ∷ b ∷ []) n i j k h = absurd (omega arith)

seams_more : (l : List ℕ) (n i j : ℕ) → length l ≡ 2 * n → seams_in (l ++ (i ∷ j ∷ [])) ≡ seams_in l ++ (seam i j ∷ [])
unfolding seams_in
seams_more (a ∷ b ∷ l) n i j h = ap (λ (rs : List Entry). seam a b ∷ rs) (seams_more l (n - 1) i j (omega arith))
seams_more [] n i j h = refl
seams_more (a ∷ []) n i j h = absurd (omega arith)

-- ---- a scene with one record more, which is not late

-- nothing stands behind
behind_none : (x y : List Entry) → y ≡ [] → x ++ y ≡ x
behind_none x y e = ap (λ (l : List Entry). x ++ l) e ∙ append-nil x

no_edges : {l : List ℕ} → l ≡ [] → edges_in l ≡ []
unfolding edges_in
no_edges e = ap edges_in e

no_triangles : {l : List ℕ} → l ≡ [] → triangles_in l ≡ []
unfolding triangles_in
no_triangles e = ap triangles_in e

no_seams : {l : List ℕ} → l ≡ [] → seams_in l ≡ []
unfolding seams_in
no_seams e = ap seams_in e

pub records_more : (s : Scene) (c : SceneCounts) (r : Entry) → Lengths s c → late s r ≡ false → records_of (scene_with s r) ≡ records_of s ++ (r ∷ [])
unfolding late
records_more s c (vertex p q) l h =
    let es : edges_in s.edges ≡ [] = no_edges (empty s.edges (search (or_left, or_rest))) in
    let ts : triangles_in s.triangles ≡ [] = no_triangles (empty s.triangles (search (or_left, or_rest))) in
    let ws : seams_in s.seams ≡ [] = no_seams (empty s.seams (search (or_left, or_rest))) in
    let v : List Entry = vertices_in s.positions in
    let one : v ++ edges_in s.edges ++ triangles_in s.triangles ++ seams_in s.seams ≡ v =
    behind_none (v ++ edges_in s.edges ++ triangles_in s.triangles) (seams_in s.seams) ws
    ∙ behind_none (v ++ edges_in s.edges) (triangles_in s.triangles) ts
    ∙ behind_none v (edges_in s.edges) es in
    let v' : List Entry = vertices_in (s.positions ++ coordinates p q) in
    let more : v' ++ edges_in s.edges ++ triangles_in s.triangles ++ seams_in s.seams ≡ v' =
    behind_none (v' ++ edges_in s.edges ++ triangles_in s.triangles) (seams_in s.seams) ws
    ∙ behind_none (v' ++ edges_in s.edges) (triangles_in s.triangles) ts
    ∙ behind_none v' (edges_in s.edges) es in
    ap records_of (with_vertex s p q) ∙ more ∙ vertices_more s.positions c.vertices p q l.positions
    ∙ ap (λ (x : List Entry). x ++ (vertex p q ∷ [])) (sym one)
records_more s c (edge i j) l h =
    let ts : triangles_in s.triangles ≡ [] = no_triangles (empty s.triangles (search or_left)) in
    let ws : seams_in s.seams ≡ [] = no_seams (empty s.seams (search (or_left, or_rest))) in
    let v : List Entry = vertices_in s.positions in
    let one : v ++ edges_in s.edges ++ triangles_in s.triangles ++ seams_in s.seams ≡ v ++ edges_in s.edges =
    behind_none (v ++ edges_in s.edges ++ triangles_in s.triangles) (seams_in s.seams) ws
    ∙ behind_none (v ++ edges_in s.edges) (triangles_in s.triangles) ts in
    let e' : List Entry = edges_in (s.edges ++ (i ∷ j ∷ [])) in
    let more : v ++ e' ++ triangles_in s.triangles ++ seams_in s.seams ≡ v ++ e' =
    behind_none (v ++ e' ++ triangles_in s.triangles) (seams_in s.seams) ws ∙ behind_none (v ++ e') (triangles_in s.triangles) ts in
    ap records_of (with_edge s i j) ∙ more
    ∙ ap (λ (x : List Entry). v ++ x) (edges_more s.edges c.edges i j l.edges)
    ∙ sym (append_assoc v (edges_in s.edges) (edge i j ∷ []))
    ∙ ap (λ (x : List Entry). x ++ (edge i j ∷ [])) (sym one)
records_more s c (triangle i j k) l h =
    let ws : seams_in s.seams ≡ [] = no_seams (empty s.seams h) in
    let v : List Entry = vertices_in s.positions ++ edges_in s.edges in
    let one : v ++ triangles_in s.triangles ++ seams_in s.seams ≡ v ++ triangles_in s.triangles =
    behind_none (v ++ triangles_in s.triangles) (seams_in s.seams) ws in
    let t' : List Entry = triangles_in (s.triangles ++ (i ∷ j ∷ k ∷ [])) in
    ap records_of (with_triangle s i j k) ∙ behind_none (v ++ t') (seams_in s.seams) ws
    ∙ ap (λ (x : List Entry). v ++ x) (triangles_more s.triangles c.triangles i j k l.triangles)
    ∙ sym (append_assoc v (triangles_in s.triangles) (triangle i j k ∷ []))
    ∙ ap (λ (x : List Entry). x ++ (triangle i j k ∷ [])) (sym one)
records_more s c (seam i j) l h =
    let v : List Entry = vertices_in s.positions ++ edges_in s.edges ++ triangles_in s.triangles in
    ap records_of (with_seam s i j)
    ∙ ap (λ (x : List Entry). v ++ x) (seams_more s.seams c.seams i j l.seams)
    ∙ sym (append_assoc v (seams_in s.seams) (seam i j ∷ []))

-- ---- all records of a text

all_records : (s : Scene) (c : SceneCounts) (rs : List Entry) → Above s c → SceneSound s rs → records_of (after_all scene_lines s rs) ≡ records_of s ++ rs
unfolding Lines.Sound after_all
all_records s c [] a h = sym (append-nil (records_of s))
all_records s c (r ∷ rs) a h =
    all_records (scene_with s r) (counted_by c (sort_of r)) rs (above_more r a h.1) h.2
    ∙ ap (λ (x : List Entry). x ++ rs) (records_more s c r a.lengths (faultless r h.1).early)
    ∙ append_assoc (records_of s) (r ∷ []) rs

no_records : records_of none ≡ []
unfolding vertices_in edges_in triangles_in seams_in
no_records = refl

-- the records of a text's scene are those of the text
pub records_of_text : {text : List ℕ} {s : Scene} (h : Holds text s) → h.entries ≡ records_of s
records_of_text h =
    sym (ap records_of h.scene ∙ all_records none no_counts h.entries above_none h.records.sound
    ∙ ap (λ (x : List Entry). x ++ h.entries) no_records)

-- so the text of the scene is the text
pub same_bytes : {text : List ℕ} {s : Scene} → Holds text s → saved_text s ≡ text
unfolding saved_text
same_bytes h = ap text_of (sym (records_of_text h)) ∙ sym h.records.lines
