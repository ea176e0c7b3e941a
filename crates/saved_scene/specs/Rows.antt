-- The text of a scene, line by line as code writes it: the line of a record is its fields one behind the other, and the lines from a record
-- on are its own and those from the next on.
use Rattle.std.specs.Prelude.{ℕ, ◌+◌, ◌*◌, ◌/◌, ◌≤◌, ◌<◌, List, [], ◌∷◌, ◌++◌, map, ◌≡◌, ℤ, pos, length, get_or, drop}
use Rattle.std.proofs.Common.{append_assoc, append-nil, sym, ap, ◌∙◌, arith, drop_of_length-le}
use Rattle.sequences.specs.Parts.{drop_next}
use Rattle.sequences.specs.Flat.{flat_nil, flat_cons, flat_append}
use Rattle.meaning.specs.Scene.{vector_at}
use Rattle.meaning.specs.Text.{Entry, vertex, edge, triangle, seam, tab, line_feed, numeral, further, letter_of, numbers_of, line_of, text_of}
use Rattle.meaning.specs.Saved.{vertices_in, edges_in, triangles_in, seams_in}

-- one field with its tab
abbrev pub field : ℤ → List ℕ
field z = tab ∷ numeral z

-- ---- one line

abbrev pub vertex_at : List ℤ → ℕ → Entry
vertex_at ps k = vertex (vector_at ps (6 * k)) (vector_at ps (6 * k + 3))

-- the line of an edge or of a seam, whose letter is given, and of a triangle
abbrev pub two_line : ℕ → ℕ → ℕ → List ℕ
two_line letter a b = (((letter ∷ []) ++ field (pos a)) ++ field (pos b)) ++ (line_feed ∷ [])

abbrev pub three_line : ℕ → ℕ → ℕ → List ℕ
three_line a b c = ((((116 ∷ []) ++ field (pos a)) ++ field (pos b)) ++ field (pos c)) ++ (line_feed ∷ [])

-- three coordinates from a place on, and the line of a vertex
abbrev pub three_fields : List ℤ → ℕ → List ℕ
three_fields ps i = (field (get_or ps i (pos 0)) ++ field (get_or ps (i + 1) (pos 0))) ++ field (get_or ps (i + 2) (pos 0))

abbrev pub six_line : List ℤ → ℕ → List ℕ
six_line ps k = (((118 ∷ []) ++ three_fields ps (6 * k)) ++ three_fields ps (6 * k + 3)) ++ (line_feed ∷ [])

-- fields behind a word, each with its tab; with the LF they are a line
behind : List ℕ → List (List ℕ) → List ℕ
behind w [] = w
behind w (f ∷ fs) = behind (w ++ (tab ∷ f)) fs

line_of_lem : (w : List ℕ) (fs : List (List ℕ)) → (w ++ further tab fs) ++ (line_feed ∷ []) ≡ behind w fs ++ (line_feed ∷ [])
unfolding behind further
line_of_lem w [] = ap (λ (l : List ℕ). l ++ (line_feed ∷ [])) (append-nil w)
line_of_lem w (f ∷ fs) =
    ap (λ (l : List ℕ). l ++ (line_feed ∷ [])) (sym (append_assoc w (tab ∷ f) (further tab fs))) ∙ line_of_lem (w ++ (tab ∷ f)) fs

grouped : (w a b c : List ℕ) → ((w ++ a) ++ b) ++ c ≡ w ++ ((a ++ b) ++ c)
grouped w a b c = cc (append_assoc w a b, append_assoc w (a ++ b) c)

pub six_line_lem : (ps : List ℤ) (k : ℕ) → line_of (vertex_at ps k) ≡ six_line ps k
unfolding line_of letter_of numbers_of behind
six_line_lem ps k =
    let f : ℕ → List ℕ = λ i. field (get_or ps i (pos 0)) in
    let n : ℕ = 6 * k in
    line_of_lem (118 ∷ []) (map numeral (numbers_of (vertex_at ps k)))
    ∙ ap (λ (l : List ℕ). (((l ++ f (n + 3)) ++ f (n + 3 + 1)) ++ f (n + 3 + 2)) ++ (line_feed ∷ [])) (grouped (118 ∷ []) (f n) (f (n + 1)) (f (n + 2)))
    ∙ ap (λ (l : List ℕ). l ++ (line_feed ∷ [])) (grouped ((118 ∷ []) ++ three_fields ps n) (f (n + 3)) (f (n + 3 + 1)) (f (n + 3 + 2)))

pub two_edge : (a b : ℕ) → line_of (edge a b) ≡ two_line 101 a b
unfolding line_of letter_of numbers_of behind
two_edge a b = line_of_lem (101 ∷ []) (map numeral (numbers_of (edge a b)))

pub two_seam : (a b : ℕ) → line_of (seam a b) ≡ two_line 119 a b
unfolding line_of letter_of numbers_of behind
two_seam a b = line_of_lem (119 ∷ []) (map numeral (numbers_of (seam a b)))

pub three_line_lem : (a b c : ℕ) → line_of (triangle a b c) ≡ three_line a b c
unfolding line_of letter_of numbers_of behind
three_line_lem a b c = line_of_lem (116 ∷ []) (map numeral (numbers_of (triangle a b c)))

-- ---- the lines of a list

abbrev pub vertex_lines : List ℤ → List ℕ
vertex_lines ps = text_of (vertices_in ps)

unfoldable pub pair_lines : ℕ → List ℕ → List ℕ
pair_lines letter (a ∷ b ∷ l) = two_line letter a b ++ pair_lines letter l
pair_lines letter [] = []
pair_lines letter (a ∷ []) = []

unfoldable pub triple_lines : List ℕ → List ℕ
triple_lines (a ∷ b ∷ c ∷ l) = three_line a b c ++ triple_lines l
triple_lines [] = []
triple_lines (a ∷ []) = []
triple_lines (a ∷ b ∷ []) = []

pub edge_lines : (l : List ℕ) → text_of (edges_in l) ≡ pair_lines 101 l
unfolding edges_in pair_lines
edge_lines (a ∷ b ∷ l) = flat_cons line_of (edge a b) (edges_in l) ∙ cc (two_edge a b, edge_lines l)
edge_lines [] = flat_nil line_of
edge_lines (a ∷ []) = flat_nil line_of

pub seam_lines : (l : List ℕ) → text_of (seams_in l) ≡ pair_lines 119 l
unfolding seams_in pair_lines
seam_lines (a ∷ b ∷ l) = flat_cons line_of (seam a b) (seams_in l) ∙ cc (two_seam a b, seam_lines l)
seam_lines [] = flat_nil line_of
seam_lines (a ∷ []) = flat_nil line_of

pub triangle_lines : (l : List ℕ) → text_of (triangles_in l) ≡ triple_lines l
unfolding triangles_in triple_lines
triangle_lines (a ∷ b ∷ c ∷ l) = flat_cons line_of (triangle a b c) (triangles_in l) ∙ cc (three_line_lem a b c, triangle_lines l)
triangle_lines [] = flat_nil line_of
triangle_lines (a ∷ []) = flat_nil line_of
triangle_lines (a ∷ b ∷ []) = flat_nil line_of

-- ---- from one on

pub vertices_next : (ps : List ℤ) (k : ℕ) → k < length ps / 6
    → vertex_lines (drop (6 * k) ps) ≡ six_line ps k ++ vertex_lines (drop (6 * (k + 1)) ps)
unfolding vertices_in
vertices_next ps k h =
    let six : 6 * (k + 1) ≡ 6 * k + 3 + 1 + 1 + 1 = omega arith in
    let d : ℤ = pos 0 in
    let front : drop (6 * k) ps ≡ get_or ps (6 * k) d ∷ get_or ps (6 * k + 1) d ∷ get_or ps (6 * k + 2) d ∷ get_or ps (6 * k + 3) d
    ∷ get_or ps (6 * k + 3 + 1) d
    ∷ get_or ps (6 * k + 3 + 2) d
    ∷ drop (6 * (k + 1)) ps =
    drop_six ps (6 * k) d (omega arith) ∙ ap (λ (n : ℕ). get_or ps (6 * k) d ∷ get_or ps (6 * k + 1) d ∷ get_or ps (6 * k + 2) d ∷ get_or ps (6 * k + 3) d
    ∷ get_or ps (6 * k + 3 + 1) d
    ∷ get_or ps (6 * k + 3 + 2) d
    ∷ drop n ps) (sym six) in
    ap vertex_lines front ∙ flat_cons line_of (vertex_at ps k) (vertices_in (drop (6 * (k + 1)) ps))
    ∙ ap (λ (l : List ℕ). l ++ vertex_lines (drop (6 * (k + 1)) ps)) (six_line_lem ps k)
  where
    drop_six : (ps : List ℤ) (n : ℕ) (d : ℤ) → n + 5 < length ps
        → drop n ps ≡ get_or ps n d ∷ get_or ps (n + 1) d ∷ get_or ps (n + 2) d ∷ get_or ps (n + 3) d ∷ get_or ps (n + 3 + 1) d
        ∷ get_or ps (n + 3 + 2) d
        ∷ drop (n + 3 + 1 + 1 + 1) ps
    drop_six ps n d h =
        let two : n + 1 + 1 ≡ n + 2 = omega arith in
        let three : n + 2 + 1 ≡ n + 3 = omega arith in
        let five : n + 3 + 1 + 1 ≡ n + 3 + 2 = omega arith in
        let six : n + 3 + 2 + 1 ≡ n + 3 + 1 + 1 + 1 = omega arith in
        cc (
          drop_next ps n d (omega arith),
          drop_next ps (n + 1) d (omega arith),
          drop_next ps (n + 2) d (omega arith),
          drop_next ps (n + 3) d (omega arith),
          drop_next ps (n + 3 + 1) d (omega arith),
          drop_next ps (n + 3 + 2) d (omega arith),
        )

pub pairs_next : (letter : ℕ) (l : List ℕ) (k : ℕ) → k < length l / 2
    → pair_lines letter (drop (2 * k) l) ≡ two_line letter (get_or l (2 * k) 0) (get_or l (2 * k + 1) 0) ++ pair_lines letter (drop (2 * (k + 1)) l)
unfolding pair_lines
pairs_next letter l k h =
    let two : 2 * k + 1 + 1 ≡ 2 * (k + 1) = omega arith in
    cc (drop_next l (2 * k) 0 (omega arith), drop_next l (2 * k + 1) 0 (omega arith))

pub triples_next : (l : List ℕ) (k : ℕ) → k < length l / 3
    → triple_lines (drop (3 * k) l)
    ≡ three_line (get_or l (3 * k) 0) (get_or l (3 * k + 1) 0) (get_or l (3 * k + 2) 0) ++ triple_lines (drop (3 * (k + 1)) l)
unfolding triple_lines
triples_next l k h =
    let two : 3 * k + 1 + 1 ≡ 3 * k + 2 = omega arith in
    let three : 3 * k + 2 + 1 ≡ 3 * (k + 1) = omega arith in
    cc (drop_next l (3 * k) 0 (omega arith), drop_next l (3 * k + 1) 0 (omega arith), drop_next l (3 * k + 2) 0 (omega arith))

-- ---- and none past the last

pub vertices_none : (ps : List ℤ) (k : ℕ) → length ps ≡ 6 * (length ps / 6) → length ps / 6 ≤ k → vertex_lines (drop (6 * k) ps) ≡ []
unfolding vertices_in
vertices_none ps k e h = ap vertex_lines (drop_of_length-le ps {i = 6 * k} (omega arith)) ∙ flat_nil line_of

pub pairs_none : (letter : ℕ) (l : List ℕ) (k : ℕ) → length l ≡ 2 * (length l / 2) → length l / 2 ≤ k → pair_lines letter (drop (2 * k) l) ≡ []
unfolding pair_lines
pairs_none letter l k e h = ap (pair_lines letter) (drop_of_length-le l {i = 2 * k} (omega arith))

pub triples_none : (l : List ℕ) (k : ℕ) → length l ≡ 3 * (length l / 3) → length l / 3 ≤ k → triple_lines (drop (3 * k) l) ≡ []
unfolding triple_lines
triples_none l k e h = ap triple_lines (drop_of_length-le l {i = 3 * k} (omega arith))

-- ---- the whole text

pub saved_parts : (ps : List ℤ) (es ts ws : List ℕ)
    → text_of (vertices_in ps ++ edges_in es ++ triangles_in ts ++ seams_in ws)
    ≡ vertex_lines ps ++ pair_lines 101 es ++ triple_lines ts ++ pair_lines 119 ws
saved_parts ps es ts ws =
    cc (
      flat_append line_of (vertices_in ps ++ edges_in es ++ triangles_in ts) (seams_in ws),
      flat_append line_of (vertices_in ps ++ edges_in es) (triangles_in ts),
      flat_append line_of (vertices_in ps) (edges_in es),
      edge_lines es,
      triangle_lines ts,
      seam_lines ws,
    )
