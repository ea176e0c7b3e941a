-- Document 02, §7: a scene written as text. Its records, in the order of 'Scene text', the text that is their lines, and what is promised of
-- whoever writes it.
use Rattle.std.specs.Prelude.{ℕ, List, [], ◌∷◌, ◌++◌, ◌≡◌, ltb, ℤ, length, Result}
use Rattle.meaning.specs.Limits.{text_limit}
use Rattle.meaning.specs.Scene.{Scene}
use Rattle.meaning.specs.Refusals.{Check, Answers, scene_checks, room_check, outcome_of}
use Rattle.meaning.specs.List.{leaves}
use Rattle.meaning.specs.Text.{Entry, vertex, edge, triangle, seam, text_of}
use Rattle.meaning.specs.declared.Refused.{Refused}

-- ---- the records of a scene: each part as it is stored, ends, corners and seams too

unfoldable pub vertices_in : List ℤ → List Entry
vertices_in (a ∷ b ∷ c ∷ d ∷ e ∷ f ∷ l) = vertex (record { x = a; y = b; z = c }) (record { x = d; y = e; z = f }) ∷ vertices_in l
vertices_in [] = []
vertices_in (a ∷ []) = []
vertices_in (a ∷ b ∷ []) = []
vertices_in (a ∷ b ∷ c ∷ []) = []
vertices_in (a ∷ b ∷ c ∷ d ∷ []) = []
vertices_in (a ∷ b ∷ c ∷ d ∷ e ∷ []) = []

unfoldable pub edges_in : List ℕ → List Entry
edges_in (a ∷ b ∷ l) = edge a b ∷ edges_in l
edges_in [] = []
edges_in (a ∷ []) = []

unfoldable pub triangles_in : List ℕ → List Entry
triangles_in (a ∷ b ∷ c ∷ l) = triangle a b c ∷ triangles_in l
triangles_in [] = []
triangles_in (a ∷ []) = []
triangles_in (a ∷ b ∷ []) = []

unfoldable pub seams_in : List ℕ → List Entry
seams_in (i ∷ j ∷ l) = seam i j ∷ seams_in l
seams_in [] = []
seams_in (i ∷ []) = []

-- all v come before all e, all e before all t, and w after all t
abbrev pub records_of : Scene → List Entry
records_of s = vertices_in s.positions ++ edges_in s.edges ++ triangles_in s.triangles ++ seams_in s.seams

-- the scene as text
unfoldable pub saved_text : Scene → List ℕ
saved_text s = text_of (records_of s)

-- ---- what a writer answers, and what it leaves in the lent buffer

-- the scene's own refusals first, then 8 where the text is over 32,768 bytes
abbrev pub saved_checks : Scene → List Check
saved_checks s = scene_checks s ++ (record { number = 8; holds = ltb text_limit (length (saved_text s)); carries = 0 } ∷ [])

-- then 7 where the text is longer than the buffer, with the length needed
abbrev pub save_checks : Scene → ℕ → List Check
save_checks s room =
    saved_checks s
    ++ (room_check room (length (saved_text s)) ∷ [])

-- the length of the text, asked for alone
abbrev pub Measured : Scene → Result ℕ Refused → Type 0
Measured s r = Answers (saved_checks s) (λ n. n ≡ length (saved_text s)) (outcome_of r)

-- the text is written into a lent buffer that held o and holds o': it stands in front, and the unwritten rest is unchanged; a refusal
-- changes nothing
pub record Saved (s : Scene) (o o' : List ℕ) (r : Result ℕ Refused) : Type 0 where
  pub answer : Answers (save_checks s (length o)) (λ n. n ≡ length (saved_text s)) (outcome_of r)
  pub buffer : o' ≡ leaves (outcome_of r) (saved_text s) o
