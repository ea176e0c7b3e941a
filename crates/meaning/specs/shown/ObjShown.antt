-- OBJ files, shown: what a line says, how it is read and what is not, and where two files differ.
use Rattle.std.specs.Prelude.{true, false, List, [], ◌∷◌, ◌≡◌, refl, ℕ, pos, None, Some}
use Rattle.decimals.specs.Value.{value, value_on}
use Rattle.meaning.specs.ObjLine.{place_of, digits_alone, with_part, on_whole, signed_as, decimal_of, says, vertex_with, face_with}
use Rattle.meaning.specs.ObjFile.{joined, edges_from, edges_of, signed, face_added}
use Rattle.meaning.specs.Text.{none, coordinates_in, ends_in, corners_in, seam_in}
use Rattle.meaning.specs.ObjPair.{same_numbers, differing}
use Rattle.meaning.specs.Scene.{Scene, scene_of}
use Rattle.meaning.specs.declared.Hundredths.{Hundredths}
use Rattle.meaning.specs.declared.ObjLine.TheVariants.{Skipped, Vertex, Face, Bad}

abbrev plus : ℕ → Hundredths
plus n = record { minus = false; size = n }

abbrev less : ℕ → Hundredths
less n = record { minus = true; size = n }

-- decimals: zeros in front and behind are fine, one digit behind the point is tenths, and -0.00 is 0 (`minus_nothing`)
pub decimals_shown :
    (decimal_of (49 ∷ []) ≡ Some (plus 100))
    × (decimal_of (49 ∷ 46 ∷ 48 ∷ []) ≡ Some (plus 100))
    × (decimal_of (48 ∷ 49 ∷ 46 ∷ 48 ∷ 48 ∷ []) ≡ Some (plus 100))
    × (decimal_of (49 ∷ 46 ∷ 53 ∷ []) ≡ Some (plus 150))
    × (decimal_of (49 ∷ 46 ∷ 48 ∷ 53 ∷ []) ≡ Some (plus 105))
    × (decimal_of (45 ∷ 48 ∷ 46 ∷ 53 ∷ []) ≡ Some (less 50))
    × (decimal_of (45 ∷ 48 ∷ 46 ∷ 48 ∷ 48 ∷ []) ≡ Some (less 0))
    × (decimal_of (57 ∷ 57 ∷ 57 ∷ 57 ∷ 57 ∷ 57 ∷ 57 ∷ 57 ∷ 57 ∷ 46 ∷ 57 ∷ 57 ∷ []) ≡ Some (plus 99_999_999_999))
    × (decimal_of (49 ∷ 46 ∷ []) ≡ None)
    × (decimal_of (46 ∷ 53 ∷ []) ≡ None)
    × (decimal_of (43 ∷ 49 ∷ []) ≡ None)
    × (decimal_of (48 ∷ 46 ∷ 48 ∷ 48 ∷ 48 ∷ []) ≡ None)
    × (decimal_of (49 ∷ 48 ∷ 48 ∷ 48 ∷ 48 ∷ 48 ∷ 48 ∷ 48 ∷ 48 ∷ 48 ∷ []) ≡ None)
    × (decimal_of (49 ∷ 101 ∷ 51 ∷ []) ≡ None)
    × (decimal_of (45 ∷ []) ≡ None)
    × (decimal_of [] ≡ None)
    × (decimal_of (49 ∷ 46 ∷ 53 ∷ 46 ∷ []) ≡ None)
unfolding place_of digits_alone with_part on_whole signed_as value value_on
decimals_shown = (refl, refl, refl, refl, refl, refl, refl, refl, refl, refl, refl, refl, refl, refl, refl, refl, refl)

pub minus_nothing : signed (less 0) ≡ pos 0
minus_nothing = refl

-- lines: what is skipped, a vertex, a face; and what is none of these
pub lines_shown :
    (says [] ≡ Skipped)
    × (says (35 ∷ 32 ∷ 97 ∷ []) ≡ Skipped)
    × (says (118 ∷ 116 ∷ 32 ∷ 48 ∷ []) ≡ Skipped)
    × (says (118 ∷ 110 ∷ 32 ∷ []) ≡ Skipped)
    × (says (118 ∷ 32 ∷ 49 ∷ 32 ∷ 45 ∷ 50 ∷ 46 ∷ 53 ∷ 32 ∷ 48 ∷ 46 ∷ 48 ∷ 55 ∷ []) ≡ Vertex (plus 100) (less 250) (plus 7))
    × (says (102 ∷ 32 ∷ 49 ∷ 32 ∷ 50 ∷ 32 ∷ 49 ∷ 51 ∷ []) ≡ Face 1 2 13)
    × (says (118 ∷ 116 ∷ []) ≡ Bad)
    × (says (118 ∷ []) ≡ Bad)
    × (says (118 ∷ 32 ∷ 49 ∷ 32 ∷ 50 ∷ []) ≡ Bad)
    × (says (118 ∷ 32 ∷ 49 ∷ 32 ∷ 32 ∷ 50 ∷ []) ≡ Bad)
    × (says (118 ∷ 32 ∷ 49 ∷ 32 ∷ 50 ∷ 32 ∷ 51 ∷ 32 ∷ 52 ∷ []) ≡ Bad)
    × (says (118 ∷ 32 ∷ 49 ∷ 32 ∷ 50 ∷ 32 ∷ 51 ∷ 32 ∷ []) ≡ Bad)
    × (says (118 ∷ 9 ∷ 49 ∷ 9 ∷ 50 ∷ 9 ∷ 51 ∷ []) ≡ Bad)
    × (says (118 ∷ 32 ∷ 49 ∷ 32 ∷ 50 ∷ 32 ∷ 51 ∷ 13 ∷ []) ≡ Bad)
    × (says (102 ∷ 32 ∷ 48 ∷ 32 ∷ 49 ∷ 32 ∷ 50 ∷ []) ≡ Bad)
    × (says (102 ∷ 32 ∷ 48 ∷ 49 ∷ 32 ∷ 50 ∷ 32 ∷ 51 ∷ []) ≡ Bad)
    × (says (102 ∷ 32 ∷ 49 ∷ 47 ∷ 49 ∷ 32 ∷ 50 ∷ 32 ∷ 51 ∷ []) ≡ Bad)
    × (says (102 ∷ 32 ∷ 49 ∷ 32 ∷ 50 ∷ 32 ∷ 51 ∷ 32 ∷ 52 ∷ []) ≡ Bad)
    × (says (102 ∷ 32 ∷ 45 ∷ 49 ∷ 32 ∷ 50 ∷ 32 ∷ 51 ∷ []) ≡ Bad)
    × (says (111 ∷ 32 ∷ 97 ∷ []) ≡ Bad)
    × (says (32 ∷ 118 ∷ 32 ∷ 49 ∷ 32 ∷ 50 ∷ 32 ∷ 51 ∷ []) ≡ Bad)
unfolding place_of digits_alone with_part on_whole signed_as value value_on vertex_with face_with
lines_shown = (refl, refl, refl, refl, refl, refl, refl, refl, refl, refl, refl, refl, refl, refl, refl, refl, refl, refl, refl, refl, refl)

-- two faces with a side in common: it stands once, as it was first written
pub edges_shown : edges_of (0 ∷ 1 ∷ 2 ∷ 2 ∷ 1 ∷ 3 ∷ []) ≡ 0 ∷ 1 ∷ 1 ∷ 2 ∷ 2 ∷ 0 ∷ 1 ∷ 3 ∷ 3 ∷ 2 ∷ []
unfolding edges_from joined
edges_shown = refl

-- the same two faces, line by line: the edges are those of the triangles
abbrev two_faces : Scene
two_faces = face_added (face_added none 1 2 3) 3 2 4

pub faces_added_shown : two_faces.edges ≡ edges_of two_faces.triangles
unfolding edges_from joined coordinates_in ends_in corners_in seam_in
faces_added_shown = refl

abbrev with_faces : List ℕ → Scene
with_faces t = scene_of [] [] t []

-- two files: the same faces; one whose corners begin elsewhere, or are written the other way round; two faces exchanged; a face more; a vertex more
pub differing_shown :
    (differing (with_faces (0 ∷ 1 ∷ 2 ∷ 2 ∷ 1 ∷ 3 ∷ [])) (with_faces (0 ∷ 1 ∷ 2 ∷ 2 ∷ 1 ∷ 3 ∷ [])) ≡ false)
    × (differing (with_faces (0 ∷ 1 ∷ 2 ∷ [])) (with_faces (1 ∷ 2 ∷ 0 ∷ [])) ≡ true)
    × (differing (with_faces (0 ∷ 1 ∷ 2 ∷ [])) (with_faces (2 ∷ 1 ∷ 0 ∷ [])) ≡ true)
    × (differing (with_faces (0 ∷ 1 ∷ 2 ∷ 2 ∷ 1 ∷ 3 ∷ [])) (with_faces (2 ∷ 1 ∷ 3 ∷ 0 ∷ 1 ∷ 2 ∷ [])) ≡ true)
    × (differing (with_faces (0 ∷ 1 ∷ 2 ∷ [])) (with_faces (0 ∷ 1 ∷ 2 ∷ 0 ∷ 1 ∷ 2 ∷ [])) ≡ true)
    × (differing (with_faces []) (scene_of (pos 0 ∷ pos 0 ∷ pos 0 ∷ pos 0 ∷ pos 0 ∷ pos 0 ∷ []) [] [] []) ≡ true)
unfolding same_numbers
differing_shown = (refl, refl, refl, refl, refl, refl)
