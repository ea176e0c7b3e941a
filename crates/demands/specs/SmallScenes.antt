-- Sentences of document 01 that are about single scenes and texts: 'zero of each is a scene'; 'an empty text is the empty scene; an empty line
-- is bad'; 'repeated edges or triangles each make their own pairs'.
use Rattle.std.specs.Prelude.{ℕ, ◌+◌, ◌≡◌, refl, length}
use mathlib.Core.List.{List, [], ◌∷◌, ◌++◌, flat_map, head-eq_of_cons-eq, nil≢cons}
use Rattle.std.proofs.Common.{sym, ◌∙◌, arith}
use Rattle.sequences.specs.Range.{times, over}
use Rattle.sequences.specs.Gather.{gather}
use Rattle.meaning.specs.Scene.{scene_of, Accepted, some_below, stood_for}
use Rattle.meaning.specs.Refusals.{shares}
use Rattle.meaning.specs.Boxes.{meet_on}
use Rattle.meaning.specs.List.{pair, pairs}
use Rattle.meaning.specs.Lines as Lines
use Rattle.meaning.specs.Text.{Entry, vertex, edge, triangle, seam, letter_of, SceneSound, Holds, none, text_of, SceneFaultyAt, line_feed}
use Rattle.meaning.specs.declared.Kind.TheVariants.{PointTriangle}
use Rattle.text_line.specs.Rendered.{line_is}
use Rattle.text_scene.specs.Unique.{sound_anywhere}
use Rattle.demands.specs.LineTable.{NoLine, no9}
use Rattle.demands.specs.Table.{numbered}

-- ---- nothing at all

pub nothing_accepted : Accepted (scene_of [] [] [] [])
unfolding some_below
nothing_accepted = record { shapely = refl; in_range = refl; known = refl; sewn_well = refl; distinct = refl }

pub nothing_listed : pairs (scene_of [] [] [] []) ≡ []
unfolding pairs gather over times
nothing_listed = refl

pub empty_text : Holds [] (scene_of [] [] [] [])
unfolding Lines.Sound Lines.after_all flat_map
empty_text = record { entries = []; records = record { sound = tt; lines = refl }; scene = refl }

-- ---- an empty line

no_letter : (r : Entry) → line_feed ≡ letter_of r → ⊥
unfolding letter_of
no_letter (vertex p q) e = omega arith
no_letter (edge a b) e = omega arith
no_letter (triangle a b c) e = omega arith
no_letter (seam i j) e = omega arith

empty_line_bad : (rest : List ℕ) → NoLine (line_feed ∷ rest)
empty_line_bad rest r below short e = no_letter r (head-eq_of_cons-eq (e ∙ line_is r below))

-- below records none of which is at fault, it is refused 9 with its line number, whatever follows
pub empty_line : (above : List Entry) (rest : List ℕ) → SceneSound none above → SceneFaultyAt (text_of above ++ (line_feed ∷ rest)) 9 (length above + 1)
empty_line above rest sound = record {
  above = above;
  below = line_feed ∷ rest;
  sound = sound_anywhere none above [] (line_feed ∷ rest) sound;
  lines = refl;
  place = refl;
  fault = (no9 _ (line_feed ∷ rest)).1 (λ e. nil≢cons (sym e), empty_line_bad rest);
}

-- ---- the triangle of case 1 twice: two pairs

pub repeated_triangle : pairs (scene_of (numbered 1).scene.positions [] (0 ∷ 1 ∷ 2 ∷ 2 ∷ 0 ∷ 1 ∷ []) []) ≡ pair PointTriangle 3 0 ∷ pair PointTriangle 3 1 ∷ []
unfolding pairs gather over times shares meet_on stood_for
repeated_triangle = refl
