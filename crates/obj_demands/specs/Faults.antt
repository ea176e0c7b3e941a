-- The number of a fault in a line of an OBJ file: 9, 10, 11, 2, 3, 4, and 11 also for edge 1,025. A file has no seams, so that 15 is never given.
use Rattle.std.specs.Prelude.{ℕ, ◌-◌, Bool, true, false, ◌≡◌, refl, length}
use mathlib.Core.List.{List, [], ◌∷◌, ◌++◌, append-nil, Memᴰ}
use Rattle.std.proofs.Common.{sym, ap, ◌∙◌}
use Rattle.meaning.specs.Scene.{Scene, some_below, broken_seam, over_size, out_of_range, unknown_vertex, repeated_vertex}
use Rattle.meaning.specs.Refusals.{Outcome, refused, Check, Answers}
use Rattle.meaning.specs.Lines.{after_all, Fault, unformed, misplaced, FaultyAt}
use Rattle.meaning.specs.Text.{Entry, vertex, triangle, none, late, scene_with, seam_in, entry_checks}
use Rattle.meaning.specs.ObjLine.{says}
use Rattle.meaning.specs.ObjFile.{place_at, face_added, line_checks, obj_lines}
use Rattle.meaning.specs.declared.ObjLine.{ObjLine}
use Rattle.meaning.specs.declared.ObjLine.TheVariants.{Skipped, Vertex, Face, Bad}
use Rattle.answers.specs.Answering.{refuses, lets_pass, is_refused, is_past}
use Rattle.answers.specs.Deciding.{holds_or_not, number_known}
use Rattle.obj_scene.specs.AcceptedImport.{sound_fine}

abbrev Plain : Unit {0} → Type 0
Plain t = Unit {0}

-- a check that does not hold may be left out
without : (front back : List Check) (k : Check) (o : Outcome (Unit {0})) → k.holds ≡ false → Answers (front ++ (k ∷ back)) Plain o
    → Answers (front ++ back) Plain o
without [] back k o h a = is_past Plain k back o h a
without (j ∷ front) back k o h a =
    holds_or_not j.holds (λ t. refuses Plain j (front ++ back) o t (is_refused Plain j (front ++ (k ∷ back)) o t a))
    (λ t. lets_pass Plain j (front ++ back) o t (without front back k o h (is_past Plain j (front ++ (k ∷ back)) o t a)))

abbrev check : ℕ → Scene → (Scene → Bool) → Check
check n s holds = record { number = n; holds = holds s; carries = 0 }

-- 10, 11, 2, 3
abbrev front : Scene → Entry → List Check
front s r =
    record { number = 10; holds = late s r; carries = 0 } ∷ check 11 (scene_with s r) over_size ∷ check 2 (scene_with s r) out_of_range
    ∷ check 3 (scene_with s r) unknown_vertex
    ∷ []

no_seams : (s : Scene) (r : Entry) → s.seams ≡ [] → seam_in r ≡ [] → broken_seam (scene_with s r) ≡ false
unfolding some_below
no_seams s r e f = cc (e, f)

abbrev pub in_file : List ℕ
in_file = 9 ∷ 10 ∷ 11 ∷ 2 ∷ 3 ∷ 4 ∷ 11 ∷ []

checked : (s : Scene) (l : ObjLine) (n : ℕ) → s.seams ≡ [] → Answers (line_checks s l) Plain (refused n 0)
    → Memᴰ n (10 ∷ 11 ∷ 2 ∷ 3 ∷ 4 ∷ 11 ∷ [])
unfolding line_checks Answers seam_in
checked s Skipped n e a = absurd a
checked s (Vertex x y z) n e a =
    let r = vertex (place_at x y z) (place_at x y z) in
    four n (number_known Plain (front s r ++ (check 4 (scene_with s r) repeated_vertex ∷ [])) (refused n 0)
    (without (front s r) (check 4 (scene_with s r) repeated_vertex ∷ []) (check 15 (scene_with s r) broken_seam) (refused n 0) (no_seams s r e refl) a)
    n 0 refl)
  where
    four : (n : ℕ) → Memᴰ n (10 ∷ 11 ∷ 2 ∷ 3 ∷ 4 ∷ []) → Memᴰ n (10 ∷ 11 ∷ 2 ∷ 3 ∷ 4 ∷ 11 ∷ [])
    four n (Memᴰ.head q) = Memᴰ.head q
    four n (Memᴰ.tail (Memᴰ.head q)) = Memᴰ.tail (Memᴰ.head q)
    four n (Memᴰ.tail (Memᴰ.tail (Memᴰ.head q))) = Memᴰ.tail (Memᴰ.tail (Memᴰ.head q))
    four n (Memᴰ.tail (Memᴰ.tail (Memᴰ.tail (Memᴰ.head q)))) = Memᴰ.tail (Memᴰ.tail (Memᴰ.tail (Memᴰ.head q)))
    four n (mathlib.Core.List.Memᴰ.tail (mathlib.Core.List.Memᴰ.tail (mathlib.Core.List.Memᴰ.tail (mathlib.Core.List.Memᴰ.tail (mathlib.Core.List.Memᴰ.tail x23))))) = elim x23 [ ]
    four n (Memᴰ.tail (Memᴰ.tail (Memᴰ.tail (Memᴰ.tail (Memᴰ.head q))))) =
        Memᴰ.tail (Memᴰ.tail (Memᴰ.tail (Memᴰ.tail (Memᴰ.head q))))
checked s (Face a b c) n e j =
    let r = triangle (a - 1) (b - 1) (c - 1) in
    number_known Plain (front s r ++ (check 4 (scene_with s r) repeated_vertex ∷ check 11 (face_added s a b c) over_size ∷ [])) (refused n 0)
    (without (front s r) (check 4 (scene_with s r) repeated_vertex ∷ check 11 (face_added s a b c) over_size ∷ []) (check 15 (scene_with s r) broken_seam) (refused n 0) (no_seams s r e refl) j)
    n 0 refl
checked s Bad n e a = absurd a

pub fault_in_file : {text : List ℕ} {n line : ℕ} → FaultyAt obj_lines none text n line → Memᴰ n in_file
fault_in_file {text} {n} {line} f = by f.fault
  where
    by : Fault obj_lines (after_all obj_lines none f.above) f.below n → Memᴰ n in_file
    by (unformed e some never) = Memᴰ.head e
    by (misplaced r rest formed e j) = Memᴰ.tail (checked (after_all obj_lines none f.above) (says r) n (sound_fine f.above f.below f.sound).seamless j)
