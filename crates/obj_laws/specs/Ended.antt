-- A line ends at the first LF; so a text of such lines means one thing.
use Rattle.std.specs.Prelude.{Bool, true, false, ◌≢◌, ◌≡◌, ℕ, suc, ◌+◌, ◌≤◌, ◌<◌, eqb, length, take, drop}
use mathlib.Core.List.{List, [], ◌∷◌, ◌++◌, append_assoc, nil≢cons}
use Rattle.std.proofs.Common.{⊎_elim, ap, ◌∙◌, subst, arith, length-append, length-drop, take_all, length-take-le, eqb-true}
use Rattle.std.proofs.Math.Path.{refl, sym}
use Rattle.std.proofs.lemmas.Bool.{eqb-false}
use Rattle.sequences.specs.Pick.{pick, either}
use Rattle.sequences.specs.Stands.{Stands, stands_from}
use Rattle.meaning.specs.Text.{line_feed}
use Rattle.meaning.specs.Lines.{Fault, unformed, misplaced, RecordJudged, nothing}
use Rattle.meaning.specs.Refusals.{refused}
use Rattle.meaning.specs.Scene.{Scene}
use Rattle.text_laws.specs.Unique.{Readable}
use Rattle.text_laws.specs.Feed.{NoFeed, Bodies, first_line, no_line, bodies_readable}
use Rattle.meaning.specs.ObjLine.{place_of, says}
use Rattle.meaning.specs.ObjFile.{Unbroken, SaysSome, obj_lines}
use Rattle.meaning.specs.declared.ObjLine.TheVariants.{Bad}

unbroken_feed : (l : List ℕ) → Unbroken l → NoFeed l
unfolding Unbroken NoFeed
unbroken_feed [] u = tt
unbroken_feed (b ∷ l) u = (u.0, unbroken_feed l u.1)

pub obj_bodies : Bodies obj_lines
obj_bodies = record { body = λ l. l; ended = λ l. refl; unbroken = λ l f. unbroken_feed l f.unbroken }

pub obj_readable : Readable obj_lines
unfolding obj_bodies
obj_readable = bodies_readable obj_bodies (λ s r q f g e. e)

-- ---- what stands before the first LF

before_unbroken : (l : List ℕ) → Unbroken (take (place_of line_feed l) l)
unfolding place_of Unbroken
before_unbroken [] = tt
before_unbroken (b ∷ l) = go (eqb b line_feed) refl (before_unbroken l)
  where
    go : (t : Bool) → eqb b line_feed ≡ t → Unbroken (take (place_of line_feed l) l) → Unbroken (take (pick t 0 (suc (place_of line_feed l))) (b ∷ l))
    go true e u = tt
    go false e u = (eqb-false b line_feed e, u)

place_parts : (l : List ℕ) → place_of line_feed l < length l → l ≡ take (place_of line_feed l) l ++ (line_feed ∷ drop (suc (place_of line_feed l)) l)
unfolding place_of
place_parts [] h = absurd (omega arith)
place_parts (b ∷ l) h = go (eqb b line_feed) refl (place_parts l) h
  where
    go : (t : Bool) → eqb b line_feed ≡ t
        → (place_of line_feed l < length l → l ≡ take (place_of line_feed l) l ++ (line_feed ∷ drop (suc (place_of line_feed l)) l))
        → pick t 0 (suc (place_of line_feed l)) < length (b ∷ l)
        → b ∷ l ≡ take (pick t 0 (suc (place_of line_feed l))) (b ∷ l) ++ (line_feed ∷ drop (suc (pick t 0 (suc (place_of line_feed l)))) (b ∷ l))
    go true e next h = ap (λ (x : ℕ). x ∷ l) (eqb-true b line_feed e)
    go false e next h = ap (λ (k : List ℕ). b ∷ k) (next (omega arith))

module _ (text : List ℕ) (at : ℕ) {end : ℕ} (e : end ≡ place_of line_feed (drop at text)) where
  abbrev body : List ℕ
  body = take end (drop at text)

  pub body_unbroken : Unbroken body
  body_unbroken = subst (λ (k : ℕ). Unbroken (take k (drop at text))) (sym e) (before_unbroken (drop at text))

  pub body_stands : at + end < length text → Stands text at (body ++ (line_feed ∷ [])) (at + end + 1)
  body_stands h =
      let inside : end < length (drop at text) = omega (arith, length-drop at text) in
      let parts : drop at text ≡ body ++ (line_feed ∷ drop (suc end) (drop at text)) =
      subst (λ (k : ℕ). drop at text ≡ take k (drop at text) ++ (line_feed ∷ drop (suc k) (drop at text))) (sym e)
      (place_parts (drop at text) (rw e at inside)) in
      let stands : Stands text at (body ++ (line_feed ∷ [])) (at + length (body ++ (line_feed ∷ []))) =
      stands_from text at (body ++ (line_feed ∷ [])) (drop (suc end) (drop at text)) (parts ∙ sym (append_assoc body (line_feed ∷ []) (drop (suc end) (drop at text)))) in
      let long : at + length (body ++ (line_feed ∷ [])) ≡ at + end + 1 =
      omega (arith, length-append body (line_feed ∷ []), length-take-le end (drop at text) (omega (arith, inside))) in
      subst (Stands text at (body ++ (line_feed ∷ []))) long stands

  module _ (s : Scene) (inside : at < length text) where
    some : drop at text ≢ []
    some z = omega (arith, ap (length {A = ℕ}) z, length-drop at text)

    -- 9: the line says nothing, or it has no LF
    pub line_unformed : at + end < length text → says body ≡ Bad → Fault obj_lines s (drop at text) 9
    unfolding obj_bodies
    line_unformed h bad =
        unformed refl some
        (λ r rest formed q.
        let st : Stands text at (body ++ (line_feed ∷ [])) (at + end + 1) = body_stands h in
        let (same, below) =
        first_line obj_bodies {s = s} body (drop (at + end + 1) text) rest r formed (unbroken_feed body body_unbroken)
        (sym (append_assoc body (line_feed ∷ []) (drop (at + end + 1) text)) ∙ sym st.here ∙ q) in
        formed.some (ap says (sym same) ∙ bad))

    pub line_unended : length text ≤ at + end → Fault obj_lines s (drop at text) 9
    line_unended h =
        let all : take end (drop at text) ≡ drop at text = take_all end (drop at text) (omega (arith, length-drop at text)) in
        unformed refl some
        (λ r rest formed q.
        no_line obj_bodies (drop at text) rest r (subst NoFeed all (unbroken_feed body body_unbroken)) q)

    pub line_misplaced : {n : ℕ} → at + end < length text → says body ≢ Bad
        → RecordJudged obj_lines s body (nothing (drop (at + end + 1) text)) (refused n 0)
        → Fault obj_lines s (drop at text) n
    line_misplaced h some judged =
        misplaced body (drop (at + end + 1) text) (record { unbroken = body_unbroken; some = some }) (body_stands h).here judged
