-- Skipped lines count as lines, shown: below a comment and an empty line stands a line `x`, and it is line 3 that is refused.
use Rattle.std.specs.Prelude.{ℕ, List, [], ◌∷◌, ◌++◌, ◌≢◌, ◌≡◌, refl}
use Rattle.std.proofs.Common.{sym, ap, ◌∙◌, subst, arith}
use Rattle.sequences.specs.Flat.{flat_cons, flat_nil}
use Rattle.meaning.specs.Refusals.{Answers}
use Rattle.meaning.specs.Lines.{lines_of, Sound, unformed, FaultyAt}
use Rattle.meaning.specs.Text.{none}
use Rattle.meaning.specs.ObjLine.{says}
use Rattle.meaning.specs.ObjFile.{line_checks, Unbroken, SaysSome, obj_lines}
use Rattle.meaning.specs.declared.ObjLine.{ObjLine}
use Rattle.meaning.specs.declared.ObjLine.TheVariants.{Skipped, Vertex, Face, Bad}

-- `#`, an empty line, `x`
abbrev pub commented : List ℕ
commented = 35 ∷ 10 ∷ 10 ∷ 120 ∷ 10 ∷ []

not_bad : {l : ObjLine} → l ≡ Skipped → l ≢ Bad
not_bad e f = let z : ◌≡◌ {A = ℕ} 0 1 = cc in omega arith

no_record : (r rest : List ℕ) → SaysSome r → 120 ∷ 10 ∷ [] ≡ (r ++ (10 ∷ [])) ++ rest → ⊥
unfolding Unbroken
no_record [] rest s e = let z : ◌≡◌ {A = ℕ} 120 10 = cc in omega (arith, z)
no_record (x ∷ []) rest s e =
    let x_is : x ≡ 120 = cc in
    s.some (ap (λ (b : ℕ). says (b ∷ [])) x_is)
no_record (x ∷ y ∷ l) rest s e = let y-is : y ≡ 10 = cc in s.unbroken.1.0 y-is

two_lines : lines_of obj_lines ((35 ∷ []) ∷ [] ∷ []) ≡ 35 ∷ 10 ∷ 10 ∷ []
two_lines =
    flat_cons obj_lines.line (35 ∷ []) ([] ∷ [])
    ∙ ap (λ (l : List ℕ). 35 ∷ 10 ∷ l) (flat_cons obj_lines.line [] [] ∙ ap (λ (l : List ℕ). 10 ∷ l) (flat_nil obj_lines.line))

pub skipped_lines_count : FaultyAt obj_lines none commented 9 3
unfolding Sound Answers line_checks Unbroken
skipped_lines_count =
    record {
      above = (35 ∷ []) ∷ [] ∷ [];
      below = 120 ∷ 10 ∷ [];
      sound = (
        record { unbroken = (λ e. omega (arith, e), tt); some = not_bad refl },
        tt,
        (record { unbroken = tt; some = not_bad refl }, tt, tt),
      );
      lines = sym (ap (λ (l : List ℕ). l ++ (120 ∷ 10 ∷ [])) two_lines);
      place = refl;
      fault = unformed refl (λ e. let z : ◌≡◌ {A = ℕ} 0 1 = cc in omega arith) (λ r rest s e. no_record r rest s e);
    }
