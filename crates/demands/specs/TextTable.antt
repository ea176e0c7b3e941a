-- Demand 1 of texts: '12, 8, then the first faulty line', each exactly when the table says so, and no other number; and a scene is
-- read exactly when none does.
use Rattle.std.specs.Prelude.{ℕ, true, false, ◌↔◌, ◌≡◌, refl, Result}
use Rattle.std.proofs.Common.{true≢false, sym, ◌∙◌, ap, arith}
use mathlib.Core.List.{List, [], ◌∷◌, Memᴰ}
use Rattle.std.proofs.Math.Path.{subst}
use Rattle.meaning.specs.Scene.{Scene}
use Rattle.meaning.specs.Refusals.{Outcome, given, refused, outcome_of}
use Rattle.meaning.specs.Text.{SceneFaultyAt, Holds, TextIs, short_buffer, long_text, TextOutcome, counts_of, counts_told, TextRead}
use Rattle.meaning.specs.declared.SceneCounts.{SceneCounts}
use Rattle.text_scene.specs.Unique.{text_unique}
use Rattle.answers.specs.Deciding.{holds_or_not}
use Rattle.demands.specs.LineTable.{in_line, fault_known, fault_in_line}
use Rattle.meaning.specs.declared.Refused.{Refused}

-- ---- what an answer tells

told_refused : (x : Outcome Scene) (n line : ℕ) → (counts_told x ≡ refused n line) ↔ (x ≡ refused n line)
unfolding counts_told
told_refused (given s) n line = (λ e. let z : ◌≡◌ {A = ℕ} 0 1 = cc in absurd (omega arith), λ e. let z : ◌≡◌ {A = ℕ} 0 1 = cc in absurd (omega arith))
told_refused (refused m place) n line = (
  λ e. let a : m ≡ n = cc in let b : place ≡ line = cc in λ i. refused (a i) (b i),
  λ e. let a : m ≡ n = cc in let b : place ≡ line = cc in λ i. refused (a i) (b i),
)

-- the text is the scene s, and these are its counts
pub record Reads (text : List ℕ) (c : SceneCounts) : Type 0 where
  pub scene : Scene
  pub holds : Holds text scene
  pub counts : c ≡ counts_of scene

-- the counts told are those of the scene that was read
pub told_given : (x : Outcome Scene) (c : SceneCounts) → counts_told x ≡ given c → (s : Scene) × (x ≡ given s) × (c ≡ counts_of s)
unfolding counts_told
told_given (given s) c e = (s, refl, cc)
told_given (refused m place) c e = let z : ◌≡◌ {A = ℕ} 0 1 = cc in absurd (omega arith)

pub record TextRows (text : List ℕ) (lent : Scene) (o : Outcome SceneCounts) : Type 0 where
  pub only : (n line : ℕ) → o ≡ refused n line → Memᴰ n (12 ∷ 8 ∷ 9 ∷ 10 ∷ 11 ∷ 2 ∷ 3 ∷ 15 ∷ 4 ∷ [])
  pub no12 : (o ≡ refused 12 0) ↔ (short_buffer lent ≡ true)
  pub no8 : (o ≡ refused 8 0) ↔ ((short_buffer lent ≡ false) × (long_text text ≡ true))
  pub faulty : (n line : ℕ) → in_line n ≡ true → (o ≡ refused n line) ↔ ((short_buffer lent ≡ false) × (long_text text ≡ false) × SceneFaultyAt text n line)
  pub read : (c : SceneCounts) → (o ≡ given c) ↔ ((short_buffer lent ≡ false) × (long_text text ≡ false) × Reads text c)

other_number : {x : Outcome Scene} {n m c d : ℕ} → x ≡ refused n c → x ≡ refused m d → n ≡ m
other_number e f = cc

other_answer : {x : Outcome Scene} {s : Scene} {n c : ℕ} → x ≡ given s → x ≡ refused n c → ⊥
other_answer e f = let z : ◌≡◌ {A = ℕ} 0 1 = cc in omega arith

module _ (text : List ℕ) (lent : Scene) (x : Outcome Scene) (p : TextOutcome text lent x) where
  short_buffer_lem : short_buffer lent ≡ true → x ≡ refused 12 0
  short_buffer_lem e = rw e at p

  long_text_lem : short_buffer lent ≡ false → long_text text ≡ true → x ≡ refused 8 0
  long_text_lem e f = rw (e, f) at p

  is_text : short_buffer lent ≡ false → long_text text ≡ false → TextIs text x
  is_text e f = rw (e, f) at p

  by_stage : {P : Type 0} → (short_buffer lent ≡ true → P) → (short_buffer lent ≡ false → long_text text ≡ true → P)
      → (short_buffer lent ≡ false → long_text text ≡ false → P) → P
  by_stage a b c = holds_or_not (short_buffer lent) a (λ e. holds_or_not (long_text text) (b e) (c e))

  is_faulty : (n line : ℕ) → x ≡ refused n line → short_buffer lent ≡ false → long_text text ≡ false → SceneFaultyAt text n line
  unfolding TextIs
  is_faulty n line e h k = subst (TextIs text) e (is_text h k)

  never : (n line : ℕ) → in_line n ≡ false → x ≡ refused n line → short_buffer lent ≡ false → long_text text ≡ false → ⊥
  never n line o e h k = true≢false (sym (fault_in_line (is_faulty n line e h k).fault) ∙ o)

  -- no other number is given
  known_number : (n line : ℕ) → x ≡ refused n line → Memᴰ n (12 ∷ 8 ∷ 9 ∷ 10 ∷ 11 ∷ 2 ∷ 3 ∷ 15 ∷ 4 ∷ [])
  known_number n line e =
      by_stage (λ h. Memᴰ.head (other_number e (short_buffer_lem h)))
      (λ h k. Memᴰ.tail (Memᴰ.head (other_number e (long_text_lem h k))))
      (λ h k. Memᴰ.tail (Memᴰ.tail (fault_known (is_faulty n line e h k).fault)))

  refused_12 : x ≡ refused 12 0 → short_buffer lent ≡ true
  refused_12 e =
      by_stage (λ h. h) (λ h k. absurd (omega (arith, other_number e (long_text_lem h k)))) (λ h k. absurd (never 12 0 refl e h k))

  refused_8 : x ≡ refused 8 0 → (short_buffer lent ≡ false) × (long_text text ≡ true)
  refused_8 e =
      by_stage (λ h. absurd (omega (arith, other_number e (short_buffer_lem h)))) (λ h k. (h, k)) (λ h k. absurd (never 8 0 refl e h k))

  refused_line_lem : (n line : ℕ) → in_line n ≡ true → x ≡ refused n line → (short_buffer lent ≡ false) × (long_text text ≡ false) × SceneFaultyAt text n line
  refused_line_lem n line l e =
      by_stage (λ h. absurd (true≢false (sym l ∙ ap in_line (other_number e (short_buffer_lem h)))))
      (λ h k. absurd (true≢false (sym l ∙ ap in_line (other_number e (long_text_lem h k)))))
      (λ h k. (h, k, is_faulty n line e h k))

  -- a scene is read where none of the checks refuses, and it is the text's
  pub read_so : (s : Scene) → x ≡ given s → (short_buffer lent ≡ false) × (long_text text ≡ false) × Holds text s
  unfolding TextIs
  read_so s e =
      by_stage (λ h. absurd (other_answer e (short_buffer_lem h))) (λ h k. absurd (other_answer e (long_text_lem h k)))
      (λ h k. (h, k, subst (TextIs text) e (is_text h k)))

-- ---- the theorem

pub demand1_text : (text : List ℕ) (lent left : Scene) (r : Result SceneCounts Refused) → TextRead text lent left r → TextRows text lent (outcome_of r)
unfolding TextIs counts_told
demand1_text text lent left r p =
    let x : Outcome Scene = p.outcome in
    let told : (n line : ℕ) → (outcome_of r ≡ refused n line) ↔ (x ≡ refused n line) =
    λ n line. (λ e. (told_refused x n line).0 (sym p.says ∙ e), λ e. p.says ∙ (told_refused x n line).1 e) in
    record {
      only = λ n line e. known_number text lent x p.right n line ((told n line).0 e);
      no12 = (λ e. refused_12 text lent x p.right ((told 12 0).0 e), λ h. (told 12 0).1 (short_buffer_lem text lent x p.right h));
      no8 = (
        λ e. refused_8 text lent x p.right ((told 8 0).0 e),
        λ h. (told 8 0).1 (long_text_lem text lent x p.right h.0 h.1),
      );
      faulty = λ n line l. (
        λ e. refused_line_lem text lent x p.right n line l ((told n line).0 e),
        λ h. (told n line).1 (text_unique text x (refused n line) (is_text text lent x p.right h.0 h.1) h.2),
      );
      read = λ c. (
        λ e.
            let (s, is, counts) = told_given x c (sym p.says ∙ e) in
            let (a, b, h) = read_so text lent x p.right s is in
            (a, b, record { scene = s; holds = h; counts = counts }),
        λ h.
            let is : x ≡ given h.2.scene = text_unique text x (given h.2.scene) (is_text text lent x p.right h.0 h.1) h.2.holds in
            p.says ∙ ap counts_told is ∙ ap given (sym h.2.counts),
      );
    }
