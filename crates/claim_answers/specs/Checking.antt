-- How the answer of the call is shown right, whichever way it comes about, and that only one is.
use Rattle.std.specs.Prelude.{Bool, true, false, ◌≡◌, ℕ, ◌≤◌, ◌<◌, ltb, Err, Ok, Result}
use mathlib.Core.List.{List, [], ◌∷◌}
use Rattle.std.proofs.Math.Path.{refl, sym, ap}
use Rattle.std.proofs.Common.{◌∙◌, subst, arith}
use Rattle.std.proofs.Math.ListN.{length}
use borrow.Author.Tests.{lt-ltb, le-ltb, ltb-false}
use Rattle.answers.specs.Answering.{refuses, lets_pass, gives, is_given, one_answer}
use Rattle.scene_seams.specs.Alone.{tabled}
use Rattle.scene_checks.specs.Checking.{Stitched, from_table}
use Rattle.scene_checks.specs.Accepting.{after_accepted}
use Rattle.answers_order.specs.InOrder.{Checked, first_of, refused_if, in_order, one_check_lem}
use Rattle.meaning.specs.Limits.{text_limit}
use Rattle.meaning.specs.Scene.{Scene, Accepted}
use Rattle.meaning.specs.Pieces.{Piece}
use Rattle.meaning.specs.Refusals.{Outcome, given, refused, number_of, scene_checks, SceneChecked, Check, Answers, carrying, outcome_alone, outcome_of}
use Rattle.meaning.specs.Lines as Lines
use Rattle.meaning.specs.Lines.{AllSound, LinesAre}
use Rattle.meaning.specs.Text.{long_text}
use Rattle.meaning.specs.Claims.{Claim, piece_meant, AnswerIs, claim_lines, AllAnswered, claims_first, FirstIs, claims_last, ClaimsOutcome, before, faulty, read, how_many_told, answers_left, ClaimsChecked}
use Rattle.meaning.specs.declared.Refusal.{Refusal}
use Rattle.meaning.specs.declared.Refusal.TheVariants.{LongText, NoRoom}
use Rattle.text_laws.specs.Unique.{records_unique, sound_or_faulty, faulty_unique}
use Rattle.claim_line.specs.Rendered.{claims_readable}
use Rattle.claim_answers.specs.Inspecting.{Inspected, count_told}
use Rattle.claim_answers.specs.Answering.{Roomy, Answered, all_many}
use Rattle.meaning.specs.declared.Refused.{Refused}
use Rattle.answers.specs.Speaking.{one_carrying}

abbrev long_check : List ℕ → List Check
long_check text = record { number = 8; holds = long_text text; carries = 0 } ∷ []

-- what the first pass found, by what it answered
found_faulty : (s : Scene) (text : List ℕ) (n line : ℕ) (o : Outcome (List Claim)) → LinesAre (claim_lines s) tt text o → refused n line ≡ count_told o
    → Lines.FaultyAt (claim_lines s) tt text n line
unfolding LinesAre count_told
found_faulty s text n line (given cs) h e = let z : ◌≡◌ {A = ℕ} 0 1 = cc in absurd (omega arith)
found_faulty s text n line (refused m place) h e =
    let a : m ≡ n = cc in
    let b : place ≡ line = cc in
    subst (λ (k : ℕ). Lines.FaultyAt (claim_lines s) tt text k line) a (subst (λ (k : ℕ). Lines.FaultyAt (claim_lines s) tt text m k) b h)

record Found (s : Scene) (text : List ℕ) (count : ℕ) : Type 0 where
  claims : List Claim
  sound : AllSound (claim_lines s) tt text claims
  many : count ≡ length claims

found_claims : (s : Scene) (text : List ℕ) (count : ℕ) (o : Outcome (List Claim)) → LinesAre (claim_lines s) tt text o → given count ≡ count_told o
    → Found s text count
unfolding LinesAre count_told
found_claims s text count (given cs) h e = record { claims = cs; sound = h; many = cc }
found_claims s text count (refused n line) h e = let z : ◌≡◌ {A = ℕ} 0 1 = cc in absurd (omega arith)

module _ (s : Scene) (text o : List ℕ) where
  -- 8 is the second of the two
  pub scene_first : (scene : Result (Unit {0}) Refusal) → SceneChecked s scene → Checked (claims_first s text) (first_of scene (refused_if (long_text text) LongText))
  unfolding number_of
  scene_first scene p =
      in_order (scene_checks s) (long_check text) scene (refused_if (long_text text) LongText) p (one_check_lem (long_text text) LongText)

  -- where neither refuses, the scene is accepted and the text is short enough
  pub both_passed : {r : Result (Unit {0}) Refusal} → r ≡ Ok tt → Checked (claims_first s text) r → Accepted s × (length text ≤ text_limit)
  unfolding outcome_alone
  both_passed e p =
      let (h1, q1) = is_given (λ t. Unit {0}) _ _ tt (subst (Checked (claims_first s text)) e p) in
      let (h2, q2) = is_given (λ t. Unit {0}) _ _ tt q1 in
      let (h3, q3) = is_given (λ t. Unit {0}) _ _ tt q2 in
      let (h4, q4) = is_given (λ t. Unit {0}) _ _ tt q3 in
      let (h5, q5) = is_given (λ t. Unit {0}) _ _ tt q4 in
      let (brief, q6) = is_given (λ t. Unit {0}) _ _ tt q5 in
      (record { shapely = h1; in_range = h2; known = h3; sewn_well = h4; distinct = h5 }, ltb-false text_limit (length text) brief)

  pub checked_first : {r : Result (Unit {0}) Refusal} {x : Refusal} → Checked (claims_first s text) r → r ≡ Err x
      → ClaimsChecked s text o o (Err (carrying x 0))
  unfolding outcome_of how_many_told answers_left outcome_alone
  checked_first {r} {x} p e =
      record {
        outcome = refused (number_of x) 0;
        right = before (number_of x) 0 refl (subst (Checked (claims_first s text)) e p);
        says = refl;
        leaves = refl;
      }

  module _ (a : Accepted s) where
    module _ (brief : length text ≤ text_limit) {r : Result ℕ Refused} (i : Inspected s text r) where
      first : FirstIs s text (given tt)
      first =
          after_accepted s (long_check text) (λ t. Unit {0}) (given tt) a
          (lets_pass _ _ _ _ (le-ltb text_limit (length text) brief) (gives (λ t. Unit {0}) tt tt))

      pub checked_faulty : {x : Refused} → r ≡ Err x → ClaimsChecked s text o o (Err x)
      unfolding outcome_of how_many_told answers_left
      checked_faulty {x} e =
          record {
            outcome = refused (number_of x.why) x.carries;
            right = faulty (number_of x.why) x.carries refl first (found_faulty s text (number_of x.why) x.carries i.outcome i.right (ap outcome_of (sym e) ∙ i.says));
            says = refl;
            leaves = refl;
          }

      module _ {count : ℕ} (e : r ≡ Ok count) where
        found : Found s text count
        unfolding outcome_of
        found = found_claims s text count i.outcome i.right (ap outcome_of (sym e) ∙ i.says)

        pub checked_short : length o < count → ClaimsChecked s text o o (Err (carrying NoRoom count))
        unfolding outcome_of how_many_told answers_left number_of
        checked_short h =
            let cs : List Claim = found.claims in
            let many : length cs ≡ count = sym found.many in
            record {
              outcome = refused 7 count;
              right = read cs first found.sound
                  (refuses _ _ _ _ (lt-ltb (length o) (length cs) (omega (arith, many))) (ap (refused 7) found.many));
              says = refl;
              leaves = refl;
            }

        pub claims_roomy : count ≤ length o → Roomy s text o
        claims_roomy h = record { claims = found.claims; sound = found.sound; room = omega (arith, found.many) }

        pub checked_given : {o' : List ℕ} → count ≤ length o → Answered s text o o' → ClaimsChecked s text o o' (Ok count)
        unfolding outcome_of how_many_told answers_left
        checked_given h w =
            let same : found.claims ≡ w.claims = records_unique (claims_readable s) found.sound w.sound in
            let many : count ≡ length w.claims = found.many ∙ ap length same in
            record {
              outcome = given w.told;
              right = read w.claims first w.sound
                  (lets_pass _ _ _ _ (le-ltb (length o) (length w.claims) (omega (arith, many))) (gives (AllAnswered s w.claims) w.told w.right));
              says = ap given (many ∙ sym (all_many s w.claims w.told w.right));
              leaves = w.leaves;
            }

-- ---- one answer

-- what holds beside the scene that the table tells holds beside the scene
pub checked_in_table : {s : Scene} {t t' : List ℕ} → Stitched s t t' → Accepted s → {text o o' : List ℕ} {r : Result ℕ Refused}
    → ClaimsChecked (tabled s.positions s.edges s.triangles t') text o o' r → ClaimsChecked s text o o' r
checked_in_table h a {text} {o} {o'} {r} p = from_table (λ (u : Scene). ClaimsChecked u text o o' r) h a p

pub one_yes_or_no : (p : Piece) (ws : List ℕ) (a b : Bool) → AnswerIs p ws a → AnswerIs p ws b → a ≡ b
unfolding AnswerIs
one_yes_or_no p ws true true h k = refl
one_yes_or_no p ws true false h k = absurd (k h)
one_yes_or_no p ws false true h k = absurd (h k)
one_yes_or_no p ws false false h k = refl

all_one : (s : Scene) (cs : List Claim) (xs ys : List Bool) → AllAnswered s cs xs → AllAnswered s cs ys → xs ≡ ys
unfolding AllAnswered
all_one s [] [] [] h k = refl
all_one s [] [] (y ∷ ys) h k = absurd k
all_one s [] (x ∷ xs) ys h k = absurd h
all_one s (c ∷ cs) [] ys h k = absurd h
all_one s (c ∷ cs) (x ∷ xs) [] h k = absurd k
all_one s (c ∷ cs) (x ∷ xs) (y ∷ ys) h k =
    let first : x ≡ y = one_yes_or_no (piece_meant s c) c.weights x y h.0 k.0 in
    let rest : xs ≡ ys = all_one s cs xs ys h.1 k.1 in
    λ i. first i ∷ rest i

module _ (s : Scene) (text : List ℕ) (room : ℕ) where
  one_first : (o o' : Outcome (Unit {0})) → FirstIs s text o → FirstIs s text o' → o ≡ o'
  one_first o o' p q = one_answer (λ t. Unit {0}) (λ a b h k. refl) (claims_first s text) o o' p q

  not_both : (n c : ℕ) → FirstIs s text (refused n c) → FirstIs s text (given tt) → ⊥
  not_both n c p q =
      let e : refused n c ≡ given tt = one_first (refused n c) (given tt) p q in
      let z : ◌≡◌ {A = ℕ} 0 1 = cc in
      omega arith

  pub one_outcome : (o o' : Outcome (List Bool)) → ClaimsOutcome s text room o → ClaimsOutcome s text room o' → o ≡ o'
  one_outcome o o' (before n c e p) (before m d f q) =
      let same : refused n c ≡ refused m d = one_first (refused n c) (refused m d) p q in
      let a : n ≡ m = cc in
      let b : c ≡ d = cc in
      e ∙ (λ i. refused (a i) (b i)) ∙ sym f
  one_outcome o o' (before n c e p) (faulty m line f q h) = absurd (not_both n c p q)
  one_outcome o o' (before n c e p) (read cs q h a) = absurd (not_both n c p q)
  one_outcome o o' (faulty n line e p h) (before m d f q) = absurd (not_both m d q p)
  one_outcome o o' (faulty n line e p h) (faulty m place f q k) =
      let (a, b) = faulty_unique (claims_readable s) h k in
      e ∙ (λ i. refused (a i) (b i)) ∙ sym f
  one_outcome o o' (faulty n line e p h) (read cs q k a) = absurd (sound_or_faulty (claims_readable s) k h)
  one_outcome o o' (read cs p h a) (before m d f q) = absurd (not_both m d q p)
  one_outcome o o' (read cs p h a) (faulty m line f q k) = absurd (sound_or_faulty (claims_readable s) h k)
  one_outcome o o' (read cs p h a) (read ds q k b) =
      let same : ds ≡ cs = records_unique (claims_readable s) k h in
      one_answer (AllAnswered s cs) (all_one s cs) (claims_last room cs) o o' a
      (subst (λ (l : List Claim). Answers (claims_last room l) (AllAnswered s l) o') same b)

-- no more answers are given than there is room for
pub few_told : (s : Scene) (text : List ℕ) (room : ℕ) (o : Outcome (List Bool)) (bs : List Bool) → ClaimsOutcome s text room o → o ≡ given bs → length bs ≤ room
unfolding Answers
few_told s text room o bs (before n c e p) q = let z : ◌≡◌ {A = ℕ} 0 1 = cc in absurd (omega arith)
few_told s text room o bs (faulty n line e p f) q = let z : ◌≡◌ {A = ℕ} 0 1 = cc in absurd (omega arith)
few_told s text room o bs (read cs p h a) q =
    let given_so : Answers (claims_last room cs) (AllAnswered s cs) (given bs) = subst (Answers (claims_last room cs) (AllAnswered s cs)) q a in
    let (test, right) = is_given (AllAnswered s cs) (record { number = 7; holds = ltb room (length cs); carries = length cs }) [] bs given_so in
    omega (arith, ltb-false room (length cs) test, all_many s cs bs right)

-- two results that meet the promise are equal, and so are the buffers
pub one_claims_answer : {s : Scene} {text o a b : List ℕ} {r r' : Result ℕ Refused} → ClaimsChecked s text o a r → ClaimsChecked s text o b r'
    → (r ≡ r') × (a ≡ b)
one_claims_answer {s} {text} {o} {a} {b} {r} {r'} h k =
    let same : h.outcome ≡ k.outcome = one_outcome s text (length o) h.outcome k.outcome h.right k.right in (
      one_carrying r r' (h.says ∙ ap how_many_told same ∙ sym k.says),
      h.leaves ∙ ap (λ x. answers_left x o) same ∙ sym k.leaves,
    )
