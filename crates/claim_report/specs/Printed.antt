-- What is printed for an outcome, and how the lines come from the bytes of the answers.
use Rattle.std.specs.Prelude.{ℕ, ◌+◌, ◌*◌, ◌≤◌, ◌<◌, Bool, true, refl, eqb, length, drop, Err, Ok, Result}
use Rattle.std.proofs.Math.Bool.{false}
use Rattle.std.proofs.Common.{true≢false, sym, ◌∙◌, zero-add, arith, ltb-true, ltb-false, drop_of_length-le}
use mathlib.Core.List.{List, ◌++◌, map}
use Rattle.std.proofs.Math.Path.{◌≡◌, ap, subst}
use Rattle.std.proofs.Math.Nat.{sub-zero}
use Rattle.std.proofs.Math.ListN.{get_or, length-map, get_or-map}
use Rattle.sequences.specs.Range.{towards}
use Rattle.sequences.specs.Gather.{gather, gather_none, gather_first, gather_short}
use Rattle.sequences.specs.Flat.{flat_cons, flat_nil}
use Rattle.sequences.specs.Parts.{drop_next}
use Rattle.sequences.specs.Wrote.{Wrote, written, wrote_front, written_in_front, written_length}
use Rattle.meaning.specs.Limits.{claim_room, text_limit}
use Rattle.meaning.specs.Scene.{Scene}
use Rattle.meaning.specs.Refusals.{Outcome, given, refused, number_of, carrying, outcome_of}
use Rattle.meaning.specs.Text.{Holds, TextIs, TextRead, short_buffer}
use Rattle.meaning.specs.Report.{refused_line}
use Rattle.meaning.specs.Claims.{ClaimsOutcome, how_many_told, answer_byte, answers_left, ClaimsChecked, answer_line, answer_lines, AnswersOf, no_scene, refused_claims, answered, AnswersReported}
use Rattle.meaning.specs.declared.Refusal.{Refusal}
use Rattle.text_scene.specs.Using.{Came, by_buffers, by_length, by_lines, read_refusal_of}
use Rattle.report_words.specs.Lines.{wrote_as}
use Rattle.claim_answers.specs.Checking.{few_told}
use Rattle.meaning.specs.declared.Refused.{Refused}
use Rattle.meaning.specs.declared.SceneCounts.{SceneCounts}

abbrev pub answers_length : ℕ
answers_length = 4 * claim_room

-- the line of the k-th answer
abbrev pub line_at : List ℕ → ℕ → List ℕ
line_at l k = answer_line (eqb (get_or l k 0) 1)

pub line_short : (b : Bool) → length (answer_line b) ≤ 4
unfolding answer_line
line_short true = omega arith
line_short false = omega arith

pub lines_short : (l : List ℕ) (n : ℕ) → length (gather (line_at l) 0 n) ≤ n * 4
lines_short l n = rw (sub-zero n) at (gather_short (line_at l) 4 0 n (λ j p q. line_short (eqb (get_or l j 0) 1)))

-- ---- bytes that stand for answers

byte_told : (b : Bool) → eqb (answer_byte b) 1 ≡ b
unfolding answer_byte
byte_told true = refl
byte_told false = refl

lines_are : (bs : List Bool) (f : ℕ → List ℕ) → ((k : ℕ) → k < length bs → f k ≡ answer_line (get_or bs k false))
    → (i : ℕ) → gather f i (length bs) ≡ answer_lines (drop i bs)
lines_are bs f same i =
    towards (length bs) (λ i. gather f i (length bs) ≡ answer_lines (drop i bs))
    (λ i past.
    gather_none f i (length bs) past ∙ sym (ap answer_lines (drop_of_length-le bs past) ∙ flat_nil answer_line))
    (λ i lt next.
    gather_first f i (length bs) lt
    ∙ (λ t. same i lt t ++ next t)
    ∙ sym (ap answer_lines (drop_next bs i false lt) ∙ flat_cons answer_line (get_or bs i false) (drop (i + 1) bs)))
    i

module _ (bs : List Bool) (o : List ℕ) {l : List ℕ} (e : l ≡ written (map answer_byte bs) o) where
  byte_at : (k : ℕ) → k < length bs → line_at l k ≡ answer_line (get_or bs k false)
  unfolding answer_byte
  byte_at k h =
      let there : get_or l k 0 ≡ get_or (map answer_byte bs) k 0 =
      ap (λ (m : List ℕ). get_or m k 0) e ∙ written_in_front (map answer_byte bs) o k 0 (omega (arith, length-map bs answer_byte)) in
      let byte : get_or (map answer_byte bs) k 0 ≡ answer_byte (get_or bs k false) = get_or-map answer_byte bs k false in
      ap (λ (n : ℕ). answer_line (eqb n 1)) (there ∙ byte) ∙ ap answer_line (byte_told (get_or bs k false))

  pub lines_stand : gather (line_at l) 0 (length bs) ≡ answer_lines bs
  lines_stand = lines_are bs (line_at l) byte_at 0

-- ---- what is printed for an outcome

unfoldable pub printed_for : Outcome (List Bool) → List ℕ
printed_for (given bs) = answer_lines bs
printed_for (refused n c) = refused_line n c

-- the answers to claims beside a scene were written to the front of a buffer
pub record SceneAnswered (s : Scene) (text o o' : List ℕ) (n : ℕ) : Type 0 where
  pub outcome : Outcome (List Bool)
  pub right : ClaimsOutcome s text claim_room outcome
  pub wrote : Wrote o 0 (printed_for outcome) o' n

-- ---- from the call

-- the answers that were given, and their bytes
record Gave (s : Scene) (text a a' : List ℕ) (count : ℕ) : Type 0 where
  told : List Bool
  right : ClaimsOutcome s text (length a) (given told)
  many : count ≡ length told
  bytes : a' ≡ written (map answer_byte told) a

module _ {s : Scene} {text a a' : List ℕ} {r : Result ℕ Refused} (h : ClaimsChecked s text a a' r) where
  gave : {count : ℕ} → r ≡ Ok count → Gave s text a a' count
  unfolding outcome_of how_many_told answers_left
  gave {count} e = by h.outcome h.right (ap outcome_of (sym e) ∙ h.says) h.leaves
    where
      by : (o : Outcome (List Bool)) → ClaimsOutcome s text (length a) o → given count ≡ how_many_told o → a' ≡ answers_left o a → Gave s text a a' count
      by (given bs) right says leaves = record { told = bs; right = right; many = cc; bytes = leaves }
      by (refused n c) right says leaves = let z : ◌≡◌ {A = ℕ} 0 1 = cc in absurd (omega arith)

  pub few_given : {count : ℕ} → r ≡ Ok count → (count ≤ length a) × (count ≤ length a')
  few_given {count} e =
      let g : Gave s text a a' count = gave e in
      let few : length g.told ≤ length a = few_told s text (length a) (given g.told) g.told g.right refl in (
        omega (arith, g.many),
        omega (arith, g.many, ap length g.bytes, written_length (map answer_byte g.told) a (omega (arith, length-map g.told answer_byte))),
      )

  pub answers_written : length a ≡ claim_room → {count : ℕ} → r ≡ Ok count → {o o' : List ℕ} {n : ℕ}
      → Wrote o 0 (gather (line_at a') 0 count) o' n → SceneAnswered s text o o' n
  unfolding printed_for
  answers_written room {count} e w =
      let g : Gave s text a a' count = gave e in
      record {
        outcome = given g.told;
        right = subst (λ (k : ℕ). ClaimsOutcome s text k (given g.told)) room g.right;
        wrote = wrote_as (ap (λ (k : ℕ). gather (line_at a') 0 k) g.many ∙ lines_stand g.told a g.bytes) w;
      }

  pub refusal_written : length a ≡ claim_room → {x : Refusal} {c : ℕ} → r ≡ Err (carrying x c) → {o o' : List ℕ} {n : ℕ}
      → Wrote o 0 (refused_line (number_of x) c) o' n → SceneAnswered s text o o' n
  unfolding printed_for outcome_of how_many_told
  refusal_written room {x} {c} e {o} {o'} {n} w = by h.outcome h.right (ap outcome_of (sym e) ∙ h.says)
    where
      by : (q : Outcome (List Bool)) → ClaimsOutcome s text (length a) q → refused (number_of x) c ≡ how_many_told q → SceneAnswered s text o o' n
      by (given bs) right says = let z : ◌≡◌ {A = ℕ} 0 1 = cc in absurd (omega arith)
      by (refused m d) right says =
          let number : m ≡ number_of x = cc in
          let carried : d ≡ c = cc in
          record {
            outcome = refused m d;
            right = subst (λ (k : ℕ). ClaimsOutcome s text k (refused m d)) room right;
            wrote = wrote_as (λ i. refused_line (sym number i) (sym carried i)) w;
          }

-- ---- from a scene's answers to a text's

pub scene_to_text : {scene_text text o o' : List ℕ} {n : ℕ} (s : Scene) → length scene_text ≤ text_limit → Holds scene_text s → SceneAnswered s text o o' n
    → AnswersReported scene_text text o o' n
unfolding printed_for
scene_to_text {scene_text} {text} {o} {o'} {n} s short holds w =
    record {
      report = printed_for w.outcome;
      right = as_text w.outcome w.right;
      length_is = w.wrote.place ∙ zero-add (length (printed_for w.outcome));
      buffer = wrote_front w.wrote;
    }
  where
    as_text : (q : Outcome (List Bool)) → ClaimsOutcome s text claim_room q → AnswersOf scene_text text (printed_for q)
    as_text (given bs) h = answered s bs short holds h
    as_text (refused m c) h = refused_claims s m c short holds h

-- a scene's text that is refused
pub refused_scene : {scene_text : List ℕ} (text : List ℕ) {lent left : Scene} {r : Result SceneCounts Refused} {x : Refusal} {line : ℕ} {o o' : List ℕ} {n : ℕ}
    → short_buffer lent ≡ false → TextRead scene_text lent left r → r ≡ Err (carrying x line)
    → Wrote o 0 (refused_line (number_of x) line) o' n → AnswersReported scene_text text o o' n
unfolding TextIs
refused_scene {scene_text} text {lent} {left} {r} {x} {line} {o} {o'} {n} fits a e w =
    record {
      report = refused_line (number_of x) line;
      right = by_way (read_refusal_of (subst (TextRead scene_text lent left) e a)).1;
      length_is = w.place ∙ zero-add (length (refused_line (number_of x) line));
      buffer = wrote_front w;
    }
  where
    by_way : Came scene_text lent (refused (number_of x) line) → AnswersOf scene_text text (refused_line (number_of x) line)
    by_way (by_buffers e p) = let z : ◌≡◌ {A = Bool} true false = sym e ∙ fits in absurd (true≢false z)
    by_way (by_length e d p) =
        let number : number_of x ≡ 8 = cc in
        let none : line ≡ 0 = cc in
        rw (number, none) (AnswersOf.too_long (ltb-true text_limit (length scene_text) d))
    by_way (by_lines e d f) = no_scene (number_of x) line (ltb-false text_limit (length scene_text) d) f
