-- The answer to saving as a number: a length that is told is that of a text of at most 32,768 bytes, and so is one that is needed.
use Rattle.std.specs.Prelude.{ℕ, ◌≤◌, ◌<◌, false, ◌≡◌, refl, Result}
use mathlib.Core.List.{List, [], ◌∷◌, ◌++◌}
use Rattle.std.proofs.Common.{sym, ap, ◌∙◌, arith, ltb-false}
use Rattle.std.proofs.Math.Dec.{ltb}
use Rattle.std.proofs.Math.ListN.{length}
use Rattle.meaning.specs.Limits.{text_limit}
use Rattle.meaning.specs.Scene.{Scene}
use Rattle.meaning.specs.Refusals.{Outcome, given, refused, Check, Answers, outcome_of}
use Rattle.answers.specs.Answering.{is_refused, is_past}
use Rattle.meaning.specs.Saved.{saved_text, saved_checks, Measured, Saved}
use Rattle.saved_scene.specs.OneSave.{one_measured, one_saved}
use Rattle.answers.specs.Deciding.{holds_or_not}
use Rattle.meaning.specs.Numbers.{upper, saved_number, Numbered}
use Rattle.c_numbers.specs.Small.{told_in}
use Rattle.c_numbers.specs.Back.{heard, count, list_heard}
use Rattle.meaning.specs.declared.Refused.{Refused}

module _ (s : Scene) where
  IsLength : ℕ → Type 0
  IsLength n = n ≡ length (saved_text s)

  nothing_carried : {o : Outcome ℕ} {n : ℕ} → o ≡ refused n 0 → told_in o < upper
  unfolding told_in
  nothing_carried e = rw e (omega arith)

  -- where neither the scene's checks nor 8 refuse, those after them decide
  small_after : (more : List Check) (o : Outcome ℕ) → (length (saved_text s) ≤ text_limit → Answers more IsLength o → told_in o < upper)
      → Answers (saved_checks s ++ more) IsLength o → told_in o < upper
  small_after more o then p =
      step _ _ p (λ e. nothing_carried e) (λ h1 p1.
      step _ _ p1 (λ e. nothing_carried e) (λ h2 p2.
      step _ _ p2 (λ e. nothing_carried e) (λ h3 p3.
      step _ _ p3 (λ e. nothing_carried e) (λ h4 p4.
      step _ _ p4 (λ e. nothing_carried e) (λ h5 p5.
      step _ _ p5 (λ e. nothing_carried e) (λ h6 p6. then (ltb-false text_limit (length (saved_text s)) h6) p6))))))
    where
      step : (k : Check) (ks : List Check) → Answers (k ∷ ks) IsLength o → (o ≡ refused k.number k.carries → told_in o < upper)
          → (k.holds ≡ false → Answers ks IsLength o → told_in o < upper)
          → told_in o < upper
      step k ks q f g =
          holds_or_not k.holds (λ h. f (is_refused IsLength k ks o h q)) (λ h. g h (is_past IsLength k ks o h q))

  right : (o : Outcome ℕ) → length (saved_text s) ≤ text_limit → Answers [] IsLength o → told_in o < upper
  unfolding Answers told_in IsLength
  right (given n) h p = omega (arith, p)
  right (refused n c) h p = absurd p

  after_room : (o : Outcome ℕ) (room : ℕ) → length (saved_text s) ≤ text_limit
      → Answers (record { number = 7; holds = ltb room (length (saved_text s)); carries = length (saved_text s) } ∷ []) IsLength o
      → told_in o < upper
  unfolding told_in
  after_room o room h p =
      holds_or_not (ltb room (length (saved_text s)))
      (λ t. rw (is_refused IsLength full [] o t p) (omega arith))
      (λ t. right o h (is_past IsLength full [] o t p))
    where
      full : Check
      full = record { number = 7; holds = ltb room (length (saved_text s)); carries = length (saved_text s) }

pub measured_small : (s : Scene) (r : Result ℕ Refused) → Measured s r → told_in (outcome_of r) < upper
unfolding IsLength
measured_small s r m = small_after s [] (outcome_of r) (λ h p. right s (outcome_of r) h p) m

pub saved_small : {s : Scene} {o o' : List ℕ} {r : Result ℕ Refused} → Saved s o o' r → told_in (outcome_of r) < upper
unfolding IsLength
saved_small {s} {o} {o'} {r} m = small_after s _ (outcome_of r) (λ h p. after_room s (outcome_of r) (length o) h p) m.answer

-- two numbers that are told are one, and so are the buffers
pub one_measured_told : (s : Scene) (m n : ℕ) → Numbered saved_number (Measured s) m → Numbered saved_number (Measured s) n → m ≡ n
one_measured_told s m n p q = p.is ∙ ap saved_number (one_measured s p.answer q.answer p.right q.right) ∙ sym q.is

pub one_saved_told : {s : Scene} {o a b : List ℕ} {m n : ℕ} → Numbered saved_number (Saved s o a) m → Numbered saved_number (Saved s o b) n → (m ≡ n) × (a ≡ b)
one_saved_told p q =
    let (same, buffers) = one_saved p.right q.right in
    (p.is ∙ ap saved_number same ∙ sym q.is, buffers)

-- what is heard in the number is what the answer says
pub saved_heard : (a : Result ℕ Refused) → told_in (outcome_of a) < upper → heard count (saved_number a) ≡ outcome_of a
saved_heard a h = list_heard a h
