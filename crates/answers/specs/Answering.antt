-- How an answer is shown right, check by check, and that only one is.
use Rattle.std.specs.Prelude.{ℕ, Bool, true, false, refl}
use mathlib.Core.List.{List, [], ◌∷◌, ◌++◌}
use Rattle.std.proofs.Math.Path.{◌≡◌}
use Rattle.std.proofs.Common.{sym, ◌∙◌, ap, arith}
use Rattle.meaning.specs.Refusals.{Check, Outcome, given, refused, Answers}

-- the checks that are left decide
module _ {A : Type 0} (Right : A → Type 0) (k : Check) (ks : List Check) (o : Outcome A) where
  pub refuses : k.holds ≡ true → o ≡ refused k.number k.carries → Answers (k ∷ ks) Right o
  unfolding Answers
  refuses h e = rw h e

  pub lets_pass : k.holds ≡ false → Answers ks Right o → Answers (k ∷ ks) Right o
  unfolding Answers
  lets_pass h a = rw h a

  pub is_refused : k.holds ≡ true → Answers (k ∷ ks) Right o → o ≡ refused k.number k.carries
  unfolding Answers
  is_refused h a = rw h at a

  pub is_past : k.holds ≡ false → Answers (k ∷ ks) Right o → Answers ks Right o
  unfolding Answers
  is_past h a = rw h at a

pub gives : {A : Type 0} (Right : A → Type 0) (a : A) → Right a → Answers [] Right (given a)
unfolding Answers
gives Right a h = h

-- a check holds or does not
pub holds_or_not : (b : Bool) {P : Type 0} → (b ≡ true → P) → (b ≡ false → P) → P
holds_or_not true t f = t refl
holds_or_not false t f = f refl

-- a value is given only where the check does not hold
pub is_given : {A : Type 0} (Right : A → Type 0) (k : Check) (ks : List Check) (a : A) → Answers (k ∷ ks) Right (given a) → (k.holds ≡ false) × Answers ks Right (given a)
is_given Right k ks a p =
    holds_or_not k.holds
    (λ h. let e = is_refused Right k ks (given a) h p in let z : ◌≡◌ {A = ℕ} 0 1 = cc in absurd (omega arith))
    (λ h. (h, is_past Right k ks (given a) h p))

module _ {A B : Type 0} (R : A → Type 0) (S : B → Type 0) where
  -- a refusal stands, whatever checks come after it
  pub refused_before : (ks more : List Check) (n c : ℕ) → Answers ks R (refused n c) → Answers (ks ++ more) S (refused n c)
  unfolding Answers
  refused_before [] more n c a = absurd a
  refused_before (k ∷ ks) more n c a =
      holds_or_not k.holds
      (λ h. refuses S k (ks ++ more) (refused n c) h (let e : ◌≡◌ {A = Outcome A} (refused n c) (refused k.number k.carries) = is_refused R k ks (refused n c) h a in cc))
      (λ h. lets_pass S k (ks ++ more) (refused n c) h (refused_before ks more n c (is_past R k ks (refused n c) h a)))

  -- where the first checks give a value, those after them decide
  pub given_before : (ks more : List Check) (a : A) (o : Outcome B) → Answers ks R (given a) → Answers more S o → Answers (ks ++ more) S o
  given_before [] more a o p q = q
  given_before (k ∷ ks) more a o p q =
      let (h, rest) = is_given R k ks a p in
      lets_pass S k (ks ++ more) o h (given_before ks more a o rest q)

  -- and nothing else does
  pub given_after : (ks more : List Check) (a : A) (o : Outcome B) → Answers ks R (given a) → Answers (ks ++ more) S o → Answers more S o
  given_after [] more a o p q = q
  given_after (k ∷ ks) more a o p q =
      let (h, rest) = is_given R k ks a p in
      given_after ks more a o rest (is_past S k (ks ++ more) o h q)

-- what follows from a right value may stand in its place
pub answers_also : {A : Type 0} (R S : A → Type 0) → ((a : A) → R a → S a) → (ks : List Check) (o : Outcome A) → Answers ks R o → Answers ks S o
unfolding Answers
answers_also R S f [] (given a) p = f a p
answers_also R S f [] (refused n c) p = absurd p
answers_also R S f (k ∷ ks) o p =
    holds_or_not k.holds
    (λ h. refuses S k ks o h (is_refused R k ks o h p))
    (λ h. lets_pass S k ks o h (answers_also R S f ks o (is_past R k ks o h p)))

-- two right answers are one, where what is right determines its value
pub one_answer : {A : Type 0} (Right : A → Type 0) → ((a b : A) → Right a → Right b → a ≡ b) → (ks : List Check) (o o' : Outcome A) → Answers ks Right o → Answers ks Right o' → o ≡ o'
unfolding Answers
one_answer Right one [] (given a) (given b) p q = ap given (one a b p q)
one_answer Right one [] (given a) (refused n c) p q = absurd q
one_answer Right one [] (refused n c) (given b) p q = absurd p
one_answer Right one [] (refused n c) (refused m d) p q = absurd p
one_answer Right one (k ∷ ks) o o' p q =
    holds_or_not k.holds
    (λ h. is_refused Right k ks o h p ∙ sym (is_refused Right k ks o' h q))
    (λ h. one_answer Right one ks o o' (is_past Right k ks o h p) (is_past Right k ks o' h q))
