-- 'given exactly when (and no check before it, in the order below, refuses)', once for every list of checks: an answer that is right is
-- refused with n exactly when n's condition holds and no check before it does, and gives a value exactly when none holds.
use Rattle.std.specs.Prelude.{ℕ, Bool, not, ◌&&◌, ◌↔◌}
use Rattle.std.proofs.Math.Bool.{true, false, cond, true≢false}
use mathlib.Core.List.{List, [], ◌∷◌, map, Memᴰ}
use Rattle.std.proofs.Math.Path.{◌≡◌, refl, ap}
use Rattle.std.proofs.Common.{sym, ◌∙◌, subst}
use native.Mathlib.Omega.{arith}
use Rattle.std.proofs.Math.Dec.{eqb}
use borrow.Author.Tests.{eqb-true, eq-eqb, not-true}
use Rattle.sequences.specs.Pick.{both}
use Rattle.meaning.specs.Refusals.{Outcome, given, refused, Check, Answers}
use Rattle.answers.specs.Answering.{refuses, lets_pass, is_refused, is_past, is_given}
pub use Rattle.answers.specs.Answering.{holds_or_not}

-- n's condition holds, and no check before it does
unfoldable pub Refuses : List Check → ℕ → Type 0
Refuses [] n = ⊥
Refuses (k ∷ ks) n = cond (eqb k.number n) (k.holds ≡ true) ((k.holds ≡ false) × Refuses ks n)

-- what n's refusal carries
unfoldable pub carried_by : List Check → ℕ → ℕ
carried_by [] n = 0
carried_by (k ∷ ks) n = cond (eqb k.number n) k.carries (carried_by ks n)

unfoldable pub NoneHolds : List Check → Type 0
NoneHolds [] = Unit {0}
NoneHolds (k ∷ ks) = (k.holds ≡ false) × NoneHolds ks

-- each number stands once
unfoldable pub absent : ℕ → List Check → Bool
absent n [] = true
absent n (k ∷ ks) = not (eqb k.number n) && absent n ks

unfoldable pub distinct : List Check → Bool
distinct [] = true
distinct (k ∷ ks) = absent k.number ks && distinct ks

module _ {A : Type 0} (Right : A → Type 0) where
  -- a number that no check has is never given
  pub never_given : (ks : List Check) (o : Outcome A) (n c : ℕ) → absent n ks ≡ true → Answers ks Right o → o ≡ refused n c → ⊥
  unfolding absent Answers
  never_given [] (given a) n c e p h = let z : ◌≡◌ {A = ℕ} 0 1 = cc in omega arith
  never_given [] (refused m d) n c e p h = p
  never_given (k ∷ ks) o n c e p h =
      let (other, rest) = both (not (eqb k.number n)) (absent n ks) e in
      holds_or_not k.holds
      (λ t.
      let q = is_refused Right k ks o t p in
      let s : k.number ≡ n = cc in
      true≢false (sym (eq-eqb k.number n s) ∙ not-true (eqb k.number n) other))
      (λ t. never_given ks o n c rest (is_past Right k ks o t p) h)

  -- refused with n exactly when the table says so
  pub refused_exactly : (ks : List Check) (o : Outcome A) → distinct ks ≡ true → Answers ks Right o
      → (n : ℕ) → (o ≡ refused n (carried_by ks n)) ↔ Refuses ks n
  unfolding Answers Refuses carried_by distinct
  refused_exactly [] (given a) d p n = (λ e. let z : ◌≡◌ {A = ℕ} 0 1 = cc in omega arith, λ h. absurd h)
  refused_exactly [] (refused m c) d p n = absurd p
  refused_exactly (k ∷ ks) o d p n =
      let (once, more) = both (absent k.number ks) (distinct ks) d in
      go (eqb k.number n) refl k.holds refl once (λ q. refused_exactly ks o more q n)
    where
      go : (same : Bool) → eqb k.number n ≡ same → (t : Bool) → k.holds ≡ t → absent k.number ks ≡ true
          → (Answers ks Right o → (o ≡ refused n (carried_by ks n)) ↔ Refuses ks n)
          → (o ≡ refused n (cond same k.carries (carried_by ks n))) ↔ cond same (k.holds ≡ true) ((k.holds ≡ false) × Refuses ks n)
      go true e true t once rest = (λ h. t, λ h. is_refused Right k ks o t p ∙ ap (λ m. refused m k.carries) (eqb-true k.number n e))
      go true e false t once rest = (
        λ h. absurd (never_given ks o k.number k.carries once (is_past Right k ks o t p) (h ∙ ap (λ m. refused m k.carries) (sym (eqb-true k.number n e)))),
        λ h. absurd (true≢false (sym h ∙ t)),
      )
      go false e true t once rest = (
        λ h.
            let q = is_refused Right k ks o t p in
            let s : k.number ≡ n = cc in
            absurd (true≢false (sym (eq-eqb k.number n s) ∙ e)),
        λ h. absurd (true≢false (sym t ∙ h.0)),
      )
      go false e false t once rest =
          let q = rest (is_past Right k ks o t p) in
          (λ h. (t, q.0 h), λ h. q.1 h.1)

  -- and then with what the table says that it carries
  pub carries_only : (ks : List Check) (o : Outcome A) → distinct ks ≡ true → Answers ks Right o → (n c : ℕ) → o ≡ refused n c → c ≡ carried_by ks n
  unfolding Answers carried_by distinct
  carries_only [] (given a) d p n c h = cc
  carries_only [] (refused m e) d p n c h = absurd p
  carries_only (k ∷ ks) o d p n c h =
      let (once, more) = both (absent k.number ks) (distinct ks) d in
      holds_or_not k.holds
      (λ t.
      let q = is_refused Right k ks o t p in
      let s : k.number ≡ n = cc in
      let v : c ≡ k.carries = cc in
      rw (eq-eqb k.number n s) v)
      (λ t.
      let q = is_past Right k ks o t p in
      holds_or_not (eqb k.number n)
      (λ e. let s : k.number ≡ n = eqb-true k.number n e in absurd (never_given ks o k.number c once q (cc)))
      (λ e. rw e (carries_only ks o more q n c h)))

  -- the number is one of the table's
  pub number_known : (ks : List Check) (o : Outcome A) → Answers ks Right o → (n c : ℕ) → o ≡ refused n c → Memᴰ n (map (λ k. k.number) ks)
  unfolding Answers
  number_known [] (given a) p n c h = let z : ◌≡◌ {A = ℕ} 0 1 = cc in absurd (omega arith)
  number_known [] (refused m e) p n c h = absurd p
  number_known (k ∷ ks) o p n c h =
      holds_or_not k.holds
      (λ t. let q = is_refused Right k ks o t p in Memᴰ.head (cc))
      (λ t. Memᴰ.tail (number_known ks o (is_past Right k ks o t p) n c h))

  -- a value is given exactly when no check holds, and it is right
  pub given_exactly : (ks : List Check) (o : Outcome A) → Answers ks Right o → ((a : A) × (o ≡ given a)) ↔ NoneHolds ks
  unfolding Answers NoneHolds
  given_exactly [] (given a) p = (λ h. tt, λ h. (a, refl))
  given_exactly [] (refused m e) p = absurd p
  given_exactly (k ∷ ks) o p =
      holds_or_not k.holds
      (λ t. (
        λ h. let q = is_refused Right k ks o t p in let e = h.1 in let z : ◌≡◌ {A = ℕ} 0 1 = cc in absurd (omega arith),
        λ h. absurd (true≢false (sym t ∙ h.0)),
      ))
      (λ t. let q = given_exactly ks o (is_past Right k ks o t p) in (λ h. (t, q.0 h), λ h. q.1 h.1))

  pub given_right : (ks : List Check) (a : A) → Answers ks Right (given a) → Right a
  unfolding Answers
  given_right [] a p = p
  given_right (k ∷ ks) a p = given_right ks a (is_given Right k ks a p).1

  -- so, where what is right is one value, that value is given exactly when no check holds
  pub gives_exactly : ((a b : A) → Right a → Right b → a ≡ b) → (ks : List Check) (o : Outcome A) → Answers ks Right o → (a : A) → (o ≡ given a) ↔ (NoneHolds ks × Right a)
  gives_exactly one ks o p a = (
    λ e. ((given_exactly ks o p).0 (a, e), given_right ks a (subst (Answers ks Right) e p)),
    λ h.
        let (b, e) = (given_exactly ks o p).1 h.0 in
        e ∙ ap given (one b a (given_right ks b (subst (Answers ks Right) e p)) h.1),
  )

  -- and where the table says so, that refusal is right
  pub refuses_answers : (ks : List Check) (n : ℕ) → Refuses ks n → Answers ks Right (refused n (carried_by ks n))
  unfolding Refuses carried_by
  refuses_answers [] n h = absurd h
  refuses_answers (k ∷ ks) n h = go (eqb k.number n) refl h (refuses_answers ks n)
    where
      go : (same : Bool) → eqb k.number n ≡ same → cond same (k.holds ≡ true) ((k.holds ≡ false) × Refuses ks n)
          → (Refuses ks n → Answers ks Right (refused n (carried_by ks n)))
          → Answers (k ∷ ks) Right (refused n (cond same k.carries (carried_by ks n)))
      go true e t rest = refuses Right k ks _ t (ap (λ m. refused m k.carries) (sym (eqb-true k.number n e)))
      go false e (t, h) rest = lets_pass Right k ks _ t (rest h)
