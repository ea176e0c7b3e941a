-- Two lists of checks one behind the other, where a number may stand in both: it is given exactly where the first list gives it, or where no
-- check of the first holds and the second gives it.
use Rattle.std.specs.Prelude.{ℕ, Bool, true, false, List, [], ◌∷◌, ◌++◌, ◌↔◌, ◌⊎◌, ◌≡◌, refl}
use Rattle.std.proofs.Common.{true≢false, inl, inr, ⊎_elim, sym, ◌∙◌, ap}
use Rattle.meaning.specs.Refusals.{Outcome, given, refused, Check, Answers}
use Rattle.answers.specs.Answering.{refuses, lets_pass, is_refused, is_past}
use Rattle.answers.specs.Deciding.{Refuses, carried_by, NoneHolds, distinct, holds_or_not, refused_exactly, given_exactly, refuses_answers}

-- no value is right: the checks refuse
abbrev pub Never : {A : Type 0} → A → Type 0
Never a = ⊥

-- the first list refuses, or none of it holds and the second answers
pub in_two : {A : Type 0} (Right : A → Type 0) (ks more : List Check) (o : Outcome A) → Answers (ks ++ more) Right o
    → Answers ks Never o ⊎ (NoneHolds ks × Answers more Right o)
unfolding NoneHolds
in_two Right [] more o p = inr (tt, p)
in_two Right (k ∷ ks) more o p =
    holds_or_not k.holds
    (λ h. inl (refuses Never k ks o h (is_refused Right k (ks ++ more) o h p)))
    (λ h.
    ⊎_elim (λ q. inl (lets_pass Never k ks o h q)) (λ q. inr ((h, q.0), q.1))
    (in_two Right ks more o (is_past Right k (ks ++ more) o h p)))

-- where none holds, nothing refuses
none_refuses : {A : Type 0} (ks : List Check) (o : Outcome A) → NoneHolds ks → Answers ks Never o → ⊥
unfolding NoneHolds Answers
none_refuses [] (given a) h p = p
none_refuses [] (refused n c) h p = p
none_refuses (k ∷ ks) o h p = none_refuses ks o h.1 (is_past Never k ks o h.0 p)

refuses_some : (ks : List Check) (n : ℕ) → Refuses ks n → NoneHolds ks → ⊥
refuses_some ks n h none = none_refuses {A = Unit {0}} ks (refused n (carried_by ks n)) none (refuses_answers Never ks n h)

-- each number, where what it carries is 0
pub two_rows : {A : Type 0} (Right : A → Type 0) (ks more : List Check) (o : Outcome A) → distinct ks ≡ true → distinct more ≡ true
    → Answers (ks ++ more) Right o → (n : ℕ) → carried_by ks n ≡ 0 → carried_by more n ≡ 0
    → (o ≡ refused n 0) ↔ (Refuses ks n ⊎ (NoneHolds ks × Refuses more n))
two_rows Right ks more o d f p n e g = ⊎_elim refusing passing (in_two Right ks more o p)
  where
    refusing : Answers ks Never o → (o ≡ refused n 0) ↔ (Refuses ks n ⊎ (NoneHolds ks × Refuses more n))
    refusing q =
        let row : (o ≡ refused n 0) ↔ Refuses ks n = rw e at (refused_exactly Never ks o d q n) in
        (λ h. inl (row.0 h), λ h. ⊎_elim row.1 (λ t. absurd (none_refuses ks o t.0 q)) h)

    passing : NoneHolds ks × Answers more Right o → (o ≡ refused n 0) ↔ (Refuses ks n ⊎ (NoneHolds ks × Refuses more n))
    passing (none, q) =
        let row : (o ≡ refused n 0) ↔ Refuses more n = rw g at (refused_exactly Right more o f q n) in
        (λ h. inr (none, row.0 h), λ h. ⊎_elim (λ t. absurd (refuses_some ks n t none)) (λ t. row.1 t.1) h)
