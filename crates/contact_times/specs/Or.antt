-- A time, or none, by the verdict that was found.
use Rattle.std.specs.Prelude.{ℕ, ◌≡◌, refl, Bool, ℤ}
use Rattle.std.proofs.Common.{sym, ◌∙◌, arith}
use Rattle.whole.specs.Cramer.{Four}
use Rattle.meaning.specs.declared.Verdict.{Verdict}
use Rattle.meaning.specs.declared.Verdict.TheVariants.{Hit, Miss, Degenerate}
use Rattle.contact_times.specs.Sums.{CutIn, no_time, TimeOr}

miss_no_hit : {v : Verdict} → v ≡ Miss → ¬ (v ≡ Hit)
miss_no_hit e h = let z : ◌≡◌ {A = ℕ} 0 1 = cc in omega arith

degenerate_no_hit : {v : Verdict} → v ≡ Degenerate → ¬ (v ≡ Hit)
degenerate_no_hit e h = let z : ◌≡◌ {A = ℕ} 0 1 = cc in omega arith

-- r is what the call found, and w what it promised
module _ {r w : Verdict} (part whole : Four Bool) (e : Four ℤ) (is : r ≡ w) where
  was_hit : r ≡ Hit → w ≡ Hit
  was_hit h = sym is ∙ h

  pub time_hit : (n : ℕ) → r ≡ Hit → CutIn part whole e n → TimeOr w part whole e n
  time_hit n h c = record { hit = λ k. c; none = λ k. absurd (k (was_hit h)) }

  pub time_missed : r ≡ Miss → TimeOr w part whole e no_time
  time_missed h = record { hit = λ k. absurd (miss_no_hit h (is ∙ k)); none = λ k. refl }

  pub time_degenerate : r ≡ Degenerate → TimeOr w part whole e no_time
  time_degenerate h = record { hit = λ k. absurd (degenerate_no_hit h (is ∙ k)); none = λ k. refl }
