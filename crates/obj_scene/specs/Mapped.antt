-- What a result was before its error was told of a file.
use Rattle.std.specs.Prelude.{Result, Ok, Err, ◌≡◌, refl, ℕ}
use Rattle.std.specs.Result.{MatchResult, IsErrAnd}
use Rattle.std.proofs.Math.Path.{ap, subst}
use Rattle.std.proofs.Common.{arith}

module _ {A E D : Type 0} (Q : E → D → Type 0) where
  pub mapped_ok : (r : Result A E) {r' : Result A D} {x : A} → MatchResult r (λ x. r' ≡ Ok x) (λ e. IsErrAnd r' (Q e)) → r' ≡ Ok x → r ≡ Ok x
  mapped_ok (Ok y) h q = ap Ok (cc)
  mapped_ok (Err e) h q = absurd (subst (λ r'. IsErrAnd r' (Q e)) q h)

  pub mapped_err : (r : Result A E) {r' : Result A D} {d : D} → MatchResult r (λ x. r' ≡ Ok x) (λ e. IsErrAnd r' (Q e)) → r' ≡ Err d
      → (e : E) × (r ≡ Err e) × Q e d
  mapped_err (Ok y) h q = let z : ◌≡◌ {A = ℕ} 0 1 = cc in absurd (omega arith)
  mapped_err (Err e) h q = (e, refl, subst (λ r'. IsErrAnd r' (Q e)) q h)
