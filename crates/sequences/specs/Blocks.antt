-- Lists of one width, gathered one behind the other: the number k of the list of v stands at v times the width and k.
use Rattle.std.specs.Prelude.{List, ◌++◌, ◌≡◌, refl, ℕ, suc, ◌+◌, ◌-◌, ◌*◌, ◌<◌, length, get_or}
use Rattle.std.proofs.Common.{sym, ◌∙◌, ap, suc-mul, zero-mul, arith, length-append, get_or-append-add}
use Rattle.std.proofs.Math.ListN.{get_or-append}
use Rattle.sequences.specs.Gather.{gather, gather_none, gather_first, gather_cut}
use Rattle.sequences.specs.Range.{towards}

module _ {ℓ} {A : Type ℓ} (f : ℕ → List A) (w : ℕ) (width : (j : ℕ) → length (f j) ≡ w) where
  pub gather_wide : (i n : ℕ) → length (gather f i n) ≡ (n - i) * w
  gather_wide i n =
      towards n (λ i. length (gather f i n) ≡ (n - i) * w)
      (λ i past. let none : n - i ≡ 0 = omega arith in rw (gather_none f i n past, none) (sym (zero-mul w)))
      (λ i lt next.
      let more : n - i ≡ suc (n - (i + 1)) = omega arith in
      rw (gather_first f i n lt, more) (omega (arith, length-append (f i) (gather f (i + 1) n), width i, next, suc-mul (n - (i + 1)) w)))
      i

  pub gather_at : (n v k : ℕ) (d : A) → v < n → k < w → get_or (gather f 0 n) (v * w + k) d ≡ get_or (f v) k d
  gather_at n v k d h l =
      let long : length (gather f 0 v) ≡ v * w = gather_wide 0 v ∙ ap (λ k. k * w) (omega arith) in
      rw (gather_cut f 0 v n (omega arith) (omega arith), gather_first f v n h, ← long)
      (get_or-append-add (gather f 0 v) (f v ++ gather f (v + 1) n) k d ∙ get_or-append (f v) (gather f (v + 1) n) d k (rw (width v) l))
