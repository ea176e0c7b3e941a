-- Time and shares of a piece that touches are one number each.
use Rattle.std.specs.Prelude.{ℕ, ◌+◌, ◌*◌, ◌≤◌, ◌<◌, ◌≡◌, Bool, ℤ, pos, nat_abs, ◌*ℤ◌, ◌≤ℤ◌, ◌<ℤ◌}
use Rattle.std.proofs.Common.{sym, subst, lt_of_mul-lt-mul_right, arith}
use Rattle.whole.specs.Order.{ord, lt_parts}
use Rattle.cutting.specs.Cut.{unit}
use Rattle.meaning.specs.Pieces.{Piece}
use Rattle.meaning.specs.Equations.{Touches, total, one}
use Rattle.meaning.specs.Contacts.{Cut, weights, TimeIs, FirstShareIs, SecondShareIs}
use Rattle.contact_laws.specs.Cuts.{whole_number, not_below_lem}

-- below the next multiple is at most the same
at_most : (w m n : ℕ) (part : ℤ) → Cut part (pos w) m → Cut part (pos w) n → m ≤ n
at_most w m n part p q =
    let h : (pos (m * w)) <ℤ (pos ((n + 1) * w)) = omega (arith, ord, p.not_above, q.short) in
    let k : m * w + 0 < (n + 1) * w + 0 = lt_parts h in
    let j : m * w < (n + 1) * w = omega arith in
    let i : m < n + 1 = lt_of_mul-lt-mul_right w j in
    omega arith

pub cut_number : (part whole : ℤ) (m n : ℕ) → pos 0 <ℤ whole → Cut part whole m → Cut part whole n → m ≡ n
cut_number part whole m n h p q =
    let w : ℕ = nat_abs whole in
    let p' : Cut part (pos w) m = subst (λ (x : ℤ). Cut part x m) (whole_number whole (not_below_lem whole h)) p in
    let q' : Cut part (pos w) n = subst (λ (x : ℤ). Cut part x n) (whole_number whole (not_below_lem whole h)) q in
    let a : m ≤ n = at_most w m n part p' q' in
    let b : n ≤ m = at_most w n m part q' p' in
    omega arith

module _ (p : Piece) (t : Touches p) (m n : ℕ) where
  pub one_time : TimeIs p m → TimeIs p n → m ≡ n
  one_time h k = cut_number _ (total one (weights t.u) p.first) m n t.some (h t) (k t)

  pub one_first_share : (counts : ℕ → Bool) → FirstShareIs p counts m → FirstShareIs p counts n → m ≡ n
  one_first_share counts h k = cut_number _ (total one (weights t.u) p.first) m n t.some (h t) (k t)

  pub one_second_share : (counts : ℕ → Bool) → SecondShareIs p counts m → SecondShareIs p counts n → m ≡ n
  one_second_share counts h k =
      cut_number _ (total one (weights t.v) p.second) m n (subst (λ (x : ℤ). pos 0 <ℤ x) t.balanced.sums t.some) (h t) (k t)
