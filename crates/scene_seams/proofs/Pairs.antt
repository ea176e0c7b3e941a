-- A list that is taken two numbers at a time: the next two, after k pairs.
use Rattle.std.proofs.Common.{ℕ, ◌+◌, ◌*◌, ◌-◌, ◌/◌, ◌<◌, List, ◌∷◌, ◌++◌, ◌≡◌, length, length-append, get_or, drop, sym, ◌∙◌, ap, arith}
use Rattle.std.proofs.Math.ListN.{get_or-append}
use Rattle.std.proofs.lemmas.List.{drop_at, drop_more, get_or-drop, length-drop}

pub record NextPair (list pair rest : List ℕ) (k : ℕ) : Type 0 where
  pub there : k < length list / 2
  pub first : get_or pair 0 0 ≡ get_or list (2 * k) 0
  pub second : get_or pair 1 0 ≡ get_or list (2 * k + 1) 0
  pub left : rest ≡ drop (2 * (k + 1)) list

pub next_pair : {list before pair rest : List ℕ} {k : ℕ} → before ≡ drop (2 * k) list → before ≡ pair ++ rest → length pair ≡ 2
    → NextPair list pair rest k
next_pair {list} {before} {pair} {rest} {k} at splits two =
    let same : pair ++ rest ≡ drop (2 * k) list = sym splits ∙ at in
    let long : 2 + length rest ≡ length list - 2 * k = omega (arith, length-append pair rest, length-drop (2 * k) list, ap length same) in
    record {
      there = omega arith;
      first = number 0 (omega arith) ∙ ap (λ n. get_or list n 0) (omega arith);
      second = number 1 (omega arith);
      left = sym (drop_at pair rest 2 two) ∙ ap (drop 2) (same ∙ two_more (omega arith)) ∙ ap (λ n. drop n list) (omega arith);
    }
  where
    number : (n : ℕ) → n < 2 → get_or pair n 0 ≡ get_or list (2 * k + n) 0
    number n h =
        sym (get_or-append pair rest 0 n (omega (arith, two))) ∙ ap (λ (l : List ℕ). get_or l n 0) (sym splits ∙ at) ∙ get_or-drop (2 * k) list n 0

    two_more : 2 * k + 1 < length list → drop (2 * k) list ≡ get_or list (2 * k) 0 ∷ get_or list (2 * k + 1) 0 ∷ drop (2 * k + 1 + 1) list
    two_more h =
        drop_more list (2 * k) 0 (omega arith) ∙ ap (λ (l : List ℕ). get_or list (2 * k) 0 ∷ l) (drop_more list (2 * k + 1) 0 h)
