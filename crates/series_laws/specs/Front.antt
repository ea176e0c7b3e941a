-- The log is a front of the hits, whatever follows: no later hit changes an entry, and a full log stays as it is.
use Rattle.std.specs.Prelude.{ℕ, ◌+◌, ◌-◌, ◌≤◌, ◌<◌, List, [], ◌∷◌, ◌++◌, ◌≡◌, refl, length, take, drop}
use Rattle.std.proofs.Common.{sym, ap, ◌∙◌, arith, take-append-drop, take_all, ⊎_elim}
use Rattle.std.proofs.lemmas.List.{take-append-le}
use Rattle.std.proofs.Math.Seq.{take-append-add}
use Rattle.sequences.specs.Range.{le_or_lt}
use Rattle.meaning.specs.Series.{HitAt, log_limit, log_of, first_step}

-- what the log holds stands in front of all hits
pub log_is_front : (hs : List HitAt) → (rest : List HitAt) × (hs ≡ log_of hs ++ rest)
log_is_front hs = (drop log_limit hs, sym (take-append-drop log_limit hs))

-- a full log stays
pub log_full : (hs more : List HitAt) → log_limit ≤ length hs → log_of (hs ++ more) ≡ log_of hs
log_full hs more full = take-append-le log_limit hs more full

-- one with room takes what follows behind its entries
pub log_filled : (hs more : List HitAt) → length hs ≤ log_limit → log_of (hs ++ more) ≡ log_of hs ++ take (log_limit - length hs) more
log_filled hs more few =
    let all : length hs + (log_limit - length hs) ≡ log_limit = omega arith in
    ap (λ (n : ℕ). take n (hs ++ more)) (sym all)
    ∙ take-append-add hs more (log_limit - length hs)
    ∙ ap (λ (l : List HitAt). l ++ take (log_limit - length hs) more) (sym (take_all log_limit hs few))

-- so what it held stays in front
pub log_kept : (hs more : List HitAt) → (rest : List HitAt) × (log_of (hs ++ more) ≡ log_of hs ++ rest)
log_kept hs more =
    ⊎_elim
    (λ few. (take (log_limit - length hs) more, log_filled hs more few))
    (λ full. ([], log_full hs more (omega arith) ∙ sym (nil_behind (log_of hs))))
    (le_or_lt (length hs) log_limit)
  where
    nil_behind : (l : List HitAt) → l ++ [] ≡ l
    nil_behind [] = refl
    nil_behind (h ∷ l) = ap (λ (k : List HitAt). h ∷ k) (nil_behind l)

-- the first step with a hit is that of the log's first entry, and stays where there is one
pub first_in_log : (hs : List HitAt) → first_step (log_of hs) ≡ first_step hs
unfolding first_step
first_in_log [] = refl
first_in_log (h ∷ hs) = refl

pub first_kept : (hs more : List HitAt) → 0 < length hs → first_step (hs ++ more) ≡ first_step hs
unfolding first_step
first_kept [] more some = absurd (omega arith)
first_kept (h ∷ hs) more some = refl
