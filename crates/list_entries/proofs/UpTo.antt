-- Of `UpTo`: what rests on its definitions.
use Rattle.std.specs.Prelude.{ℕ, suc, ◌+◌, ◌≤◌, Bool, true, false, List, [], ◌∷◌, ◌++◌, ◌≡◌, refl, ltb, length, set}
use Rattle.std.proofs.Common.{sym, ap, ◌∙◌, arith, length-append, length-set, lt-ltb}
use Rattle.sequences.specs.Gather.{gather, gather_cut, gather_last}
use Rattle.sequences.specs.Mapped.{map_append}
use Rattle.sequences.specs.Pick.{pick}
use Rattle.sequences.specs.Wrote.{Wrote, wrote_none, wrote_one, wrote_then}
use Rattle.meaning.specs.List.{Pair, number, entries}
use Rattle.list_entries.specs.Entries.{entries_length}
use Rattle.list_entries.specs.UpTo.{kept, enter_all, Walked, Walking}

kept_length : (t : Bool) (k e : ℕ) (o : List ℕ) → length (pick t (set o k e) o) ≡ length o
kept_length true k e o = length-set o k e
kept_length false k e o = refl

pub enter_length : (most k : ℕ) (l o : List ℕ) → length (enter_all most k l o) ≡ length o
unfolding enter_all
enter_length most k [] o = refl
enter_length most k (e ∷ l) o = enter_length most (k + 1) l (kept most k e o) ∙ kept_length (ltb k most) k e o

pub enter_append : (most k : ℕ) (l r o : List ℕ) → enter_all most k (l ++ r) o ≡ enter_all most (k + length l) r (enter_all most k l o)
unfolding enter_all
enter_append most k [] r o =
    let none : k ≡ k + 0 = omega arith in
    ap (λ (n : ℕ). enter_all most n r o) none
enter_append most k (e ∷ l) r o =
    let place : k + 1 + length l ≡ k + suc (length l) = omega arith in
    enter_append most (k + 1) l r (kept most k e o)
    ∙ ap (λ (n : ℕ). enter_all most n r (enter_all most (k + 1) l (kept most k e o))) place

-- where there is room for all of them they are written
pub enter_wrote : (most k : ℕ) (l o : List ℕ) → k + length l ≤ most → most ≤ length o → Wrote o k l (enter_all most k l o) (k + length l)
unfolding enter_all
enter_wrote most k [] o fits room =
    let none : k ≡ k + 0 = omega arith in
    rw (← none) (wrote_none o k)
enter_wrote most k (e ∷ l) o fits room =
    let below : ltb k most ≡ true = lt-ltb k most (omega arith) in
    let place : k + 1 + length l ≡ k + suc (length l) = omega arith in
    rw (below, ← place)
    (wrote_then (wrote_one o k e (omega arith)) (enter_wrote most (k + 1) l (set o k e) (omega arith) (rw length-set room)))

-- where there is room for all of them they stand there
pub walked_wrote : {most k m : ℕ} {o o' : List ℕ} {ps : List Pair} → m ≤ most → most ≤ length o → Walked most o k ps o' m
    → Wrote o k (entries ps) o' m
walked_wrote {most} {k} {m} {o} {o'} {ps} fits room w =
    let long : k + length (entries ps) ≡ m = omega (arith, entries_length ps, w.counts) in
    rw (w.list, ← long) (enter_wrote most k (entries ps) o (omega (arith, entries_length ps, w.counts)) room)

pub walked_length : {most k m : ℕ} {o o' : List ℕ} {ps : List Pair} → Walked most o k ps o' m → length o' ≡ length o
walked_length {most} {k} {m} {o} {o'} {ps} w = ap length w.list ∙ enter_length most k (entries ps) o

pub walked_then : {most k m n : ℕ} {o o₁ o₂ : List ℕ} {ps qs : List Pair} → Walked most o k ps o₁ m → Walked most o₁ m qs o₂ n → Walked most o k (ps ++ qs) o₂ n
walked_then {most} {k} {m} {n} {o} {o₁} {o₂} {ps} {qs} v w =
    let long : k + length (entries ps) ≡ m = omega (arith, entries_length ps, v.counts) in
    record {
      counts = omega (arith, v.counts, w.counts, length-append ps qs);
      list =
          w.list ∙ ap (enter_all most m (entries qs)) v.list
          ∙ ap (λ (j : ℕ). enter_all most j (entries qs) (enter_all most k (entries ps) o)) (sym long)
          ∙ sym (enter_append most k (entries ps) (entries qs) o)
          ∙ ap (λ (l : List ℕ). enter_all most k l o) (sym (map_append number ps qs));
    }

module _ (f : ℕ → List Pair) {most : ℕ} where
  -- a stretch of indices is walked
  pub walking_more : {o₀ o o' : List ℕ} {from first k i m : ℕ} (j : ℕ) → i ≤ j → Walking f most o₀ from first o k i
      → Walked most o k (gather f i j) o' m → Walking f most o₀ from first o' m j
  walking_more {first} {i} j h so w =
      record { past = omega (arith, so.past); done = rw (gather_cut f first i j so.past h) (walked_then so.done w) }

  -- one index is walked
  pub walking_next : {o₀ o o' : List ℕ} {from first k i m : ℕ} → Walking f most o₀ from first o k i
      → Walked most o k (f i) o' m → Walking f most o₀ from first o' m (i + 1)
  walking_next {first} {i} so w =
      record { past = omega (arith, so.past); done = rw (gather_last f first i so.past) (walked_then so.done w) }
