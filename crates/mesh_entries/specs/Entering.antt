-- Numbers counted and entered in one walk: each is entered while its place is below `most`, and all are counted. As list_entries/UpTo for pairs of a
-- scene, and said of numbers: so that it serves whatever an entry is made of.
use Rattle.std.specs.Prelude.{ℕ, ◌+◌, ◌≤◌, Bool, true, false, List, [], ◌∷◌, ◌++◌, ◌≡◌, refl, length}
use Rattle.std.proofs.Common.{append_assoc, append-nil, sym, ap, ◌∙◌, arith, length-append}
use Rattle.sequences.specs.Chosen.{one}
use Rattle.sequences.specs.Gather.{gather, gather_none, gather_last}
use Rattle.sequences.specs.Wrote.{Wrote}
use Rattle.list_entries.specs.UpTo.{kept, enter_all}
use Rattle.list_entries.proofs.UpTo.{enter_length, enter_append, enter_wrote}

-- the numbers were entered from the place k on: the list held o and holds o', and m is the place behind them
pub record Entered (most : ℕ) (o : List ℕ) (k : ℕ) (ns : List ℕ) (o' : List ℕ) (m : ℕ) : Type 0 where
  pub counts : m ≡ k + length ns
  pub list : o' ≡ enter_all most k ns o

-- no two lists and places can come of one walk
pub entered_one : {most k m m' : ℕ} {o o₁ o₂ ns : List ℕ} → Entered most o k ns o₁ m → Entered most o k ns o₂ m' → (o₁ ≡ o₂) × (m ≡ m')
entered_one v w = (v.list ∙ sym w.list, v.counts ∙ sym w.counts)

-- where there is room for all of them they stand there
pub entered_wrote : {most k m : ℕ} {o o' ns : List ℕ} → m ≤ most → most ≤ length o → Entered most o k ns o' m → Wrote o k ns o' m
entered_wrote {most} {k} {m} {o} {o'} {ns} fits room w =
    let long : k + length ns ≡ m = omega (arith, w.counts) in
    rw (w.list, ← long) (enter_wrote most k ns o (omega arith) room)

pub entered_length : {most k m : ℕ} {o o' ns : List ℕ} → Entered most o k ns o' m → length o' ≡ length o
entered_length {most} {k} {m} {o} {o'} {ns} w = ap length w.list ∙ enter_length most k ns o

-- a bound is the room of a list, which stays as long as it was
pub entered_room : {most other k m : ℕ} {o o' ns : List ℕ} → most ≡ other → Entered most o k ns o' m → Entered other o k ns o' m
entered_room e w = rw e at w

pub entered_none : (most : ℕ) (o : List ℕ) (k : ℕ) → Entered most o k [] o k
unfolding enter_all
entered_none most o k = record { counts = omega arith; list = refl }

pub entered_number : {most k n : ℕ} {o o' : List ℕ} → o' ≡ kept most k n o → Entered most o k (n ∷ []) o' (k + 1)
unfolding enter_all
entered_number e = record { counts = omega arith; list = e }

pub entered_then : {most k m n : ℕ} {o o₁ o₂ ns ms : List ℕ} → Entered most o k ns o₁ m → Entered most o₁ m ms o₂ n → Entered most o k (ns ++ ms) o₂ n
entered_then {most} {k} {m} {n} {o} {o₁} {o₂} {ns} {ms} v w =
    record {
      counts = omega (arith, v.counts, w.counts, length-append ns ms);
      list =
          w.list ∙ ap (enter_all most m ms) v.list
          ∙ ap (λ (j : ℕ). enter_all most j ms (enter_all most k ns o)) v.counts
          ∙ sym (enter_append most k ns ms o);
    }

-- a number that is entered or not by a test t, which was made and answered r
module _ {most : ℕ} {o : List ℕ} {k : ℕ} (t : Bool) (n : ℕ) {r : Bool} (made : r ≡ t) where
  pub entered_if : {o' : List ℕ} → r ≡ true → o' ≡ kept most k n o → Entered most o k (one t n) o' (k + 1)
  entered_if e w = rw (← made, e) (entered_number w)

  pub entered_else : r ≡ false → Entered most o k (one t n) o k
  entered_else e = rw (← made, e) (entered_none most o k)

-- ---- a walk that has entered a front part of what it is to enter

pub record Entering (most : ℕ) (o₀ : List ℕ) (from : ℕ) (want o : List ℕ) (k : ℕ) (rest : List ℕ) : Type 0 where
  pub front : List ℕ
  pub whole : front ++ rest ≡ want
  pub done : Entered most o₀ from front o k

pub entering_starts : (most : ℕ) (o : List ℕ) (k : ℕ) (want : List ℕ) → Entering most o k want o k want
entering_starts most o k want = record { front = []; whole = refl; done = entered_none most o k }

module _ {most from k : ℕ} {o₀ want o : List ℕ} where
  pub entering_as : {rest other : List ℕ} → rest ≡ other → Entering most o₀ from want o k rest → Entering most o₀ from want o k other
  entering_as e w = rw e at w

  pub entering_step : {ns rest o' : List ℕ} {m : ℕ} → Entering most o₀ from want o k (ns ++ rest) → Entered most o k ns o' m
      → Entering most o₀ from want o' m rest
  entering_step {ns} {rest} w v =
      record {
        front = w.front ++ ns;
        whole = append_assoc w.front ns rest ∙ w.whole;
        done = entered_then w.done v;
      }

  pub entering_ends : Entering most o₀ from want o k [] → Entered most o₀ from want o k
  entering_ends w =
      let all : w.front ≡ want = sym (append-nil w.front) ∙ w.whole in
      rw all at w.done

  -- how far it is
  pub entering_place : {rest : List ℕ} → Entering most o₀ from want o k rest → k + length rest ≡ from + length want
  entering_place {rest} w = omega (arith, w.done.counts, length-append w.front rest, ap length w.whole)

  pub entering_length : {rest : List ℕ} → Entering most o₀ from want o k rest → length o ≡ length o₀
  entering_length w = entered_length w.done

-- ---- index by index

-- from the place `from` on what was gathered from the index `first` up to i has been entered, and k is the place behind that
pub record EnteringUpTo (f : ℕ → List ℕ) (most : ℕ) (o₀ : List ℕ) (from first : ℕ) (o : List ℕ) (k i : ℕ) : Type 0 where
  pub past : first ≤ i
  pub done : Entered most o₀ from (gather f first i) o k

module _ (f : ℕ → List ℕ) {most : ℕ} where
  pub up_to_starts : (o : List ℕ) (k i : ℕ) → EnteringUpTo f most o k i o k i
  up_to_starts o k i = record { past = omega arith; done = rw (gather_none f i i (omega arith)) (entered_none most o k) }

  pub up_to_next : {o₀ o o' : List ℕ} {from first k i m : ℕ} → EnteringUpTo f most o₀ from first o k i
      → Entered most o k (f i) o' m → EnteringUpTo f most o₀ from first o' m (i + 1)
  up_to_next {first} {i} so w =
      record { past = omega (arith, so.past); done = rw (gather_last f first i so.past) (entered_then so.done w) }
