-- Numbers put down one behind the other in front of a list, where what stands behind them is of no account: so a number may be put down and not counted, and
-- the next is put down over it.
use Rattle.std.specs.Prelude.{ℕ, ◌+◌, ◌≤◌, Bool, true, false, List, [], ◌++◌, ◌≡◌, refl, ltb, length, set, take}
use Rattle.std.proofs.Common.{append_assoc, append-nil, sym, ap, ◌∙◌, arith, length-append, length-set, lt-ltb}
use Rattle.std.proofs.lemmas.List.{take-set-le}
use Rattle.sequences.specs.Chosen.{one}
use Rattle.sequences.specs.Pick.{pick}
use Rattle.sequences.specs.Wrote.{wrote_one}
use Rattle.list_entries.specs.UpTo.{kept}

-- the numbers were put down from the place k on: the list held o and holds o', and m is the place behind them; all that were put down before stand there too
pub record PutDown (o : List ℕ) (k : ℕ) (ns : List ℕ) (o' : List ℕ) (m : ℕ) : Type 0 where
  pub counts : m ≡ k + length ns
  pub same : length o' ≡ length o
  pub front : m ≤ length o → take m o' ≡ take k o ++ ns

-- no two counts and fronts can come of one walk
pub down_one : {k m m' : ℕ} {o o₁ o₂ ns : List ℕ} → PutDown o k ns o₁ m → PutDown o k ns o₂ m' → (m ≡ m') × (m ≤ length o → take m o₁ ≡ take m' o₂)
down_one v w =
    let same = v.counts ∙ sym w.counts in
    (same, λ h. v.front h ∙ sym (w.front (omega (arith, same))))

pub down_none : (o : List ℕ) (k : ℕ) → PutDown o k [] o k
down_none o k = record { counts = omega arith; same = refl; front = λ h. sym (append-nil (take k o)) }

pub down_then : {k m n : ℕ} {o o₁ o₂ ns ms : List ℕ} → PutDown o k ns o₁ m → PutDown o₁ m ms o₂ n → PutDown o k (ns ++ ms) o₂ n
down_then {k} {m} {n} {o} {o₁} {o₂} {ns} {ms} v w =
    record {
      counts = omega (arith, v.counts, w.counts, length-append ns ms);
      same = w.same ∙ v.same;
      front = λ h.
          w.front (omega (arith, v.same))
          ∙ ap (λ (l : List ℕ). l ++ ms) (v.front (omega (arith, w.counts)))
          ∙ append_assoc (take k o) ns ms;
    }

kept_long : (t : Bool) (k v : ℕ) (o : List ℕ) → length (pick t (set o k v) o) ≡ length o
kept_long true k v o = length-set o k v
kept_long false k v o = refl

-- what stands in front of the place stays
kept_front : (t : Bool) (k v : ℕ) (o : List ℕ) → take k (pick t (set o k v) o) ≡ take k o
kept_front true k v o = take-set-le k o k v (omega arith)
kept_front false k v o = refl

-- a number that is put down is counted or not
module _ (o : List ℕ) (k v : ℕ) {o' : List ℕ} (put : o' ≡ kept (length o) k v o) where
  down_long : length o' ≡ length o
  down_long = ap length put ∙ kept_long (ltb k (length o)) k v o

  pub down_stays : {t : Bool} → t ≡ true → PutDown o k (one t v) o' (k + 1)
  down_stays e =
      rw e
      (record {
        counts = omega arith;
        same = down_long;
        front = λ h.
            let below : ltb k (length o) ≡ true = lt-ltb k (length o) (omega arith) in
            let stored : o' ≡ set o k v = put ∙ rw below in
            ap (take (k + 1)) stored ∙ (wrote_one o k v (omega arith)).front;
      })

  pub down_goes : {t : Bool} → t ≡ false → PutDown o k (one t v) o' k
  down_goes e =
      rw e
      (record {
        counts = omega arith;
        same = down_long;
        front = λ h. ap (take k) put ∙ kept_front (ltb k (length o)) k v o ∙ sym (append-nil (take k o));
      })

-- from the front on
pub in_front : {o o' ns : List ℕ} {m : ℕ} → PutDown o 0 ns o' m → m ≤ length o → take m o' ≡ ns
in_front w h = w.front h

-- ---- a walk that has put down a front part of what it is to put down

pub record Finding (o₀ want o : List ℕ) (k : ℕ) (rest : List ℕ) : Type 0 where
  pub found : List ℕ
  pub whole : found ++ rest ≡ want
  pub done : PutDown o₀ 0 found o k

pub finding_starts : (o want rest : List ℕ) → rest ≡ want → Finding o want o 0 rest
finding_starts o want rest e = record { found = []; whole = e; done = down_none o 0 }

pub finding_goes : {o₀ want o o' ns rest other : List ℕ} {k m : ℕ} → Finding o₀ want o k rest → rest ≡ ns ++ other → PutDown o k ns o' m
    → Finding o₀ want o' m other
finding_goes {ns = ns} {other = other} w e p =
    record {
      found = w.found ++ ns;
      whole = append_assoc w.found ns other ∙ ap (λ (l : List ℕ). w.found ++ l) (sym e) ∙ w.whole;
      done = down_then w.done p;
    }

pub finding_ends : {o₀ want o rest : List ℕ} {k : ℕ} → Finding o₀ want o k rest → rest ≡ [] → PutDown o₀ 0 want o k
finding_ends {want = want} w e =
    let all : w.found ≡ want = sym (append-nil w.found) ∙ ap (λ (l : List ℕ). w.found ++ l) (sym e) ∙ w.whole in
    rw all at w.done

pub finding_place : {o₀ want o rest : List ℕ} {k : ℕ} → Finding o₀ want o k rest → k + length rest ≡ length want
finding_place {rest = rest} w = omega (arith, w.done.counts, length-append w.found rest, ap length w.whole)

pub finding_long : {o₀ want o rest : List ℕ} {k : ℕ} → Finding o₀ want o k rest → length o ≡ length o₀
finding_long w = w.done.same
