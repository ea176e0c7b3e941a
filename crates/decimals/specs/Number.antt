-- Reading a number from a place of a text: a computed answer, and the theorem that says what it means.
use Rattle.std.specs.Prelude.{Option, Some, None, Bool, true, false, ◌&&◌, ◌||◌, ◌⊎◌, ◌↔◌, leb, ltb, get_or, drop}
use mathlib.Core.List.{List}
use Rattle.std.proofs.Common.{inr, sym, ap, ◌∙◌, add-zero, arith, get_or-drop, leb-true, ltb-true, lt-ltb, le-leb}
use Rattle.std.proofs.Math.Logic.{⊎_elim}
use Rattle.std.proofs.Math.Path.{◌≡◌, subst₂}
use Prim.Native.Nat.{ℕ, ◌+◌, ◌-◌, ◌^◌, ◌≤◌, ◌<◌}
use Rattle.std.proofs.Math.ListN.{length, get_or-append}
use Rattle.std.proofs.Math.Seq.{drop-drop}
use Rattle.std.proofs.lemmas.Bool.{lt-leb}
use Rattle.sequences.specs.Pick.{pick, pick_gave, both, one_of}
use Rattle.sequences.specs.Range.{le_or_lt}
use Rattle.sequences.specs.Stands.{Stands, stands_from, stands_inside_some, wrote_stands}
use Rattle.sequences.specs.Wrote.{Wrote}
use Rattle.decimals.specs.Byte.{byte_at, digit_test}
use Rattle.decimals.specs.Digits.{digits}
use Rattle.decimals.specs.Reading.{run, Run, run_has, run_is, RunFrom}
use Rattle.decimals.specs.Value.{value, Canonical, digits_some, digits_below, digits_canonical, digits_value, value_digits}
use Rattle.decimals.specs.declared.NumberRead.{NumberRead}

-- a run of so many digits with this first one is a number: one digit or more, and no leading zero but 0 itself
abbrev pub plain_test : ℕ → ℕ → Bool
plain_test count first = ltb 0 count && (leb count 1 || ltb 48 first)

-- a number that was read: its value, and the place behind it
abbrev pub read_as : ℕ → ℕ → Option NumberRead
read_as v n = Some (record { value = v; next = n })

pub read_same : {v v' n n' : ℕ} → read_as v n ≡ read_as v' n' → (v ≡ v') × (n ≡ n')
read_same {v} {v'} {n} {n'} e =
    let same : ◌≡◌ {A = NumberRead} (record { value = v; next = n }) (record { value = v'; next = n' }) = cc in
    (ap (λ (r : NumberRead). r.value) same, ap (λ (r : NumberRead). r.next) same)

-- the longest run of digits from the place on, of at most limit digits: the number that it is, if it is one, and the place behind it
unfoldable pub number_at : List ℕ → ℕ → ℕ → Option NumberRead
number_at s at limit =
    let l = run limit (drop at s) in
    pick (plain_test (length l) (byte_at s at)) (read_as (value l) (at + length l)) None

-- the same from what the run is worth, where it ends, and the byte that it begins with
pub number_of_run : {s : List ℕ} {at limit worth next first : ℕ} → RunFrom s at limit worth next → first ≡ byte_at s at
    → number_at s at limit ≡ pick (plain_test (next - at) first) (read_as worth next) None
unfolding number_at
number_of_run {s} {at} {limit} {worth} {next} r e =
    let count : next - at ≡ length (run limit (drop at s)) = omega (arith, r.place) in
    cc (r.counts, r.place)

-- the number v stands from the place at on, in at most limit digits, up to the place n: there the limit is met or no digit follows
pub record NumberStands (s : List ℕ) (at limit v n : ℕ) : Type 0 where
  pub stands : Stands s at (digits v) n
  pub short : length (digits v) ≤ limit
  pub stops : (length (digits v) ≡ limit) ⊎ (digit_test (byte_at s n) ≡ false)

plain_passes : {l : List ℕ} → Canonical l → plain_test (length l) (get_or l 0 0) ≡ true
plain_passes {l} c =
    ⊎_elim
    (λ short. cc (lt-ltb 0 (length l) c.some, le-leb (length l) 1 short))
    (λ long. cc (lt-ltb 0 (length l) c.some, lt-leb (length l) 1 long, lt-ltb 48 (get_or l 0 0) (c.plain long)))
    (le_or_lt (length l) 1)

plain_passed : (count first : ℕ) → plain_test count first ≡ true → (0 < count) × (1 < count → 48 < first)
plain_passed count first t =
    let (some, rest) = both (ltb 0 count) (leb count 1 || ltb 48 first) t in (
      ltb-true 0 count some,
      λ h.
          ⊎_elim
          (λ e. absurd (omega (arith, leb-true count 1 e)))
          (λ e. ltb-true 48 first e.1)
          (one_of (leb count 1) (ltb 48 first) rest),
    )

module _ (s : List ℕ) (at limit : ℕ) where
  -- a run from a place, and what stands there
  first_byte : (l : List ℕ) → Run limit (drop at s) l → 0 < length l → byte_at s at ≡ get_or l 0 0
  first_byte l r some =
      sym (ap (λ (i : ℕ). byte_at s i) (add-zero at)) ∙ sym (get_or-drop at s 0 0)
      ∙ ap (λ (k : List ℕ). get_or k 0 0) r.front
      ∙ get_or-append l (drop (length l) (drop at s)) 0 0 some

  stopped : (l : List ℕ) → Run limit (drop at s) l → (length l ≡ limit) ⊎ (digit_test (byte_at s (at + length l)) ≡ false)
  stopped l r = rw (get_or-drop at s (length l) 0) at r.stops

  numbered : (l : List ℕ) → Run limit (drop at s) l → plain_test (length l) (byte_at s at) ≡ true
      → NumberStands s at limit (value l) (at + length l)
  numbered l r t =
      let (some, plain) = plain_passed (length l) (byte_at s at) t in
      let c : Canonical l = record { each = r.each; some = some; plain = λ h. rw (first_byte l r some) at (plain h) } in
      let same : digits (value l) ≡ l = digits_value l c in
      record {
        stands = rw same (stands_from s at l (drop (length l) (drop at s)) r.front);
        short = rw same r.short;
        stops = rw same (stopped l r);
      }

  found : {v n : ℕ} → number_at s at limit ≡ read_as v n → NumberStands s at limit v n
  unfolding number_at
  found {v} {n} e =
      let l : List ℕ = run limit (drop at s) in
      ⊎_elim
      (λ h.
      let (valued, ended) = read_same h.1 in
      subst₂ (NumberStands s at limit) valued ended (numbered l (run_has limit (drop at s)) h.0))
      (λ h. let z : ◌≡◌ {A = ℕ} 0 1 = cc h.1 in absurd (omega arith))
      (pick_gave (λ x. x ≡ read_as v n) (plain_test (length l) (byte_at s at)) e)

  read : {v n : ℕ} → NumberStands s at limit v n → number_at s at limit ≡ read_as v n
  unfolding number_at
  read {v} {n} h =
      let c : Canonical (digits v) = digits_canonical v in
      let place : n ≡ at + length (digits v) = h.stands.place in
      let r : Run limit (drop at s) (digits v) =
      record {
        each = c.each;
        short = h.short;
        front = cc (h.stands.here, drop-drop (length (digits v)) at s);
        stops = rw (get_or-drop at s (length (digits v)) 0, ← place) h.stops;
      } in
      rw (run_is limit (drop at s) (digits v) r, first_byte (digits v) r c.some, plain_passes c, value_digits v, ← place)

  pub number_is : {v n : ℕ} → (number_at s at limit ≡ read_as v n) ↔ NumberStands s at limit v n
  number_is = (found, read)

  -- ---- for a caller that looks at the byte behind the number, where it wants no digit

  pub number_read : (v : ℕ) {n : ℕ} → Stands s at (digits v) n → length (digits v) ≤ limit → digit_test (byte_at s n) ≡ false
      → number_at s at limit ≡ read_as v n
  number_read v w short stops = read (record { stands = w; short = short; stops = inr stops })

  pub number_bad : (v : ℕ) {n : ℕ} → number_at s at limit ≡ None → Stands s at (digits v) n → length (digits v) ≤ limit
      → digit_test (byte_at s n) ≡ false → ⊥
  number_bad v {n} e w short stops =
      let z : ◌≡◌ {A = ℕ} 0 1 = cc (number_read v w short stops) in
      omega arith

  -- it lies inside, and it is small
  pub number_inside : {v n : ℕ} → number_at s at limit ≡ read_as v n → (at < n) × (n ≤ length s) × (v < 10 ^ limit)
  number_inside {v} {n} e =
      let h : NumberStands s at limit v n = found e in
      (omega (arith, h.stands.place, digits_some v), stands_inside_some (digits_some v) h.stands, digits_below v limit h.short)

-- reading what was written, where no digit follows, gives the number back
pub written_read : {o o' : List ℕ} {at m : ℕ} (v limit : ℕ) → at ≤ length o → Wrote o at (digits v) o' m → length (digits v) ≤ limit
    → digit_test (byte_at o' m) ≡ false → number_at o' at limit ≡ read_as v m
written_read {o'} {at} v limit h w short stops = number_read o' at limit v (wrote_stands h w) short stops
