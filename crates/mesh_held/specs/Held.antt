-- What a list holds from a place on, two numbers for each entry: the lower half, then the upper.
use Rattle.std.specs.Prelude.{ℕ, ◌+◌, ◌*◌, ◌-◌, ◌≤◌, ◌<◌, ◌/◌, ◌%◌, Bool, true, false, List, [], ◌∷◌, ◌++◌, ◌≡◌, refl, length, get_or, set, take}
use Rattle.std.proofs.Common.{true≢false, ⊎_elim, sym, ap, ◌∙◌, arith, length-append, length-set, get_or-set_same, get_or-set_other, get_or-take, get_or-append-add, length-take-le, take_all}
use Rattle.std.proofs.Math.ListN.{get_or-append}
use Rattle.sequences.specs.Parts.{take_next}
use Rattle.sequences.specs.Range.{le_or_lt}
use Rattle.sequences.specs.Wrote.{Wrote, written, wrote_none, wrote_one, wrote_then, wrote_front}

-- the entry of number c, from a place on
abbrev pub held_at : List ℕ → ℕ → ℕ → ℕ
held_at l from c = 4294967296 * get_or l (from + 2 * c + 1) 0 + get_or l (from + 2 * c) 0

-- from a place on a list holds these entries, in order
pub record Holds (l : List ℕ) (from : ℕ) (es : List ℕ) : Type 0 where
  pub room : from + 2 * length es ≤ length l
  pub at : (c : ℕ) → c < length es → held_at l from c ≡ get_or es c 0

pub holds_none : (l : List ℕ) (from : ℕ) → from ≤ length l → Holds l from []
holds_none l from h = record { room = omega arith; at = λ c lt. absurd (omega arith) }

-- so many entries were put from a place on, into a list that was l and is l'; nothing in front of it has changed
pub record HeldMore (l l' : List ℕ) (from : ℕ) (es : List ℕ) (count : ℕ) : Type 0 where
  pub same : length l' ≡ length l
  pub before : (i : ℕ) → i < from → get_or l' i 0 ≡ get_or l i 0
  pub at : (c : ℕ) → c < count → held_at l' from c ≡ get_or es c 0

-- nothing in front of a place has changed, so neither has what is held there
pub holds_still : {l l' : List ℕ} {from : ℕ} {es : List ℕ} → length l' ≡ length l
    → ((i : ℕ) → i < from + 2 * length es → from ≤ i → get_or l' i 0 ≡ get_or l i 0) → Holds l from es → Holds l' from es
holds_still {l} {l'} {from} {es} same kept so =
    record {
      room = omega (arith, so.room);
      at = λ c lt.
          omega (arith, so.at c lt, kept (from + 2 * c) (omega arith) (omega arith), kept (from + 2 * c + 1) (omega arith) (omega arith));
    }

pub holds_more : {l l' : List ℕ} {from : ℕ} {es fs : List ℕ} {count : ℕ} → Holds l from es → count ≤ length fs
    → from + 2 * (length es + count) ≤ length l → HeldMore l l' (from + 2 * length es) fs count → Holds l' from (es ++ take count fs)
holds_more {l} {l'} {from} {es} {fs} {count} so fits room more =
    let long : length (es ++ take count fs) ≡ length es + count = omega (arith, length-append es (take count fs), length-take-le count fs fits) in
    let still : Holds l' from es = holds_still more.same (λ i lt ge. more.before i lt) so in
    record {
      room = omega (arith, more.same);
      at = λ c lt.
          ⊎_elim
          (λ ge.
          let d = c - length es in
          let here : length es + d ≡ c = omega arith in
          let low : from + 2 * c ≡ from + 2 * length es + 2 * d = omega arith in
          ap (λ (n : ℕ). 4294967296 * get_or l' (n + 1) 0 + get_or l' n 0) low
          ∙ more.at d (omega arith)
          ∙ sym (get_or-take count fs d 0 (omega arith))
          ∙ sym (get_or-append-add es (take count fs) d 0)
          ∙ ap (λ (n : ℕ). get_or (es ++ take count fs) n 0) here)
          (λ below. still.at c below ∙ sym (get_or-append es (take count fs) 0 c below))
          (le_or_lt (length es) c);
    }

-- ---- a loop that holds entries

pub more_none : (l : List ℕ) (from : ℕ) (es : List ℕ) → HeldMore l l from es 0
more_none l from es = record { same = refl; before = λ i lt. refl; at = λ c lt. absurd (omega arith) }

module _ {l₀ l l' : List ℕ} {from : ℕ} {es : List ℕ} {c : ℕ} (so : HeldMore l₀ l from es c) (room : from + 2 * c + 1 < length l₀)
    (put : l' ≡ set (set l (from + 2 * c) (get_or es c 0 % 4294967296)) (from + 2 * c + 1) (get_or es c 0 / 4294967296)) where
  other : (i : ℕ) → i < from + 2 * c → get_or l' i 0 ≡ get_or l i 0
  other i h =
      rw put
      (get_or-set_other (set l (from + 2 * c) (get_or es c 0 % 4294967296)) (from + 2 * c + 1) i _ 0 (λ e. omega arith)
      ∙ get_or-set_other l (from + 2 * c) i _ 0 (λ e. omega arith))

  lower : get_or l' (from + 2 * c) 0 ≡ get_or es c 0 % 4294967296
  lower =
      rw put
      (get_or-set_other (set l (from + 2 * c) (get_or es c 0 % 4294967296)) (from + 2 * c + 1) (from + 2 * c) _ 0 (λ e. omega arith)
      ∙ get_or-set_same l (from + 2 * c) _ 0 (omega (arith, so.same)))

  upper : get_or l' (from + 2 * c + 1) 0 ≡ get_or es c 0 / 4294967296
  upper =
      rw put
      (get_or-set_same (set l (from + 2 * c) (get_or es c 0 % 4294967296)) (from + 2 * c + 1) _ 0
      (omega (arith, so.same, length-set l (from + 2 * c) (get_or es c 0 % 4294967296))))

  pub more_next : HeldMore l₀ l' from es (c + 1)
  more_next =
      record {
        same =
            rw put
            (length-set (set l (from + 2 * c) (get_or es c 0 % 4294967296)) (from + 2 * c + 1) _
            ∙ length-set l (from + 2 * c) _ ∙ so.same);
        before = λ i lt. other i (omega arith) ∙ so.before i lt;
        at = λ d lt.
            ⊎_elim
            (λ (ge : c ≤ d). let here : d ≡ c = omega arith in rw here (omega (arith, upper, lower)))
            (λ below. omega (arith, so.at d below, other (from + 2 * d) (omega arith), other (from + 2 * d + 1) (omega arith)))
            (le_or_lt c d);
      }

-- ---- all that a walk found, or not

-- what was held before may be lost, or there is no room: r tells whether the entries are held, and if so nothing in front of them has changed
pub record HeldOn (l l' : List ℕ) (from : ℕ) (es : List ℕ) (count : ℕ) (held r : Bool) : Type 0 where
  pub same : length l' ≡ length l
  pub was : r ≡ true → held ≡ true
  pub fits : r ≡ true → count ≤ length es
  pub room : r ≡ true → from + 2 * count ≤ length l
  pub more : r ≡ true → HeldMore l l' from es count

pub held_not : (l : List ℕ) (from : ℕ) (es : List ℕ) (count : ℕ) (held : Bool) → HeldOn l l from es count held false
held_not l from es count held =
    record {
      same = refl;
      was = λ e. absurd (true≢false (sym e));
      fits = λ e. absurd (true≢false (sym e));
      room = λ e. absurd (true≢false (sym e));
      more = λ e. absurd (true≢false (sym e));
    }

-- ---- taken from there

-- a loop that has taken c of them
pub taken_none : (list : List ℕ) (es : List ℕ) → Wrote list 0 (take 0 es) list 0
taken_none list es = wrote_none list 0

pub taken_next : {l list₀ list : List ℕ} {from c : ℕ} {es : List ℕ} → Holds l from es → c < length es → c < length list₀
    → Wrote list₀ 0 (take c es) list c → Wrote list₀ 0 (take (c + 1) es) (set list c (held_at l from c)) (c + 1)
taken_next {l} {list₀} {list} {from} {c} {es} so below room w =
    let one : take (c + 1) es ≡ take c es ++ (get_or es c 0 ∷ []) = take_next es c 0 below in
    rw (one, so.at c below) (wrote_then w (wrote_one list c (get_or es c 0) (omega (arith, w.same))))

pub taken_all : {list₀ list : List ℕ} (es : List ℕ) {c : ℕ} → length es ≤ c → Wrote list₀ 0 (take c es) list c → list ≡ written es list₀
taken_all es {c} h w = rw (take_all c es h) at (wrote_front w)
