-- The boxes of some places, spread over six rows of 256 numbers each, and the marks of those that a box meets.
use Rattle.std.specs.Prelude.{ℕ, ◌+◌, ◌*◌, ◌≤◌, ◌<◌, Bool, false, List, ◌≢◌, ◌≡◌, refl, ℤ, pos, length, get_or, set}
use Rattle.std.proofs.Common.{⊎_elim, ap, ◌∙◌, not-suc-le-zero, arith, length-set, get_or-set_same, get_or-set_other}
use Rattle.sequences.specs.Range.{le_or_lt}
use Rattle.meaning.specs.Boxes.{Span}
use Rattle.meaning.specs.StoredBoxes.{Box, box_at}
use Rattle.list_boxes.specs.Kept.{meet_boxes}

-- ---- a spread box: the row of the x lows, then the y lows, the z lows, and the highs likewise

-- the low at a place, and the high three rows behind it
abbrev pub spread_span : List ℤ → ℕ → Span
spread_span s q = record { low = get_or s q (pos 0); high = get_or s (q + 768) (pos 0) }

abbrev pub spread_box : List ℤ → ℕ → Box
spread_box s q = record { x = spread_span s q; y = spread_span s (q + 256); z = spread_span s (q + 512) }

-- a list with a span stored so, and with a box
abbrev pub with_spread : List ℤ → ℕ → Span → List ℤ
with_spread s q p = set (set s q p.low) (q + 768) p.high

abbrev pub spread_as : List ℤ → ℕ → Box → List ℤ
spread_as s q b = with_spread (with_spread (with_spread s q b.x) (q + 256) b.y) (q + 512) b.z

module _ (s : List ℤ) (q : ℕ) (p : Span) where
  span_here : q + 768 < length s → spread_span (with_spread s q p) q ≡ p
  span_here h =
      let low : get_or (with_spread s q p) q (pos 0) ≡ p.low =
      get_or-set_other (set s q p.low) (q + 768) q p.high (pos 0) (omega arith) ∙ get_or-set_same s q p.low (pos 0) (omega arith) in
      let high : get_or (with_spread s q p) (q + 768) (pos 0) ≡ p.high =
      get_or-set_same (set s q p.low) (q + 768) p.high (pos 0) (rw length-set h) in
      λ k. record { low = low k; high = high k }

  number_kept : (r : ℕ) → r ≢ q → r ≢ q + 768 → get_or (with_spread s q p) r (pos 0) ≡ get_or s r (pos 0)
  number_kept r a b = get_or-set_other (set s q p.low) (q + 768) r p.high (pos 0) b ∙ get_or-set_other s q r p.low (pos 0) a

  span_kept : (r : ℕ) → r ≢ q → q < 768 → r < 768 → spread_span (with_spread s q p) r ≡ spread_span s r
  span_kept r other a b =
      let low = number_kept r other (omega arith) in
      let high = number_kept (r + 768) (omega arith) (omega (arith, other)) in
      λ k. record { low = low k; high = high k }

  spread_length : length (with_spread s q p) ≡ length s
  spread_length = length-set (set s q p.low) (q + 768) p.high ∙ length-set s q p.low

module _ (s : List ℤ) (q : ℕ) (b : Box) (low : q < 256) where
  abbrev first : List ℤ
  first = with_spread s q b.x

  abbrev second : List ℤ
  second = with_spread first (q + 256) b.y

  pub as_length : length (spread_as s q b) ≡ length s
  as_length = spread_length second (q + 512) b.z ∙ spread_length first (q + 256) b.y ∙ spread_length s q b.x

  pub box_here : 1536 ≤ length s → spread_box (spread_as s q b) q ≡ b
  box_here room =
      let x : spread_span (spread_as s q b) q ≡ b.x =
      span_kept second (q + 512) b.z q (omega arith) (omega arith) (omega arith)
      ∙ span_kept first (q + 256) b.y q (omega arith) (omega arith) (omega arith)
      ∙ span_here s q b.x (omega arith) in
      let y : spread_span (spread_as s q b) (q + 256) ≡ b.y =
      span_kept second (q + 512) b.z (q + 256) (omega arith) (omega arith) (omega arith)
      ∙ span_here first (q + 256) b.y (omega (arith, spread_length s q b.x)) in
      let z : spread_span (spread_as s q b) (q + 512) ≡ b.z =
      span_here second (q + 512) b.z (omega (arith, spread_length s q b.x, spread_length first (q + 256) b.y)) in
      λ t. record { x = x t; y = y t; z = z t }

  one_kept : (r : ℕ) → r ≢ q → r ≢ q + 256 → r ≢ q + 512 → r < 768 → spread_span (spread_as s q b) r ≡ spread_span s r
  one_kept r u v w h =
      span_kept second (q + 512) b.z r w (omega arith) h
      ∙ span_kept first (q + 256) b.y r v (omega arith) h
      ∙ span_kept s q b.x r u (omega arith) h

  pub box_kept : (r : ℕ) → r < q → spread_box (spread_as s q b) r ≡ spread_box s r
  box_kept r h =
      let x = one_kept r (omega arith) (omega arith) (omega arith) (omega arith) in
      let y = one_kept (r + 256) (omega arith) (omega arith) (omega arith) (omega arith) in
      let z = one_kept (r + 512) (omega arith) (omega arith) (omega arith) (omega arith) in
      λ t. record { x = x t; y = y t; z = z t }

-- ---- the boxes of the places that were found

pub record PlacesIn (l : List ℤ) (base : ℕ) (ps : List ℕ) (count : ℕ) : Type 0 where
  pub room : count ≤ length ps
  pub reach : (c : ℕ) → c < count → 6 * (base + get_or ps c 0) + 5 < length l

pub record Spread (l : List ℤ) (base : ℕ) (ps : List ℕ) (count : ℕ) (s : List ℤ) : Type 0 where
  pub at : (q : ℕ) → q < count → spread_box s q ≡ box_at l (base + get_or ps q 0)

-- so many of them, in a list that was s₀
pub record Spreading (l : List ℤ) (base : ℕ) (ps : List ℕ) (s₀ s : List ℤ) (count : ℕ) : Type 0 where
  pub done : Spread l base ps count s
  pub same : length s ≡ length s₀

pub spreading_starts : (l : List ℤ) (base : ℕ) (ps : List ℕ) (s : List ℤ) → Spreading l base ps s s 0
spreading_starts l base ps s = record { done = record { at = λ q h. absurd (not-suc-le-zero h) }; same = refl }

pub spreading_next : {l : List ℤ} {base : ℕ} {ps : List ℕ} {s₀ s : List ℤ} {n j : ℕ} → n < 256 → 1536 ≤ length s₀ → j ≡ get_or ps n 0
    → Spreading l base ps s₀ s n → Spreading l base ps s₀ (spread_as s n (box_at l (base + j))) (n + 1)
spreading_next {l} {base} {ps} {s₀} {s} {n} {j} few room read so =
    let b = box_at l (base + j) in
    record {
      done = record {
        at = λ q h.
            ⊎_elim
            (λ last.
            let here : q ≡ n = omega arith in
            rw here (box_here s n b few (omega (arith, so.same)) ∙ ap (λ (k : ℕ). box_at l (base + k)) read))
            (λ lower. box_kept s n b few q lower ∙ so.done.at q lower)
            (le_or_lt n q);
      };
      same = as_length s n b few ∙ so.same;
    }

-- ---- the marks

pub record Marked (b : Box) (s : List ℤ) (count : ℕ) (ms : List Bool) : Type 0 where
  pub at : (q : ℕ) → q < count → get_or ms q false ≡ meet_boxes b (spread_box s q)

pub record Marking (b : Box) (s : List ℤ) (ms₀ ms : List Bool) (count : ℕ) : Type 0 where
  pub done : Marked b s count ms
  pub same : length ms ≡ length ms₀

pub marking_starts : (b : Box) (s : List ℤ) (ms : List Bool) → Marking b s ms ms 0
marking_starts b s ms = record { done = record { at = λ q h. absurd (not-suc-le-zero h) }; same = refl }

pub marking_next : {b : Box} {s : List ℤ} {ms₀ ms : List Bool} {n : ℕ} {met : Bool} → n < length ms₀ → met ≡ meet_boxes b (spread_box s n)
    → Marking b s ms₀ ms n → Marking b s ms₀ (set ms n met) (n + 1)
marking_next {b} {s} {ms₀} {ms} {n} {met} room asked so =
    record {
      done = record {
        at = λ q h.
            ⊎_elim
            (λ last. let here : q ≡ n = omega arith in rw here (get_or-set_same ms n met false (omega (arith, so.same)) ∙ asked))
            (λ lower. get_or-set_other ms n q met false (omega arith) ∙ so.done.at q lower)
            (le_or_lt n q);
      };
      same = length-set ms n met ∙ so.same;
    }

-- of the places that were found those are marked whose boxes meet the row's
pub record MarkedFor (l : List ℤ) (base row : ℕ) (ps : List ℕ) (count : ℕ) (ms : List Bool) : Type 0 where
  pub at : (c : ℕ) → c < count → get_or ms c false ≡ meet_boxes (box_at l row) (box_at l (base + get_or ps c 0))

pub marked_for : {l : List ℤ} {base row : ℕ} {ps : List ℕ} {count : ℕ} {s : List ℤ} {ms : List Bool} → Spread l base ps count s
    → Marked (box_at l row) s count ms → MarkedFor l base row ps count ms
marked_for {l} {base} {row} so marked =
    record { at = λ c h. marked.at c h ∙ ap (λ (b : Box). meet_boxes (box_at l row) b) (so.at c h) }
