-- Part of the way to the next step: the first k vertices have gone on to their next ends, the others stand where they were.
use Rattle.std.specs.Prelude.{ℕ, ◌+◌, ◌*◌, ◌≤◌, ◌<◌, ◌≡◌, pos, length}
use mathlib.Core.List.{List, [], ◌++◌, append_assoc, append-nil}
use Rattle.std.proofs.Math.Path.{refl, sym, ap}
use Rattle.std.proofs.Common.{◌∙◌, drop_of_length-le, take_at, drop-drop}
use native.Mathlib.Omega.{arith}
use Rattle.std.proofs.Math.IntN.{ℤ}
use Rattle.std.proofs.Math.ListN.{get_or, drop, length-append, length-drop, get_or-append}
use Rattle.std.proofs.Math.Seq.{drop-append-add, get_or-append-add, get_or-drop}
use Rattle.whole.specs.Vector.{Vector}
use Rattle.sequences.specs.Gather.{gather, gather_none, gather_last, gather_same}
use Rattle.sequences.specs.Wrote.{patched}
use Rattle.meaning.specs.Scene.{Scene, vertex_count, end_of}
use Rattle.meaning.specs.Text.{coordinates}
use Rattle.sequences.specs.Blocks.{gather_wide}
use Rattle.meaning.specs.Series.{goes_on, step_after}
use Rattle.meaning.specs.SeriesText.{three_of}

unfoldable pub part_way : Scene → List ℤ → ℕ → List ℤ
part_way s ends k = gather (goes_on s ends) 0 k ++ drop (6 * k) s.positions

module _ (s : Scene) where
  gone : (ends : List ℤ) (k : ℕ) → length (gather (goes_on s ends) 0 k) ≡ 6 * k
  gone ends k = gather_wide (goes_on s ends) 6 (λ v. refl) 0 k ∙ omega arith

  -- at first none has
  pub part_starts : part_way s [] 0 ≡ s.positions
  unfolding part_way
  part_starts = rw (gather_none (goes_on s []) 0 0 (omega arith)) refl

  -- at last all have
  pub part_ends : (ends : List ℤ) → length s.positions ≡ 6 * vertex_count s → part_way s ends (vertex_count s) ≡ (step_after s ends).positions
  unfolding part_way step_after
  part_ends ends long =
      ap (λ (l : List ℤ). gather (goes_on s ends) 0 (vertex_count s) ++ l) (drop_of_length-le s.positions {i = 6 * vertex_count s} (omega (arith, long)))
      ∙ append-nil (gather (goes_on s ends) 0 (vertex_count s))

  module _ (ends : List ℤ) (k : ℕ) where
    pub part_length : 6 * k ≤ length s.positions → length (part_way s ends k) ≡ length s.positions
    unfolding part_way
    part_length h =
        omega (arith, length-append (gather (goes_on s ends) 0 k) (drop (6 * k) s.positions), gone ends k, length-drop (6 * k) s.positions)

    -- the next vertex still stands where it was
    pub part_at : (i : ℕ) → get_or (part_way s ends k) (6 * k + i) (pos 0) ≡ get_or s.positions (6 * k + i) (pos 0)
    unfolding part_way
    part_at i =
        ap (λ (n : ℕ). get_or (gather (goes_on s ends) 0 k ++ drop (6 * k) s.positions) (n + i) (pos 0)) (sym (gone ends k))
        ∙ get_or-append-add (gather (goes_on s ends) 0 k) (drop (6 * k) s.positions) i (pos 0)
        ∙ get_or-drop (6 * k) s.positions i (pos 0)

    module _ (long : length ends ≡ 3 * k) (p : Vector) where
      as_before : (j : ℕ) → 0 ≤ j → j < k → goes_on s (ends ++ three_of p) j ≡ goes_on s ends j
      as_before j _ h =
          let x = get_or-append ends (three_of p) (pos 0) (3 * j) (omega (arith, long)) in
          let y = get_or-append ends (three_of p) (pos 0) (3 * j + 1) (omega (arith, long)) in
          let z = get_or-append ends (three_of p) (pos 0) (3 * j + 2) (omega (arith, long)) in
          λ i. coordinates (end_of s j) (record { x = x i; y = y i; z = z i })

      there : (i : ℕ) → get_or (ends ++ three_of p) (3 * k + i) (pos 0) ≡ get_or (three_of p) i (pos 0)
      there i =
          ap (λ (n : ℕ). get_or (ends ++ three_of p) (n + i) (pos 0)) (sym long) ∙ get_or-append-add ends (three_of p) i (pos 0)

      goes_there : goes_on s (ends ++ three_of p) k ≡ coordinates (end_of s k) p
      goes_there =
          let first : get_or (ends ++ three_of p) (3 * k) (pos 0) ≡ p.x =
          ap (λ (n : ℕ). get_or (ends ++ three_of p) n (pos 0)) (omega arith) ∙ there 0 in
          let second = there 1 in
          let third = there 2 in
          λ i. coordinates (end_of s k) (record { x = first i; y = second i; z = third i })

      pub part_next : part_way s (ends ++ three_of p) (k + 1) ≡ patched (part_way s ends k) (6 * k) (coordinates (end_of s k) p)
      unfolding part_way
      part_next =
          let old : List ℤ = gather (goes_on s ends) 0 k in
          let rest : List ℤ = drop (6 * k) s.positions in
          let six : List ℤ = coordinates (end_of s k) p in
          let moved : gather (goes_on s (ends ++ three_of p)) 0 (k + 1) ≡ old ++ six =
          gather_last (goes_on s (ends ++ three_of p)) 0 k (omega arith)
          ∙ (λ i. gather_same (goes_on s (ends ++ three_of p)) (goes_on s ends) 0 k as_before i ++ goes_there i) in
          let six_more : 6 * (k + 1) ≡ 6 * k + 6 = omega arith in
          let behind : drop (6 * (k + 1)) s.positions ≡ drop (6 * k + 6) (old ++ rest) =
          ap (λ (n : ℕ). drop n s.positions) six_more
          ∙ sym (drop-drop 6 (6 * k) s.positions)
          ∙ sym (drop-append-add old rest 6)
          ∙ ap (λ (n : ℕ). drop (n + 6) (old ++ rest)) (gone ends k) in
          (λ i. moved i ++ behind i)
          ∙ append_assoc old six (drop (6 * k + 6) (old ++ rest))
          ∙ ap (λ (l : List ℤ). l ++ (six ++ drop (6 * k + 6) (old ++ rest))) (sym (take_at old rest (6 * k) (gone ends k)))
