-- Where each vertex starts, from one list, and where it ends, from another.
use Rattle.std.specs.Prelude.{List, [], ◌∷◌, ◌++◌, ◌≡◌, refl, ℕ, ◌+◌, ◌*◌, ◌≤◌, ◌<◌, ℤ, pos, length, get_or}
use Rattle.std.proofs.Common.{ap, arith, length-append}
use Rattle.sequences.specs.Gather.{gather, gather_first, gather_none}
use Rattle.sequences.specs.Range.{towards}
use Rattle.sequences.specs.Wrote.{Wrote, written, wrote_then}
use Rattle.sequences.specs.Writing.{Writing, writing_starts_front, writing_steps, writing_as, writing_ends_front}

abbrev pub three_at : List ℤ → ℕ → List ℤ
three_at l i = get_or l i (pos 0) ∷ get_or l (i + 1) (pos 0) ∷ get_or l (i + 2) (pos 0) ∷ []

abbrev pub vertex_from : List ℤ → List ℤ → ℕ → List ℤ
vertex_from p q v = three_at p (6 * v) ++ three_at q (6 * v + 3)

abbrev pub between : List ℤ → List ℤ → ℕ → List ℤ
between p q count = gather (vertex_from p q) 0 count

pub six_each : (f : ℕ → List ℤ) → ((v : ℕ) → length (f v) ≡ 6) → (count v : ℕ) → v ≤ count → length (gather f v count) + 6 * v ≡ 6 * count
six_each f six count =
    towards count (λ v. v ≤ count → length (gather f v count) + 6 * v ≡ 6 * count)
    (λ v h k.
    let here : v ≡ count = omega arith in
    omega (arith, ap (length {A = ℤ}) (gather_none f v count h)))
    (λ v h next k.
    omega (arith, ap (length {A = ℤ}) (gather_first f v count h), length-append (f v) (gather f (v + 1) count), six v, next (omega arith)))

-- the first so many are copied: the list held o₀ and holds o
pub record Pairing (p q o₀ : List ℤ) (count : ℕ) (o : List ℤ) (v : ℕ) : Type 0 where
  pub writing : Writing o₀ (between p q count) o (6 * v) (gather (vertex_from p q) v count)
  pub within : v ≤ count

module _ (p q : List ℤ) (count : ℕ) where
  pub pair_starts : (o : List ℤ) → 6 * count ≤ length o → Pairing p q o count o 0
  pair_starts o room =
      record {
        writing = writing_starts_front o (between p q count) (omega (arith, six_each (vertex_from p q) (λ v. refl) count 0 (omega arith)));
        within = omega arith;
      }

  pub pair_goes : {o₀ o o₁ o₂ : List ℤ} {v : ℕ} → v < count → Pairing p q o₀ count o v → Wrote o (6 * v) (three_at p (6 * v)) o₁ (6 * v + 3)
      → Wrote o₁ (6 * v + 3) (three_at q (6 * v + 3)) o₂ (6 * v + 3 + 3)
      → Pairing p q o₀ count o₂ (v + 1)
  pair_goes {o₀} {o} {o₁} {o₂} {v} h i u w =
      let next : 6 * v + 3 + 3 ≡ 6 * (v + 1) = omega arith in
      let both : Wrote o (6 * v) (vertex_from p q v) o₂ (6 * v + 3 + 3) = wrote_then u w in
      record {
        writing = writing_steps (writing_as (gather_first (vertex_from p q) v count h) i.writing) (rw next at both);
        within = omega arith;
      }

  pub pair_ends : {o₀ o : List ℤ} {v : ℕ} → count ≤ v → Pairing p q o₀ count o v → o ≡ written (between p q count) o₀
  pair_ends {v = v} h i = writing_ends_front (writing_as (gather_none (vertex_from p q) v count h) i.writing)
