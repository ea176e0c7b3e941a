-- Of `MeshShown`: what rests on its definitions.
use Rattle.std.specs.Prelude.{ℕ, zero, suc, ◌<◌, false, [], ◌∷◌, ◌≡◌, refl, Ok}
use Rattle.std.proofs.Common.{arith}
use Rattle.meaning.specs.Scene.{stood_for, some_below}
use Rattle.meaning.specs.Refusals.{Answers}
use Rattle.meaning.specs.MeshEdges.{whole, twice, edges_say, EdgesAre, EdgesChecked, ends_fall, bare_side}
use Rattle.meaning.specs.MeshNumbers.{refusal_of, edges_left, Left}
use Rattle.meaning.specs.shown.MeshShown.{one_triangle, sides_of}
use Rattle.meaning.specs.declared.EdgesFound as Findings

below_three : (P : ℕ → Type 0) → P 0 → P 1 → P 2 → (k : ℕ) → k < 3 → P k
below_three P a b c zero h = a
below_three P a b c (suc zero) h = b
below_three P a b c (suc (suc zero)) h = c
below_three P a b c (suc (suc (suc k))) h = absurd (omega arith)

below_two : (P : ℕ → Type 0) → P 0 → P 1 → (k : ℕ) → k < 2 → P k
below_two P a b zero h = a
below_two P a b (suc zero) h = b
below_two P a b (suc (suc k)) h = absurd (omega arith)

joined : (k : ℕ) → k < 3 → bare_side one_triangle sides_of k ≡ false
joined = below_three (λ k. bare_side one_triangle sides_of k ≡ false) refl refl refl

-- edges 0, 2, 1 have rising ends
pub edges_whole : EdgesAre one_triangle sides_of (0 ∷ 2 ∷ 1 ∷ []) whole
unfolding EdgesAre
edges_whole = (joined, below_two (λ k. ends_fall one_triangle (0 ∷ 2 ∷ 1 ∷ []) k ≡ false) refl refl)

-- the answer, and what it leaves for C
pub edges_told : EdgesChecked one_triangle sides_of (0 ∷ 2 ∷ 1 ∷ []) 0 3 (Ok Findings.TheVariants.Whole)
unfolding Answers edges_say some_below stood_for
edges_told = edges_whole

pub edges_left_lem : Left edges_say edges_left (EdgesChecked one_triangle sides_of (0 ∷ 2 ∷ 1 ∷ []) 0 3) (7 ∷ 7 ∷ 7 ∷ []) (0 ∷ 0 ∷ 7 ∷ []) 0
unfolding edges_say edges_left refusal_of
edges_left_lem = record { answer = Ok Findings.TheVariants.Whole; right = edges_told; is = refl; told = refl }

-- the ends of edges 1 and 2 fall
pub order_falls : EdgesAre one_triangle sides_of (0 ∷ 1 ∷ 2 ∷ []) (twice 1)
unfolding EdgesAre
order_falls = (omega arith, joined, first, refl)
  where
    first : (k : ℕ) → k < 1 → ends_fall one_triangle (0 ∷ 1 ∷ 2 ∷ []) k ≡ false
    first zero h = refl
    first (suc k) h = absurd (omega arith)
