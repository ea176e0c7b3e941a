-- Answers as numbers, shown: no number stands for two words, and a half has room for the count of any list.
use Rattle.std.specs.Prelude.{ℕ, ◌+◌, ◌*◌, ◌<◌, ◌≡◌}
use Rattle.std.proofs.Common.{arith}
use Rattle.meaning.specs.Limits.{vertex_limit, edge_limit, triangle_limit}
use Rattle.meaning.specs.SceneWords.{byte_of}
use Rattle.meaning.specs.Numbers.{upper, verdict_number}
use Rattle.meaning.specs.declared.Verdict.TheVariants.{Degenerate}
use Rattle.meaning.specs.declared.Settled.TheVariants.{Hit, Miss, Touch, Apart}

abbrev Differ : ℕ → ℕ → Type 0
Differ m n = m ≡ n → ⊥

-- the one verdict that is no word has the number of none
pub degenerate_apart : Differ (verdict_number Degenerate) (byte_of Hit) × Differ (verdict_number Degenerate) (byte_of Miss)
    × Differ (verdict_number Degenerate) (byte_of Touch)
    × Differ (verdict_number Degenerate) (byte_of Apart)
unfolding verdict_number byte_of
degenerate_apart = (λ e. omega (arith, e), λ e. omega (arith, e), λ e. omega (arith, e), λ e. omega (arith, e))

-- every pair of a scene that has all its parts
pub count_told : vertex_limit * triangle_limit + edge_limit * edge_limit < upper
count_told = omega arith
