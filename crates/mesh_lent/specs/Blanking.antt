-- A lent list of which every number is set to 0.
use Rattle.std.specs.Prelude.{ℕ, ◌≤◌, ◌<◌, List, ◌≡◌, length, get_or, replicate}
use Rattle.std.proofs.Common.{arith}
use Rattle.std.proofs.Math.Decide.{dec_lt}
use Rattle.std.proofs.lemmas.List.{length-replicate, get_or-replicate}
use Rattle.std.proofs.Math.ListN.{get_or-eq_default}
use Rattle.mesh_seams.specs.Sewing.{MeshBlank}

-- a list of zeros, as long
abbrev pub blank_of : List ℕ → List ℕ
blank_of t = replicate (length t) 0

-- such a list is a table without seams
pub blank_everywhere : (t : List ℕ) (v : ℕ) → get_or (blank_of t) v 0 ≡ 0
blank_everywhere t v = by_place (dec_lt v (length t))
  where
    by_place : Dec (v < length t) → get_or (blank_of t) v 0 ≡ 0
    by_place (yes l) = get_or-replicate (length t) v 0 0 l
    by_place (no l) = get_or-eq_default (blank_of t) 0 {n = v} (omega (arith, length-replicate {A = ℕ} (length t) 0))

pub blank_lent : (n : ℕ) (w t : List ℕ) → n ≤ length t → MeshBlank n w (blank_of t)
blank_lent n w t h = record { none = blank_everywhere t; room = λ more. omega (arith, length-replicate {A = ℕ} (length t) 0) }
