-- What is asked of pairs of a mesh is so of the pairs that it lists: none of them shares a vertex, each is reported with some word, and each is met; in a
-- scene that reaches no further their vertices are in range. And of parts that hold them all some part lists each.
use Rattle.std.specs.Prelude.{ℕ, ◌+◌, ◌*◌, ◌≤◌, false, ◌≡◌, refl, pos, nat_abs, length, get_or}
use mathlib.Core.List.{List, [], ◌∷◌, Memᴰ}
use Rattle.std.proofs.Common.{⊎_elim, arith, ltb-false}
use Rattle.std.proofs.Math.ListN.{get_or-eq_default}
use Rattle.sequences.specs.Range.{le_or_lt}
use Rattle.meaning.specs.Scene.{Scene, beyond, reaches_beyond}
use Rattle.meaning.specs.List.{Pair, pairs}
use Rattle.meaning.specs.declared.Settled.{Settled}
use Rattle.meaning.specs.declared.WholeContact.{WholeContact}
use Rattle.answers.specs.Below.{none_passes}
use Rattle.corner_search.specs.Decided.{pair_word, pair_word_is}
use Rattle.contact_entries.specs.Computed.{whole_contact_of, met_pair}
use Rattle.mesh_demands.specs.Joined.{Reported, Met}
use Rattle.mesh_demands.specs.Beside.{Around, Before}
use Rattle.mesh_demands.specs.Answered.{AllNear}

-- a listed pair has some word, and that line is in the report; and it has what a contact carries, or a word
module _ (s : Scene) (q : Pair) (stands : Memᴰ q (pairs s)) where
  pub each_reported : (w : Settled) × Reported s q w
  each_reported =
      let w = pair_word s q.kind q.first q.second in
      (w, record { stands = stands; word = (pair_word_is s q.kind q.first q.second w).1 refl })

  pub each_met : (x : WholeContact) × Met s q x
  each_met = (whole_contact_of s q.kind q.first q.second, record { stands = stands; contact = met_pair s q.kind q.first q.second })

-- ---- in range

in_range_lem : (B : ℕ) (s : Scene) → reaches_beyond B s ≡ false → (i : ℕ) → nat_abs (get_or s.positions i (pos 0)) ≤ B
in_range_lem B s near i =
    ⊎_elim
    (λ past. rw (get_or-eq_default s.positions (pos 0) {n = i} past) (omega arith))
    (λ below.
    ltb-false B (nat_abs (get_or s.positions i (pos 0)))
    (none_passes (λ j. beyond B (get_or s.positions j (pos 0))) (length s.positions) near i below))
    (le_or_lt (length s.positions) i)

-- the vertices of any pairs
pub picked_near : (B : ℕ) (s : Scene) → reaches_beyond B s ≡ false → (xs : List Pair) → AllNear B s xs
unfolding AllNear
picked_near B s near [] = tt
picked_near B s near (x ∷ xs) = (λ v m k below. in_range_lem B s near (6 * v + k), picked_near B s near xs)

-- ---- in parts

-- the first of pairs that are packed has nothing before it
abbrev pub nothing_around : Around
nothing_around = record { positions = []; edges = []; triangles = []; positions_behind = []; edges_behind = []; triangles_behind = [] }

pub nothing_before : Before nothing_around 0 0 0
nothing_before = record { vertices = refl; edges = refl; triangles = refl }
