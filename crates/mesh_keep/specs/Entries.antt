-- Pairs told by their entries, judged one behind the other.
use Rattle.std.specs.Prelude.{ℕ, ◌+◌, ◌≤◌, ◌<◌, List, [], ◌∷◌, ◌++◌, map, ◌≡◌, refl, length, get_or, take}
use Rattle.std.proofs.Common.{sym, ap, ◌∙◌, arith}
use Rattle.sequences.specs.Mapped.{map_append}
use Rattle.sequences.specs.Parts.{take_next}
use Rattle.meaning.specs.Scene.{Scene}
use Rattle.meaning.specs.List.{Pair}
use Rattle.meaning.specs.declared.Wanted.{Wanted}
use Rattle.mesh_laws.specs.Entries.{mesh_pair_of, Within}
use Rattle.mesh_words.specs.Asked.{mesh_pair_at, mesh_pairs_in, mesh_in_length, PairThere}
use Rattle.mesh_keep.specs.Keeping.{KeptBy, kept_none, kept_then, kept_as, kept_bound}
use Rattle.mesh_keep.specs.declared.Going.{Going}

-- the k-th entry of a list is that of a pair which is there
pub record EntryOf (s : Scene) (l : List ℕ) (k : ℕ) : Type 0 where
  pub inside : k < length l
  pub there : PairThere s (mesh_pair_at l k)
  pub narrow : Within (mesh_pair_at l k)

-- so are the first n
pub record EntriesOf (s : Scene) (l : List ℕ) (n : ℕ) : Type 0 where
  pub room : n ≤ length l
  pub each : (k : ℕ) → k < n → EntryOf s l k

-- a pair that was read from an entry is the entry's
pub entry_kept : {s : Scene} {m : Wanted} {most : ℕ} {o v o' v' : List ℕ} {g g' : Going} (q p : Pair) → p.kind ≡ q.kind → p.first ≡ q.first
    → p.second ≡ q.second
    → KeptBy s m most (p ∷ []) o v g o' v' g'
    → KeptBy s m most (q ∷ []) o v g o' v' g'
entry_kept q p kind first second k =
    kept_as (λ t. record { kind = kind t; first = first t; second = second t } ∷ []) k

entries_next : (l : List ℕ) (k : ℕ) → k < length l → mesh_pairs_in (k + 1) l ≡ mesh_pairs_in k l ++ (mesh_pair_at l k ∷ [])
entries_next l k h = ap (map mesh_pair_of) (take_next l k 0 h) ∙ map_append mesh_pair_of (take k l) (get_or l k 0 ∷ [])

-- the first k of them are judged
pub record EntriesGoing (s : Scene) (m : Wanted) (most : ℕ) (l : List ℕ) (n : ℕ) (o v : List ℕ) (g : Going) (o' v' : List ℕ) (g' : Going) (k : ℕ) : Type 0 where
  pub within : k ≤ n
  pub done : KeptBy s m most (mesh_pairs_in k l) o v g o' v' g'

pub entries_start : (s : Scene) (m : Wanted) (most : ℕ) (l : List ℕ) (n : ℕ) (o v : List ℕ) (g : Going) → EntriesGoing s m most l n o v g o v g 0
entries_start s m most l n o v g = record { within = omega arith; done = kept_as (none_taken l) (kept_none s m most o v g) }
  where
    none_taken : (l : List ℕ) → [] ≡ mesh_pairs_in 0 l
    none_taken [] = refl
    none_taken (x ∷ l) = refl

module _ {s : Scene} {m : Wanted} {most : ℕ} {l : List ℕ} {n : ℕ} {o v : List ℕ} {g : Going} {o₁ v₁ : List ℕ} {g₁ : Going} {k : ℕ}
    (so : EntriesGoing s m most l n o v g o₁ v₁ g₁ k) where
  pub entries_go : {o₂ v₂ : List ℕ} {g₂ : Going} → k < n → n ≤ length l → KeptBy s m most (mesh_pair_at l k ∷ []) o₁ v₁ g₁ o₂ v₂ g₂
      → EntriesGoing s m most l n o v g o₂ v₂ g₂ (k + 1)
  entries_go h room b = record { within = omega arith; done = kept_as (sym (entries_next l k (omega arith))) (kept_then so.done b) }

  pub entries_few : n ≤ length l → g₁.count ≤ g.count + k
  entries_few room = omega (arith, kept_bound so.done, mesh_in_length k l (omega (arith, so.within, room)))

  pub entries_end : n ≤ k → KeptBy s m most (mesh_pairs_in n l) o v g o₁ v₁ g₁
  entries_end h = let e : k ≡ n = omega (arith, so.within) in kept_as (ap (λ (j : ℕ). mesh_pairs_in j l) e) so.done
