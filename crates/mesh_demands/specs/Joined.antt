-- Reports of parts, joined: where parts of a mesh hold every pair that it lists, a pair is listed in the mesh with a word exactly when it is listed with that word
-- in a part that holds it; so with contacts. The pairs of all parts under the mesh's numbers, each once and in order, are the mesh's list.
use Rattle.std.specs.Prelude.{ℕ, ◌<◌, false, ◌≡◌}
use mathlib.Core.List.{Memᴰ}
use Rattle.meaning.specs.Scene.{Scene}
use Rattle.meaning.specs.Resting.{PairSettled}
use Rattle.meaning.specs.WholeContacts.{WholeContactIs}
use Rattle.meaning.specs.Refusals.{not_there}
use Rattle.meaning.specs.List.{Pair, pairs}
use Rattle.meaning.specs.declared.Settled.{Settled}
use Rattle.meaning.specs.declared.WholeContact.{WholeContact}
use Rattle.mesh_demands.specs.Part.{Places, PartOf, in_whole}
use Rattle.mesh_demands.specs.Meshes.{Mesh}

-- a line of a report: the pair stands in the list, and has the word
pub record Reported (s : Scene) (q : Pair) (w : Settled) : Type 0 where
  pub stands : Memᴰ q (pairs s)
  pub word : PairSettled s q.kind q.first q.second w

-- a line with what a hit carries
pub record Met (s : Scene) (q : Pair) (x : WholeContact) : Type 0 where
  pub stands : Memᴰ q (pairs s)
  pub contact : WholeContactIs s q.kind q.first q.second x

-- parts of s, numbered, each a mesh: an accepted scene is one
pub record PartsOf (s : Scene) : Type 0 where
  pub many : ℕ
  pub scene : ℕ → Scene
  pub places : ℕ → Places
  pub part : (n : ℕ) → n < many → PartOf (places n) (scene n) s
  pub mesh : (n : ℕ) → n < many → Mesh (scene n)

module _ {s : Scene} (ps : PartsOf s) where
  -- part n holds the pair q of the whole: one of its own pairs stands there, and is it
  pub record Holds (n : ℕ) (q : Pair) : Type 0 where
    pub own : Pair
    pub there : not_there (ps.scene n) own.kind own.first own.second ≡ false
    pub is : in_whole (ps.places n) own ≡ q

  -- every listed pair is held by some part
  abbrev pub HoldAll : Type 0
  HoldAll = (q : Pair) → Memᴰ q (pairs s) → (n : ℕ) × (n < ps.many) × Holds n q

  -- some part has the line
  abbrev pub SomeReport : Pair → Settled → Type 0
  SomeReport q w = (n : ℕ) × (n < ps.many) × (h : Holds n q) × Reported (ps.scene n) h.own w

  abbrev pub SomeMet : Pair → WholeContact → Type 0
  SomeMet q x = (n : ℕ) × (n < ps.many) × (h : Holds n q) × Met (ps.scene n) h.own x

  module _ (all : HoldAll) where
    -- some part lists it
    abbrev pub SomeLists : Pair → Type 0
    SomeLists q = (n : ℕ) × (n < ps.many) × (h : Holds n q) × Memᴰ h.own (pairs (ps.scene n))
