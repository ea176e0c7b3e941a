-- Many pairs of a mesh packed into one scene. Where a pair alone stands in a scene, that scene says of it what the mesh says, whatever else it holds. So one
-- call for a list of one's own, over a scene in which pairs of a mesh stand alone side by side, gives the words and the contacts that they have in the mesh.
use Rattle.std.specs.Prelude.{ℕ, ◌≡◌}
use mathlib.Core.List.{List, [], ◌∷◌}
use Rattle.std.proofs.Common.{ap₂}
use Rattle.meaning.specs.Scene.{Scene}
use Rattle.meaning.specs.Refusals.{Outcome}
use Rattle.meaning.specs.List.{Pair, pair}
use Rattle.meaning.specs.OwnList.{asked_for}
use Rattle.meaning.specs.declared.WholeContact.{WholeContact}
use Rattle.meaning.specs.declared.Settled.{Settled}
use Rattle.corner_search.specs.Decided.{pair_word}
use Rattle.contact_entries.specs.Computed.{whole_contact_of}
use Rattle.mesh_demands.specs.Part.{Places, PartOf, first_place, second_place, in_whole}
use Rattle.mesh_demands.specs.Alone.{Apart, alone, alone_first, alone_second}

-- ---- one pair

-- the pair x of the mesh s, in the numbers of its scene alone
abbrev pub own_pair : Scene → Pair → Pair
own_pair s x = pair x.kind (alone_first s x.kind x.first x.second) (alone_second x.kind)

-- the pair q of p is the pair x of the mesh s: x alone is a part of p, and stands there as q
pub record Holds (p s : Scene) (q x : Pair) : Type 0 where
  pub apart : Apart s x.kind x.first x.second
  pub places : Places
  pub part : PartOf places (alone s x.kind x.first x.second) p
  pub is : in_whole places (own_pair s x) ≡ q

-- ---- a list of one's own

-- each entry asks for the pair of the mesh in its place
unfoldable pub AllHeld : Scene → Scene → List ℕ → List Pair → Type 0
AllHeld p s [] [] = Unit {0}
AllHeld p s [] (x ∷ xs) = ⊥
AllHeld p s (e ∷ es) [] = ⊥
AllHeld p s (e ∷ es) (x ∷ xs) = Holds p s (asked_for e) x × AllHeld p s es xs
