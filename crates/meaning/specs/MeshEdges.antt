-- Edges that were made outside: whether every side of every triangle is an edge, and no edge stands twice. Who made them lends for each side
-- the number of its edge, and the order of the edges by their ends; both are looked at.
use Rattle.std.specs.Prelude.{ℕ, ◌+◌, ◌-◌, ◌*◌, ◌%◌, ◌^◌, ◌<◌, Bool, true, false, not, ◌||◌, ◌&&◌, List, [], ◌∷◌, ◌++◌, ◌≡◌, eqb, leb, ltb, length, get_or, Err, Ok, Result}
use Rattle.sequences.specs.Pick.{pick}
use Rattle.meaning.specs.Scene.{Scene, edge_count, edge_end}
use Rattle.meaning.specs.Refusals.{Outcome, given, refused, number_of, Check, Answers}
use Rattle.meaning.specs.Mesh.{mesh_checks, table_room}
use Rattle.meaning.specs.MeshRows.{no_order}
use Rattle.meaning.specs.declared.EdgesFound as Findings
use Rattle.meaning.specs.declared.Refusal.{Refusal}
use Rattle.meaning.specs.declared.EdgesFound.{EdgesFound}

-- side k, three to a triangle, goes from its corner to the next one around the triangle
abbrev pub next_corner : ℕ → ℕ
next_corner k = pick (eqb (k % 3) 2) (k - 2) (k + 1)

-- an edge has these two ends, in either order
abbrev pub joins : Scene → ℕ → ℕ → ℕ → Bool
joins s e a b = eqb (edge_end s e 0) a && eqb (edge_end s e 1) b || eqb (edge_end s e 0) b && eqb (edge_end s e 1) a

-- side k has not the edge that is lent for it
abbrev pub bare_side : Scene → List ℕ → ℕ → Bool
bare_side s sides k =
    leb (edge_count s) (get_or sides k 0) || not (joins s (get_or sides k 0) (get_or s.triangles k 0) (get_or s.triangles (next_corner k) 0))

-- the ends of an edge in one number, the lower in front
abbrev pub ends_number : Scene → ℕ → ℕ
ends_number s e = pick (ltb a b) (2 ^ 32 * a + b) (2 ^ 32 * b + a)
  where
    a : ℕ
    a = edge_end s e 0

    b : ℕ
    b = edge_end s e 1

-- behind number k of the order the ends do not rise
abbrev pub ends_fall : Scene → List ℕ → ℕ → Bool
ends_fall s order k = leb (ends_number s (get_or order (k + 1) 0)) (ends_number s (get_or order k 0))

-- what is told: all is well; or the first side; or, where no side is bare, the first number of the order
pub data EdgesTold : Type 0 where
  whole : EdgesTold
  bare : ℕ → EdgesTold
  twice : ℕ → EdgesTold

unfoldable pub edges_say : Result EdgesFound Refusal → Outcome EdgesTold
edges_say (Ok Findings.TheVariants.Whole) = given whole
edges_say (Ok (Findings.TheVariants.Bare k)) = given (bare k)
edges_say (Ok (Findings.TheVariants.Twice k)) = given (twice k)
edges_say (Err r) = refused (number_of r) 0

module _ (s : Scene) (sides order : List ℕ) where
  -- no side before k is bare, and the ends rise up to number k of the order
  abbrev pub JoinedTo : ℕ → Type 0
  JoinedTo k = (i : ℕ) → i < k → bare_side s sides i ≡ false

  abbrev pub RisingTo : ℕ → Type 0
  RisingTo k = (i : ℕ) → i < k → ends_fall s order i ≡ false

  unfoldable pub EdgesAre : EdgesTold → Type 0
  EdgesAre whole = JoinedTo (length s.triangles) × RisingTo (edge_count s - 1)
  EdgesAre (bare k) = (k < length s.triangles) × JoinedTo k × (bare_side s sides k ≡ true)
  EdgesAre (twice k) = (k < edge_count s - 1) × JoinedTo (length s.triangles) × RisingTo k × (ends_fall s order k ≡ true)

  -- 12, the table of seams or the places for the edges; 1, 2, 3, 15, 4; 18, a number for each side is not lent, or the order is none
  abbrev pub edges_checks : (table places : ℕ) → List Check
  edges_checks table places =
      record { number = 12; holds = ltb table (table_room s) || ltb places (edge_count s); carries = 0 }
      ∷ (mesh_checks s
      ++ (record { number = 18; holds = not (eqb (length sides) (length s.triangles)) || no_order (edge_count s) order; carries = 0 } ∷ []))

  abbrev pub EdgesChecked : (table places : ℕ) → Result EdgesFound Refusal → Type 0
  EdgesChecked table places r = Answers (edges_checks table places) EdgesAre (edges_say r)
