-- The check of edges that were made outside: what each way out of it gives.
use Rattle.std.specs.Prelude.{ℕ, ◌-◌, ◌%◌, ◌≤◌, ◌<◌, Bool, true, false, not, ◌||◌, List, [], ◌∷◌, ◌≢◌, ◌≡◌, eqb, ltb, ℤ, length, Err, Ok, Result}
use Rattle.std.proofs.Math.Path.{refl}
use Rattle.std.proofs.Common.{sym, ap, ◌∙◌, arith, eq-eqb, ne_eqb, eqb-true, ltb-false}
use Rattle.std.proofs.lemmas.Bool.{not-false}
use Rattle.sequences.specs.Pick.{neither}
use Rattle.meaning.specs.Scene.{Scene, scene_of, edge_count}
use Rattle.meaning.specs.Mesh.{mesh_checks, table_room}
use Rattle.meaning.specs.MeshRows.{no_order}
use Rattle.meaning.specs.MeshEdges.{whole, bare, twice, edges_say, bare_side, ends_fall, EdgesAre, EdgesChecked}
use Rattle.meaning.specs.Refusals.{given, refused, number_of, Answers, outcome_alone}
use Rattle.meaning.specs.declared.Refusal.{Refusal}
use Rattle.meaning.specs.declared.Refusal.TheVariants.{ShortBuffer, WrongOrder}
use Rattle.answers.specs.Answering.{refuses, lets_pass, gives, refused_before, given_before}
use Rattle.mesh_checks.specs.Meshes.{AcceptedMesh}
use Rattle.mesh_check_laws.specs.Facts.{mesh_sized}
use Rattle.mesh_lent.specs.Answering.{MeshSewn, short_for, short_told}
use Rattle.mesh_orders.specs.Deciding.{order_of}
use Rattle.mesh_orders.specs.Told.{OrderTold, parts_only}
use Rattle.mesh_edges.specs.First.{FirstWith}
use Rattle.mesh_edges.specs.Ends.{EdgeOrder}
use Rattle.meaning.specs.declared.EdgesFound as Findings
use Rattle.meaning.specs.declared.EdgesFound.{EdgesFound}

-- ---- 18

-- a number for each side is not lent, or the order is none
abbrev pub wrong_hints : Scene → (sides order : List ℕ) → Bool
wrong_hints s sides order = not (eqb (length sides) (length s.triangles)) || no_order (edge_count s) order

module _ (s : Scene) (sides order : List ℕ) where
  pub sides_missing : length sides ≢ length s.triangles → true ≡ wrong_hints s sides order
  sides_missing h = rw (ne_eqb (length sides) (length s.triangles) h)

  module _ (sided : length sides ≡ length s.triangles) where
    pub order_short : length order ≢ edge_count s → true ≡ wrong_hints s sides order
    order_short h = rw (eq-eqb (length sides) (length s.triangles) sided, ne_eqb (length order) (edge_count s) h)

    pub order_told : {t t' : List ℕ} {r : Bool} → length order ≡ edge_count s → OrderTold order t t' r → not r ≡ wrong_hints s sides order
    order_told {r = r} long told =
        ap not (told.says ∙ ap (λ n. not (no_order n order)) long) ∙ twice_not (no_order (edge_count s) order) ∙ only_order
      where
        only_order : no_order (edge_count s) order ≡ wrong_hints s sides order
        only_order = rw (eq-eqb (length sides) (length s.triangles) sided)

        twice_not : (b : Bool) → not (not b) ≡ b
        twice_not true = refl
        twice_not false = refl

  -- where neither is so
  pub right_sides : wrong_hints s sides order ≡ false → length sides ≡ length s.triangles
  right_sides h = eqb-true (length sides) (length s.triangles) (not-false _ (neither _ (no_order (edge_count s) order) h).0)

  pub right_order : wrong_hints s sides order ≡ false → no_order (edge_count s) order ≡ false
  right_order h = (neither (not (eqb (length sides) (length s.triangles))) (no_order (edge_count s) order) h).1

-- an order has every number once, so each is an edge's
pub edge_order : (e t order : List ℕ) → no_order (edge_count (parts_only e t)) order ≡ false → EdgeOrder e order
edge_order e t order fine =
    let o = order_of (edge_count (parts_only e t)) order fine in
    record { whole = o.whole; inside = λ k h. omega (arith, o.whole, o.out.inside k (omega (arith, o.whole))) }

-- ---- what is told of them

-- whatever the positions and the seams are
abbrev pub ToldOf : (e t sides order : List ℕ) → Result EdgesFound Refusal → Type 0
ToldOf e t sides order r = (p : List ℤ) (w : List ℕ) → Answers [] (EdgesAre (scene_of p e t w) sides order) (edges_say r)

abbrev pub LookedAt : (e t sides order : List ℕ) → Result EdgesFound Refusal → Type 0
LookedAt e t sides order r =
    (p : List ℤ) (w : List ℕ)
    → Answers (record { number = 18; holds = wrong_hints (parts_only e t) sides order; carries = 0 } ∷ []) (EdgesAre (scene_of p e t w) sides order) (edges_say r)

module _ (e t sides order : List ℕ) where
  pub hints_refused : wrong_hints (parts_only e t) sides order ≡ true → LookedAt e t sides order (Err WrongOrder)
  unfolding edges_say number_of
  hints_refused h p w = refuses _ _ _ _ h refl

  pub hints_pass : (r : Result EdgesFound Refusal) → wrong_hints (parts_only e t) sides order ≡ false → ToldOf e t sides order r → LookedAt e t sides order r
  hints_pass r h told p w = lets_pass _ _ _ _ h (told p w)

  module _ {side : ℕ} (first : FirstWith (length t) (bare_side (parts_only e t) sides) side) where
    pub tells_bare : side < length t → ToldOf e t sides order (Ok (Findings.TheVariants.Bare side))
    unfolding edges_say EdgesAre
    tells_bare h p w = gives (EdgesAre (scene_of p e t w) sides order) (bare side) (h, first.before, first.passes h)

    module _ (none : length t ≤ side) (long : length order ≡ edge_count (parts_only e t)) where
      joined_all : (i : ℕ) → i < length t → bare_side (parts_only e t) sides i ≡ false
      joined_all i h = first.before i (omega arith)

      module _ {fall : ℕ} (low : FirstWith (length order - 1) (ends_fall (parts_only e t) order) fall) where
        pub tells_twice : fall < length order - 1 → ToldOf e t sides order (Ok (Findings.TheVariants.Twice fall))
        unfolding edges_say EdgesAre
        tells_twice h p w =
            gives (EdgesAre (scene_of p e t w) sides order) (twice fall)
            (omega (arith, long), joined_all, low.before, low.passes h)

        pub tells_whole : length order - 1 ≤ fall → ToldOf e t sides order (Ok Findings.TheVariants.Whole)
        unfolding edges_say EdgesAre
        tells_whole h p w =
            gives (EdgesAre (scene_of p e t w) sides order) whole (joined_all, λ i l. low.before i (omega (arith, long)))

-- ---- 12, the five, 18

module _ (s : Scene) (sides order table places : List ℕ) where
  abbrev pub hints_short : Bool
  hints_short = short_for s table || ltb (length places) (edge_count s)

  short_is : hints_short ≡ ltb (length table) (table_room s) || ltb (length places) (edge_count s)
  short_is = ap (λ b. b || ltb (length places) (edge_count s)) (short_told s table)

  pub lent_short : hints_short ≡ true → EdgesChecked s sides order (length table) (length places) (Err ShortBuffer)
  unfolding edges_say number_of
  lent_short h = refuses _ _ _ _ (sym short_is ∙ h) refl

  module _ (long : hints_short ≡ false) where
    pub table_room_lem : table_room s ≤ length table
    table_room_lem =
        ltb-false (length table) (table_room s)
        (neither (ltb (length table) (table_room s)) (ltb (length places) (edge_count s)) (sym short_is ∙ long)).0

    pub place_room_lem : edge_count s ≤ length places
    place_room_lem = ltb-false (length places) (edge_count s) (neither (short_for s table) (ltb (length places) (edge_count s)) long).1

    module _ {t' : List ℕ} {checked : Result (Unit {0}) Refusal} (sewn : MeshSewn s t' checked) where
      pub mesh_refused : (x : Refusal) → checked ≡ Err x
          → EdgesChecked s sides order (length table) (length places) (Err x)
      unfolding outcome_alone edges_say
      mesh_refused x e =
          let a : Answers (mesh_checks s) (λ t. Unit {0}) (refused (number_of x) 0) = rw e at sewn.checked in
          lets_pass _ _ _ _ (sym short_is ∙ long)
          (refused_before (λ t. Unit {0}) (EdgesAre s sides order) (mesh_checks s) _ (number_of x) 0 a)

      pub mesh_passed : (r : Result EdgesFound Refusal) → checked ≡ Ok tt → LookedAt s.edges s.triangles sides order r
          → EdgesChecked s sides order (length table) (length places) r
      unfolding outcome_alone
      mesh_passed r e looked =
          let a : Answers (mesh_checks s) (λ t. Unit {0}) (given tt) = rw e at sewn.checked in
          lets_pass _ _ _ _ (sym short_is ∙ long)
          (given_before (λ t. Unit {0}) (EdgesAre s sides order) (mesh_checks s) _ tt (edges_say r) a (looked s.positions s.seams))

-- an accepted mesh has whole triangles, and not too many edges
pub whole_triangles : {s : Scene} → AcceptedMesh s → (length s.triangles % 3 ≡ 0) × (edge_count s ≤ 1073741824)
whole_triangles a = let z = mesh_sized a in (omega (arith, z.triangles_long), z.few_edges)
