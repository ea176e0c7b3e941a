-- The order of the checks, shown: whatever the scene, the boxes or the text, these are the numbers of the table in the order in which they are asked.
use Rattle.std.specs.Prelude.{ℕ, List, [], ◌∷◌, ◌++◌, map, ◌≡◌, refl, ℤ}
use Rattle.meaning.specs.Scene.{Scene}
use Rattle.meaning.specs.Refusals.{Check, piece_checks}
use Rattle.meaning.specs.Pierced.{pierced_checks}
use Rattle.meaning.specs.List.{list_checks}
use Rattle.meaning.specs.Saved.{save_checks}
use Rattle.meaning.specs.Claims.{Claim, claims_first, claims_last}
use Rattle.meaning.specs.WholeContacts.{contact_checks, contact_list_checks}
use Rattle.meaning.specs.StoredBoxes.{box_checks, stored_checks}
use Rattle.meaning.specs.Dragging.{move_checks}
use Rattle.meaning.specs.declared.Kind.{Kind}

abbrev numbers : List Check → List ℕ
numbers ks = map (λ k. k.number) ks

module _ (s : Scene) where
  -- 'then 5, 6; 7 last'
  pub order_of_a_pair : (kind : Kind) (i j k : ℕ) → numbers (piece_checks s kind i j k) ≡ 1 ∷ 2 ∷ 3 ∷ 15 ∷ 4 ∷ 5 ∷ 6 ∷ []
  order_of_a_pair kind i j k = refl

  -- of an edge and a triangle too
  pub order_of_a_pierced_pair : (i j : ℕ) → numbers (pierced_checks s i j) ≡ 1 ∷ 2 ∷ 3 ∷ 15 ∷ 4 ∷ 5 ∷ 6 ∷ []
  order_of_a_pierced_pair i j = refl

  pub order_of_a_list : (room : ℕ) → numbers (list_checks s room) ≡ 1 ∷ 2 ∷ 3 ∷ 15 ∷ 4 ∷ 7 ∷ []
  order_of_a_list room = refl

  -- '16 .. after 6'
  pub order_of_a_contact : (kind : Kind) (i j : ℕ) → numbers (contact_checks s kind i j) ≡ 1 ∷ 2 ∷ 3 ∷ 15 ∷ 4 ∷ 5 ∷ 6 ∷ 16 ∷ []
  order_of_a_contact kind i j = refl

  pub order_of_contacts : (room : ℕ) → numbers (contact_list_checks s room) ≡ 1 ∷ 2 ∷ 3 ∷ 15 ∷ 4 ∷ 16 ∷ 7 ∷ []
  order_of_contacts room = refl

  -- 'the scene's first; 12 for a box buffer .. before 1; for the move 5, then 2 for the new coordinates, then 15'
  pub order_of_a_move : (b : List ℤ) (v : ℕ) (c : List ℤ) → numbers (box_checks s b ++ move_checks s v c) ≡ 12 ∷ 1 ∷ 2 ∷ 3 ∷ 15 ∷ 4 ∷ 5 ∷ 2 ∷ 15 ∷ []
  order_of_a_move b v c = refl

  -- 'for the list 17 .. before 7'
  pub order_of_a_stored_list : (b : List ℤ) (room : ℕ) → numbers (box_checks s b ++ stored_checks s b room) ≡ 12 ∷ 1 ∷ 2 ∷ 3 ∷ 15 ∷ 4 ∷ 17 ∷ 7 ∷ []
  order_of_a_stored_list b room = refl

  -- 'the scene's first, 8 for the claims, then the first faulty claim line .. last 7'
  pub order_of_claims : (text : List ℕ) (room : ℕ) (cs : List Claim) → numbers (claims_first s text ++ claims_last room cs) ≡ 1 ∷ 2 ∷ 3 ∷ 15 ∷ 4 ∷ 8 ∷ 7 ∷ []
  order_of_claims text room cs = refl

  -- 'the scene's own first, then 7 .. and 8 .. before 7'
  pub order_of_a_saved_scene : (room : ℕ) → numbers (save_checks s room) ≡ 1 ∷ 2 ∷ 3 ∷ 15 ∷ 4 ∷ 8 ∷ 7 ∷ []
  order_of_a_saved_scene room = refl
