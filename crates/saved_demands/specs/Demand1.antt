-- Demand 1 for saving: 'the scene's own first, then 7 where the text is longer than the buffer, with the length needed, and 8 where it is
-- over 32,768 bytes, before 7'. The rows of the table, one by one.
use Rattle.std.specs.Prelude.{ℕ, Bool, true, false, ◌↔◌, ◌≡◌, refl, ltb, length, Err, Result}
use mathlib.Core.List.{List, [], ◌∷◌, ◌++◌, map, Memᴰ}
use Rattle.std.proofs.Common.{sym, ap, ◌∙◌}
use Rattle.meaning.specs.Limits.{text_limit}
use Rattle.meaning.specs.Scene.{Scene, Accepted, wrong_shape, out_of_range, unknown_vertex, broken_seam, repeated_vertex}
use Rattle.meaning.specs.Refusals.{Outcome, given, refused, Check, Answers, outcome_of}
use Rattle.meaning.specs.List.{leaves}
use Rattle.answers.specs.Deciding.{Refuses, carried_by, NoneHolds, absent, distinct, refused_exactly, number_known, gives_exactly}
use Rattle.demands.specs.Demand1.{SceneRows}
use Rattle.meaning.specs.Saved.{saved_text, saved_checks, save_checks, Measured, Saved}
use Rattle.saved_scene.specs.Answering.{IsLength}
use Rattle.meaning.specs.declared.Refused.{Refused}

-- 8, and where it does not hold 7
abbrev pub over_long : Scene → Bool
over_long s = ltb text_limit (length (saved_text s))

abbrev pub no_room : Scene → ℕ → Bool
no_room s room = ltb room (length (saved_text s))

-- none of the five, and then
abbrev ThenIs : Scene → Type 0 → Type 0
ThenIs s R = (wrong_shape s ≡ false) × ((out_of_range s ≡ false) × ((unknown_vertex s ≡ false) × ((broken_seam s ≡ false) × ((repeated_vertex s ≡ false) × R))))

pub record SaveTable (s : Scene) (room : ℕ) (o : Outcome ℕ) : Type 0 where
  pub rows : SceneRows s o
  pub no8 : (o ≡ refused 8 0) ↔ ThenIs s (over_long s ≡ true)
  pub no7 : (o ≡ refused 7 (length (saved_text s))) ↔ ThenIs s ((over_long s ≡ false) × (no_room s room ≡ true))
  pub only : (n c : ℕ) → o ≡ refused n c → Memᴰ n (1 ∷ 2 ∷ 3 ∷ 15 ∷ 4 ∷ 8 ∷ 7 ∷ [])

pub demand1_save : (s : Scene) (o o' : List ℕ) (r : Result ℕ Refused) → Saved s o o' r → SaveTable s (length o) (outcome_of r)
unfolding Refuses carried_by absent distinct
demand1_save s o o' r p =
    let row = refused_exactly (IsLength s) (save_checks s (length o)) (outcome_of r) refl p.answer in
    record {
      rows = record { no1 = row 1; no2 = row 2; no3 = row 3; no15 = row 15; no4 = row 4 };
      no8 = row 8;
      no7 = row 7;
      only = number_known (IsLength s) (save_checks s (length o)) (outcome_of r) p.answer;
    }

pub record LengthTable (s : Scene) (o : Outcome ℕ) : Type 0 where
  pub rows : SceneRows s o
  pub no8 : (o ≡ refused 8 0) ↔ ThenIs s (over_long s ≡ true)
  pub only : (n c : ℕ) → o ≡ refused n c → Memᴰ n (1 ∷ 2 ∷ 3 ∷ 15 ∷ 4 ∷ 8 ∷ [])

pub demand1_length : (s : Scene) (r : Result ℕ Refused) → Measured s r → LengthTable s (outcome_of r)
unfolding Refuses carried_by absent distinct
demand1_length s r p =
    let row = refused_exactly (IsLength s) (saved_checks s) (outcome_of r) refl p in
    record {
      rows = record { no1 = row 1; no2 = row 2; no3 = row 3; no15 = row 15; no4 = row 4 };
      no8 = row 8;
      only = number_known (IsLength s) (saved_checks s) (outcome_of r) p;
    }

-- a refusal leaves every byte of the lent buffer as it was
pub save_unchanged : {s : Scene} {o o' : List ℕ} {x : Refused} → Saved s o o' (Err x) → o' ≡ o
unfolding outcome_of leaves
save_unchanged p = p.buffer
