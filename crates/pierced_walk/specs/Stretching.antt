-- The pierced ones of a stretch of rows, counted first, and entered where there is room for all of them.
use Rattle.std.specs.Prelude.{ℕ, ◌≤◌, ◌<◌, ◌≡◌, refl, length, Err, Ok, Result}
use mathlib.Core.List.{List, [], ◌∷◌}
use Rattle.std.proofs.Math.Path.{ap}
use Rattle.std.proofs.Common.{◌∙◌, arith, lt-ltb, le-ltb}
use Rattle.sequences.specs.Wrote.{written, wrote_front}
use Rattle.meaning.specs.Scene.{Scene}
use Rattle.meaning.specs.Refusals.{given, refused, number_of, Check, room_check, Answers, carrying, outcome_of}
use Rattle.meaning.specs.List.{leaves}
use Rattle.meaning.specs.PiercedRows.{through_rows}
use Rattle.meaning.specs.declared.Frame.{Frame}
use Rattle.meaning.specs.declared.Refusal.TheVariants.{NoRoom}
use Rattle.answers.specs.Answering.{refuses, lets_pass, gives}
use Rattle.mesh_entries.specs.Entering.{Entered, entered_none, entered_wrote}
use Rattle.through_laws.specs.Listing.{entries_of, count_of, entries_count, rows_of, rows_entries}
use Rattle.meaning.specs.declared.Refused.{Refused}

-- how many of the rows' are pierced
abbrev pub through_count : Frame → Scene → ℕ → ℕ → ℕ
through_count f s first end = count_of f s (through_rows f s first end)

abbrev pub IsThroughCount : Frame → Scene → ℕ → ℕ → ℕ → Type 0
IsThroughCount f s first end n = n ≡ through_count f s first end

-- 7
abbrev pub room_asked : Frame → Scene → ℕ → ℕ → ℕ → List Check
room_asked f s first end room = room_check room (through_count f s first end) ∷ []

-- by some checks the entries are written in front of a list that held o and holds o'
pub record ThroughListed (ks : List Check) (f : Frame) (s : Scene) (first end : ℕ) (o o' : List ℕ) (r : Result ℕ Refused) : Type 0 where
  pub answer : Answers ks (IsThroughCount f s first end) (outcome_of r)
  pub list : o' ≡ leaves (outcome_of r) (entries_of f s (through_rows f s first end)) o

module _ (f : Frame) (s : Scene) (first end : ℕ) where
  -- all that were walked are counted
  pub walked_count : {most n : ℕ} {o o' : List ℕ} → Entered most o 0 (rows_of f s first end) o' n → IsThroughCount f s first end n
  walked_count w =
      omega (arith, w.counts, entries_count f s (through_rows f s first end), ap length (rows_entries f s first end))

  module _ {n : ℕ} (counted : IsThroughCount f s first end n) (o : List ℕ) (room : ℕ) where
    pub through_refused : room < n → ThroughListed (room_asked f s first end room) f s first end o o (Err (carrying NoRoom n))
    unfolding outcome_of number_of leaves
    through_refused h =
        record {
          answer =
              refuses (IsThroughCount f s first end) _ [] (refused 7 n) (lt-ltb room (through_count f s first end) (rw counted at h)) (ap (refused 7) counted);
          list = refl;
        }

    -- and entered where there is room for them
    pub through_listed : {o' : List ℕ} {m : ℕ} → n ≤ room → room ≤ length o → Entered room o 0 (rows_of f s first end) o' m
        → ThroughListed (room_asked f s first end room) f s first end o o' (Ok n)
    unfolding outcome_of leaves
    through_listed {o'} {m} h wide w =
        let same = walked_count w in
        record {
          answer =
              lets_pass (IsThroughCount f s first end) _ [] (given n) (le-ltb room (through_count f s first end) (rw counted at h))
              (gives (IsThroughCount f s first end) n counted);
          list =
              wrote_front (entered_wrote (omega arith) wide w)
              ∙ ap (λ (l : List ℕ). written l o) (rows_entries f s first end);
        }

    -- where there is none, nothing is written
    pub through_none : n ≡ 0 → room ≤ length o
        → ThroughListed (room_asked f s first end room) f s first end o o (Ok n)
    through_none e wide =
        let short : length (rows_of f s first end) ≡ 0 =
        omega (arith, counted, e, entries_count f s (through_rows f s first end), ap length (rows_entries f s first end)) in
        let none : rows_of f s first end ≡ [] = nothing (rows_of f s first end) short in
        through_listed {m = 0} (omega arith) wide (rw none (entered_none room o 0))
      where
        nothing : (l : List ℕ) → length l ≡ 0 → l ≡ []
        nothing [] h = refl
        nothing (x ∷ l) h = absurd (omega (arith, h))
