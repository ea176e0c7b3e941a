-- The promises of the calls over a mesh, shown of something: 513 vertices in one place, which is no scene, and no row of it asked for.
use Rattle.std.specs.Prelude.{ℕ, Bool, false, ◌≡◌, refl, ℤ, pos, get_or, Ok, Result}
use mathlib.Core.List.{List, [], ◌∷◌}
use Rattle.std.proofs.Common.{not-suc-le-zero, arith}
use Rattle.std.proofs.Math.ListN.{length}
use Rattle.std.proofs.lemmas.List.{length-replicate, get_or-replicate}
use Rattle.sequences.specs.Gather.{gather_none}
use Rattle.meaning.specs.Limits.{contact_limit}
use Rattle.meaning.specs.Scene.{Scene, beyond, reaches_beyond, some_below}
use Rattle.meaning.specs.Refusals.{Outcome, given, Check, Answers, room_check, outcome_alone, outcome_of}
use Rattle.meaning.specs.List.{leaves}
use Rattle.meaning.specs.SceneWords.{AllSettled}
use Rattle.meaning.specs.WholeContacts.{range_check, AllContacts, rows_after, rows_left}
use Rattle.meaning.specs.Mesh.{MeshAccepted}
use Rattle.meaning.specs.MeshRows.{Lent, wrong_order, rows_gone, row_count, row_checks, mesh_row, rows_in, RowsCounted, RowsListed, RowsSettled, RowsContacts}
use Rattle.meaning.specs.MeshRows.{kept, kept_told, RowsKept, ContactsKept}
use Rattle.meaning.specs.MeshEdges.{whole, edges_say, JoinedTo, RisingTo, EdgesAre, EdgesChecked}
use Rattle.meaning.specs.declared.RowPairs.{RowPairs}
use Rattle.meaning.specs.declared.Wanted.{Wanted}
use Rattle.answers.specs.Answering.{lets_pass}
use Rattle.answers.specs.Below.{none_below}
use Rattle.mesh_checks.specs.Meshes.{AcceptedMesh}
use Rattle.mesh_check_laws.specs.Shown.{one_too_many, accepted_as_mesh}
use Rattle.rows_demands.specs.Refused.{lent_checks, RowsAsked}
use Rattle.meaning.specs.declared.EdgesFound.TheVariants.{Whole}
use Rattle.meaning.specs.declared.KeptRows.{KeptRows}
use Rattle.meaning.specs.declared.Refused.{Refused}

-- what no check refuses is answered
pub accepted_answers : {A : Type 0} (R : A → Type 0) {short : Bool} {s : Scene} (more : List Check) (o : Outcome A) → short ≡ false → AcceptedMesh s
    → Answers more R o → Answers (lent_checks short s more) R o
unfolding Answers
accepted_answers R more o lent m p = rw (lent, m.shapely, m.in_range, m.known, m.sewn_well, m.distinct) p

pub asked_answers : {A : Type 0} (R : A → Type 0) {s : Scene} {l : Lent} {rows first end : ℕ} (more : List Check) (o : Outcome A)
    → RowsAsked s l rows first end → Answers more R o → Answers (row_checks s l rows first end more) R o
unfolding Answers
asked_answers R {s} {l} {rows} {first} {end} more o a p =
    accepted_answers R
    (record { number = 18; holds = wrong_order s l; carries = 0 } ∷ record { number = 5; holds = rows_gone rows first end; carries = 0 } ∷ more)
    o a.lent a.accepted
    (rw (a.ordered, a.there) p)

abbrev pub enough : Lent
enough = record { edge_order = []; triangle_order = []; table = 0; places = 0; boxes = 3_270 }

pub asked_shown : RowsAsked one_too_many enough (row_count one_too_many) 0 0
unfolding some_below
asked_shown = record { lent = refl; accepted = accepted_as_mesh; ordered = refl; there = refl }

abbrev none : Result ℕ Refused
none = Ok 0

module _ (w : RowPairs) where
  nothing : rows_in w one_too_many 0 0 ≡ []
  nothing = gather_none (mesh_row w one_too_many) 0 0 (omega arith)

  pub counted_shown : RowsCounted w one_too_many enough 0 0 none
  unfolding Answers outcome_of
  counted_shown = asked_answers (λ n. n ≡ length (rows_in w one_too_many 0 0)) [] (outcome_of none) asked_shown (rw nothing)

  pub listed_shown : RowsListed w one_too_many enough 0 0 [] [] none
  unfolding Answers outcome_of leaves
  listed_shown =
      record {
        answer =
            asked_answers (λ n. n ≡ length (rows_in w one_too_many 0 0)) (room_check 0 (length (rows_in w one_too_many 0 0)) ∷ []) (outcome_of none) asked_shown
            (rw nothing refl);
        list = rw nothing refl;
      }

  pub settled_shown : RowsSettled w one_too_many enough 0 0 [] [] [] [] none
  unfolding Answers outcome_of leaves AllSettled
  settled_shown =
      record {
        answer =
            asked_answers (λ n. n ≡ length (rows_in w one_too_many 0 0)) (room_check 0 (length (rows_in w one_too_many 0 0)) ∷ []) (outcome_of none) asked_shown
            (rw nothing refl);
        list = rw nothing refl;
        words = [];
        right = rw nothing tt;
        bytes = refl;
      }

  near_enough : reaches_beyond contact_limit one_too_many ≡ false
  near_enough =
      none_below (λ i. beyond contact_limit (get_or one_too_many.positions i (pos 0))) (length one_too_many.positions)
      (λ i h. rw (get_or-replicate {A = ℤ} 3_078 i (pos 0) (pos 0) (omega (arith, h, length-replicate {A = ℤ} 3_078 (pos 0)))))

  pub contacts_shown : RowsContacts w one_too_many enough 0 0 [] [] [] [] [] [] none
  unfolding Answers outcome_of leaves AllContacts rows_after rows_left
  contacts_shown =
      record {
        answer =
            asked_answers (λ n. n ≡ length (rows_in w one_too_many 0 0)) (range_check one_too_many ∷ room_check 0 (length (rows_in w one_too_many 0 0)) ∷ [])
            (outcome_of none) asked_shown
            (lets_pass (λ n. n ≡ length (rows_in w one_too_many 0 0)) (range_check one_too_many) (room_check 0 (length (rows_in w one_too_many 0 0)) ∷ [])
            (outcome_of none) near_enough (rw nothing refl));
        list = rw nothing refl;
        contacts = [];
        right = rw nothing tt;
        bytes = refl;
        rows = refl;
      }

  module _ (m : Wanted) where
    abbrev none_kept : Result KeptRows Refused
    none_kept = Ok (kept_told m [])

    pub kept_shown : RowsKept w m one_too_many enough 0 0 [] [] [] [] none_kept
    unfolding Answers outcome_of kept leaves AllSettled
    kept_shown =
        record {
          words = [];
          right = rw nothing tt;
          answer = asked_answers (λ t. t ≡ kept_told m []) (room_check 0 0 ∷ []) (outcome_of none_kept) asked_shown refl;
          list = refl;
          bytes = refl;
        }

    pub contacts_kept_shown : ContactsKept w m one_too_many enough 0 0 [] [] [] [] [] [] none_kept
    unfolding Answers outcome_of kept leaves AllSettled AllContacts rows_after rows_left
    contacts_kept_shown =
        record {
          words = [];
          right = rw nothing tt;
          answer =
              asked_answers (λ t. t ≡ kept_told m []) (range_check one_too_many ∷ room_check 0 0 ∷ []) (outcome_of none_kept) asked_shown
              (lets_pass (λ t. t ≡ kept_told m []) (range_check one_too_many) (room_check 0 0 ∷ []) (outcome_of none_kept) near_enough refl);
          list = refl;
          bytes = refl;
          contacts = [];
          met = tt;
          rows = refl;
        }

-- ---- of the mesh itself, and of its edges

pub mesh_shown : MeshAccepted one_too_many 0 (Ok tt)
unfolding Answers outcome_alone
mesh_shown = accepted_answers (λ t. Unit {0}) [] (given tt) refl accepted_as_mesh tt

pub joined_shown : JoinedTo one_too_many [] [] 0
joined_shown i h = absurd (not-suc-le-zero h)

pub rising_shown : RisingTo one_too_many [] [] 0
rising_shown i h = absurd (not-suc-le-zero h)

pub edges_shown : EdgesChecked one_too_many [] [] 0 0 (Ok Whole)
unfolding Answers edges_say EdgesAre some_below
edges_shown =
    accepted_answers (EdgesAre one_too_many [] []) (record { number = 18; holds = false; carries = 0 } ∷ []) (given whole) refl accepted_as_mesh
    (joined_shown, rising_shown)
