-- Demand 1 of each call over a mesh: its table of refusals, when it gives a value and which, and that a refusal changes no lent number but the scratch.
-- It is said of the promises, of whatever size the mesh is.
use Rattle.std.specs.Prelude.{ℕ, min, Bool, true, false, not, ◌||◌, ◌↔◌, ◌≡◌, refl, eqb, ltb, length, Result}
use mathlib.Core.List.{List, [], ◌∷◌, map, Memᴰ}
use Rattle.std.proofs.Common.{sym, ◌∙◌}
use Rattle.std.proofs.Math.Path.{ap}
use Rattle.meaning.specs.Scene.{Scene, edge_count}
use Rattle.meaning.specs.Refusals.{Outcome, given, refused, Check, outcome_alone, outcome_of}
use Rattle.meaning.specs.List.{leaves}
use Rattle.meaning.specs.SceneWords.{byte_of, AllSettled}
use Rattle.meaning.specs.WholeContacts.{contact_room, word_of, rows_after}
use Rattle.meaning.specs.Mesh.{table_room, MeshAccepted}
use Rattle.meaning.specs.MeshRows.{Lent, no_order, row_count, rows_in, mesh_entries, RowsCounted, RowsListed, RowsSettled, RowsContacts}
use Rattle.meaning.specs.MeshRows.{kept, kept_told, RowsKept, ContactsKept}
use Rattle.meaning.specs.MeshEdges.{EdgesTold, edges_say, EdgesAre, EdgesChecked, edges_checks}
use Rattle.meaning.specs.declared.KeptRows.{KeptRows}
use Rattle.meaning.specs.declared.RowPairs.{RowPairs}
use Rattle.meaning.specs.declared.Settled.{Settled}
use Rattle.meaning.specs.declared.Wanted.{Wanted}
use Rattle.answers.specs.Deciding.{Refuses, carried_by, NoneHolds, absent, distinct, refused_exactly, number_known, gives_exactly}
use Rattle.list_words.specs.OneResult.{all_judged_one}
use Rattle.mesh_checks.specs.Meshes.{AcceptedMesh}
use Rattle.mesh_edges.specs.Saying.{one_told}
use Rattle.rows_demands.specs.Refused.{MeshRefusals, lent_checks, mesh_refusals, then_mesh}
use Rattle.rows_demands.specs.Refused.{CountTable, RoomTable, RangeTable, count_table, room_table, range_table}
use Rattle.meaning.specs.declared.Refusal.{Refusal}
use Rattle.meaning.specs.declared.Refused.{Refused}
use Rattle.meaning.specs.declared.EdgesFound.{EdgesFound}

-- a table, and what is the same after a refusal
pub record AsDemanded {A : Type 0} (Table : Outcome A → Type 0) (Same : Type 0) (o : Outcome A) : Type 0 where
  pub table : Table o
  pub unchanged : (n c : ℕ) → o ≡ refused n c → Same

-- the only value that is right
abbrev pub Equals : {A : Type 0} → A → A → Type 0
Equals a b = b ≡ a

equals_one : {A : Type 0} (x a b : A) → Equals x a → Equals x b → a ≡ b
equals_one x a b h k = h ∙ sym k

module _ {A : Type 0} {x : Outcome A} {n c : ℕ} (e : x ≡ refused n c) where
  left_alone : (l : List ℕ) {o o' : List ℕ} → o' ≡ leaves x l o → o' ≡ o
  unfolding leaves
  left_alone l {o} p = p ∙ ap (λ (y : Outcome A). leaves y l o) e

-- ---- check_mesh: 12, then the five

pub record MeshTable (s : Scene) (table : ℕ) (o : Outcome (Unit {0})) : Type 0 where
  pub refusals : MeshRefusals (ltb table (table_room s)) s o
  pub only : (n c : ℕ) → o ≡ refused n c → Memᴰ n (12 ∷ 1 ∷ 2 ∷ 3 ∷ 15 ∷ 4 ∷ [])
  pub gives : (o ≡ given tt) ↔ ((ltb table (table_room s) ≡ false) × AcceptedMesh s)

pub demand1_mesh : (s : Scene) (table : ℕ) (r : Result (Unit {0}) Refusal) → MeshAccepted s table r → MeshTable s table (outcome_alone r)
unfolding absent distinct NoneHolds
demand1_mesh s table r p =
    let Fine : Unit {0} → Type 0 = λ t. Unit {0} in
    let short = ltb table (table_room s) in
    let told = gives_exactly Fine (λ a b h k. refl) (lent_checks short s []) (outcome_alone r) p tt in
    record {
      refusals = mesh_refusals Fine short s [] (outcome_alone r) refl p;
      only = number_known Fine (lent_checks short s []) (outcome_alone r) p;
      gives = (
        λ e. let (h, (a, _)) = then_mesh.0 (told.0 e).0 in (h, a),
        λ h. told.1 (then_mesh.1 (h.0, (h.1, tt)), tt),
      );
    }

-- ---- check_edges: 12, the five, then 18

abbrev pub no_certificate : (s : Scene) (sides order : List ℕ) → Bool
no_certificate s sides order = not (eqb (length sides) (length s.triangles)) || no_order (edge_count s) order

abbrev pub edges_short : Scene → (table places : ℕ) → Bool
edges_short s table places = ltb table (table_room s) || ltb places (edge_count s)

pub record EdgesTable (s : Scene) (sides order : List ℕ) (table places : ℕ) (o : Outcome EdgesTold) : Type 0 where
  pub refusals : MeshRefusals (edges_short s table places) s o
  pub no18 : (o ≡ refused 18 0) ↔ ((edges_short s table places ≡ false) × (AcceptedMesh s × (no_certificate s sides order ≡ true)))
  pub only : (n c : ℕ) → o ≡ refused n c → Memᴰ n (12 ∷ 1 ∷ 2 ∷ 3 ∷ 15 ∷ 4 ∷ 18 ∷ [])
  pub gives : (t : EdgesTold) → (o ≡ given t)
      ↔ ((edges_short s table places ≡ false) × (AcceptedMesh s × ((no_certificate s sides order ≡ false) × EdgesAre s sides order t)))

pub demand1_edges : (s : Scene) (sides order : List ℕ) (table places : ℕ) (r : Result EdgesFound Refusal) → EdgesChecked s sides order table places r
    → EdgesTable s sides order table places (edges_say r)
unfolding Refuses carried_by absent distinct NoneHolds
demand1_edges s sides order table places r p =
    let Right : EdgesTold → Type 0 = EdgesAre s sides order in
    let last : List Check = record { number = 18; holds = no_certificate s sides order; carries = 0 } ∷ [] in
    let ks : List Check = edges_checks s sides order table places in
    let row = refused_exactly Right ks (edges_say r) refl p in
    record {
      refusals = mesh_refusals Right (edges_short s table places) s last (edges_say r) refl p;
      no18 = (λ e. then_mesh.0 ((row 18).0 e), λ h. (row 18).1 (then_mesh.1 h));
      only = number_known Right ks (edges_say r) p;
      gives = λ t.
          let told = gives_exactly Right (one_told s sides order) ks (edges_say r) p t in (
            λ e. let (h, is) = told.0 e in let (short, (a, (made, _))) = then_mesh.0 h in (short, (a, (made, is))),
            λ h. told.1 (then_mesh.1 (h.0, (h.1.0, (h.1.1.0, tt))), h.1.1.1),
          );
    }

-- ---- count_rows, list_rows, settle_rows, contact_rows

module _ (w : RowPairs) (s : Scene) (l : Lent) (first end : ℕ) where
  abbrev Pairs : ℕ
  Pairs = length (rows_in w s first end)

  pub demand1_count : (r : Result ℕ Refused) → RowsCounted w s l first end r → CountTable (Equals Pairs) s l (row_count s) first end (outcome_of r)
  demand1_count r p = count_table (Equals Pairs) (equals_one Pairs) s l (row_count s) first end (outcome_of r) p

  pub demand1_list : (o o' : List ℕ) (r : Result ℕ Refused) → RowsListed w s l first end o o' r
      → AsDemanded (RoomTable (Equals Pairs) s l (row_count s) first end (length o) Pairs) (o' ≡ o) (outcome_of r)
  demand1_list o o' r p =
      record {
        table = room_table (Equals Pairs) (equals_one Pairs) s l (row_count s) first end (outcome_of r) (length o) Pairs p.answer;
        unchanged = λ n c e. left_alone e (mesh_entries (rows_in w s first end)) p.list;
      }

  pub demand1_settle : (o o' b b' : List ℕ) (r : Result ℕ Refused) → RowsSettled w s l first end o o' b b' r
      → AsDemanded (RoomTable (Equals Pairs) s l (row_count s) first end (min (length o) (length b)) Pairs) ((o' ≡ o) × (b' ≡ b)) (outcome_of r)
  demand1_settle o o' b b' r p =
      record {
        table = room_table (Equals Pairs) (equals_one Pairs) s l (row_count s) first end (outcome_of r) (min (length o) (length b)) Pairs p.answer;
        unchanged = λ n c e. (left_alone e (mesh_entries (rows_in w s first end)) p.list, left_alone e (map byte_of p.words) p.bytes);
      }

  pub demand1_contacts : (o o' b b' c c' : List ℕ) (r : Result ℕ Refused) → RowsContacts w s l first end o o' b b' c c' r
      → AsDemanded (RangeTable (Equals Pairs) s l (row_count s) first end (contact_room o b c) Pairs) ((o' ≡ o) × (b' ≡ b) × (c' ≡ c)) (outcome_of r)
  unfolding rows_after
  demand1_contacts o o' b b' c c' r p =
      record {
        table = range_table (Equals Pairs) (equals_one Pairs) s l (row_count s) first end (outcome_of r) (contact_room o b c) Pairs p.answer;
        unchanged = λ n d e. (
          left_alone e (mesh_entries (rows_in w s first end)) p.list,
          left_alone e (map (λ m. byte_of (word_of m)) p.contacts) p.bytes,
          p.rows ∙ ap (λ (x : Outcome ℕ). rows_after x p.contacts c) e,
        );
      }

-- ---- keep_rows, keep_contacts: of the pairs whose words are asked for

module _ (w : RowPairs) (m : Wanted) (s : Scene) (l : Lent) (first end : ℕ) (ws : List Settled) (judged : AllSettled s (rows_in w s first end) ws) where
  abbrev Wants : KeptRows → Type 0
  Wants = Equals (kept_told m ws)

  abbrev Fits : ℕ → Outcome KeptRows → Type 0
  Fits room = RoomTable Wants s l (row_count s) first end room (length (kept m ws ws))

  abbrev Met : ℕ → Outcome KeptRows → Type 0
  Met room = RangeTable Wants s l (row_count s) first end room (length (kept m ws ws))

  pub demand1_keep : (o o' b b' : List ℕ) (r : Result KeptRows Refused) → RowsKept w m s l first end o o' b b' r
      → AsDemanded (Fits (min (length o) (length b))) ((o' ≡ o) × (b' ≡ b)) (outcome_of r)
  demand1_keep o o' b b' r p =
      let same = all_judged_one s (rows_in w s first end) p.words ws p.right judged in
      record {
        table =
            room_table Wants (equals_one (kept_told m ws)) s l (row_count s) first end (outcome_of r) (min (length o) (length b)) (length (kept m ws ws))
            (rw same at p.answer);
        unchanged = λ n c e. (
          left_alone e (mesh_entries (kept m p.words (rows_in w s first end))) p.list,
          left_alone e (map byte_of (kept m p.words p.words)) p.bytes,
        );
      }

  pub demand1_keep_contacts : (o o' b b' c c' : List ℕ) (r : Result KeptRows Refused) → ContactsKept w m s l first end o o' b b' c c' r
      → AsDemanded (Met (contact_room o b c)) ((o' ≡ o) × (b' ≡ b) × (c' ≡ c)) (outcome_of r)
  unfolding rows_after
  demand1_keep_contacts o o' b b' c c' r p =
      let same = all_judged_one s (rows_in w s first end) p.words ws p.right judged in
      record {
        table =
            range_table Wants (equals_one (kept_told m ws)) s l (row_count s) first end (outcome_of r) (contact_room o b c) (length (kept m ws ws))
            (rw same at p.answer);
        unchanged = λ n d e. (
          left_alone e (mesh_entries (kept m p.words (rows_in w s first end))) p.list,
          left_alone e (map byte_of (kept m p.words p.words)) p.bytes,
          p.rows ∙ ap (λ (x : Outcome KeptRows). rows_after x p.contacts c) e,
        );
      }
