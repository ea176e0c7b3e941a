-- Demand 1 of the calls over a mesh: the rows of the table that they have in common, one by one, each number exactly when its condition holds and no check
-- before it does. 12, then 1, 2, 3, 15, 4; of a stretch of rows then 18 and 5; and then what else a call asks: 16, and 7, which carries what is needed.
use Rattle.std.specs.Prelude.{ℕ, ◌≤◌, ◌<◌, Bool, true, false, ◌↔◌, ◌≡◌}
use mathlib.Core.List.{List, [], ◌∷◌, ◌++◌, Memᴰ}
use mathlib.Core.Logic.Iff
use Rattle.std.proofs.Math.Path.{refl}
use borrow.Author.Tests.{ltb-true, ltb-false, lt-ltb, le-ltb}
use Rattle.meaning.specs.Limits.{contact_limit}
use Rattle.meaning.specs.Scene.{Scene, out_of_range, unknown_vertex, broken_seam, repeated_vertex, reaches_beyond}
use Rattle.meaning.specs.Refusals.{Outcome, given, refused, Check, Answers, room_check}
use Rattle.meaning.specs.WholeContacts.{range_check}
use Rattle.meaning.specs.Mesh.{mesh_shape, mesh_checks}
use Rattle.meaning.specs.MeshRows.{Lent, scratch_short, wrong_order, rows_gone, row_checks}
use Rattle.answers.specs.Deciding.{Refuses, carried_by, NoneHolds, absent, distinct, refused_exactly, carries_only, number_known, gives_exactly}
use Rattle.mesh_checks.specs.Meshes.{AcceptedMesh}

-- ---- 12, and the five of a mesh

pub record MeshRefusals {A : Type 0} (short : Bool) (s : Scene) (o : Outcome A) : Type 0 where
  pub no12 : (o ≡ refused 12 0) ↔ (short ≡ true)
  pub no1 : (o ≡ refused 1 0) ↔ ((short ≡ false) × (mesh_shape s ≡ true))
  pub no2 : (o ≡ refused 2 0) ↔ ((short ≡ false) × ((mesh_shape s ≡ false) × (out_of_range s ≡ true)))
  pub no3 : (o ≡ refused 3 0) ↔ ((short ≡ false) × ((mesh_shape s ≡ false) × ((out_of_range s ≡ false) × (unknown_vertex s ≡ true))))
  pub no15 : (o ≡ refused 15 0)
      ↔ ((short ≡ false) × ((mesh_shape s ≡ false) × ((out_of_range s ≡ false) × ((unknown_vertex s ≡ false) × (broken_seam s ≡ true)))))
  pub no4 : (o ≡ refused 4 0)
      ↔ ((short ≡ false)
      × ((mesh_shape s ≡ false) × ((out_of_range s ≡ false) × ((unknown_vertex s ≡ false) × ((broken_seam s ≡ false) × (repeated_vertex s ≡ true))))))

-- 12 and these, and then more
abbrev pub lent_checks : Bool → Scene → List Check → List Check
lent_checks short s more = record { number = 12; holds = short; carries = 0 } ∷ (mesh_checks s ++ more)

module _ {A : Type 0} (Right : A → Type 0) (short : Bool) (s : Scene) (more : List Check) (o : Outcome A) where
  pub mesh_refusals : distinct (lent_checks short s more) ≡ true → Answers (lent_checks short s more) Right o → MeshRefusals short s o
  unfolding Refuses carried_by
  mesh_refusals d p =
      let row = refused_exactly Right (lent_checks short s more) o d p in
      record { no12 = row 12; no1 = row 1; no2 = row 2; no3 = row 3; no15 = row 15; no4 = row 4 }

-- none of them: enough is lent, and the mesh is accepted
abbrev pub ThenMesh : Bool → Scene → Type 0 → Type 0
ThenMesh short s R =
    (short ≡ false)
    × ((mesh_shape s ≡ false) × ((out_of_range s ≡ false) × ((unknown_vertex s ≡ false) × ((broken_seam s ≡ false) × ((repeated_vertex s ≡ false) × R)))))

pub then_mesh : {short : Bool} {s : Scene} {R : Type 0} → ThenMesh short s R ↔ ((short ≡ false) × (AcceptedMesh s × R))
then_mesh = (
  λ h. (
    h.0,
    (
      record {
        shapely = h.1.0;
        in_range = h.1.1.0;
        known = h.1.1.1.0;
        sewn_well = h.1.1.1.1.0;
        distinct = h.1.1.1.1.1.0;
      },
      h.1.1.1.1.1.1,
    ),
  ),
  λ h. let a = h.1.0 in (h.0, (a.shapely, (a.in_range, (a.known, (a.sewn_well, (a.distinct, h.1.1)))))),
)

-- ---- a stretch of rows

-- none of its checks refuses
pub record RowsAsked (s : Scene) (l : Lent) (rows first end : ℕ) : Type 0 where
  pub lent : scratch_short s l ≡ false
  pub accepted : AcceptedMesh s
  pub ordered : wrong_order s l ≡ false
  pub there : rows_gone rows first end ≡ false

abbrev ThenRows : (s : Scene) (l : Lent) (rows first end : ℕ) → Type 0 → Type 0
ThenRows s l rows first end R = ThenMesh (scratch_short s l) s ((wrong_order s l ≡ false) × ((rows_gone rows first end ≡ false) × R))

then_rows : {s : Scene} {l : Lent} {rows first end : ℕ} {R : Type 0} → ThenRows s l rows first end R ↔ (RowsAsked s l rows first end × R)
then_rows = (
  λ h. let (short, (a, (order, (gone, r)))) = then_mesh.0 h in (record { lent = short; accepted = a; ordered = order; there = gone }, r),
  λ h. then_mesh.1 (h.0.lent, (h.0.accepted, (h.0.ordered, (h.0.there, h.1)))),
)

pub record RowRefusals {A : Type 0} (s : Scene) (l : Lent) (rows first end : ℕ) (o : Outcome A) : Type 0 where
  pub mesh : MeshRefusals (scratch_short s l) s o
  pub no18 : (o ≡ refused 18 0) ↔ ((scratch_short s l ≡ false) × (AcceptedMesh s × (wrong_order s l ≡ true)))
  pub no5 : (o ≡ refused 5 0)
      ↔ ((scratch_short s l ≡ false) × (AcceptedMesh s × ((wrong_order s l ≡ false) × (rows_gone rows first end ≡ true))))

module _ {A : Type 0} (Right : A → Type 0) (s : Scene) (l : Lent) (rows first end : ℕ) (more : List Check) (o : Outcome A) where
  pub row_refusals : distinct (row_checks s l rows first end more) ≡ true → Answers (row_checks s l rows first end more) Right o
      → RowRefusals s l rows first end o
  unfolding Refuses carried_by
  row_refusals d p =
      let row = refused_exactly Right (row_checks s l rows first end more) o d p in
      record {
        mesh =
            mesh_refusals Right (scratch_short s l) s
            (record { number = 18; holds = wrong_order s l; carries = 0 }
            ∷ record { number = 5; holds = rows_gone rows first end; carries = 0 } ∷ more)
            o d p;
        no18 = Iff.trans (row 18) then_mesh;
        no5 = Iff.trans (row 5) then_mesh;
      }

-- nothing else is asked
pub record CountTable {A : Type 0} (Right : A → Type 0) (s : Scene) (l : Lent) (rows first end : ℕ) (o : Outcome A) : Type 0 where
  pub refusals : RowRefusals s l rows first end o
  pub only : (n c : ℕ) → o ≡ refused n c → Memᴰ n (12 ∷ 1 ∷ 2 ∷ 3 ∷ 15 ∷ 4 ∷ 18 ∷ 5 ∷ [])
  pub gives : (a : A) → (o ≡ given a) ↔ (RowsAsked s l rows first end × Right a)

-- so much room there is, and so much is needed
pub record RoomTable {A : Type 0} (Right : A → Type 0) (s : Scene) (l : Lent) (rows first end room needed : ℕ) (o : Outcome A) : Type 0 where
  pub refusals : RowRefusals s l rows first end o
  pub no7 : (o ≡ refused 7 needed) ↔ (RowsAsked s l rows first end × (room < needed))
  pub carried : (c : ℕ) → o ≡ refused 7 c → c ≡ needed
  pub only : (n c : ℕ) → o ≡ refused n c → Memᴰ n (12 ∷ 1 ∷ 2 ∷ 3 ∷ 15 ∷ 4 ∷ 18 ∷ 5 ∷ 7 ∷ [])
  pub gives : (a : A) → (o ≡ given a) ↔ (RowsAsked s l rows first end × ((needed ≤ room) × Right a))

-- and coordinates within the range of contacts
pub record RangeTable {A : Type 0} (Right : A → Type 0) (s : Scene) (l : Lent) (rows first end room needed : ℕ) (o : Outcome A) : Type 0 where
  pub refusals : RowRefusals s l rows first end o
  pub no16 : (o ≡ refused 16 0) ↔ (RowsAsked s l rows first end × (reaches_beyond contact_limit s ≡ true))
  pub no7 : (o ≡ refused 7 needed) ↔ (RowsAsked s l rows first end × ((reaches_beyond contact_limit s ≡ false) × (room < needed)))
  pub carried : (c : ℕ) → o ≡ refused 7 c → c ≡ needed
  pub only : (n c : ℕ) → o ≡ refused n c → Memᴰ n (12 ∷ 1 ∷ 2 ∷ 3 ∷ 15 ∷ 4 ∷ 18 ∷ 5 ∷ 16 ∷ 7 ∷ [])
  pub gives : (a : A) → (o ≡ given a) ↔ (RowsAsked s l rows first end × ((reaches_beyond contact_limit s ≡ false) × ((needed ≤ room) × Right a)))

module _ {A : Type 0} (Right : A → Type 0) (one : (a b : A) → Right a → Right b → a ≡ b) (s : Scene) (l : Lent) (rows first end : ℕ)
    (o : Outcome A) where
  pub count_table : Answers (row_checks s l rows first end []) Right o → CountTable Right s l rows first end o
  unfolding absent distinct NoneHolds
  count_table p =
      let ks : List Check = row_checks s l rows first end [] in
      record {
        refusals = row_refusals Right s l rows first end [] o refl p;
        only = number_known Right ks o p;
        gives = λ a.
            let told = gives_exactly Right one ks o p a in (
              λ e. let (h, is) = told.0 e in ((then_rows.0 h).0, is),
              λ h. told.1 (then_rows.1 (h.0, tt), h.1),
            );
      }

  pub room_table : (room needed : ℕ) → Answers (row_checks s l rows first end (room_check room needed ∷ [])) Right o
      → RoomTable Right s l rows first end room needed o
  unfolding Refuses carried_by absent distinct NoneHolds
  room_table room needed p =
      let ks : List Check = row_checks s l rows first end (room_check room needed ∷ []) in
      let row = refused_exactly Right ks o refl p in
      record {
        refusals = row_refusals Right s l rows first end (room_check room needed ∷ []) o refl p;
        no7 = (
          λ e. let (a, h) = then_rows.0 ((row 7).0 e) in (a, ltb-true room needed h),
          λ h. (row 7).1 (then_rows.1 (h.0, lt-ltb room needed h.1)),
        );
        carried = λ c e. carries_only Right ks o refl p 7 c e;
        only = number_known Right ks o p;
        gives = λ a.
            let told = gives_exactly Right one ks o p a in (
              λ e. let (h, is) = told.0 e in let (asked, r) = then_rows.0 h in (asked, (ltb-false room needed r.0, is)),
              λ h. told.1 (then_rows.1 (h.0, (le-ltb room needed h.1.0, tt)), h.1.1),
            );
      }

  pub range_table : (room needed : ℕ) → Answers (row_checks s l rows first end (range_check s ∷ room_check room needed ∷ [])) Right o
      → RangeTable Right s l rows first end room needed o
  unfolding Refuses carried_by absent distinct NoneHolds
  range_table room needed p =
      let ks : List Check = row_checks s l rows first end (range_check s ∷ room_check room needed ∷ []) in
      let row = refused_exactly Right ks o refl p in
      record {
        refusals = row_refusals Right s l rows first end (range_check s ∷ room_check room needed ∷ []) o refl p;
        no16 = Iff.trans (row 16) then_rows;
        no7 = (
          λ e. let (a, h) = then_rows.0 ((row 7).0 e) in (a, (h.0, ltb-true room needed h.1)),
          λ h. (row 7).1 (then_rows.1 (h.0, (h.1.0, lt-ltb room needed h.1.1))),
        );
        carried = λ c e. carries_only Right ks o refl p 7 c e;
        only = number_known Right ks o p;
        gives = λ a.
            let told = gives_exactly Right one ks o p a in (
              λ e. let (h, is) = told.0 e in let (asked, r) = then_rows.0 h in (asked, (r.0, (ltb-false room needed r.1.0, is))),
              λ h. told.1 (then_rows.1 (h.0, (h.1.0, (le-ltb room needed h.1.1.0, tt))), h.1.1.1),
            );
      }
