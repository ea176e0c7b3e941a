-- The checks with which every call over rows of a mesh begins: what each way out of them gives, and what holds where none refuses.
use Rattle.std.specs.Prelude.{ℕ, ◌≤◌, Bool, true, false, ◌||◌, List, [], ◌∷◌, ◌≡◌, ltb, length, Err, Ok, Result}
use Rattle.std.proofs.Math.Path.{refl}
use Rattle.std.proofs.Common.{arith}
use borrow.Author.Tests.{ltb-false}
use Rattle.sequences.specs.Pick.{neither}
use Rattle.meaning.specs.Scene.{Scene, edge_count, triangle_count}
use Rattle.meaning.specs.Mesh.{mesh_checks, table_room}
use Rattle.meaning.specs.MeshRows.{Lent, place_room, box_room, scratch_short, wrong_order, rows_gone, row_checks}
use Rattle.meaning.specs.Refusals.{Outcome, given, refused, number_of, Check, Answers, outcome_alone}
use Rattle.meaning.specs.declared.Refusal.{Refusal}
use Rattle.meaning.specs.declared.Refusal.TheVariants.{NotThere, ShortBuffer, WrongOrder}
use Rattle.answers.specs.Answering.{refuses, lets_pass, gives, is_given, refused_before, given_before}
use Rattle.answers.specs.Below.{or_left, or_rest}
use Rattle.scene_seams.specs.Alone.{tabled}
use Rattle.mesh_checks.specs.Meshes.{AcceptedMesh}
use Rattle.mesh_check_laws.specs.Facts.{mesh_sized}
use Rattle.mesh_lent.specs.Answering.{MeshSewn, short_for, short_told}
use Rattle.mesh_orders.specs.Told.{parts_only, orders_only}

-- ---- 12

pub all_short : (s : Scene) (l : Lent) (t : List ℕ) {p q : ℕ} {short : Bool} → l.table ≡ length t → short ≡ short_for s t → p ≡ place_room s l → q ≡ box_room s
    → short || ltb l.places p || ltb l.boxes q ≡ scratch_short s l
all_short s l t same e f g = rw (e, f, g, short_told s t, same)

module _ (s : Scene) (l : Lent) (long : scratch_short s l ≡ false) where
  pub table_room_lem : table_room s ≤ l.table
  table_room_lem = ltb-false l.table (table_room s) (search (or_left, or_rest))

  pub place_room_lem : place_room s l ≤ l.places
  place_room_lem = ltb-false l.places (place_room s l) (search (or_left, or_rest))

  pub box_room_lem : box_room s ≤ l.boxes
  box_room_lem = ltb-false l.boxes (box_room s) (search (or_left, or_rest))

  pub orders_room : (length l.edge_order ≤ l.places) × (length l.triangle_order ≤ l.places)
  orders_room = let h = place_room_lem in (omega (arith, h), omega (arith, h))

pub few_parts : {s : Scene} → AcceptedMesh s → (edge_count s ≤ 1073741824) × (triangle_count s ≤ 1073741824)
few_parts a = let z = mesh_sized a in (z.few_edges, z.few_triangles)

-- ---- 18, then 5

abbrev last_checks : Scene → Lent → (rows first end : ℕ) → List Check
last_checks s l rows first end =
    record { number = 18; holds = wrong_order s l; carries = 0 } ∷ record { number = 5; holds = rows_gone rows first end; carries = 0 } ∷ []

abbrev pub RowsThere : (e t a b : List ℕ) → (rows first end : ℕ) → Result (Unit {0}) Refusal → Type 0
RowsThere e t a b rows first end r = Answers (last_checks (parts_only e t) (orders_only a b) rows first end) (λ u. Unit {0}) (outcome_alone r)

module _ (e t a b : List ℕ) (rows first end : ℕ) where
  pub orders_wrong : wrong_order (parts_only e t) (orders_only a b) ≡ true → RowsThere e t a b rows first end (Err WrongOrder)
  unfolding outcome_alone number_of
  orders_wrong h = refuses _ _ _ _ h refl

  module _ (right : wrong_order (parts_only e t) (orders_only a b) ≡ false) where
    pub rows_not_there : rows_gone rows first end ≡ true → RowsThere e t a b rows first end (Err NotThere)
    unfolding outcome_alone number_of
    rows_not_there h = lets_pass _ _ _ _ right (refuses _ _ _ _ h refl)

    pub rows_there : rows_gone rows first end ≡ false → RowsThere e t a b rows first end (Ok tt)
    unfolding outcome_alone
    rows_there h = lets_pass _ _ _ _ right (lets_pass _ _ _ _ h (gives (λ u. Unit {0}) tt tt))

-- ---- all of them

-- what holds where none refuses, of a table that is t' then
pub record RowsOpen (s : Scene) (l : Lent) (rows first end : ℕ) (t' : List ℕ) : Type 0 where
  pub accepted : AcceptedMesh s
  pub told : tabled s.positions s.edges s.triangles t' ≡ s
  pub places : place_room s l ≤ l.places
  pub boxes : box_room s ≤ l.boxes
  pub orders : wrong_order s l ≡ false
  pub rising : first ≤ end
  pub within : end ≤ rows

pub record RowsAsked (s : Scene) (l : Lent) (rows first end : ℕ) (t' : List ℕ) (r : Result (Unit {0}) Refusal) : Type 0 where
  pub answer : Answers (row_checks s l rows first end []) (λ u. Unit {0}) (outcome_alone r)
  pub opened : r ≡ Ok tt → RowsOpen s l rows first end t'

-- a refusal lets nothing pass
not_passed : {x : Refusal} → ◌≡◌ {A = Result (Unit {0}) Refusal} (Err x) (Ok tt) → ⊥
not_passed e = let z : ◌≡◌ {A = ℕ} 0 1 = cc in absurd (omega arith)

module _ (s : Scene) (l : Lent) (rows first end : ℕ) where
  pub too_short : (t' : List ℕ) → scratch_short s l ≡ true → RowsAsked s l rows first end t' (Err ShortBuffer)
  unfolding outcome_alone number_of
  too_short t' h = record { answer = refuses _ _ _ _ h refl; opened = λ e. absurd (not_passed e) }

  module _ (long : scratch_short s l ≡ false) {t' : List ℕ} {checked : Result (Unit {0}) Refusal} (sewn : MeshSewn s t' checked) where
    pub mesh_refused : (x : Refusal) → checked ≡ Err x
        → RowsAsked s l rows first end t' (Err x)
    unfolding outcome_alone
    mesh_refused x e =
        let a : Answers (mesh_checks s) (λ u. Unit {0}) (refused (number_of x) 0) = rw e at sewn.checked in
        record {
          answer = lets_pass _ _ _ _ long (refused_before (λ u. Unit {0}) (λ u. Unit {0}) (mesh_checks s) _ (number_of x) 0 a);
          opened = λ q. absurd (not_passed q);
        }

    module _ (passed : checked ≡ Ok tt) (r : Result (Unit {0}) Refusal) (there : RowsThere s.edges s.triangles l.edge_order l.triangle_order rows first end r) where
      is_open : r ≡ Ok tt → RowsOpen s l rows first end t'
      unfolding outcome_alone
      is_open e =
          let a : Answers (last_checks s l rows first end) (λ u. Unit {0}) (given tt) = rw e at there in
          let (right, rest) = is_given (λ u. Unit {0}) _ _ tt a in
          let (here, done) = is_given (λ u. Unit {0}) _ _ tt rest in
          let (low, high) = neither (ltb end first) (ltb rows end) here in
          record {
            accepted = sewn.accepted passed;
            told = sewn.tells passed;
            places = place_room_lem s l long;
            boxes = box_room_lem s l long;
            orders = right;
            rising = ltb-false end first low;
            within = ltb-false rows end high;
          }

      pub mesh_passed : RowsAsked s l rows first end t' r
      unfolding outcome_alone
      mesh_passed =
          let a : Answers (mesh_checks s) (λ u. Unit {0}) (given tt) = rw passed at sewn.checked in
          record {
            answer = lets_pass _ _ _ _ long (given_before (λ u. Unit {0}) (λ u. Unit {0}) (mesh_checks s) _ tt (outcome_alone r) a there);
            opened = is_open;
          }

-- ---- what else a call asks comes behind them

module _ {s : Scene} {l : Lent} {rows first end : ℕ} {t' : List ℕ} {asked : Result (Unit {0}) Refusal} (p : RowsAsked s l rows first end t' asked) {A : Type 0} (R : A → Type 0) (more : List Check) where
  pub refused_first : (x : Refusal) → asked ≡ Err x → Answers (row_checks s l rows first end more) R (refused (number_of x) 0)
  unfolding outcome_alone
  refused_first x e =
      let a : Answers (row_checks s l rows first end []) (λ u. Unit {0}) (refused (number_of x) 0) = rw e at p.answer in
      refused_before (λ u. Unit {0}) R (row_checks s l rows first end []) more (number_of x) 0 a

  pub passed_first : (o : Outcome A) → asked ≡ Ok tt → Answers more R o → Answers (row_checks s l rows first end more) R o
  unfolding outcome_alone
  passed_first o e rest =
      let a : Answers (row_checks s l rows first end []) (λ u. Unit {0}) (given tt) = rw e at p.answer in
      given_before (λ u. Unit {0}) R (row_checks s l rows first end []) more tt o a rest
